-- trans, semits, recip and mint write lawful records.
use Rattle.std.proofs.Common.{◌≡◌, ◌≢◌, refl, subst, ℕ, ℤ, pos, negsuc, ◌≤◌, Bool, true, false, cond, ◌&&◌, List, [], ◌∷◌, map, length, arith}
use Rattle.std.specs.Prelude.{Option, None, Some, Result, Ok, Err}
use Rattle.std.specs.List.{AllByRecursion, list_any}
use Rattle.std.proofs.lemmas.Bool.{or_parts}
use Rattle.std.proofs.lemmas.Bool.Decides.{nat_tests}
use lib.Chars.{codes}
use Rattle.hum_score.specs.declared.records.SpinedKind.{SpinedKind}
use Rattle.hum_score.specs.declared.records.SpinedKind.TheVariants.{Local, Interpretation, Values}
use Rattle.hum_score.specs.Row.{Row, Comment, Spined, text_of}
use Rattle.hum_score.specs.Spelling.{IsToken}
use Rattle.hum_path.specs.Chains.{columns}
use Rattle.hum_pitch.specs.declared.pitch.Pitch.{Pitch}
use Rattle.hum_pitch.specs.Pitch.{Spelled, IsWithin}
use Rattle.hum_kern.specs.Note.{Reading}
use Rattle.hum_stage.specs.declared.faults.Rule.{Rule}
use Rattle.hum_stage.specs.declared.faults.Rule.TheVariants.{L1}
use Rattle.hum_cells.specs.Rewriting.{Heading, Renamed, Followed, Rewriting, is_kern, kern_columns, has_content, rewritten, beside, all_rewritten}
use Rattle.hum_cells.specs.Rewriting.{headed, with_heading, is_long, if_fit, data_record, rewrite, IsHeading}
use Rattle.hum_cells.proofs.Headings.{headed_lawful}
use Rattle.hum_tones.specs.declared.part_rule.PartRule.TheVariants.{Semitones, Durations}
use Rattle.hum_choices.specs.declared.semits.SemitsOptions.{SemitsOptions}
use Rattle.hum_choices.specs.declared.recip.RecipOptions.{RecipOptions}
use Rattle.hum_choices.specs.declared.mint.MintOptions.{MintOptions}
use Rattle.hum_tones.specs.Subtokens.{subtokens}
use Rattle.hum_tones.specs.Mint.{readings, Tone, leading, heard, approached, told, told_of, note_before}
use Rattle.hum_tones.specs.Commands.{trans, semits, mint, recip}
use Rattle.hum_tones.proofs.MovedLawful.{moved_lawful}
use Rattle.hum_tones.proofs.GivenLawful.{given_lawful}
use Rattle.hum_tones.proofs.MintedLawful.{approached_lawful}
use Rattle.hum_tones.proofs.Numbers.{sign_lawful}
use Rattle.hum_valid.specs.Records.{IsRecord, AreRecords}
use Rattle.hum_valid.proofs.Lists.{made_of, made_so, dot}
use Rattle.hum_valid.proofs.Filling.{same_record}
use Rattle.hum_valid.proofs.Stages.{DecidesRecords}
use Rattle.hum_valid.proofs.Pitches.{IsRead, IsReadIf, leading_read, before_read}

-- of a lawful token of data it makes one
abbrev pub TellsLawful : Rewriting → Type 0
TellsLawful rewriting = (above : List (List ℕ)) (token text : List ℕ) → IsToken Values token
    → rewriting.becomes above token ≡ Ok text → IsToken Values text

-- records, but for their length
abbrev pub AreUnmeasured : List Row → Type 0
AreUnmeasured = AllByRecursion (λ row. length (text_of row) ≤ 1048576 → IsRecord row)

unmeasured : (kind : SpinedKind) (tokens : List (List ℕ)) → tokens ≢ [] → AllByRecursion (IsToken kind) tokens
    → length (text_of (Spined kind tokens)) ≤ 1048576 → IsRecord (Spined kind tokens)
unmeasured kind tokens some lawful most = made_of kind tokens some lawful most

fit_records : (rows : List Row) → AreUnmeasured rows → list_any is_long rows ≡ false → AreRecords rows
fit_records [] h e = tt
fit_records (row ∷ rows) h e =
    let both = or_parts (is_long row) (list_any is_long rows) e in
    let within : length (text_of row) ≤ 1048576 = grind (arith, nat_tests, both.0) in
    (h.0 within, fit_records rows h.1 both.1)

if_fit_records : (made rows : List Row) → AreUnmeasured made → if_fit made ≡ Ok rows → AreRecords rows
if_fit_records made rows h e = by (list_any is_long made) refl e
  where
    by : (b : Bool) → list_any is_long made ≡ b → ◌≡◌ {A = Result (List Row) Rule} (cond b (Err L1) (Ok made)) (Ok rows) → AreRecords rows
    by true w e = cc
    by false w e = made_so made rows e (fit_records made h w)

headed_all : (heading : Heading) (tokens : List (List ℕ)) → IsHeading heading → AllByRecursion (IsToken Interpretation) tokens
    → AllByRecursion (IsToken Interpretation) (map (headed heading) tokens)
headed_all heading [] h all = tt
headed_all heading (t ∷ ts) h all = (headed_lawful heading t h all.0, headed_all heading ts h all.1)

some_headed : (heading : Heading) (tokens : List (List ℕ)) → tokens ≢ [] → map (headed heading) tokens ≢ []
some_headed heading [] some e = some refl
some_headed heading (t ∷ ts) some e = cc

heading_records : (heading : Heading) (tokens : List (List ℕ)) → IsHeading heading → IsRecord (Spined Interpretation tokens)
    → AreUnmeasured (with_heading heading tokens)
heading_records (Renamed name) tokens h is = (
  unmeasured Interpretation (map (headed (Renamed name)) tokens) (some_headed (Renamed name) tokens is.1)
      (headed_all (Renamed name) tokens h is.2),
  tt,
)
heading_records (Followed tandem) tokens h is = by (list_any is_kern tokens)
  where
    by : (b : Bool) → AreUnmeasured (cond b
        (Spined Interpretation tokens ∷ Spined Interpretation (map (headed (Followed tandem)) tokens) ∷ [])
        (Spined Interpretation tokens ∷ []))
    by true = (
      (λ most. is),
      (
        unmeasured Interpretation (map (headed (Followed tandem)) tokens) (some_headed (Followed tandem) tokens is.1)
            (headed_all (Followed tandem) tokens h is.2),
        tt,
      ),
    )
    by false = ((λ most. is), tt)

module _ (rewriting : Rewriting) (heading : IsHeading rewriting.heading) (sound : TellsLawful rewriting) where
  one_token : (kern : Bool) (above : List (List ℕ)) (token text : List ℕ) → IsToken Values token
      → rewritten rewriting.becomes kern above token ≡ Ok text → IsToken Values text
  one_token kern above token text h e = by (kern && has_content token) e
    where
      by : (b : Bool) → cond b (rewriting.becomes above token) (Ok token) ≡ Ok text → IsToken Values text
      by true e = sound above token text h e
      by false e = let same : token ≡ text = cc in subst (IsToken Values) same h

  -- tokens that others become
  abbrev Made : List (List ℕ) → List (List ℕ) → Type 0
  Made tokens made = AllByRecursion (IsToken Values) made × (tokens ≢ [] → made ≢ [])

  as_they_are : (tokens made : List (List ℕ)) → AllByRecursion (IsToken Values) tokens
      → ◌≡◌ {A = Result (List (List ℕ)) Rule} (Ok tokens) (Ok made) → Made tokens made
  as_they_are tokens made h e =
      let same : tokens ≡ made = cc in subst (Made tokens) same (h, λ some. some)

  all_tokens : (kerns : List Bool) (aboves : List (List (List ℕ))) (tokens made : List (List ℕ)) → AllByRecursion (IsToken Values) tokens
      → all_rewritten rewriting.becomes kerns aboves tokens ≡ Ok made → Made tokens made
  all_tokens [] aboves tokens made h e = as_they_are tokens made h e
  all_tokens (kern ∷ kerns) [] tokens made h e = as_they_are tokens made h e
  all_tokens (kern ∷ kerns) (above ∷ aboves) [] made h e = as_they_are [] made h e
  all_tokens (kern ∷ kerns) (above ∷ aboves) (token ∷ tokens) made h e =
      by (rewritten rewriting.becomes kern above token) refl (all_rewritten rewriting.becomes kerns aboves tokens) refl
      (λ more w. (all_tokens kerns aboves tokens more h.1 w).0) e
    where
      by : (r : Result (List ℕ) Rule) → rewritten rewriting.becomes kern above token ≡ r → (rest : Result (List (List ℕ)) Rule)
          → all_rewritten rewriting.becomes kerns aboves tokens ≡ rest
          → ((more : List (List ℕ)) → all_rewritten rewriting.becomes kerns aboves tokens ≡ Ok more → AllByRecursion (IsToken Values) more)
          → beside r rest ≡ Ok made → Made (token ∷ tokens) made
      by (Ok text) w (Ok more) x onward e =
          let same : text ∷ more ≡ made = cc in
          subst (Made (token ∷ tokens)) same ((one_token kern above token text h.0 w, onward more x), λ some none. cc)
      by (Ok text) w (Err rule) x onward e = cc
      by (Err rule) w rest x onward e = cc

  pub rewrite_records : DecidesRecords (rewrite rewriting)
  rewrite_records past (Comment text) rows opens are e = same_record (Comment text) rows are.0 e
  rewrite_records past (Spined Local tokens) rows opens are e = same_record (Spined Local tokens) rows are.0 e
  rewrite_records past (Spined Interpretation tokens) rows opens are e =
      if_fit_records (with_heading rewriting.heading tokens) rows (heading_records rewriting.heading tokens heading are.0) e
  rewrite_records past (Spined Values tokens) rows opens are e =
      by (all_rewritten rewriting.becomes (kern_columns past) (columns past) tokens) refl e
    where
      by : (r : Result (List (List ℕ)) Rule) → all_rewritten rewriting.becomes (kern_columns past) (columns past) tokens ≡ r
          → data_record r ≡ Ok rows → AreRecords rows
      by (Ok made) w e =
          let is = all_tokens (kern_columns past) (columns past) tokens made are.0.2 w in
          if_fit_records (Spined Values made ∷ []) rows (unmeasured Values made (is.1 are.0.1) is.0, tt) e
      by (Err rule) w e = cc

-- The commands.

semits_name : IsHeading (Renamed (codes "**semits"))
semits_name = (record { filled = λ e. cc; one_token = refl; one_line = refl; no_line_end = refl; of_kind = refl; no_comment = refl }, refl, refl)

mint_name : IsHeading (Renamed (codes "**mint"))
mint_name = (record { filled = λ e. cc; one_token = refl; one_line = refl; no_line_end = refl; of_kind = refl; no_comment = refl }, refl, refl)

recip_name : IsHeading (Renamed (codes "**recip"))
recip_name = (record { filled = λ e. cc; one_token = refl; one_line = refl; no_line_end = refl; of_kind = refl; no_comment = refl }, refl, refl)

pub trans_records : (steps semitones : ℤ) → IsWithin (negsuc 48) steps (pos 49) → IsWithin (negsuc 83) semitones (pos 84)
    → DecidesRecords (rewrite (trans steps semitones))
trans_records steps semitones few less =
    rewrite_records (trans steps semitones) (sign_lawful steps semitones few less, refl)
    (λ above token text h e. moved_lawful steps semitones token text e h)

pub semits_records : (options : SemitsOptions) → DecidesRecords (rewrite (semits options))
semits_records options =
    rewrite_records (semits options) semits_name
    (λ above token text h e. given_lawful (Semitones options.ties_left_out) token text e h)

pub recip_records : (options : RecipOptions) → DecidesRecords (rewrite (recip options))
recip_records options =
    rewrite_records (recip options) recip_name (λ above token text h e. given_lawful Durations token text e h)

rest_token : IsToken Values (codes "r")
rest_token = record { filled = λ e. cc; one_token = refl; one_line = refl; no_line_end = refl; of_kind = refl; no_comment = refl }

abbrev as_pitch : (p : Spelled) → IsRead p → Pitch
as_pitch p h = record { step = p.step; octave = p.octave; alteration = p.alteration; in_range = h }

approached_token : (signless sizeonly : Bool) (before : Option Spelled) (p : Spelled) → IsReadIf before → IsRead p
    → IsToken Values (approached signless sizeonly before p)
approached_token signless sizeonly None p b h = approached_lawful signless sizeonly None (as_pitch p h)
approached_token signless sizeonly (Some q) p b h = approached_lawful signless sizeonly (Some (as_pitch q b)) (as_pitch p h)

minted_token : (options : MintOptions) → TellsLawful (mint options)
minted_token options above token text h e = by (readings token) refl e
  where
    before : Option Spelled
    before = note_before options.breaks above

    rests : (b : Bool) → IsToken Values (cond b (codes "r") (codes "."))
    rests true = rest_token
    rests false = dot

    goes_on : (tone : Tone) → IsRead tone.pitch → (b : Bool)
        → IsToken Values (cond b (codes ".") (approached options.signless options.sizeonly before tone.pitch))
    goes_on tone is true = dot
    goes_on tone is false =
        approached_token options.signless options.sizeonly before tone.pitch (before_read options.breaks above) is

    lead : (all : List Reading) → readings token ≡ Ok all → (o : Option Tone) → leading all ≡ o
        → IsToken Values (told options.signless options.sizeonly before o (heard all).rest)
    lead all w None x = rests (heard all).rest
    lead all w (Some tone) x = goes_on tone (leading_read (subtokens token) all tone w x) tone.continued

    by : (r : Result (List Reading) Rule) → readings token ≡ r → told_of options.signless options.sizeonly before r ≡ Ok text
        → IsToken Values text
    by (Ok all) w e =
        let same : told options.signless options.sizeonly before (leading all) (heard all).rest ≡ text = cc in
        subst (IsToken Values) same (lead all w (leading all) refl)
    by (Err rule) w e = cc

pub mint_records : (options : MintOptions) → DecidesRecords (rewrite (mint options))
mint_records options = rewrite_records (mint options) mint_name (minted_token options)
