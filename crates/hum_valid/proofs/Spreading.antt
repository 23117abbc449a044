-- extract and cleave write lawful records.
use Rattle.std.proofs.Common.{◌≡◌, ◌≢◌, ◌∙◌, refl, sym, subst, ℕ, zero, suc, ◌≤◌, Bool, true, false, cond, ◌&&◌, not, List, [], ◌∷◌, map, length, arith, inl, inr}
use Rattle.std.specs.Prelude.{◌==◌, nat_lt, ◌||◌, Result, Ok, Err}
use Rattle.std.specs.List.{AllByRecursion, list_any}
use Rattle.std.specs.Str.{bytes_eq}
use Rattle.std.proofs.lemmas.List.{length-map}
use Rattle.std.proofs.lemmas.Bool.{and_parts, or_parts}
use Rattle.std.proofs.lemmas.Bool.Decides.{eqb_tells, nat_tests}
use lib.Chars.{codes}
use Rattle.hum_score.specs.declared.records.SpinedKind.{SpinedKind}
use Rattle.hum_score.specs.declared.records.SpinedKind.TheVariants.{Local, Interpretation, Values}
use Rattle.hum_score.specs.Row.{Row, Comment, Spined, chosen}
use Rattle.hum_record.specs.Building.{spelled}
use Rattle.hum_score.specs.Spelling.{IsToken, has_byte, is_comment, kind_of_token}
use Rattle.hum_score.specs.Sign.{sign_of, is_exclusive}
use Rattle.hum_score.specs.Spines.{Path, Unopened, Spines}
use Rattle.hum_score.specs.Score.{path_after}
use Rattle.hum_path.proofs.Widths.{text_width}
use Rattle.hum_stage.specs.declared.faults.Rule.{Rule}
use Rattle.hum_stage.specs.declared.faults.Rule.TheVariants.{X1, X2, X3, C1, C2, L1}
use Rattle.hum_columns.specs.Spread.{JoinedToken, tokens_in, goes_on, join_alone, first_alone, first_done, touches, joins_in, before_last, one_by_one, spread, filled}
use Rattle.hum_columns.specs.Writing.{Fit}
use Rattle.hum_columns.specs.Chosen.{flags, is_torn, others}
use Rattle.hum_columns.specs.Deciding.{at_path}
use Rattle.hum_columns.proofs.Weights.{weight, no_longer}
use Rattle.hum_columns.proofs.OneByOne.{Lawful, null_lawful, done_fit, alone_fits}
use Rattle.hum_columns.proofs.ChosenLists.{chosen_all}
use Rattle.hum_columns.proofs.Flags.{flags_width}
use Rattle.hum_choices.specs.Cleave.{Options, AreLawful, is_name, fits_in_token}
use Rattle.hum_choices.specs.Extract.{Choice}
use Rattle.hum_extract.specs.Choice.{misses, opening_flags}
use Rattle.hum_extract.specs.Extract as extract
use Rattle.hum_extract.proofs.CutFits as extracted
use Rattle.hum_cleave.specs.Columns as cleft
use Rattle.hum_cleave.specs.Tokens.{comment_of, data_of, leftmost, is_null_comment}
use Rattle.hum_cleave.specs.Cleave as cleave
use Rattle.hum_cleave.proofs.Fitted as fitted
use Rattle.hum_valid.specs.Records.{IsRecord, AreRecords}
use Rattle.hum_valid.proofs.Lists.{made_of, made_so}
use Rattle.hum_valid.proofs.Filling.{same_record}
use Rattle.hum_valid.proofs.Stages.{DecidesRecords}

-- tokens of a kind that are no longer than a record
pub record Fits (kind : SpinedKind) (tokens : List (List ℕ)) : Type 0 where
  pub lawful : AllByRecursion (IsToken kind) tokens
  pub at_most : length (spelled tokens) ≤ 1048576

pub filled_records : (kind : SpinedKind) (records : List (List (List ℕ))) → AllByRecursion (Fits kind) records
    → AreRecords (filled kind records)
filled_records kind [] h = tt
filled_records kind ([] ∷ records) h = filled_records kind records h.1
filled_records kind ((t ∷ ts) ∷ records) h =
    (made_of kind (t ∷ ts) (λ e. cc) h.0.lawful h.0.at_most, filled_records kind records h.1)

-- Of the records that some pieces are written in each fits.

piece_tokens : (ps : List JoinedToken) → Lawful ps → AllByRecursion (IsToken Interpretation) (tokens_in ps)
piece_tokens [] h = tt
piece_tokens (p ∷ ps) h = (h.0, piece_tokens ps h.1)

null_each : (ps : List JoinedToken) → AllByRecursion (IsToken Interpretation) (map (λ _. codes "*") ps)
null_each [] = tt
null_each (p ∷ ps) = (null_lawful, null_each ps)

join_lawful : (ps : List JoinedToken) → Lawful ps → AllByRecursion (IsToken Interpretation) (join_alone ps)
join_lawful [] h = tt
join_lawful (p ∷ ps) h = by (goes_on p) (join_lawful ps h.1)
  where
    by : (b : Bool) → AllByRecursion (IsToken Interpretation) (join_alone ps)
        → AllByRecursion (IsToken Interpretation) (cond b (p.token ∷ join_alone ps) (map (λ _. codes "*") (p ∷ ps)))
    by true more = (h.0, more)
    by false more = null_each (p ∷ ps)

alone_lawful : (ps : List JoinedToken) → Lawful ps → AllByRecursion (IsToken Interpretation) (first_alone ps)
alone_lawful [] h = tt
alone_lawful (p ∷ ps) h = by p.begins (alone_lawful ps h.1)
  where
    by : (b : Bool) → AllByRecursion (IsToken Interpretation) (first_alone ps)
        → AllByRecursion (IsToken Interpretation) (cond b (p.token ∷ join_alone ps) (codes "*" ∷ first_alone ps))
    by true more = (h.0, join_lawful ps h.1)
    by false more = (null_lawful, more)

whole_fits : (ps : List JoinedToken) → Fit ps → Fits Interpretation (tokens_in ps)
whole_fits ps h = record { lawful = piece_tokens ps h.lawful; at_most = h.at_most }

each_fits : (n : ℕ) (ps : List JoinedToken) → Fit ps → AllByRecursion (Fits Interpretation) (one_by_one n ps)
each_fits zero ps h = (whole_fits ps h, tt)
each_fits (suc n) ps h =
    (record { lawful = alone_lawful ps h.lawful; at_most = alone_fits ps h }, each_fits n (first_done ps) (done_fit ps h))

spread_fits : (ps : List JoinedToken) → Fit ps → AllByRecursion (Fits Interpretation) (spread ps)
spread_fits ps h = by (touches false ps)
  where
    by : (b : Bool) → AllByRecursion (Fits Interpretation) (cond b (one_by_one (before_last (joins_in ps)) ps) (tokens_in ps ∷ []))
    by true = each_fits (before_last (joins_in ps)) ps h
    by false = (whole_fits ps h, tt)

-- what is left of a record with some of its tokens

chosen_weight : (fs : List Bool) (ts : List (List ℕ)) → weight (chosen fs ts) ≤ weight ts
chosen_weight [] ts = omega arith
chosen_weight (f ∷ fs) [] = omega arith
chosen_weight (true ∷ fs) (t ∷ ts) = let ih = chosen_weight fs ts in omega (arith, ih)
chosen_weight (false ∷ fs) (t ∷ ts) = let ih = chosen_weight fs ts in omega (arith, ih)

chosen_fits : (kind : SpinedKind) (fs : List Bool) (ts : List (List ℕ)) → AllByRecursion (IsToken kind) ts
    → length (spelled ts) ≤ 1048576 → Fits kind (chosen fs ts)
chosen_fits kind fs ts h most = record {
  lawful = chosen_all (IsToken kind) fs ts h;
  at_most = let less = no_longer (chosen fs ts) ts (chosen_weight fs ts) in omega (arith, less, most);
}

-- extract

opened_records : (choice : Choice) (tokens : List (List ℕ)) (rows : List Row) → IsRecord (Spined Interpretation tokens)
    → extract.opened choice tokens ≡ Ok rows → AreRecords rows
opened_records choice tokens rows is e = by (misses choice tokens) e
  where
    made : List Row
    made = filled Interpretation (chosen (opening_flags choice tokens) tokens ∷ [])

    by : (b : Bool) → ◌≡◌ {A = Result (List Row) Rule} (cond b (Err X2) (Ok made)) (Ok rows) → AreRecords rows
    by true e = cc
    by false e =
        made_so made rows e
        (filled_records Interpretation (chosen (opening_flags choice tokens) tokens ∷ [])
        (chosen_fits Interpretation (opening_flags choice tokens) tokens is.2 is.3, tt))

cut_records : (fs : List Bool) (tokens : List (List ℕ)) (rows : List Row) → IsRecord (Spined Interpretation tokens)
    → extract.cut fs tokens ≡ Ok rows → AreRecords rows
cut_records fs tokens rows is e =
    by (is_torn fs (map sign_of tokens))
    (extract.is_lone (extract.exchanged_flags fs (map sign_of tokens))
    && extract.chosen_between fs (map sign_of tokens)) e
  where
    lone : Bool
    lone = extract.is_lone (extract.exchanged_flags fs (map sign_of tokens))

    ps : List JoinedToken
    ps = extract.pieces fs (map (extract.softened lone) tokens)

    by : (a b : Bool) → ◌≡◌ {A = Result (List Row) Rule} (cond a (Err X1) (cond b (Err X3) (Ok (filled Interpretation (spread ps))))) (Ok rows)
        → AreRecords rows
    by true b e = cc
    by false true e = cc
    by false false e =
        made_so (filled Interpretation (spread ps)) rows e
        (filled_records Interpretation (spread ps)
        (spread_fits ps (extracted.pieces_fit lone fs (Spined Interpretation tokens) refl is)))

pub extract_records : (choice : Choice) → DecidesRecords (extract.extract choice)
extract_records choice past (Comment text) rows opens are e = same_record (Comment text) rows are.0 e
extract_records choice past (Spined Interpretation tokens) rows opens are e = by (path_after past) e
  where
    by : (path : Path)
        → at_path path (extract.opened choice tokens) (extract.cut (flags (opening_flags choice) past) tokens) ≡ Ok rows
        → AreRecords rows
    by Unopened e = opened_records choice tokens rows are.0 e
    by (Spines names) e = cut_records (flags (opening_flags choice) past) tokens rows are.0 e
extract_records choice past (Spined Local tokens) rows opens are e =
    made_so _ rows e
    (filled_records Local (chosen (flags (opening_flags choice) past) tokens ∷ [])
    (chosen_fits Local (flags (opening_flags choice) past) tokens are.0.2 are.0.3, tt))
extract_records choice past (Spined Values tokens) rows opens are e =
    made_so _ rows e
    (filled_records Values (chosen (flags (opening_flags choice) past) tokens ∷ [])
    (chosen_fits Values (flags (opening_flags choice) past) tokens are.0.2 are.0.3, tt))

-- cleave

named : (name : List ℕ) → is_exclusive (sign_of name) ≡ true → kind_of_token name ≡ Interpretation
named [] h = cc
named (b ∷ bs) h = elim (eqb_tells b 42) as (λ _. kind_of_token (b ∷ bs) ≡ Interpretation) [
  | inl w ↦ (let other : (b == 33) ≡ false = grind (arith, nat_tests, w.0) in rw (other, w.0) refl)
  | inr w ↦ absurd (no_name w.0 h)
]
  where
    no_name : (b == 42) ≡ false → is_exclusive (sign_of (b ∷ bs)) ≡ true → ⊥
    no_name e h =
        let turned : (42 == b) ≡ false = grind (arith, nat_tests, e) in
        (let plain = rw (e, turned) at h in cc)

not_so : (b : Bool) → not b ≡ true → b ≡ false
not_so true h = cc
not_so false h = refl

name_lawful : (name : List ℕ) → is_name name ≡ true → IsToken Interpretation name
name_lawful name h =
    let both = and_parts (is_exclusive (sign_of name)) (not (bytes_eq (codes "**") name) && fits_in_token name) h in
    let fits = (and_parts (not (bytes_eq (codes "**") name)) (fits_in_token name) both.1).1 in
    let out = or_parts (has_byte 9 name) (has_byte 13 name || has_byte 10 name) (not_so _ fits) in
    let out2 = or_parts (has_byte 13 name) (has_byte 10 name) out.1 in
    let kind = named name both.0 in
    record {
      filled = λ e. (let no : kind_of_token [] ≡ Interpretation = subst (λ (x : List ℕ). kind_of_token x ≡ Interpretation) e kind in cc);
      one_token = out.0;
      one_line = out2.0;
      no_line_end = out2.1;
      of_kind = kind;
      no_comment = star name kind;
    }
  where
    star : (text : List ℕ) → kind_of_token text ≡ Interpretation → is_comment text ≡ false
    star [] h = refl
    star (x ∷ xs) h = elim (eqb_tells x 33) as (λ _. is_comment (x ∷ xs) ≡ false) [
      | inl w ↦ absurd (let no : Local ≡ Interpretation = rw w.0 at h in cc)
      | inr w ↦ (let turned : (33 == x) ≡ false = grind (arith, nat_tests, w.0) in rw turned refl)
    ]

others_all : (P : List ℕ → Type 0) (fs : List Bool) (ts : List (List ℕ)) → AllByRecursion P ts → AllByRecursion P (others fs ts)
others_all P fs ts h = chosen_all P (map not fs) ts h

together_all : (P : List ℕ → Type 0) (one : List ℕ) (fs : List Bool) (ts : List (List ℕ)) → P one → AllByRecursion P ts
    → AllByRecursion P (cleft.together one fs ts)
together_all P one [] ts o h = tt
together_all P one (f ∷ fs) [] o h = tt
together_all P one (true ∷ fs) (t ∷ ts) o h = (o, others_all P fs ts h.1)
together_all P one (false ∷ fs) (t ∷ ts) o h = (h.0, together_all P one fs ts o h.1)

together_some : (one : List ℕ) (fs : List Bool) (ts : List (List ℕ)) → length fs ≡ length ts → ts ≢ [] → cleft.together one fs ts ≢ []
together_some one [] [] wide some e = some refl
together_some one [] (t ∷ ts) wide some e = absurd (omega (arith, wide))
together_some one (f ∷ fs) [] wide some e = some refl
together_some one (true ∷ fs) (t ∷ ts) wide some e = cc
together_some one (false ∷ fs) (t ∷ ts) wide some e = cc

one_record : (kind : SpinedKind) (tokens : List (List ℕ)) (rows : List Row) → tokens ≢ [] → AllByRecursion (IsToken kind) tokens
    → cleave.one_record kind tokens ≡ Ok rows → AreRecords rows
one_record kind tokens rows some lawful e = by (nat_lt 1048576 (length (spelled tokens))) refl e
  where
    by : (b : Bool) → nat_lt 1048576 (length (spelled tokens)) ≡ b
        → ◌≡◌ {A = Result (List Row) Rule} (cond b (Err L1) (Ok (Spined kind tokens ∷ []))) (Ok rows) → AreRecords rows
    by true w e = cc
    by false w e =
        made_so (Spined kind tokens ∷ []) rows e (made_of kind tokens some lawful (grind (arith, nat_tests, w)), tt)

null_comment : IsToken Local (codes "!")
null_comment = record { filled = λ e. cc; one_token = refl; one_line = refl; no_line_end = refl; of_kind = refl; no_comment = refl }

comment_lawful : (ts : List (List ℕ)) → AllByRecursion (IsToken Local) ts → IsToken Local (comment_of ts)
comment_lawful [] h = null_comment
comment_lawful (t ∷ ts) h = by (is_null_comment t) (comment_lawful ts h.1)
  where
    by : (b : Bool) → IsToken Local (leftmost is_null_comment (codes "!") ts)
        → IsToken Local (cond b (leftmost is_null_comment (codes "!") ts) t)
    by true more = more
    by false more = h.0

flags_size : (name : List ℕ) (tokens : List (List ℕ)) → length (cleft.opening_flags name tokens) ≡ length tokens
flags_size name tokens = length-map tokens _

module _ (options : Options) (lawful : AreLawful options) where
  merged_records : (fs : List Bool) (tokens : List (List ℕ)) (rows : List Row) → IsRecord (Spined Interpretation tokens)
      → cleave.merged fs tokens ≡ Ok rows → AreRecords rows
  merged_records fs tokens rows is e =
      by (list_any is_exclusive (chosen fs (map sign_of tokens))) (cleave.is_entangled fs (map sign_of tokens)) e
    where
      ps : List JoinedToken
      ps = cleave.pieces fs tokens

      by : (a b : Bool) → ◌≡◌ {A = Result (List Row) Rule} (cond a (Err C2) (cond b (Err C1) (Ok (filled Interpretation (spread ps))))) (Ok rows)
          → AreRecords rows
      by true b e = cc
      by false true e = cc
      by false false e =
          made_so (filled Interpretation (spread ps)) rows e
          (filled_records Interpretation (spread ps) (spread_fits ps (fitted.pieces_fit fs (Spined Interpretation tokens) refl is)))

  pub cleave_records : DecidesRecords (cleave.cleave options)
  cleave_records past (Comment text) rows opens are e = same_record (Comment text) rows are.0 e
  cleave_records past (Spined Interpretation tokens) rows opens are e = by (path_after past) e
    where
      by : (path : Path)
          → at_path path (cleave.opened options tokens) (cleave.merged (flags (cleft.opening_flags options.name) past) tokens) ≡ Ok rows
          → AreRecords rows
      by Unopened e =
          one_record Interpretation (cleft.together options.new_name (cleft.opening_flags options.name tokens) tokens) rows
          (together_some options.new_name (cleft.opening_flags options.name tokens) tokens (flags_size options.name tokens) are.0.1)
          (together_all (IsToken Interpretation) options.new_name (cleft.opening_flags options.name tokens) tokens
          (name_lawful options.new_name lawful.named) are.0.2)
          e
      by (Spines names) e = merged_records (flags (cleft.opening_flags options.name) past) tokens rows are.0 e
  cleave_records past (Spined Local tokens) rows opens are e =
      let fs = flags (cleft.opening_flags options.name) past in
      let wide = flags_width (cleft.opening_flags options.name) past opens.0 ∙ sym (text_width (path_after past) tokens opens.1) in
      one_record Local (cleft.together (comment_of (chosen fs tokens)) fs tokens) rows
      (together_some _ fs tokens wide are.0.1)
      (together_all (IsToken Local) _ fs tokens (comment_lawful (chosen fs tokens) (chosen_all (IsToken Local) fs tokens are.0.2)) are.0.2)
      e
  cleave_records past (Spined Values tokens) rows opens are e =
      let fs = flags (cleft.opening_flags options.name) past in
      let wide = flags_width (cleft.opening_flags options.name) past opens.0 ∙ sym (text_width (path_after past) tokens opens.1) in
      one_record Values (cleft.together (data_of options.separator (chosen fs tokens)) fs tokens) rows
      (together_some _ fs tokens wide are.0.1)
      (together_all (IsToken Values) _ fs tokens
      (fitted.data_lawful options.separator (chosen fs tokens) lawful.between (chosen_all (IsToken Values) fs tokens are.0.2)) are.0.2)
      e
