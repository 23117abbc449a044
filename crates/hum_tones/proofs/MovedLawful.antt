-- A transposed token is a lawful one.
use Rattle.std.proofs.lemmas.Bool.Decides.{nat_tests}
use Rattle.std.proofs.Common.{◌≡◌, ◌≢◌, refl, ℕ, zero, suc, ℤ, pos, ◌==◌, ◌<◌, ◌≤◌}
use Rattle.std.proofs.Common.{Bool, true, false, List, [], ◌∷◌, ◌++◌, take, drop, arith, Option, None, Some}
use Rattle.std.proofs.Common.{subst}
use Rattle.std.specs.Prelude.{Result, Ok, Err, replicate, slice_index, if◌then◌else◌, not}
use Rattle.std.specs.List.{onto_first}
use Rattle.std.proofs.lemmas.List.Folds.{list_any-append}
use Rattle.hum_score.specs.declared.records.SpinedKind.TheVariants.{Values}
use Rattle.hum_score.specs.Spelling.{has_byte, kind_of_token, IsToken}
use Rattle.hum_score.proofs.Cases.{by_bool}
use Rattle.hum_pitch.specs.Pitch.{Spelled, away}
use Rattle.hum_pitch.specs.Spelling.{small_letters, capitals, letters, accidentals, spelling}
use Rattle.hum_pitch.proofs.Steps.{away_is}
use Rattle.hum_kern.specs.declared.KernFault.{KernFault}
use Rattle.hum_kern.specs.Note.{Reading, note}
use Rattle.hum_stage.specs.declared.faults.Rule.{Rule}
use Rattle.hum_stage.specs.declared.faults.Rule.TheVariants.{TR1, TR2}
use Rattle.hum_tones.specs.Subtokens.{with_first, given_by, joined, if_given, subtokens}
use Rattle.hum_tones.specs.Trans.{is_alteration, is_octave, if_spelled, put, moved, moved_as_read, transposed_part, transposed}
use Rattle.hum_tones.proofs.Parts.{Lack, parts_lack}
use Rattle.hum_tones.proofs.Written.{lacks_take, lacks_drop}
use Rattle.hum_tones.proofs.Joined.{joined_lacks, no_comment}

-- the bytes of a pitch are over those that end a part, a token or a line
pub not_low : (x c : ℕ) → 32 < x → c ≤ 32 → (x == c) ≡ false
not_low x c p q = grind arith

pub small_over : (step : ℕ) → step < 7 → 64 < slice_index small_letters step
small_over = grind (arith, nat_tests)

pub capital_over : (step : ℕ) → step < 7 → 64 < slice_index capitals step
capital_over = grind (arith, nat_tests)

pub repeat_lacks : (x c n : ℕ) → (x == c) ≡ false → has_byte c (replicate n x) ≡ false
repeat_lacks x c zero h = refl
repeat_lacks x c (suc n) h = rw (h, repeat_lacks x c n h) refl

letters_lack : (c step : ℕ) (o : ℤ) → step < 7 → c ≤ 32 → has_byte c (letters step o) ≡ false
letters_lack = grind (arith, nat_tests, small_over, repeat_lacks, not_low, capital_over)

signs_lack : (c : ℕ) (a : ℤ) → c ≤ 32 → has_byte c (accidentals a) ≡ false
signs_lack = grind (arith, nat_tests, repeat_lacks, not_low)

pub both_lack : (c : ℕ) (xs ys : List ℕ) → has_byte c xs ≡ false → has_byte c ys ≡ false → has_byte c (xs ++ ys) ≡ false
both_lack c xs ys p q = rw (list_any-append (λ (x : ℕ). x == c) xs ys, p, q) refl

pub spelling_lacks : (c : ℕ) (p : Spelled) → p.step < 7 → c ≤ 32 → has_byte c (spelling p) ≡ false
spelling_lacks = grind (arith, nat_tests, both_lack, letters_lack, pos, signs_lack)

letters_kind : (step : ℕ) (o : ℤ) (ys more : List ℕ) → step < 7 → kind_of_token ((letters step o ++ ys) ++ more) ≡ Values
letters_kind = grind (arith, nat_tests)

letters_some : (step : ℕ) (o : ℤ) (ys more : List ℕ) → ((letters step o ++ ys) ++ more) ≢ []
letters_some = grind (arith, nat_tests)

front_kind : (n : ℕ) (part rest : List ℕ) → kind_of_token part ≡ Values → kind_of_token rest ≡ Values → kind_of_token (take n part ++ rest) ≡ Values
front_kind zero part rest p q = q
front_kind (suc n) [] rest p q = q
front_kind (suc n) (x ∷ part) rest p q = p

front_some : (xs ys : List ℕ) → ys ≢ [] → xs ++ ys ≢ []
front_some [] ys h = h
front_some (x ∷ xs) ys h = λ e. cc

-- what a part becomes: itself, or with another pitch in it
pub data Becomes (part text : List ℕ) : Type 0 where
  Stays : text ≡ part → Becomes part text
  Moves : (start end : ℕ) (there : Spelled) → there.step < 7 → text ≡ take start part ++ (spelling there ++ drop end part) → Becomes part text

put_becomes : (part : List ℕ) (found : Reading) (there : Spelled) (text : List ℕ) → there.step < 7 →
    put part found (if_spelled there) ≡ Ok (Some text) → Becomes part text
put_becomes part found there text h e = go (is_alteration there.alteration) (is_octave there.octave) e
  where
    go : (a b : Bool) → put part found (if not a then Err TR1 else if not b then Err TR2 else Ok there) ≡ Ok (Some text) → Becomes part text
    go false b e = cc
    go true false e = cc
    go true true e = Moves found.start found.end there h cc

pub becomes : (n m : ℤ) (part text : List ℕ) → transposed_part n m part ≡ Ok (Some text) → Becomes part text
becomes n m part text e = go (note part) e
  where
    there : (found : Reading) (p : Option Spelled) → moved n m part found p ≡ Ok (Some text) → Becomes part text
    there found None e = Stays cc
    there found (Some p) e = put_becomes part found (away n m p) text (away_is n m p).step e

    go : (r : Result Reading KernFault) → moved_as_read n m part r ≡ Ok (Some text) → Becomes part text
    go (Ok found) e = there found found.pitch e
    go (Err fault) e = cc

put_some : (part : List ℕ) (found : Reading) (there : Spelled) → put part found (if_spelled there) ≡ Ok None → ⊥
put_some = grind (arith, nat_tests)

never_none : (n m : ℤ) (part : List ℕ) → transposed_part n m part ≡ Ok None → ⊥
never_none n m part e = go (note part) e
  where
    there : (found : Reading) (p : Option Spelled) → moved n m part found p ≡ Ok None → ⊥
    there found None e = cc
    there found (Some p) e = put_some part found (away n m p) e

    go : (r : Result Reading KernFault) → moved_as_read n m part r ≡ Ok None → ⊥
    go = grind (arith, nat_tests, there)

-- all parts of a token were transposed
abbrev pub AllMoved : ℤ → ℤ → List (List ℕ) → List (List ℕ) → Type 0
AllMoved n m [] [] = Unit {0}
AllMoved n m (part ∷ parts) (text ∷ texts) = (transposed_part n m part ≡ Ok (Some text)) × AllMoved n m parts texts
AllMoved n m _ _ = ⊥

pub all_moved : (n m : ℤ) (parts texts : List (List ℕ)) → given_by (transposed_part n m) parts ≡ Ok texts → AllMoved n m parts texts
all_moved n m (part ∷ parts) texts e = go (transposed_part n m part) refl (given_by (transposed_part n m) parts)
    (λ others given. all_moved n m parts others given) texts e
  where
    go : (r : Result (Option (List ℕ)) Rule) → transposed_part n m part ≡ r →
        (rest : Result (List (List ℕ)) Rule) → ((others : List (List ℕ)) → rest ≡ Ok others →
        AllMoved n m parts others) → (texts : List (List ℕ)) → with_first r rest ≡ Ok texts →
        AllMoved n m (part ∷ parts) texts
    go = grind (arith, nat_tests, never_none)
all_moved n m parts texts h = grind (arith, nat_tests)

abbrev pub EachBecomes : List (List ℕ) → List (List ℕ) → Type 0
EachBecomes [] [] = Unit {0}
EachBecomes (part ∷ parts) (text ∷ texts) = Becomes part text × EachBecomes parts texts
EachBecomes _ _ = ⊥

pub each_becomes : (n m : ℤ) (parts texts : List (List ℕ)) → AllMoved n m parts texts → EachBecomes parts texts
each_becomes n m (part ∷ parts) (text ∷ texts) moved = (becomes n m part text moved.0, each_becomes n m parts texts moved.1)
each_becomes n m parts texts h = grind (arith, nat_tests)

text_lacks : (c : ℕ) (part text : List ℕ) → c ≤ 32 → Becomes part text → has_byte c part ≡ false → has_byte c text ≡ false
text_lacks = grind (arith, nat_tests, both_lack, lacks_take, spelling_lacks, lacks_drop)

pub texts_lack : (c : ℕ) (parts texts : List (List ℕ)) → c ≤ 32 → EachBecomes parts texts → Lack c parts → Lack c texts
texts_lack c (part ∷ parts) (text ∷ texts) low each all = (text_lacks c part text low each.0 all.0, texts_lack c parts texts low each.1 all.1)
texts_lack c parts texts h k w = grind (arith, nat_tests)

text_kind : (part text : List ℕ) → Becomes part text → kind_of_token part ≡ Values → kind_of_token text ≡ Values
text_kind = grind (arith, nat_tests, front_kind, letters_kind, pos)

text_some : (part text : List ℕ) → Becomes part text → part ≢ [] → text ≢ []
text_some = grind (arith, nat_tests, front_some, letters_some, pos)

-- the first part of a token
onto_some : (x : ℕ) (parts : List (List ℕ)) → onto_first x parts ≢ []
onto_some = grind (arith, nat_tests)

pub parts_some : (token : List ℕ) → subtokens token ≢ []
parts_some [] = λ e. cc
parts_some (x ∷ xs) = by_bool (x == 32) (λ w. rw w (λ e. cc)) (λ w. rw w (onto_some x (subtokens xs)))

first_kind : (token : List ℕ) (part : List ℕ) (parts : List (List ℕ)) → subtokens token ≡ part ∷ parts →
    kind_of_token token ≡ Values → kind_of_token part ≡ Values
first_kind = grind (arith, nat_tests)

alone_some : (token part : List ℕ) → subtokens token ≡ part ∷ [] → token ≢ [] → part ≢ []
alone_some [] part e h = absurd (h refl)
alone_some (x ∷ xs) part e h = by_bool (x == 32) (λ w. at_space w) (λ w. within w)
  where
    at_space : (x == 32) ≡ true → part ≢ []
    at_space w = let f = rw w at e in let none : subtokens xs ≡ [] = cc in absurd (parts_some xs none)

    of : (others : List (List ℕ)) → onto_first x others ≡ part ∷ [] → part ≢ []
    of = grind (arith, nat_tests)

    within : (x == 32) ≡ false → part ≢ []
    within w = of (subtokens xs) (rw w at e)

join_kind : (text : List ℕ) (texts : List (List ℕ)) → kind_of_token text ≡ Values → kind_of_token (joined (text ∷ texts)) ≡ Values
join_kind = grind (arith, nat_tests)

join_some : (text next : List ℕ) (texts : List (List ℕ)) → joined (text ∷ (next ∷ texts)) ≢ []
join_some [] next texts = λ e. cc
join_some (x ∷ text) next texts = λ e. cc

pub moved_lawful : (n m : ℤ) (token text : List ℕ) → transposed n m token ≡ Ok text → IsToken Values token → IsToken Values text
moved_lawful n m token text e lawful = from (given_by (transposed_part n m) (subtokens token)) refl e
  where
    made : (parts texts : List (List ℕ)) → subtokens token ≡ parts → EachBecomes parts texts → IsToken Values (joined texts)
    made [] texts is each = absurd (parts_some token is)
    made (part ∷ parts) [] is each = absurd each
    made (part ∷ parts) (first ∷ texts) is each =
        let kind = join_kind first texts (text_kind part first each.0 (first_kind token part parts is lawful.of_kind)) in
        record {
          filled = some parts texts is each;
          one_token = joined_lacks 9 first texts refl
              (texts_lack 9 (part ∷ parts) (first ∷ texts) (omega arith) each
              (subst (Lack 9) is (parts_lack 9 token lawful.one_token)));
          one_line = joined_lacks 13 first texts refl
              (texts_lack 13 (part ∷ parts) (first ∷ texts) (omega arith) each
              (subst (Lack 13) is (parts_lack 13 token lawful.one_line)));
          no_line_end = joined_lacks 10 first texts refl
              (texts_lack 10 (part ∷ parts) (first ∷ texts) (omega arith) each
              (subst (Lack 10) is (parts_lack 10 token lawful.no_line_end)));
          of_kind = kind;
          no_comment = no_comment (joined (first ∷ texts)) kind;
        }
      where
        some : (parts texts : List (List ℕ)) → subtokens token ≡ part ∷ parts → EachBecomes (part ∷ parts) (first ∷ texts) → joined (first ∷ texts) ≢ []
        some [] [] is each = text_some part first each.0 (alone_some token part is lawful.filled)
        some [] (next ∷ texts) is each = join_some first next texts
        some (other ∷ parts) [] is each = absurd each.1
        some (other ∷ parts) (next ∷ texts) is each = join_some first next texts

    from : (r : Result (List (List ℕ)) Rule) → given_by (transposed_part n m) (subtokens token) ≡ r → if_given r ≡ Ok text → IsToken Values text
    from (Err rule) is e = cc
    from (Ok texts) is e =
        let same : joined texts ≡ text = cc in
        subst (IsToken Values) same (made (subtokens token) texts refl (each_becomes n m (subtokens token) texts (all_moved n m (subtokens token) texts is)))
