-- Tokens that are transposed and then told anew.
use Rattle.std.proofs.Common.{◌≡◌, refl, sym, ap, ◌∙◌, ℕ, zero, suc, ℤ, pos, ◌-ℤ◌, ◌==◌, ◌<◌, true}
use Rattle.std.proofs.Common.{false, List, [], ◌∷◌, ◌++◌, drop, arith, Option, Some, subst}
use Rattle.std.specs.Prelude.{Result, Ok, Err, not}
use Rattle.std.specs.List.{onto_first, join_with_byte}
use Rattle.std.proofs.lemmas.List.Splits.{join_with_byte-slice_split}
use Rattle.std.proofs.lemmas.Bool.{or_parts, and_parts, and_from}
use Rattle.std.proofs.lemmas.Bool.Decides.{nat_tests}
use Rattle.std.proofs.lemmas.Slice.Eq.{bytes_eq-Decides}
use lib.Chars.{codes}
use Rattle.hum_record.specs.Contents.{is_null, is_barline}
use Rattle.hum_score.proofs.Cases.{by_bool}
use Rattle.hum_score.specs.Spelling.{has_byte}
use Rattle.hum_pitch.specs.Spelling.{letters, accidentals, spelling}
use Rattle.hum_stage.specs.declared.faults.Rule.{Rule}
use Rattle.hum_cells.specs.Rewriting.{has_content}
use Rattle.hum_tones.specs.Subtokens.{given_by, joined, if_given, subtokens, rewritten}
use Rattle.hum_tones.specs.Trans.{moved, transposed_part, transposed}
use Rattle.hum_tones.proofs.Parts.{Lack}
use Rattle.hum_tones.proofs.MovedLawful.{Becomes, Stays, Moves, becomes, AllMoved, all_moved, each_becomes, texts_lack, parts_some}
use Rattle.hum_laws.proofs.Marks.{Agree}

-- a text that begins with a pitch
record BeginsOver (text : List ℕ) : Type 0 where
  first : ℕ
  more : List ℕ
  is : text ≡ first ∷ more
  over : 64 < first

letters_begin : (step : ℕ) (o : ℤ) (ys more : List ℕ) → step < 7 → BeginsOver ((letters step o ++ ys) ++ more)
letters_begin = grind (arith, nat_tests)

-- no part has a space
parts_lack : (text : List ℕ) → Lack 32 (subtokens text)
parts_lack [] = (refl, tt)
parts_lack (x ∷ xs) = grind (arith, nat_tests, parts_lack xs)

-- texts that are joined by spaces are cut again
cut_last : (t : List ℕ) → has_byte 32 t ≡ false → subtokens t ≡ t ∷ []
cut_last [] h = refl
cut_last (x ∷ t) h = let both = or_parts (x == 32) (has_byte 32 t) h in rw (both.0, cut_last t both.1) refl

cut_first : (t rest : List ℕ) → has_byte 32 t ≡ false → subtokens (t ++ 32 ∷ rest) ≡ t ∷ subtokens rest
cut_first [] rest h = refl
cut_first (x ∷ t) rest h = let both = or_parts (x == 32) (has_byte 32 t) h in rw (both.0, cut_first t rest both.1) refl

cut_again : (text : List ℕ) (texts : List (List ℕ)) → Lack 32 (text ∷ texts) → subtokens (joined (text ∷ texts)) ≡ text ∷ texts
cut_again text [] h = cut_last text h.0
cut_again text (next ∷ texts) h = cut_first text (join_with_byte 32 (next ∷ texts)) h.0 ∙ ap (λ (x : List (List ℕ)). text ∷ x) (cut_again next texts h.1)

-- what the second makes of the texts, part by part
abbrev Alike : ℤ → ℤ → (List ℕ → Result (Option (List ℕ)) Rule) → (List ℕ → Result (Option (List ℕ)) Rule) → Type 0
Alike n m second both = (part text : List ℕ) → transposed_part n m part ≡ Ok (Some text) → both part ≡ second text

given_alike : (n m : ℤ) (second both : List ℕ → Result (Option (List ℕ)) Rule) → Alike n m second both →
    (parts texts : List (List ℕ)) → AllMoved n m parts texts
    → given_by both parts ≡ given_by second texts
given_alike n m second both h (part ∷ parts) (text ∷ texts) moved = rw (h part text moved.0, given_alike n m second both h parts texts moved.1) refl
given_alike n m second both h parts texts k = grind (arith, nat_tests)

-- a text has the first byte that it had, or begins with a pitch
front_is : (part text : List ℕ) (x : ℕ) (more : List ℕ) → Becomes part text → text ≡ x ∷ more → x < 65 → (rest : List ℕ) × (part ≡ x ∷ rest)
front_is part text x more (Stays e) is low = (more, sym e ∙ is)
front_is part text x more (Moves zero end there small e) is low = grind (arith, nat_tests)
front_is [] text x more (Moves (suc n) end there small e) is low = grind (arith, nat_tests)
front_is (y ∷ part) text x more (Moves (suc n) end there small e) is low = grind (arith, nat_tests)

some_behind : (xs ys more : List ℕ) (y : ℕ) → ys ≡ y ∷ more → xs ++ ys ≡ [] → ⊥
some_behind [] ys more y is e = let none : y ∷ more ≡ [] = sym is ∙ e in cc
some_behind (x ∷ xs) ys more y is e = cc

-- only a null part becomes null
dot_is : (part text : List ℕ) → Becomes part text → text ≡ 46 ∷ [] → part ≡ 46 ∷ []
dot_is part text (Stays e) is = sym e ∙ is
dot_is part text (Moves zero end there small e) is = grind (arith, nat_tests)
dot_is [] text (Moves (suc n) end there small e) is = grind (arith, nat_tests)
dot_is (y ∷ part) text (Moves (suc n) end there small e) is = absurd
    (far (letters_begin there.step (there.octave -ℤ pos 4) (accidentals there.alteration) (drop end (y ∷ part))
    small))
  where
    far : BeginsOver (spelling there ++ drop end (y ∷ part)) → ⊥
    far = grind (arith, nat_tests)

-- the first byte of a joined token, and of a token that is cut
joined_front : (text : List ℕ) (texts : List (List ℕ)) (x : ℕ) (more : List ℕ) → joined (text ∷ texts) ≡ x ∷ more → 32 < x → (rest : List ℕ) × (text ≡ x ∷ rest)
joined_front text [] x more e high = (more, e)
joined_front [] (next ∷ texts) x more e high = let is : 32 ≡ x = cc in absurd (omega (arith, is))
joined_front (y ∷ text) (next ∷ texts) x more e high = let is : y ≡ x = cc in (text, ap (λ (z : ℕ). z ∷ text) is)

cut_front : (token part : List ℕ) (parts : List (List ℕ)) (x : ℕ) (more : List ℕ) →
    subtokens token ≡ part ∷ parts → part ≡ x ∷ more → (rest : List ℕ) × (token ≡ x ∷ rest)
cut_front [] part parts x more e is = let none : [] ≡ part = cc in let no : [] ≡ x ∷ more = none ∙ is in cc
cut_front (y ∷ token) part parts x more e is = by_bool (y == 32) (λ w. at_space w) (λ w. of (subtokens token) (rw w at e))
  where
    at_space : (y == 32) ≡ true → (rest : List ℕ) × (y ∷ token ≡ x ∷ rest)
    at_space w = let f = rw w at e in let none : [] ≡ part = cc in let no : [] ≡ x ∷ more = none ∙ is in cc

    of : (others : List (List ℕ)) → onto_first y others ≡ part ∷ parts → (rest : List ℕ) × (y ∷ token ≡ x ∷ rest)
    of [] f = let one : y ∷ [] ≡ part = cc in let two : y ∷ [] ≡ x ∷ more = one ∙ is in let same : y ≡ x = cc in (token, ap (λ (z : ℕ). z ∷ token) same)
    of (other ∷ others) f = let one : y ∷ other ≡ part = cc in let two : y ∷ other ≡ x ∷ more = one ∙ is in
        let same : y ≡ x = cc in (token, ap (λ (z : ℕ). z ∷ token) same)

barline_head : (text : List ℕ) → is_barline text ≡ true → (more : List ℕ) × (text ≡ 61 ∷ more)
barline_head = grind (arith, nat_tests)

dot_alone : (token : List ℕ) → subtokens token ≡ (46 ∷ []) ∷ [] → token ≡ 46 ∷ []
dot_alone token e = sym (join_with_byte-slice_split 32 token) ∙ ap (join_with_byte 32) e

-- a token that is told anew is so when its pitches have moved
stays_told : (n m : ℤ) (token : List ℕ) (parts texts : List (List ℕ)) → subtokens token ≡ parts →
    AllMoved n m parts texts → has_content token ≡ true → has_content (joined texts) ≡ true
stays_told n m token [] texts cut moved told = absurd (parts_some token cut)
stays_told n m token (part ∷ parts) [] cut moved told = absurd moved
stays_told n m token (part ∷ parts) (text ∷ texts) cut moved told =
    let both = and_parts (not (is_null token)) (not (is_barline token)) told in
    and_from (not (is_null (joined (text ∷ texts)))) (not (is_barline (joined (text ∷ texts))))
    (by_bool (is_null (joined (text ∷ texts))) (λ w. absurd (null w both.0)) (λ w. rw w refl))
    (by_bool (is_barline (joined (text ∷ texts))) (λ w. absurd (barline w both.1)) (λ w. rw w refl))
  where
    moves : Becomes part text
    moves = becomes n m part text moved.0

    barline : is_barline (joined (text ∷ texts)) ≡ true → not (is_barline token) ≡ true → ⊥
    barline w apart =
        let one = barline_head (joined (text ∷ texts)) w in
        let two = joined_front text texts 61 one.0 one.1 (omega arith) in
        let three = front_is part text 61 two.0 moves two.1 (omega arith) in
        let four = cut_front token part parts 61 three.0 cut three.1 in
        let no : false ≡ true = rw four.1 at apart in
        cc

    null : is_null (joined (text ∷ texts)) ≡ true → not (is_null token) ≡ true → ⊥
    null w apart = alone texts moved.1 ((bytes_eq-Decides (codes ".") (joined (text ∷ texts))).0 w)
      where
        alone : (others : List (List ℕ)) → AllMoved n m parts others → 46 ∷ [] ≡ joined (text ∷ others) → ⊥
        alone [] rest is = single parts cut rest (dot_is part text moves (sym is))
          where
            single : (parts : List (List ℕ)) → subtokens token ≡ part ∷ parts → AllMoved n m parts [] → part ≡ 46 ∷ [] → ⊥
            single = grind (arith, nat_tests, dot_alone)
        alone (next ∷ others) rest is =
            let two = joined_front text (next ∷ others) 46 [] (sym is) (omega arith) in
            let whole : 46 ∷ [] ≡ (46 ∷ two.0) ++ 32 ∷ join_with_byte 32 (next ∷ others) = is
            ∙ ap (λ (x : List ℕ). x ++ 32 ∷ join_with_byte 32 (next ∷ others)) two.1 in
            let none : two.0 ++ 32 ∷ join_with_byte 32 (next ∷ others) ≡ [] = cc in
            some_behind two.0 (32 ∷ join_with_byte 32 (next ∷ others)) (join_with_byte 32 (next ∷ others)) 32 refl none

-- A token that is transposed and then told part by part.
pub trans_agree : (n m : ℤ) (second both : List ℕ → Result (Option (List ℕ)) Rule)
    → ((part text : List ℕ) → transposed_part n m part ≡ Ok (Some text) → both part ≡ second text)
    → Agree (λ above. transposed n m) (rewritten second) (λ above. rewritten both)
trans_agree n m second both h above token text told e = from (given_by (transposed_part n m) (subtokens token)) refl e
  where
    made : (parts texts : List (List ℕ)) → subtokens token ≡ parts → AllMoved n m parts texts → joined texts ≡ text
        → (has_content text ≡ true) × (rewritten both token ≡ rewritten second text)
    made [] texts cut moved is = absurd (parts_some token cut)
    made (part ∷ parts) [] cut moved is = absurd moved
    made (part ∷ parts) (first ∷ texts) cut moved is =
        let lack = texts_lack 32 (part ∷ parts) (first ∷ texts) (omega arith)
        (each_becomes n m (part ∷ parts) (first ∷ texts) moved) (subst (Lack 32) cut (parts_lack token)) in
        let again : subtokens text ≡ first ∷ texts = ap subtokens (sym is) ∙ cut_again first texts lack in (
          subst (λ (t : List ℕ). has_content t ≡ true) is (stays_told n m token (part ∷ parts) (first ∷ texts) cut moved told),
          ap (λ (ps : List (List ℕ)). if_given (given_by both ps)) cut
              ∙ ap if_given (given_alike n m second both h (part ∷ parts) (first ∷ texts) moved)
              ∙ ap (λ (ps : List (List ℕ)). if_given (given_by second ps)) (sym again),
        )

    from : (r : Result (List (List ℕ)) Rule) → given_by (transposed_part n m) (subtokens token) ≡ r → if_given r ≡ Ok text
        → (has_content text ≡ true) × (rewritten both token ≡ rewritten second text)
    from (Err rule) is e = cc
    from (Ok texts) is e =
        let same : joined texts ≡ text = cc in
        made (subtokens token) texts refl (all_moved n m (subtokens token) texts is) same
