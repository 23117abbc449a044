-- Columns, place by place.
use Rattle.std.proofs.lemmas.Grind.{common_steps}
use Rattle.std.proofs.Common.{◌≡◌, ◌∙◌, refl, sym, ap, ℕ, suc, ◌+◌, ◌<◌, ◌≤◌, Bool, true, false, cond}
use Rattle.std.proofs.Common.{List, [], ◌∷◌, ◌++◌, length, drop, get_or, arith, add-one, append_assoc}
use Rattle.std.proofs.lemmas.Bool.Decides.{nat_tests}
use Rattle.std.specs.List.{list_any}
use Rattle.hum_score.specs.declared.records.SpinedKind.{SpinedKind}
use Rattle.hum_record.specs.Building.{Draft}
use Rattle.hum_columns.specs.Chosen.{others}
use Rattle.hum_cleave.specs.Columns.{together}
use Rattle.hum_record.specs.RecordDraft.{Holds}

-- what is left to write, once the one column was written or before
abbrev pub left_of : {X : Type 0} → Bool → X → List Bool → List X → List X
left_of true one flags xs = others flags xs
left_of false one flags xs = together one flags xs

-- A record in the making: its tokens so far, with what is left of the columns from place j on.
pub record Put (kind : SpinedKind) (one : List ℕ) (flags : List Bool) (tokens : List (List ℕ)) (j : ℕ) (done : Bool) (draft : Draft)
    (long : Bool) : Type 0 where
  pub made : List (List ℕ)
  pub holds : Holds kind draft long made
  pub rest : made ++ left_of done one (drop j flags) (drop j tokens) ≡ together one flags tokens

together_at : {X : Type 0} (done : Bool) (one : X) (fs : List Bool) (xs : List X) (j : ℕ) (d : X) → j < length fs → length fs ≡ length xs
    → left_of done one (drop j fs) (drop j xs)
    ≡ cond (get_or fs j false) (cond done (others (drop (suc j) fs) (drop (suc j) xs)) (one ∷ others (drop (suc j) fs) (drop (suc j) xs)))
    (get_or xs j d ∷ left_of done one (drop (suc j) fs) (drop (suc j) xs))
together_at true one (f ∷ fs) (x ∷ xs) (suc j) d h e = together_at true one fs xs j d (omega (arith, h)) (omega (arith, e))
together_at false one (f ∷ fs) (x ∷ xs) (suc j) d h e = together_at false one fs xs j d (omega (arith, h)) (omega (arith, e))
together_at done one fs xs j d h k = grind (arith, nat_tests)

-- another column's token
pub put_other : (kind : SpinedKind) (one : List ℕ) (fs : List Bool) (ts : List (List ℕ)) (j : ℕ) (done : Bool) (draft new : Draft) (long longer : Bool)
    → j < length fs → length fs ≡ length ts → get_or fs j false ≡ false → Put kind one fs ts j done draft long
    → ((made : List (List ℕ)) → Holds kind draft long made → Holds kind new longer (made ++ get_or ts j [] ∷ []))
    → Put kind one fs ts (j + 1) done new longer
put_other kind one fs ts j done draft new long longer h e off p push = record {
  made = p.made ++ get_or ts j [] ∷ [];
  holds = push p.made p.holds;
  rest = rw (append_assoc, add-one) (ap (λ (us : List (List ℕ)). p.made ++ us) (sym (together_at done one fs ts j [] h e ∙ rw off refl)) ∙ p.rest);
}

-- the one column's
pub put_one : (kind : SpinedKind) (one : List ℕ) (fs : List Bool) (ts : List (List ℕ)) (j : ℕ) (done : Bool) (draft new : Draft) (long longer : Bool)
    → j < length fs → length fs ≡ length ts → get_or fs j false ≡ true → done ≡ false → Put kind one fs ts j done draft long
    → ((made : List (List ℕ)) → Holds kind draft long made → Holds kind new longer (made ++ one ∷ []))
    → Put kind one fs ts (j + 1) true new longer
put_one kind one fs ts j done draft new long longer h e on not p push = record {
  made = p.made ++ one ∷ [];
  holds = push p.made p.holds;
  rest = rw (append_assoc, add-one) (ap (λ (us : List (List ℕ)). p.made ++ us) (sym (together_at done one fs ts j [] h e ∙ rw (on, not) refl)) ∙ p.rest);
}

-- a cleaved column that isn't the leftmost
pub put_none : (kind : SpinedKind) (one : List ℕ) (fs : List Bool) (ts : List (List ℕ)) (j : ℕ) (done : Bool) (draft : Draft) (long : Bool)
    → j < length fs → length fs ≡ length ts → get_or fs j false ≡ true → done ≡ true → Put kind one fs ts j done draft long
    → Put kind one fs ts (j + 1) done draft long
put_none kind one fs ts j done draft long h e on is p = record {
  made = p.made;
  holds = p.holds;
  rest = rw add-one (ap (λ (us : List (List ℕ)). p.made ++ us) (same done is (sym (together_at done one fs ts j [] h e ∙ rw on refl))) ∙ p.rest);
}
  where
    same : (done : Bool) → done ≡ true
        → cond done (others (drop (suc j) fs) (drop (suc j) ts)) (one ∷ others (drop (suc j) fs) (drop (suc j) ts)) ≡ left_of done one (drop j fs) (drop j ts)
        → left_of done one (drop (suc j) fs) (drop (suc j) ts) ≡ left_of done one (drop j fs) (drop j ts)
    same = grind (arith, nat_tests)

pub put_all : (kind : SpinedKind) (one : List ℕ) (fs : List Bool) (ts : List (List ℕ)) (j : ℕ) (done : Bool) (draft : Draft) (long : Bool)
    → length fs ≤ j → Put kind one fs ts j done draft long → Holds kind draft long (together one fs ts)
put_all = grind (arith, common_steps)

pub together_filled : (one : List ℕ) (fs : List Bool) (ts : List (List ℕ)) → length fs ≡ length ts → together one fs ts ≡ [] → ts ≡ []
together_filled one [] [] e h = refl
together_filled one [] (t ∷ ts) e h = absurd (omega (arith, e))
together_filled one (f ∷ fs) [] e h = absurd (omega (arith, e))
together_filled one (true ∷ fs) (t ∷ ts) e h = cc
together_filled one (false ∷ fs) (t ∷ ts) e h = cc

-- where none is cleaved
pub together_none : {X : Type 0} (one : X) (fs : List Bool) (xs : List X) → length fs ≡ length xs → list_any (λ b. b) fs ≡ false
    → together one fs xs ≡ xs
together_none {X} one (false ∷ fs) (x ∷ xs) e h = ap (λ (ys : List X). x ∷ ys) (together_none one fs xs (omega (arith, e)) h)
together_none one fs xs h k = grind (arith, common_steps)
