-- What sources have read, poll by poll.
use Rattle.std.proofs.lemmas.Bool.Decides.{nat_tests}
use Rattle.std.proofs.Common.{◌≡◌, ◌∙◌, Bool, true, List, [], ◌++◌, Option, sym, ap, ◌⊎◌, inl, inr, ℕ}
use Rattle.std.proofs.Common.{append_assoc, arith}
use Rattle.std.specs.Io.KnownBytes.{Consumes, IsAtEnd}
use Rattle.hum_nodes.specs.Polls.{HasStayed, HasRead}

pub read_once : (was is : Bool) (old new : Option (List ℕ)) (read : List ℕ) → Consumes old new read
    → (is ≡ true → (was ≡ true) ⊎ IsAtEnd new)
    → (was ≡ true → (read ≡ []) × (is ≡ true)) → HasRead was is old new read
read_once = grind (arith, nat_tests)

pub read_none : (was : Bool) (old : Option (List ℕ)) → HasRead was was old old []
read_none = grind (arith, nat_tests)

pub read_stayed : (was is : Bool) (old new : Option (List ℕ)) → HasStayed was is old new
    → HasRead was is old new []
read_stayed = grind (arith, nat_tests)

pub read_more : (a b c : Bool) (x y z : Option (List ℕ)) (r s : List ℕ) → HasRead a b x y r
    → HasRead b c y z s → HasRead a c x z (r ++ s)
read_more a b c x y z r s h k = record {
  front = λ all e.
      let f = h.front all e in
      let g = k.front f.rest f.tells in
      record {
        rest = g.rest;
        tells = g.tells;
        split = f.split ∙ ap (λ l. r ++ l) g.split ∙ sym (append_assoc r s g.rest);
        over = λ o. elim (g.over o) [
          | inl mid ↦ elim (f.over mid) [
            | inl first ↦ inl first
            | inr none ↦ inr (sym (rw (k.still mid).0 at g.split) ∙ none)
          ]
          | inr none ↦ inr none
        ];
      };
  still = λ first.
      let f = h.still first in
      let g = k.still f.1 in
      (ap (λ l. l ++ s) f.0 ∙ g.0, g.1);
}
