-- A text that is written in parts.
use Rattle.std.proofs.lemmas.Grind.{common_steps}
use Rattle.std.proofs.Common.{◌≡◌, ◌∙◌, ◌||◌, ◌≤◌, ◌+◌, ◌-◌, true, false, ℕ}
use Rattle.std.proofs.Common.{List, [], ◌++◌, length, Option, Some}
use Rattle.std.proofs.Common.{arith, ne_eqb, append_assoc, take, drop, length-drop}
use Rattle.std.specs.Bool.{◌==◌}
use Rattle.std.specs.Io.KnownBytes.{Appends, Keeps}
use Rattle.std.specs.Prelude.{Ok, Err}
use Rattle.std.proofs.lemmas.List.{take_all, take-append-drop}
use Rattle.std.proofs.Math.Nat.{min-le_left}
use Rattle.hum_text.specs.Calls.{counted}
use Rattle.hum_text.specs.declared.calls.Sink.{Ghosts as Sink}
use Rattle.hum_engine.specs.Writing.{Wrote, HasWritten}

pub appends_none : (c : Option (List ℕ)) → Appends c c []
appends_none = grind (arith, common_steps)

pub appends_trans : (a b c : Option (List ℕ)) (x y : List ℕ) → Appends a b x → Appends b c y → Appends a c (x ++ y)
appends_trans = grind (arith, common_steps)

pub keeps_appends : (a b : Option (List ℕ)) → Keeps a b → Appends a b []
keeps_appends = grind (arith, common_steps)

-- one call more is one at most
one_call : (n m : ℕ) → m ≡ counted n → m ≤ n + 1
one_call n m is = rw is (min-le_left (n + 1) 18446744073709551615)

-- Some of a text was written, by calls that didn't fail, and the rest is left.
pub record IsWriting {W : Type 0} (writer : Sink W) (old now : W)
    (text rest : List ℕ) : Type 0 where
  pub wrote : Wrote (writer.contents old) (writer.contents now) text rest
  pub sound : writer.failed now ≡ writer.failed old
  pub few : writer.calls now + length rest ≤ writer.calls old + length text
  pub unflushed : writer.flushes now ≡ writer.flushes old

pub begun : {W : Type 0} {writer : Sink W} (sink : W) (text : List ℕ)
    → IsWriting writer sink sink text text
begun = grind (arith, common_steps)

module _ {W : Type 0} {writer : Sink W} {old now : W} {text rest : List ℕ} (w : IsWriting writer old now text rest) where
  -- A call takes bytes of it.
  pub writes_on : {new : W} (n : ℕ) → (n ≡ 0 → ⊥) → n ≤ length rest → Appends (writer.contents now) (writer.contents new) (take n rest)
      → writer.calls new ≡ counted (writer.calls now) → writer.failed new ≡ (writer.failed now || (n == 0))
      → writer.flushes new ≡ writer.flushes now → IsWriting writer old new text (take (length rest - n) (drop n rest))
  writes_on {new} n some within appends called marked unflushed =
      rw (take_all (length rest - n) (drop n rest) (omega (arith, length-drop n rest))) (record {
        wrote = record {
          bytes = w.wrote.bytes ++ take n rest;
          sum = rw (append_assoc, take-append-drop n rest) w.wrote.sum;
          appends = appends_trans (writer.contents old) (writer.contents now) (writer.contents new) w.wrote.bytes (take n rest) w.wrote.appends appends;
        };
        sound = grind (arith, ne_eqb n 0 some, marked, w.sound);
        few = omega (arith, length-drop n rest, w.few, one_call (writer.calls now) (writer.calls new) called, some, within);
        unflushed = unflushed ∙ w.unflushed;
      })

  -- A call fails, and takes none.
  pub gives_up : {A E : Type 0} {new : W} {e : E} → false ≡ (length rest == 0) → Appends (writer.contents now) (writer.contents new) []
      → writer.calls new ≡ counted (writer.calls now) → writer.failed new ≡ (writer.failed now || true)
      → writer.flushes new ≡ writer.flushes now → HasWritten {A = A} writer old new text (Err e)
  gives_up = grind (arith, common_steps)

  -- Nothing is left.
  pub all_written : {A E : Type 0} {x : A} → length rest ≡ 0 → HasWritten {E = E} writer old now text (Ok x)
  all_written = grind (arith, common_steps)
