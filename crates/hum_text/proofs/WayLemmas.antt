-- What each way through a poll does.
use Rattle.std.proofs.lemmas.Bool.Decides.{nat_tests}
use Rattle.std.proofs.Common.{◌≡◌, ◌≢◌, ℕ, ◌+◌, ◌<◌, ◌≤◌, Bool, true, false, if◌then◌else◌, Option, List, [], ◌++◌, length}
use Rattle.std.proofs.Common.{take, drop, refl, ap, sym, ◌∙◌, subst, arith, None, Some, Result, Ok, Err, length-drop, ◌==◌, slice_index}
use Rattle.std.proofs.Math.Seq.{take-length}
use Rattle.memchr.specs.Find.{IsFirstByte, is_byte}
use Rattle.hum_text.specs.declared.Limits.{Limits}
use Rattle.hum_text.specs.declared.TextFault.{TextFault}
use Rattle.hum_text.specs.declared.TextFault.TheVariants.{S1, S2, S3, S7}
use Rattle.hum_text.specs.declared.reader.Step.{Step}
use Rattle.hum_text.specs.declared.reader.Step.TheVariants.{Line, End}
use Rattle.hum_text.specs.Text.{without_cr, fault_of, IsOfText, IsLawful, BreaksFirst}
use Rattle.hum_text.specs.Reading.{Reader, Holds, GivesLine, Fails, Goes, GoesUnread, bytes_read}
use Rattle.hum_text.proofs.ReadingLemmas.{given_of, gives-line, gives-fault, drop-all, length-drop_le, last-given, none-left, nil-of}
use Rattle.hum_text.proofs.LimitLemmas.{last-short, last-free}

-- a reader keeps this fault, and has made no read
abbrev pub faulty : {R : Type 0} → Reader R → TextFault → Reader R
faulty v fault = record v { fault = Some fault }

-- a rule that is broken is one of the text's
abbrev RuleOfText : Option TextFault → Type 0
RuleOfText None = Unit {0}
RuleOfText (Some rule) = IsOfText rule

pub nothing-read : {R : Type 0} (v : Reader R) → bytes_read v v ≡ []
nothing-read v = drop-all v.pending (length v.pending) (omega arith)

-- the reader has this fault, and no read was made
pub fails-here : {R : Type 0} (v w : Reader R) (fault : TextFault) → w ≡ faulty v fault → Fails v w fault
fails-here {R} v w fault state = let To : Reader R → Type 0 = λ u. Fails v u fault in subst To (sym state) refl

module _ {R : Type 0} (v w : Reader R) (result : Result Step TextFault) where
  -- a fault was met
  pub fault-goes : (fault : TextFault) → v.taken ≤ v.limits.bytes → result ≡ Err fault → Fails v w fault
      → ((all : List ℕ) (gs : List (List ℕ)) (rest : List ℕ) → Holds v all gs rest → IsOfText fault
      → fault_of v.limits all ≡ Some (length gs + 1, fault))
      → Goes v result w
  fault-goes = grind (arith, nat_tests, gives-fault)

  -- a fault of the text was met, in what was pending
  pub fault-unread : (fault : TextFault) → v.taken ≤ v.limits.bytes → result ≡ Err fault → w ≡ faulty v fault → IsOfText fault
      → ((all : List ℕ) (gs : List (List ℕ)) (rest : List ℕ) → Holds v all gs rest → IsOfText fault
      → fault_of v.limits all ≡ Some (length gs + 1, fault))
      → GoesUnread v result w
  fault-unread = grind (arith, nat_tests, fault-goes, fails-here, nothing-read)

-- A rule that a byte breaks is one of the text's.
first-of : (a b c d : Bool)
    → RuleOfText (if a then Some S1 else if b then Some S2 else if c then Some S3 else if d then Some S7 else None)
first-of = grind (arith, nat_tests)

either-of : (test : Bool) (x y : Option TextFault) → RuleOfText x → RuleOfText y → RuleOfText (if test then x else y)
either-of = grind (arith, nat_tests)

pub of-text : (l : Limits) (n t : ℕ) (held : List ℕ) (f : TextFault) → BreaksFirst l n t held f → IsOfText f
of-text = grind (arith, nat_tests, either-of, slice_index, first-of)

-- a line was given
pub line-unread : {R : Type 0} (v w : Reader R) → GivesLine v w → GoesUnread v (Ok Line) w
line-unread = grind (arith, nat_tests)

-- nothing is left, and no fault was met
pub end-unread : {R : Type 0} (v : Reader R) → v.fault ≡ None → v.ended ≡ true → length v.pending ≡ 0
    → v.taken ≤ v.limits.bytes → GoesUnread v (Ok End) v
end-unread {R} v no_fault ended empty bytes =
    let none = nothing-read v in
    record {
      goes = record {
        within = tt;
        gives = λ all gs rest h end.
            let here : Holds v all gs rest = subst (λ zs. Holds v all gs (zs ++ rest)) none h in
            let done = none-left v all gs rest here ended empty in
            (done.0, done.1, here);
        end = λ same. record { ended = ended; handed_out = nil-of v.pending empty; no_fault = no_fault };
        no_fault = no_fault;
        err = tt;
        nears = tt;
        limits = refl;
        taken = bytes;
      };
      unread = (refl, refl, none);
      not_more = λ same. cc;
      not_read = λ same. cc;
      not_memory = λ same. cc;
    }

-- the last line was given, which no LF ends
pub last-unread : {R : Type 0} (v w : Reader R) (line : List ℕ) (size : ℕ) → v.fault ≡ None → v.ended ≡ true
    → IsFirstByte (is_byte 10) v.pending None → size ≡ length v.pending → size ≢ 0
    → line ≡ without_cr v.pending → (length line == 0) ≡ false
    → IsLawful v.limits (v.given + 1) v.taken (take size v.pending)
    → v.given < v.limits.records → v.taken + size ≤ v.limits.bytes
    → w ≡ given_of v (without_cr (take size v.pending)) size → GoesUnread v (Ok Line) w
last-unread {R} v w line size no_fault ended unended is some cut long lawful records bytes state =
    let Given : Reader R → Type 0 = λ r. GivesLine v r in
    let all : take size v.pending ≡ v.pending = ap (λ n. take n v.pending) is ∙ take-length v.pending in
    let left = length-drop size v.pending in
    let here : IsLawful v.limits (v.given + 1) v.taken v.pending = subst (λ zs. IsLawful v.limits (v.given + 1) v.taken zs) all lawful in
    line-unread v w (subst Given (sym state) (record {
      gives = gives-line v _ _ size refl (last-given v v.pending line size ended unended refl is cut long lawful);
      within = rw all (
        last-short v.limits (v.given + 1) v.taken v.pending (omega (arith, is, some)) unended here,
        last-free v.pending unended,
        omega (arith, records),
      );
      needless = λ needs. let both : true ≡ false = sym ended ∙ needs.going in cc;
      going = λ over. let none = ap length over.handed_out in absurd (omega (arith, is, some, none));
      unread = (refl, refl, drop-all (drop size v.pending) (length v.pending) (length-drop_le size v.pending));
      no_fault = no_fault;
      nears = omega (arith, left, is, some, bytes);
      limits = refl;
      taken = bytes;
    }))
