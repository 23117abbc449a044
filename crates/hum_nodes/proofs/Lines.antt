-- How lines are read one after another: as records, until one is refused.
use Rattle.std.proofs.lemmas.Bool.Decides.{nat_tests}
use Rattle.std.proofs.Common.{◌≡◌, ◌∙◌, refl, sym, ap, ℕ, ◌+◌, ◌≤◌, Bool, true, false, List, [], ◌∷◌, ◌++◌, length}
use Rattle.std.proofs.Common.{arith, Option, Some, None, Result, Ok, Err, append-nil, length-append}
use Rattle.std.specs.Prelude.{not, is_some, IfSome}
use Rattle.std.specs.List.{find, list_all}
use Rattle.std.proofs.lemmas.List.{nil_from_length}
use Rattle.hum_score.specs.declared.records.RecordFault.{RecordFault}
use Rattle.hum_score.specs.declared.records.RecordFault.TheVariants as of_record
use Rattle.hum_score.specs.declared.records.SpinedKind.TheVariants.{Local, Interpretation, Values}
use Rattle.hum_score.specs.Row.{Row, Comment, Spined}
use Rattle.hum_score.specs.Spelling.{reading}
use Rattle.hum_score.specs.Spines.{Path, after}
use Rattle.hum_score.specs.Rules.{breaks, breaks_as_text, in_order, is_unfinished, fault_of as path_fault_of}
use Rattle.hum_stage.specs.declared.faults.Rule.{Rule}
use Rattle.hum_stage.specs.declared.faults.Rule.TheVariants as rule
use Rattle.hum_score.specs.InOrder.{through}
use Rattle.hum_text.specs.declared.TextFault.{TextFault}
use Rattle.hum_read.specs.Denoted.{Score, read_after, on_spines, before, broken_at, closed, ending, denoted, text_rule}
use Rattle.hum_read.specs.Denoted.{record_rule, path_rule}
use Rattle.hum_read.specs.Reading.{ahead}
use Rattle.hum_nodes.specs.Settled.{denoted_so_far, ending_so_far}

-- The rules of a text's size.
abbrev pub is_limit : Rule → Bool
is_limit rule.S2 = true
is_limit rule.S3 = true
is_limit rule.S7 = true
is_limit _ = false

abbrev pub limits : Option Rule → Bool
limits None = false
limits (Some r) = is_limit r

abbrev pub limits_at : Option (ℕ × Rule) → Bool
limits_at None = false
limits_at (Some x) = is_limit x.1

-- A line breaks a rule, and none of these.
abbrev pub of_line : Option Rule → Bool
of_line None = false
of_line (Some r) = not (is_limit r)

record_rules : (f : RecordFault) → (f ≡ of_record.Memory → ⊥) → of_line (record_rule f) ≡ true
record_rules f other = grind (arith, other)

no_memory : (line : List ℕ) → reading line ≡ Err of_record.Memory → ⊥
no_memory line h = grind (arith, h)

found : {X : Type 0} (p test : X → Bool) (xs : List X) → list_all p xs ≡ true → IfSome (find test xs) (λ x. p x ≡ true)
found p test [] all = tt
found p test (x ∷ xs) all = grind (arith, found p test xs, all)

path_rules : (path : Path) (row : Row) → IfSome (path_fault_of path row) (λ f. of_line (path_rule f) ≡ true)
path_rules path (Comment t) = tt
path_rules path (Spined Interpretation ts) = found (λ f. of_line (path_rule f)) (breaks path ts) in_order refl
path_rules path (Spined Local ts) = found (λ f. of_line (path_rule f)) (breaks_as_text path ts) in_order refl
path_rules path (Spined Values ts) = found (λ f. of_line (path_rule f)) (breaks_as_text path ts) in_order refl

line_rules : (path : Path) (line : List ℕ) (o : Option Rule) → read_after path line ≡ Err o → of_line o ≡ true
line_rules path line o h = by (reading line) refl h
  where
    by : (read : Result Row RecordFault) → reading line ≡ read → on_spines path read ≡ Err o → of_line o ≡ true
    by (Ok row) is e = grind (arith, path_rules path row, e)
    by (Err f) is e = grind (arith, nat_tests, record_rules, no_memory)

-- What comes behind records that were read: what follows the lines, or the rule that one breaks.
abbrev pub behind : Option (ℕ × Option Rule) → Score → Score
behind None rest = rest
behind (Some (line, o)) rest = broken_at line o

-- Lines are read as these records, and then comes what follows them; or one is refused, and nothing
-- comes behind it.
pub record Reads (path : Path) (n : ℕ) (ls : List (List ℕ)) : Type 0 where
  pub rows : List Row
  pub stop : Option (ℕ × Option Rule)
  pub named : IfSome stop (λ x. of_line x.1 ≡ true)
  pub few : length rows ≤ length ls
  pub all : stop ≡ None → length rows ≡ length ls
  pub k : ℕ
  pub whole : (more : List (List ℕ)) (broken : Option (ℕ × TextFault))
      → denoted path n (ls ++ more) broken ≡ ahead rows (behind stop (denoted (through path rows) k more broken))
  pub front : (more : List (List ℕ)) (broken : Option (ℕ × TextFault))
      → denoted_so_far path n (ls ++ more) broken
      ≡ ahead rows (behind stop (denoted_so_far (through path rows) k more broken))

pub reads : (path : Path) (n : ℕ) (ls : List (List ℕ)) → Reads path n ls
reads path n [] = record {
  rows = [];
  stop = None;
  named = tt;
  few = omega arith;
  all = λ e. refl;
  k = n;
  whole = λ more broken. refl;
  front = λ more broken. refl;
}
reads path n (line ∷ ls) = by (read_after path line) refl (λ row. reads (after path row) (n + 1) ls)
  where
    by : (r : Result Row (Option Rule)) → read_after path line ≡ r
        → ((row : Row) → Reads (after path row) (n + 1) ls) → Reads path n (line ∷ ls)
    by (Err o) is rest = record {
      rows = [];
      stop = Some (n + 1, o);
      named = line_rules path line o is;
      few = omega arith;
      all = λ e. cc;
      k = n;
      whole = λ more broken. rw is refl;
      front = λ more broken. rw is refl;
    }
    by (Ok row) is rest =
        let r = rest row in
        record {
          rows = row ∷ r.rows;
          stop = r.stop;
          named = r.named;
          few = omega (arith, r.few);
          all = λ e. omega (arith, r.all e);
          k = r.k;
          whole = λ more broken. rw is (ap (before row) (r.whole more broken));
          front = λ more broken. rw is (ap (before row) (r.front more broken));
        }

-- the same where nothing follows
pub whole_alone : (path : Path) (n : ℕ) (ls : List (List ℕ)) (broken : Option (ℕ × TextFault))
    → (let r = reads path n ls in
    denoted path n ls broken ≡ ahead r.rows (behind r.stop (ending (through path r.rows) r.k broken)))
whole_alone path n ls broken = rw (append-nil ls) at ((reads path n ls).whole [] broken)

pub front_alone : (path : Path) (n : ℕ) (ls : List (List ℕ)) (broken : Option (ℕ × TextFault))
    → (let r = reads path n ls in denoted_so_far path n ls broken ≡ ahead r.rows (behind r.stop (ending_so_far broken)))
front_alone path n ls broken = rw (append-nil ls) at ((reads path n ls).front [] broken)

-- At the end as before it, where the text is broken.
pub broken_same : (path : Path) (n : ℕ) (ls : List (List ℕ)) (x : ℕ × TextFault)
    → denoted path n ls (Some x) ≡ denoted_so_far path n ls (Some x)
broken_same path n ls (m, f) = whole_alone path n ls (Some (m, f)) ∙ sym (front_alone path n ls (Some (m, f)))

-- A rule that is named is told.

pub broken_some : (line : ℕ) (o : Option Rule) → is_some o ≡ true → (broken_at line o).fault ≡ None → ⊥
broken_some line o some h = grind (arith, some, h)

never_stopped : (stop : Option (ℕ × Option Rule)) (rest : Score) → IfSome stop (λ x. of_line x.1 ≡ true)
    → (behind stop rest).fault ≡ None → stop ≡ None
never_stopped stop rest named h = grind (arith, named, h)

pub broken_told : (path : Path) (n : ℕ) (ls : List (List ℕ)) (m : ℕ) (f : TextFault) → is_some (text_rule f) ≡ true
    → (denoted_so_far path n ls (Some (m, f))).fault ≡ None → ⊥
broken_told = grind (arith, nat_tests, reads, front_alone, never_stopped, broken_some)

pub none_more : (path : Path) (n : ℕ) (ls : List (List ℕ)) → (denoted_so_far path n ls None).fault ≡ None
    → (denoted_so_far path n ls None).rows ≡ [] → ls ≡ []
none_more path n ls h none =
    let r = reads path n ls in
    let e = front_alone path n ls None in
    let stop = never_stopped r.stop closed r.named (ap (λ (s : Score). s.fault) (sym e) ∙ h) in
    let rows = sym (ap (λ (s : Score). s.rows) e) ∙ none in
    nil_from_length ls
    (omega (arith, r.all stop, length-append r.rows (behind r.stop closed).rows, ap length rows))

-- What lines denote is no more than a record a line, and breaks no rule of size but the text's. Where no
-- rule is broken, no spine is open.

pub broken_limits : (line : ℕ) (o : Option Rule) → limits_at (broken_at line o).fault ≡ limits o
broken_limits line o = grind arith

no_rows : (path : Path) (k : ℕ) (broken : Option (ℕ × TextFault)) (stop : Option (ℕ × Option Rule))
    → (behind stop (ending path k broken)).rows ≡ []
no_rows path k broken stop = grind arith

pub row_a_line : (path : Path) (n : ℕ) (ls : List (List ℕ)) (broken : Option (ℕ × TextFault))
    → length (denoted path n ls broken).rows ≤ length ls
row_a_line = grind (arith, nat_tests, reads, whole_alone, no_rows, append-nil)

pub denoted_limits : (path : Path) (n : ℕ) (ls : List (List ℕ)) (broken : Option (ℕ × TextFault))
    → ((m : ℕ) (f : TextFault) → broken ≡ Some (m, f) → limits (text_rule f) ≡ false)
    → limits_at (denoted path n ls broken).fault ≡ false
denoted_limits path n ls broken small =
    let r = reads path n ls in
    rw (whole_alone path n ls broken) (by (through path r.rows) r.k broken r.stop r.named small)
  where
    by : (path : Path) (k : ℕ) (broken : Option (ℕ × TextFault)) (stop : Option (ℕ × Option Rule))
        → IfSome stop (λ x. of_line x.1 ≡ true)
        → ((m : ℕ) (f : TextFault) → broken ≡ Some (m, f) → limits (text_rule f) ≡ false)
        → limits_at (behind stop (ending path k broken)).fault ≡ false
    by path k None stop named small = grind (arith, named)
    by path k (Some (m, f)) stop named small = grind (arith, named, small m f refl)

pub denoted_closed : (path : Path) (n : ℕ) (ls : List (List ℕ)) (broken : Option (ℕ × TextFault))
    → ((m : ℕ) (f : TextFault) → broken ≡ Some (m, f) → is_some (text_rule f) ≡ true)
    → (denoted path n ls broken).fault ≡ None → is_unfinished (through path (denoted path n ls broken).rows) ≡ false
denoted_closed path n ls broken named h =
    let r = reads path n ls in
    let e = whole_alone path n ls broken in
    let told = ap (λ (s : Score). s.fault) (sym e) ∙ h in
    let stop = never_stopped r.stop (ending (through path r.rows) r.k broken) r.named told in
    rw (e, no_rows (through path r.rows) r.k broken r.stop, append-nil r.rows)
    (by (through path r.rows) r.k broken named (rw stop at told))
  where
    by : (path : Path) (k : ℕ) (broken : Option (ℕ × TextFault))
        → ((m : ℕ) (f : TextFault) → broken ≡ Some (m, f) → is_some (text_rule f) ≡ true)
        → (ending path k broken).fault ≡ None → is_unfinished path ≡ false
    by path k None named e = grind (arith, e)
    by path k (Some (m, f)) named e = grind (arith, named m f refl, e)
