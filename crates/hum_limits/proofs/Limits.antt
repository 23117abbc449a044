-- The limits, by their numbers.
use Rattle.std.proofs.Common.{◌≡◌, ◌≢◌, ◌∙◌, refl, sym, ℕ, ◌<◌, ◌≤◌, ◌↔◌, true, false, nat_lt, nat_le, take, List, [], ◌∷◌, length, arith}
use Rattle.std.specs.Prelude.{if◌then◌else◌, Option, None, Some, Result, Ok, Err}
use Rattle.std.specs.Str.{is_utf8}
use Rattle.std.specs.Str.Lossy.{utf8_valid_len}
use Rattle.std.proofs.lemmas.Bool.Decides.{nat_tests}
use Rattle.hum_score.specs.Row.{Row, text_of}
use Rattle.hum_score.proofs.Cases.{by_bool}
use Rattle.hum_words.specs.declared.text.PlanTextFault.{PlanTextFault}
use Rattle.hum_words.specs.declared.text.PlanTextFault.TheVariants.{TooLong, NotUtf8}
use Rattle.hum_words.specs.Text.{line_behind, fault_of}
use Rattle.hum_record.specs.Building.{spelled}
use Rattle.hum_stage.specs.declared.faults.Rule.{Rule}
use Rattle.hum_stage.specs.declared.faults.Rule.TheVariants.{A1, L1, L2}
use Rattle.hum_context.specs.Context.{context}
use Rattle.hum_context.specs.Options as context_options
use Rattle.hum_yank.specs.Yank.{yank}
use Rattle.hum_yank.specs.Options as yank_options
use Rattle.hum_limits.specs.Limits.{RecordsAreShort, RecordsAreFew, SpinesAreFew, WaitsAreShort, PlansAreShort, NumbersAreSmall, ScoresAreSmall}

-- a test that is met, or isn't
less_so : (a b : ℕ) → nat_lt a b ≡ true → a < b
less_so a b w = grind (arith, nat_tests, w)

less_not : (a b : ℕ) → nat_lt a b ≡ false → ¬ (a < b)
less_not a b w h = absurd (grind (arith, nat_tests, w, h))

at_most_so : (a b : ℕ) → nat_le a b ≡ true → a ≤ b
at_most_so a b w = grind (arith, nat_tests, w)

at_most_not : (a b : ℕ) → nat_le a b ≡ false → ¬ (a ≤ b)
at_most_not a b w h = absurd (grind (arith, nat_tests, w, h))

-- one of two answers, by such a test
by_less : {X : Type 0} (a b : ℕ) (met other : X) → other ≢ met → ((if nat_lt a b then met else other) ≡ met) ↔ (a < b)
by_less a b met other apart = by_bool (nat_lt a b)
    (λ w. (λ e. less_so a b w, λ h. rw w refl))
    (λ w. (λ e. absurd (apart (rw w at e)), λ h. absurd (less_not a b w h)))

by_most : {X : Type 0} (a b : ℕ) (met other : X) → other ≢ met → ((if nat_le a b then met else other) ≡ met) ↔ (a ≤ b)
by_most a b met other apart = by_bool (nat_le a b)
    (λ w. (λ e. at_most_so a b w, λ h. rw w refl))
    (λ w. (λ e. absurd (apart (rw w at e)), λ h. absurd (at_most_not a b w h)))

-- ---- records

-- the rules of a record of several scores
abbrev merged_rule : ℕ → ℕ → ℕ → Option Rule
merged_rule spines bytes given =
    if nat_lt 4096 spines then Some A1 else if nat_lt 1048576 bytes then Some L1 else if nat_le 4294967295 given then Some L2 else None

abbrev rest_rule : ℕ → ℕ → Option Rule
rest_rule bytes given = if nat_lt 1048576 bytes then Some L1 else if nat_le 4294967295 given then Some L2 else None

abbrev last_rule : ℕ → Option Rule
last_rule given = if nat_le 4294967295 given then Some L2 else None

last_not : (given : ℕ) (rule : Rule) → L2 ≢ rule → last_rule given ≢ Some rule
last_not given rule apart e = by_bool (nat_le 4294967295 given)
    (λ w. apart (same (rw w at e)))
    (λ w. none (rw w at e))
  where
    same : ◌≡◌ {A = Option Rule} (Some L2) (Some rule) → L2 ≡ rule
    same e = cc

    none : ◌≡◌ {A = Option Rule} None (Some rule) → ⊥
    none e = cc

rest_not : (bytes given : ℕ) → rest_rule bytes given ≢ Some A1
rest_not bytes given e = by_bool (nat_lt 1048576 bytes)
    (λ w. apart (rw w at e))
    (λ w. last_not given A1 (λ v. cc) (rw w at e))
  where
    apart : ◌≡◌ {A = Option Rule} (Some L1) (Some A1) → ⊥
    apart e = cc

few_spines : (spines bytes given : ℕ) → spines ≤ 4096 → merged_rule spines bytes given ≡ rest_rule bytes given
few_spines spines bytes given h = by_bool (nat_lt 4096 spines)
    (λ w. absurd (let less = less_so 4096 spines w in omega (arith, less, h)))
    (λ w. rw w refl)

short : (bytes given : ℕ) → bytes ≤ 1048576 → rest_rule bytes given ≡ last_rule given
short bytes given h = by_bool (nat_lt 1048576 bytes)
    (λ w. absurd (let less = less_so 1048576 bytes w in omega (arith, less, h)))
    (λ w. rw w refl)

iff_by : {X : Type 0} {a b y : X} {P : Type 0} → a ≡ b → (b ≡ y) ↔ P → (a ≡ y) ↔ P
iff_by e h = (λ w. h.0 (sym e ∙ w), λ p. e ∙ h.1 p)

pub records_short : RecordsAreShort
records_short = record {
  filled = λ row. by_most (length (text_of row)) 1048576 (Ok (row ∷ [])) (Err L1) (λ e. refused row e);
  cleaved = λ kind tokens. by_less 1048576 (length (spelled tokens)) (Err L1) (Ok _) (λ e. cc);
  merged = λ spines bytes given h. iff_by (few_spines spines bytes given h)
      (by_less 1048576 bytes (Some L1) (last_rule given) (last_not given L1 (λ v. cc)));
}
  where
    refused : (row : Row) → ◌≡◌ {A = Result (List Row) Rule} (Err L1) (Ok (row ∷ [])) → ⊥
    refused row e = cc

pub records_few : RecordsAreFew
records_few = record {
  decided = λ stage command decide p. refl;
  merged = λ spines bytes given h short_enough. iff_by (few_spines spines bytes given h ∙ short bytes given short_enough)
      (by_most 4294967295 given (Some L2) None (λ e. cc));
}

pub spines_few : SpinesAreFew
spines_few spines bytes given = by_less 4096 spines (Some A1) (rest_rule bytes given) (rest_not bytes given)

-- ---- waiting

pub waits_short : WaitsAreShort
waits_short = record {
  contexts = λ n options. (context (context_options.choice_of options), refl);
  passages = λ n options. (yank (yank_options.choice_of options), refl);
}

-- ---- plans and bundles

-- what is told of bytes that aren't too many
abbrev otherwise : List ℕ → Option PlanTextFault
otherwise bytes = if is_utf8 bytes then None else Some (NotUtf8 (line_behind (take (utf8_valid_len bytes) bytes)))

otherwise_not : (bytes : List ℕ) → otherwise bytes ≢ Some TooLong
otherwise_not bytes e = by_bool (is_utf8 bytes) (λ w. none (rw w at e)) (λ w. other (rw w at e))
  where
    none : ◌≡◌ {A = Option PlanTextFault} None (Some TooLong) → ⊥
    none e = cc

    other : {line : ℕ} → ◌≡◌ {A = Option PlanTextFault} (Some (NotUtf8 line)) (Some TooLong) → ⊥
    other e = cc

too_long : (bytes : List ℕ) → (fault_of bytes ≡ Some TooLong) ↔ (65536 < length bytes)
unfolding fault_of
too_long bytes = by_less 65536 (length bytes) (Some TooLong) (otherwise bytes) (otherwise_not bytes)

pub plans_short : PlansAreShort
plans_short = record {
  plan = too_long;
  bundle = λ bytes. (less_so 67108864 (length bytes), λ h. grind (arith, nat_tests, h));
}

-- ---- numbers

pub numbers_small : NumbersAreSmall
numbers_small = record {
  count = λ n. (λ h. (h.above, h.number.within), λ h. record { number = record { digits = refl; within = h.1 }; above = h.0 });
  passage = λ n. (λ h. h.within, λ h. record { digits = refl; within = h });
  distance = λ n. (λ h. (h.above, h.number.within), λ h. record { number = record { digits = refl; within = h.1 }; above = h.0 });
  marked = λ n. by_most n 4294967295 (Some n) None (λ e. cc);
}

pub scores_small : ScoresAreSmall
scores_small = record { line = refl; records = refl; bytes = refl; read = refl }
