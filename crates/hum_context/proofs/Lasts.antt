-- How many records stand before the first that is refused.
use Rattle.std.proofs.Common.{◌≡◌, ◌∙◌, refl, sym, ap, ℕ, ◌+◌, ◌<◌, Bool, true, false}
use Rattle.std.proofs.Common.{List, [], ◌∷◌, ◌++◌, length, drop, length-append, append_assoc, arith, cond}
use Rattle.std.specs.Prelude.{Ok, Err}
use Rattle.hum_score.specs.declared.records.SpinedKind.TheVariants.{Values}
use Rattle.hum_score.specs.Row.{Row, Spined, tokens_of}
use Rattle.hum_score.specs.Score.{path_after, passed}
use Rattle.hum_stage.specs.declared.faults.Rule.TheVariants.{L1}
use Rattle.hum_stage.specs.Order.{passed-push}
use Rattle.hum_stage.specs.Settles.{lasting, or_stop}
use Rattle.hum_context.specs.declared.becoming.Weight.{Weight}
use Rattle.hum_context.specs.declared.becoming.Weight.TheVariants.{Undecided, Long, Fits}
use Rattle.hum_context.specs.declared.queued.Queued.{Queued}
use Rattle.hum_context.specs.Context.{Choice, context, all_some, new_tokens}
use Rattle.hum_score.specs.InOrder.{through}
use Rattle.hum_context.specs.Memory.{knows_each}
use Rattle.hum_context.specs.Queue.{Knows}
use Rattle.hum_context.specs.Walking.{Weighs}
use Rattle.hum_context.proofs.Growth.{path_passed}
use Rattle.hum_context.proofs.Queues.{knows_drop, no_more}
use Rattle.hum_context.proofs.Weighing.{fits_is, long_is}
use Rattle.hum_context.proofs.Following.{undecided, decided_by}

-- whether it is refused, by the weight of its new tokens
abbrev pub is_long : Weight → Bool
is_long Long = true
is_long Undecided = false
is_long Fits = false

pub stops_by : (o : Choice) (past : List Row) (row : Row) (rows : List Row) (weight : Weight) (n : ℕ)
    → row ≡ Spined Values (tokens_of row)
    → Weighs (all_some (new_tokens o (path_after past) (Spined Values (tokens_of row)) rows 0
    (tokens_of row))) weight
    → or_stop (context o past row rows) n ≡ cond (is_long weight) 0 (n + 1)
stops_by o past row rows Undecided n is h = ap (λ d. or_stop d n) (undecided o past row rows is h)
stops_by o past row rows Long n is h = ap (λ d. or_stop d n)
    (decided_by o past row rows h.0 (Err L1) is h.1 (long_is h.0 h.2))
stops_by o past row rows Fits n is h = ap (λ d. or_stop d n)
    (decided_by o past row rows h.0 (Ok (Spined Values h.0 ∷ [])) is h.1 (fits_is h.0 h.2))

-- none of the first so many is
pub record Sound (o : Choice) (past rows : List Row) (k : ℕ) : Type 0 where
  pub front : List Row
  pub rest : List Row
  pub split : rows ≡ front ++ rest
  pub long : length front ≡ k
  pub is : lasting (context o) past rows ≡ k + lasting (context o) (passed past front) rest

-- the k-th record, with those behind it
pub record Here (o : Choice) (past rows : List Row) (k : ℕ) (held : List Queued) : Type 0 where
  pub before : List Row
  pub row : Row
  pub behind : List Row
  pub knows : Knows o (path_after before) (drop k held) (row ∷ behind)
  pub is : lasting (context o) past rows
      ≡ k + or_stop (context o before row behind) (lasting (context o) (row ∷ before) behind)
  pub next : or_stop (context o before row behind) (lasting (context o) (row ∷ before) behind)
      ≡ lasting (context o) (row ∷ before) behind + 1 → Sound o past rows (k + 1)

pub here_at : (o : Choice) (past rows : List Row) (k : ℕ) (held : List Queued)
    → Knows o (path_after past) held rows → Sound o past rows k → k < length held
    → Here o past rows k held
here_at o past rows k held knows h below = by h.rest refl
  where
    left : Knows o (through (path_after past) h.front) (drop (length h.front) held) h.rest
    left = knows_drop o (path_after past) held h.front h.rest (rw h.split at knows)

    by : (rest : List Row) → h.rest ≡ rest → Here o past rows k held
    by [] e =
        let size = knows_each o (path_after past) held rows knows in
        let all = ap length h.split in
        let sum = length-append h.front h.rest in
        let none = ap length e in
        let long = h.long in
        absurd (omega (arith, size, all, sum, none, long, below))
    by (row ∷ behind) e =
        let more = passed-push past h.front row in
        record {
          before = passed past h.front;
          row = row;
          behind = behind;
          knows = rw (h.long, e, path_passed past h.front) at left;
          is = h.is ∙ ap (λ (xs : List Row). k + lasting (context o) (passed past h.front) xs) e;
          next = λ one. record {
            front = h.front ++ row ∷ [];
            rest = behind;
            split = h.split ∙ (ap (λ (xs : List Row). h.front ++ xs) e
                ∙ sym (append_assoc h.front (row ∷ []) behind));
            long = let sum = length-append h.front (row ∷ []) in let long = h.long in
                omega (arith, sum, long);
            is = h.is ∙ (ap (λ (xs : List Row). k + lasting (context o) (passed past h.front) xs) e
                ∙ (ap (λ (n : ℕ). k + n) one ∙ rw more (omega arith)));
          };
        }

pub sound_all : (o : Choice) (past rows : List Row) (k : ℕ) (held : List Queued)
    → Knows o (path_after past) held rows → Sound o past rows k → length held ≡ k
    → k ≡ lasting (context o) past rows
sound_all o past rows k held knows h e =
    let size = knows_each o (path_after past) held rows knows in
    let all = ap length h.split in
    let sum = length-append h.front h.rest in
    let long = h.long in
    let none = no_more h.rest (omega (arith, size, all, sum, long, e)) in
    sym (h.is ∙ (ap (λ (xs : List Row). k + lasting (context o) (passed past h.front) xs) none
    ∙ omega arith))
