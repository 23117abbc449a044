-- A worked plan: a source of three numbers, each read by one byte, and a stage that gives each number
-- twice, over links of one record. Who is ready, what a turn does, and how many turns there are.
use Rattle.std.proofs.Common.{◌≡◌, ◌≢◌, ℕ, zero, suc, Bool, true, false, if◌then◌else◌, nat_lt}
use Rattle.std.proofs.Common.{List, [], ◌∷◌, take, Option, Some, None, refl, arith}
use Rattle.hum_stage.specs.declared.faults.End.{End}
use Rattle.hum_stage.specs.declared.faults.End.TheVariants.{Closed}
use Rattle.hum_turns.specs.Flow.{Flow}
use Rattle.hum_turns.specs.Plan.{Want, Bytes, Source, Nothing, Stage, Plan}
use Rattle.hum_turns.specs.Links.{Link, Moment, fresh}
use Rattle.hum_turns.specs.Turns.{Takes, Ends, state, Step}
use Rattle.hum_turns.specs.Counts.{most, most_in_all, all_done, bound}
use Rattle.hum_turns.specs.Failures.{Now}
use Rattle.hum_turns.specs.Orders.{ready_list}

-- The stages.

abbrev one_to_three : List ℕ
one_to_three = 1 ∷ 2 ∷ 3 ∷ []

abbrev unread : ℕ → Want
unread read = if nat_lt read 4 then Bytes else Nothing

-- three bytes and their end
abbrev numbers : Stage ℕ
numbers = record {
  sources = [];
  bytes = 4;
  output = λ read inputs. take read one_to_three;
  wants = λ read inputs. unread read;
  own = λ read inputs. Closed;
}

abbrev twice : List ℕ → List ℕ
twice [] = []
twice (x ∷ xs) = x ∷ x ∷ twice xs

abbrev items_of : List (Flow ℕ) → List ℕ
items_of [] = []
items_of (a ∷ rest) = a.items

abbrev until : Option End → Want
until None = Source 0
until (Some e) = Nothing

-- what comes from its one input, until that is over
abbrev wants_one : List (Flow ℕ) → Want
wants_one [] = Nothing
wants_one (a ∷ []) = until a.end
wants_one (a ∷ b ∷ rest) = Source 0

abbrev doubled : ℕ → Stage ℕ
doubled source = record {
  sources = source ∷ [];
  bytes = 0;
  output = λ read inputs. twice (items_of inputs);
  wants = λ read inputs. wants_one inputs;
  own = λ read inputs. Closed;
}

abbrev stages : ℕ → Stage ℕ
stages zero = numbers
stages (suc k) = doubled k

abbrev worked : Plan ℕ
worked = record { count = 2; stage = stages; fine = λ flow. true }

-- Its turns, one after another: the links of stages 0 and 1, and who is ready. Actor 2 is the sink.

abbrev with_links : Link ℕ → Link ℕ → Moment ℕ
with_links a b zero = a
with_links a b (suc zero) = b
with_links a b (suc (suc k)) = fresh

abbrev moment : Link ℕ → Link ℕ → Now ℕ
moment a b = record { links = with_links a b; part = []; failure = None }

abbrev who : Link ℕ → Link ℕ → List Bool
who a b = ready_list worked 1 (moment a b)

abbrev link : ℕ → List ℕ → List ℕ → Link ℕ
link read taken waiting = record fresh { read = read; taken = taken; waiting = waiting }

-- at first the source alone
at_first : who fresh fresh ≡ true ∷ false ∷ false ∷ []
at_first = refl

-- its link is full, so stage 1 alone
after_read : who (link 1 [] (1 ∷ [])) fresh ≡ false ∷ true ∷ false ∷ []
after_read = refl

-- stage 1 has taken, so it gives, and the source has room
after_take : who (link 1 (1 ∷ []) []) fresh ≡ true ∷ true ∷ false ∷ []
after_take = refl

-- stage 1 has given and its link is full, so the sink takes
after_give : who (link 1 (1 ∷ []) []) (link 0 [] (1 ∷ [])) ≡ true ∷ false ∷ true ∷ []
after_give = refl

-- the source has set its end, which stage 1 has heard: it sets its own
abbrev source_over : Link ℕ
source_over = record {
  read = 4;
  taken = one_to_three;
  waiting = [];
  mark = Some Closed;
  heard = Some Closed;
}

abbrev all_given : List ℕ → List ℕ → Option End → Link ℕ
all_given taken waiting mark =
    record { read = 0; taken = taken; waiting = waiting; mark = mark; heard = None }

at_the_mark : who source_over (all_given (1 ∷ 1 ∷ 2 ∷ 2 ∷ 3 ∷ []) (3 ∷ []) None)
    ≡ false ∷ true ∷ true ∷ []
at_the_mark = refl

-- what each is about to do there
ends_next : state worked (with_links source_over (all_given (1 ∷ 1 ∷ 2 ∷ 2 ∷ 3 ∷ []) (3 ∷ []) None)) 1
    ≡ Ends
ends_next = refl

takes_next : state worked (with_links fresh fresh) 2 ≡ Takes 1
takes_next = refl

-- a run that has ended has no ready actor
when_over : ready_list worked 1 (moment source_over (record source_over { taken = [] }))
    ≡ false ∷ false ∷ false ∷ []
when_over = refl

-- A turn: stage 1 takes 1 from the source's link.

a_turn : Step worked 1 1 (with_links (link 1 [] (1 ∷ [])) fresh)
    (with_links (link 1 (1 ∷ []) []) fresh)
a_turn = record {
  within = omega arith;
  is_ready = refl;
  turns = record { here = refl; elsewhere = same };
}
  where
    same : (i : ℕ) → i ≢ 0
        → with_links (link 1 (1 ∷ []) []) fresh i ≡ with_links (link 1 [] (1 ∷ [])) fresh i
    same zero other = absurd (other refl)
    same (suc zero) other = refl
    same (suc (suc i)) other = refl

-- How many turns: 3 bytes, 3 records and 2; 3 records put, 6 given, one input and 1; 6 written and 1.

source_most : most worked (all_done worked) 0 ≡ 8
source_most = refl

stage_most : most worked (all_done worked) 1 ≡ 11
stage_most = refl

sink_most : most worked (all_done worked) 2 ≡ 7
sink_most = refl

plan_most : bound worked ≡ 26
plan_most = refl

-- of a moment, by what has moved so far
so_far_most : most_in_all worked (with_links (link 2 (1 ∷ []) (2 ∷ [])) (link 0 [] (1 ∷ []))) ≡ 11
so_far_most = refl
