-- What the calls of an assembler need of what it stands for.
use Rattle.std.proofs.lemmas.Grind.{common_steps}
use Rattle.std.proofs.lemmas.Bool.Decides.{nat_tests}
use Rattle.std.proofs.Common.{◌≡◌, ◌∙◌, refl, sym, ap, subst, ℕ, zero, suc, ◌+◌, ◌<◌, ◌⊎◌}
use Rattle.std.proofs.Common.{inl, inr, Bool, true, false, List, [], ◌∷◌, ◌++◌, length}
use Rattle.std.proofs.Common.{arith, map, get_or, set, take, replicate}
use Rattle.std.specs.Prelude.{IfSome, Option}
use Rattle.std.specs.Prelude.{None, Some}
use Rattle.std.specs.Prelude.{slice_get}
use Rattle.hum_score.specs.Row.{Row}
use Rattle.hum_score.specs.Spines.{Path, Unopened, after as path_of}
use Rattle.hum_score.specs.Rules.{fault_of}
use Rattle.hum_stage.specs.declared.faults.End as end
use Rattle.hum_assemble.specs.declared.places.Place.{Place}
use Rattle.hum_assemble.specs.declared.places.Next as next
use Rattle.hum_assemble.specs.declared.places.Next.TheVariants.{Gives, Refused, Wants}
use Rattle.hum_assemble.specs.declared.places.Next.TheVariants.{Over as NothingMore}
use Rattle.hum_assemble.specs.Source.{Source}
use Rattle.hum_assemble.specs.Head.{AllLawful}
use Rattle.hum_assemble.specs.Change.{IsOpenInput}
use Rattle.hum_assemble.specs.Source.{untouched}
use Rattle.hum_assemble.specs.Standing.{IsTold, state_by}
use Rattle.hum_stage.specs.Meaning.{readiness_by}
use Rattle.hum_assemble.specs.Meaning.{state_of, held_at, held_by, waiting_at, waiting_by, HasGrown}
use Rattle.hum_assemble.proofs.Standings.{state_stands, held_stands, waiting_stands}
use Rattle.hum_assemble.proofs.Reaching.{output_grows}
use Rattle.hum_assemble.specs.Change.{Change, More, Ends, changed_at, IsOpenAt, Input}
use Rattle.hum_assemble.specs.Merge.{Merge, ahead, ahead_at, given_row, given_on, moved}
use Rattle.hum_assemble.specs.Merge.{all_moved, spines}
use Rattle.hum_assemble.specs.Round.{any_due, takes, still_free, earliest}
use Rattle.hum_assemble.specs.Meaning.{opening, begun, ends, Moment, after, after_take, all_of}
use Rattle.hum_assemble.specs.Meaning.{wants_of, put_of, MayPut, MayEnd, empty_moment, is_stopped}
use Rattle.hum_score.specs.InOrder.{Follow, through}
use Rattle.hum_assemble.specs.Standing.{Reaches, Standing, wants_by}
use Rattle.hum_assemble.proofs.Steps.{is_giving, lost_given}
use Rattle.hum_assemble.proofs.Growing.{changed_in}
use Rattle.hum_assemble.proofs.Standings.{WaitsAt, waits_at, wants_stands, put_dropped, put_kept}
use Rattle.hum_assemble.proofs.Standings.{end_stands, take_gives, take_none, wanted_is}
use Rattle.hum_assemble.proofs.Standings.{stopped_rests, OpenIn, same_ends, open_wanted, open_at}

pub waits_within : (k : ℕ) (ss : List Source) → WaitsAt k ss → k < length ss
waits_within (suc k) (s ∷ ss) w = let i = waits_within k ss w in omega (arith, i)
waits_within k ss h = grind (arith, common_steps)

pub waits_empty : (k : ℕ) (ss : List Source) (s : Source) → WaitsAt k ss → s ≡ get_or ss k s
    → s.coming ≡ []
waits_empty (suc k) (x ∷ ss) s w e = waits_empty k ss s w e
waits_empty k ss s h w = grind (arith, common_steps)

pub set_more : (k : ℕ) (ss : List Source) (s s' : Source) (row : Row) → WaitsAt k ss
    → s ≡ get_or ss k s → s' ≡ record s { coming = row ∷ [] }
    → set ss k s' ≡ changed_at k (More row) ss
set_more (suc k) (x ∷ ss) s s' row w e f = ap (λ (ys : List Source). x ∷ ys) (set_more k ss s s' row w e f)
set_more k ss s s' row h w e = grind (arith, common_steps)

pub set_end : (k : ℕ) (ss : List Source) (s s' : Source) (e : end.End) → s ≡ get_or ss k s
    → s' ≡ record s { ended = Some e } → set ss k s' ≡ changed_at k (Ends e) ss
set_end (suc k) (y ∷ ss) s s' x e f = ap (λ (zs : List Source). y ∷ zs) (set_end k ss s s' x e f)
set_end k ss s s' e h w = grind (arith, common_steps)

-- The spines after all that was put into each source.
abbrev pub AllPaths : List Input → List Source → Type 0
AllPaths [] [] = Unit {0}
AllPaths [] (s ∷ ss) = ⊥
AllPaths (x ∷ xs) [] = ⊥
AllPaths (x ∷ xs) (s ∷ ss) = (through s.path s.coming ≡ through Unopened x.put) × AllPaths xs ss

moved_path : (b going : Bool) (p : Place) (s : Source)
    → through (moved b going p s).path (moved b going p s).coming ≡ through s.path s.coming
moved_path = grind (arith, nat_tests)

moved_paths : (free going : Bool) (p : Place) (xs : List Input) (ss : List Source) → AllPaths xs ss
    → AllPaths xs (all_moved free going p ss)
moved_paths free going p (x ∷ xs) (s ∷ ss) a = (moved_path (takes free going p s) going p s ∙ a.0, moved_paths (still_free free going p s) going p xs ss a.1)
moved_paths free going p xs ss h = grind (arith, nat_tests)

opening_paths : (xs : List Input) → AllPaths xs (map begun xs)
opening_paths [] = tt
opening_paths (x ∷ xs) = (refl, opening_paths xs)

reached_paths : (n : ℕ) (xs : List Input) (m s : Merge) → AllPaths xs m.sources → Reaches n m s
    → AllPaths xs s.sources
reached_paths zero xs m s a r = rw r at a
reached_paths (suc n) xs m s a r = reached_paths n xs (given_on r.0 m) s (moved_paths true (any_due m.sources) r.0 xs m.sources a) r.2

path_at : (k : ℕ) (xs : List Input) (ss : List Source) (s : Source) → AllPaths xs ss → WaitsAt k ss
    → s ≡ get_or ss k s → s.path ≡ through Unopened (put_of k xs)
path_at k [] [] s a w e = absurd w
path_at k [] (y ∷ ss) s a w e = absurd a
path_at k (x ∷ xs) [] s a w e = absurd w
path_at zero (x ∷ xs) (y ∷ ss) s a w e = let c = w.0 in ap (λ (z : Source). z.path) e ∙ (ap (through y.path) (sym c) ∙ a.0)
path_at (suc k) (x ∷ xs) (y ∷ ss) s a w e = path_at k xs ss s a.1 w e

sound_last : (path : Path) (rows : List Row) (row : Row) → Follow path (rows ++ row ∷ [])
    → fault_of (through path rows) row ≡ None
sound_last path [] row h = h.0
sound_last path (x ∷ xs) row h = sound_last (path_of path x) xs row h.1

waits_not : (a : next.Next) (k : ℕ) → is_stopped a ≡ true → a ≡ Wants k → ⊥
waits_not = grind (arith, nat_tests)

-- A record that is wanted breaks no rule.
pub sound_put : (stage : ℕ) (kept : Merge) (j : ℕ) (row : Row) (s : Source) → ahead kept ≡ Wants j
    → s ≡ get_or kept.sources j s → MayPut (λ t. Standing stage kept false t) j row
    → fault_of s.path row ≡ None
sound_put stage kept j row s e g may =
    let h = may.stand in
    let live : kept ≡ h.at = elim h.keeps [
      | inl x ↦ x
      | inr d ↦ grind (arith, nat_tests, stopped_rests, waits_not)
    ] in
    let a : AllPaths may.at.inputs kept.sources = rw live
    (reached_paths may.at.given may.at.inputs (opening may.at.inputs) h.at (opening_paths may.at.inputs)
    h.reached) in
    let p = path_at j may.at.inputs kept.sources s a (waits_at kept j e) g in
    rw p (sound_last Unopened (put_of j may.at.inputs) row may.score)

-- Nothing is kept where no record is waited for.
put_cases : (stage : ℕ) (kept : Merge) (t : Moment) (j : ℕ) (row : Row) (a : next.Next)
    → ahead kept ≡ a → Standing stage kept false t → wants_of t ≡ Some j
    → ((k : ℕ) → ahead kept ≡ Wants k → ⊥) → Standing stage kept false (after j (More row) t)
put_cases stage kept t j row (Gives p) e h w n = absurd (let s = (ap (wants_by kept) (sym e) ∙ wants_stands stage kept false t h) ∙ w in cc)
put_cases stage kept t j row (Wants k) e h w n = absurd (n k e)
put_cases stage kept t j row (Refused rule) e h w n = put_dropped stage kept t j row h (rw e refl) w
put_cases stage kept t j row NothingMore e h w n = put_dropped stage kept t j row h (rw e refl) w

pub put_other : (stage : ℕ) (kept : Merge) (t : Moment) (j : ℕ) (row : Row)
    → Standing stage kept false t → wants_of t ≡ Some j → ((k : ℕ) → ahead kept ≡ Wants k → ⊥)
    → Standing stage kept false (after j (More row) t)
put_other stage kept t j row h w n = put_cases stage kept t j row (ahead kept) refl h w n

pub not_giving : (a : next.Next) → ((p : Place) → a ≡ Gives p → ⊥) → is_giving a ≡ false
not_giving = grind (arith, nat_tests)

pub open_within : (j : ℕ) (ss : List Source) → IsOpenAt j ss → j < length ss
open_within (suc j) (s ∷ ss) i = let w = open_within j ss i in omega (arith, w)
open_within j ss h = grind (arith, common_steps)

pub end_within : (stage : ℕ) (kept : Merge) (spent : Bool) (j : ℕ) (e : end.End)
    → MayEnd (λ t. Standing stage kept spent t) j e → j < length kept.sources
end_within stage kept spent j e may = open_within j kept.sources (open_at j kept.sources (open_wanted stage kept spent may.at may.stand j may.wants))

pub take_front : (n : ℕ) (xs ys : List Source) → n ≡ length xs → take n (xs ++ ys) ≡ xs
take_front = grind (arith, common_steps)

-- A new assembler.
begun_all : (n : ℕ)
    → map begun (replicate n (record { put = []; ended = None })) ≡ replicate n (record { path = Unopened; due = false; coming = []; ended = None })
begun_all zero = refl
begun_all (suc n) = ap (λ (ss : List Source). record { path = Unopened; due = false; coming = []; ended = None } ∷ ss) (begun_all n)

pub new_stands : (stage n : ℕ) (ss : List Source)
    → ss ≡ replicate n (record { path = Unopened; due = false; coming = []; ended = None })
    → Standing stage (record { sources = ss; given = 0 }) false (empty_moment stage n)
new_stands stage n ss e = grind (arith, nat_tests, begun_all n)

pub not_spent : (stage : ℕ) (kept : Merge) (spent : Bool) (j : ℕ) (row : Row) → spent ≡ false
    → ((spent ≡ true) ⊎ MayPut (λ t. Standing stage kept spent t) j row)
    → MayPut (λ t. Standing stage kept false t) j row
not_spent = grind (arith, nat_tests)

pub alive : (stage : ℕ) (kept : Merge) (spent : Bool) (t : Moment) → spent ≡ false
    → Standing stage kept spent t → Standing stage kept false t
alive stage kept spent t e h = rw e at h

pub with_spent : (stage : ℕ) (kept : Merge) (spent : Bool) (t : Moment) → spent ≡ false
    → Standing stage kept false t → Standing stage kept spent t
with_spent stage kept spent t e h = rw e h

pub within_ahead : (ss : List Source) (given k : ℕ)
    → ahead (record { sources = ss; given = given }) ≡ Wants k → k < length ss
within_ahead ss given k e = waits_within k ss (waits_at (record { sources = ss; given = given }) k e)

pub empty_ahead : (ss : List Source) (given k : ℕ) (s : Source)
    → ahead (record { sources = ss; given = given }) ≡ Wants k → s ≡ get_or ss k s → s.coming ≡ []
empty_ahead ss given k s e g = waits_empty k ss s (waits_at (record { sources = ss; given = given }) k e) g

-- it may be put to the source that is waited for
pub may_here : (stage : ℕ) (kept : Merge) (spent : Bool) (k : ℕ) (row : Row) → spent ≡ false
    → ((spent ≡ true) ⊎ ((j : ℕ) × MayPut (λ t. Standing stage kept spent t) j row))
    → ahead kept ≡ Wants k → MayPut (λ t. Standing stage kept false t) k row
may_here stage kept spent k row f (inl t) e = cc
may_here stage kept spent k row f (inr m) e =
    let may = rw f at m.1 in
    subst (λ (i : ℕ). MayPut (λ t. Standing stage kept false t) i row)
    (sym (wanted_is stage kept false may.at m.0 k may.stand e may.wants)) may

-- one record is put where it is waited for
pub put_here : (stage : ℕ) (sources : List Source) (given : ℕ) (t : Moment) (j : ℕ) (row : Row)
    (s s' : Source)
    → Standing stage (record { sources = sources; given = given }) false t
    → ahead (record { sources = sources; given = given }) ≡ Wants j → wants_of t ≡ Some j
    → s ≡ get_or sources j s → s' ≡ record s { coming = row ∷ [] } →
    Standing stage (record { sources = set sources j s'; given = given }) false (after j (More row) t)
put_here stage sources given t j row s s' h e w f g =
    let x = set_more j sources s s' row (waits_at (record { sources = sources; given = given }) j e) f g in
    rw x (put_kept stage (record { sources = sources; given = given }) t j j (More row) h e w)

-- which is at the source that is wanted
pub put_wanted : (stage : ℕ) (sources : List Source) (given : ℕ) (spent : Bool) (t : Moment) (j k : ℕ) (row : Row)
    (s s' : Source) → spent ≡ false
    → Standing stage (record { sources = sources; given = given }) spent t
    → ahead (record { sources = sources; given = given }) ≡ Wants k → wants_of t ≡ Some j
    → s ≡ get_or sources k s → s' ≡ record s { coming = row ∷ [] } →
    Standing stage (record { sources = set sources k s'; given = given }) spent (after j (More row) t)
put_wanted stage sources given spent t j k row s s' a h e w f g =
    let h' = alive stage _ spent t a h in
    let same = wanted_is stage _ false t j k h' e w in
    subst (λ (i : ℕ). Standing stage (record { sources = set sources k s'; given = given }) spent (after i (More row) t))
    same (with_spent stage _ spent _ a (put_here stage sources given t k row s s' h' e (w ∙ ap Some (sym same)) f g))

-- an end is set
pub end_here : (stage : ℕ) (sources : List Source) (given : ℕ) (spent : Bool) (t : Moment)
    (j : ℕ) (e : end.End) (s s' : Source)
    → Standing stage (record { sources = sources; given = given }) spent t → wants_of t ≡ Some j
    → s ≡ get_or sources j s → s' ≡ record s { ended = Some e } →
    Standing stage (record { sources = set sources j s'; given = given }) spent (after j (Ends e) t)
end_here stage sources given spent t j e s s' h w f g =
    let x = set_end j sources s s' e f g in
    rw x (with_spent stage (changed_in j (Ends e) (record { sources = sources; given = given })) spent
    (after j (Ends e) t) h.alive (end_stands stage (record { sources = sources; given = given }) t j e
    (alive stage _ spent t h.alive h) w))

-- a record is given
pub take_here : (stage : ℕ) (sources news : List Source) (given n : ℕ) (t : Moment) (p : Place)
    (row : Row) (more : List Source)
    → Standing stage (record { sources = sources; given = given }) false t
    → ahead (record { sources = sources; given = given }) ≡ Gives p
    → row ≡ given_row p (record { sources = sources; given = given }) →
    record { sources = news; given = given + 1 } ≡ given_on p (record { sources = sources; given = given })
    → n ≡ length news
    → (Some row ≡ slice_get (all_of t) t.given) × Standing stage (record { sources = take n (news ++ more); given = given + 1 }) false (after_take t)
take_here stage sources news given n t p row more h e f g l =
    let w = take_gives stage (record { sources = sources; given = given }) t p h e in
    (ap Some f ∙ sym w.0, rw (take_front n news more l, g) w.1)

pub take_nothing : (stage : ℕ) (kept : Merge) (spent : Bool) (t : Moment)
    → Standing stage kept spent t → ((p : Place) → ahead kept ≡ Gives p → ⊥)
    → None ≡ slice_get (all_of t) t.given
take_nothing stage kept spent t h n = sym (take_none stage kept spent t h (not_giving (ahead kept) n))

at_room : (going : Bool) (q p : Place) (ss : List Source) (given : ℕ)
    → ahead_at going q ss given ≡ Gives p → given < 4294967295
at_room = grind (arith, nat_tests)

pub has_room : (ss : List Source) (given : ℕ) (p : Place)
    → ahead (record { sources = ss; given = given }) ≡ Gives p → given < 4294967295
has_room ss given p h = at_room (any_due ss) (earliest (any_due ss) ss) p ss given (lost_given (any_due ss) ss given p _ h).1

pub not_spent_end : (stage : ℕ) (kept : Merge) (spent : Bool) (j : ℕ) (e : end.End) → spent ≡ false
    → ((spent ≡ true) ⊎ MayEnd (λ t. Standing stage kept spent t) j e)
    → MayEnd (λ t. Standing stage kept spent t) j e
not_spent_end = grind (arith, nat_tests)

-- What a new assembler keeps is lawful.
pub lawful_new : (n : ℕ) → AllLawful (replicate n (untouched None []))
lawful_new zero = tt
lawful_new (suc n) = (tt, lawful_new n)

-- What an assembler shows.
pub told_ahead : (ss : List Source) (given : ℕ) (going : Bool) (told : next.Next)
    (spent : Bool) → IsTold ss given going told spent → spent ≡ false
    → told ≡ ahead (record { sources = ss; given = given })
told_ahead ss given going told spent h e = (h.alive e).next

pub told_state : (stage : ℕ) (ss : List Source) (given : ℕ) (going : Bool) (told : next.Next)
    (spent : Bool) (t : Moment) → IsTold ss given going told spent
    → Standing stage (record { sources = ss; given = given }) spent t
    → state_by stage (record { sources = ss; given = given }) told ≡ state_of t
told_state stage ss given going told spent t k h =
    ap (state_by stage (record { sources = ss; given = given })) (told_ahead ss given going told spent k h.alive)
    ∙ state_stands stage (record { sources = ss; given = given }) spent t h

pub told_wants : (stage : ℕ) (ss : List Source) (given : ℕ) (going : Bool) (told : next.Next)
    (spent : Bool) (t : Moment) → IsTold ss given going told spent
    → Standing stage (record { sources = ss; given = given }) spent t
    → wants_by (record { sources = ss; given = given }) told ≡ wants_of t
told_wants stage ss given going told spent t k h =
    ap (wants_by (record { sources = ss; given = given })) (told_ahead ss given going told spent k h.alive)
    ∙ wants_stands stage (record { sources = ss; given = given }) spent t h

pub told_held : (stage : ℕ) (ss : List Source) (given : ℕ) (going : Bool) (told : next.Next)
    (spent : Bool) (t : Moment) → IsTold ss given going told spent
    → Standing stage (record { sources = ss; given = given }) spent t
    → held_by ss told ≡ held_at t
told_held stage ss given going told spent t k h =
    ap (held_by ss) (told_ahead ss given going told spent k h.alive)
    ∙ held_stands stage (record { sources = ss; given = given }) spent t h

pub told_ready : (stage : ℕ) (ss : List Source) (given : ℕ) (going : Bool) (told : next.Next)
    (spent : Bool) (t : Moment) → IsTold ss given going told spent
    → Standing stage (record { sources = ss; given = given }) spent t
    → readiness_by (state_by stage (record { sources = ss; given = given }) told) ≡ readiness_by (state_of t)
told_ready stage ss given going told spent t k h = ap readiness_by (told_state stage ss given going told spent t k h)

pub told_waiting : (stage : ℕ) (ss : List Source) (given : ℕ) (going : Bool) (told : next.Next)
    (spent : Bool) (t : Moment) → IsTold ss given going told spent
    → Standing stage (record { sources = ss; given = given }) spent t
    → waiting_by ss told ≡ waiting_at t
told_waiting stage ss given going told spent t k h =
    ap (waiting_by ss) (told_ahead ss given going told spent k h.alive)
    ∙ waiting_stands stage (record { sources = ss; given = given }) spent t h

-- What was settled stays.
open_input : (j : ℕ) (xs : List Input) → OpenIn j (ends xs) → IsOpenInput j xs
open_input j [] i = absurd i
open_input zero (x ∷ xs) i = i
open_input (suc j) (x ∷ xs) i = open_input j xs i

pub has_grown : (stage : ℕ) (kept : Merge) (spent : Bool) (j : ℕ) (change : Change)
    → HasGrown (λ t. Standing stage kept spent t) j change
has_grown stage kept spent j change = λ t h w.
    output_grows j change t.inputs (open_input j t.inputs
    (rw (same_ends stage kept spent t h) at (open_wanted stage kept spent t h j w)))

-- What is kept after a record is given.
pub told_taken : (ss news more : List Source) (given n : ℕ) (p : Place) (going : Bool) (told : next.Next)
    → ahead (record { sources = ss; given = given }) ≡ Gives p → AllLawful news
    → going ≡ any_due (take n (news ++ more))
    → told ≡ ahead (record { sources = take n (news ++ more); given = given + 1 })
    → n ≡ length news → IsTold (take n (news ++ more)) (given + 1) going told false
told_taken ss news more given n p going told e l d t k =
    grind (arith, nat_tests, has_room ss given p e, take_front n news more k)

-- Who is wanted hasn't ended.
pub wanted_open : (stage : ℕ) (kept : Merge) (spent : Bool) (t : Moment) (o : Option ℕ)
    → Standing stage kept spent t → o ≡ wants_of t → IfSome o (λ j. IsOpenInput j t.inputs)
wanted_open stage kept spent t None h w = tt
wanted_open stage kept spent t (Some j) h w =
    open_input j t.inputs
    (rw (same_ends stage kept spent t h) at (open_wanted stage kept spent t h j (sym w)))
