-- Rounds of global comments: the front and the tail.
use Rattle.std.proofs.lemmas.Bool.Decides.{nat_tests}
use Rattle.std.proofs.Common.{◌≡◌, ◌∙◌, refl, sym, ap, ℕ, zero, suc, ◌≤◌, ◌<◌, Bool, true}
use Rattle.std.proofs.Common.{false, not, ◌&&◌, List, [], ◌∷◌, length, arith}
use Rattle.std.proofs.Common.{map}
use Rattle.std.specs.Prelude.{Option, is_some}
use Rattle.std.specs.List.{list_any, list_all}
use Rattle.hum_score.specs.Row.{Row}
use Rattle.hum_score.specs.InOrder.{Follow}
use Rattle.hum_assemble.specs.Source.{Source}
use Rattle.hum_assemble.specs.Places.{rank}
use Rattle.hum_assemble.specs.Round.{is_missing, place_at}
use Rattle.hum_assemble.specs.Groups.{then_on}
use Rattle.hum_assemble.specs.Groups.{where_any, each_alone}
use Rattle.hum_assemble.specs.Groups.{Comments, shows_comment, next_comment, behind_comment}
use Rattle.hum_assemble.specs.Groups.{comment_rounds, all_comments}
use Rattle.hum_assemble.proofs.Written.{Sees}
use Rattle.hum_assemble.proofs.Does.{Does, does_weaken, does_then, does_known, does_any, does_nothing}
use Rattle.hum_assemble.proofs.Does.{Both}
use Rattle.hum_assemble.proofs.Apart.{MayGive, each_does, Given}
use Rattle.hum_assemble.proofs.Beginning.{Idle, Spans, takes_part, begun_at, does_begin}
use Rattle.hum_assemble.proofs.Units.{both_map}
use Rattle.hum_assemble.proofs.Grouping.{both_any, both_all, both_known, both_none}
use Rattle.hum_assemble.proofs.Grouping.{both_moved, both_stuck, both_under, both_over}
use Rattle.hum_assemble.proofs.Grouping.{AllShort, most_short, none_short, some_one}
use Rattle.hum_assemble.proofs.Grouping.{all_shorter, any_map}

all_map : {X Y : Type 0} (f : Y → Bool) (g : X → Y) (xs : List X)
    → list_all f (map g xs) ≡ list_all (λ x. f (g x)) xs
all_map f g [] = refl
all_map f g (x ∷ xs) = ap (λ (b : Bool). f (g x) && b) (all_map f g xs)

map_map : {X Y Z : Type 0} (f : Y → Z) (g : X → Y) (xs : List X)
    → map f (map g xs) ≡ map (λ x. f (g x)) xs
map_map f g [] = refl
map_map f g (x ∷ xs) = ap (λ (ys : List _). f (g x) ∷ ys) (map_map f g xs)

map_same : {X Y : Type 0} (f g : X → Y) (xs : List X) → ((x : X) → f x ≡ g x) → map f xs ≡ map g xs
map_same = grind (arith, nat_tests)

-- What rounds of global comments need of each source.
pub record Remarks {V : Type 0} (k : ℕ) (look : V → Comments) (next : V → V)
    (R F : Source → V → Type 0) : Type 0 where
  pub few : k ≤ 10
  pub spans : Spans k k
  pub due : (s : Source) (v : V) → R s v → s.due ≡ false
  pub follow : (s : Source) (v : V) → R s v → Follow s.path s.coming
  pub missing : (s : Source) (v : V) → R s v → is_missing false s ≡ not (shows_comment (look v))
  pub later : (s : Source) (v : V) → R s v → k ≤ rank (place_at false s)
  pub part : (s : Source) (v : V) → R s v → takes_part k s ≡ is_some (next_comment (look v))
  pub may : (s : Source) (v : V) → R s v
      → MayGive k (λ s v. R s (next v)) (next_comment (look v)) (begun_at k s) v
  pub looks_on : (v : V) → look (next v) ≡ behind_comment (look v)
  pub ends : (s : Source) (v : V) → R s v → is_some (next_comment (look v)) ≡ false → F s v
  pub on : (s : Source) (v : V) → F s (next v) → F s v

module _ {V : Type 0} (k : ℕ) (look : V → Comments) (next : V → V) (R F : Source → V → Type 0)
    (r : Remarks k look next R F) where
  abbrev pub shows : V → Bool
  shows v = shows_comment (look v)

  abbrev pub has : V → Bool
  has v = is_some (next_comment (look v))

  abbrev pub given_of : V → Option (List Row)
  given_of v = next_comment (look v)

  abbrev pub size : V → ℕ
  size v = length (look v).rows

  abbrev pub Later : Source → V → Type 0
  Later s v = R s (next v)

  calm_later : (s : Source) (v : V) → Later s v → Sees true (suc k) s
  calm_later = grind (arith, nat_tests)

  idle_now : (s : Source) (v : V) → R s v × (shows v ≡ true) → Idle k s
  idle_now s v h = record {
    idle = r.due s v h.0;
    sees = record {
      known = r.missing s v h.0 ∙ ap not h.1;
      later = r.later s v h.0;
      follow = r.follow s v h.0;
    };
  }

  ends_now : (s : Source) (v : V) → R s v × (has v ≡ false) → F s v
  ends_now s v h = r.ends s v h.0 h.1

  one_comment : (v : V) → has v ≡ true → 1 ≤ size v
  one_comment = grind (arith, nat_tests)

  shorter_on : (n : ℕ) → 1 ≤ n → (v : V) → size v < suc n → size (next v) < n
  shorter_on = grind (arith, nat_tests)

  each_now : (ss : List Source) (vs : List V) → Both R ss vs
      → Does (each_alone 0 (map given_of vs)) (map (begun_at k) ss) (λ x. Both Later x vs)
  each_now ss vs h =
      does_weaken (each_alone 0 (map given_of vs)) (map (begun_at k) ss)
      (Given k given_of Later calm_later vs []) (λ x. Both Later x vs)
      (each_does k given_of Later calm_later [] (map (begun_at k) ss) vs tt
      (both_moved R (begun_at k) (λ s v. MayGive k Later (given_of v) s v) r.may ss vs h))
      (λ x q. rw q.1 q.2)

  pub comments_does : (n : ℕ) (ss : List Source) (vs : List V) → AllShort size n vs → Both R ss vs
      → Does (comment_rounds n (map look vs)) ss (λ x. Both F x vs)
  comments_does zero ss vs l h = grind (arith, nat_tests, does_nothing, none_short)
  comments_does (suc n) ss vs l h =
      let few = r.few in
      let on : map behind_comment (map look vs) ≡ map look (map next vs) =
      map_map behind_comment look vs
      ∙ (sym (map_same (λ v. look (next v)) (λ v. behind_comment (look v)) vs r.looks_on)
      ∙ sym (map_map look next vs)) in
      rw (all_map shows_comment look vs, map_map next_comment look vs, on)
      (does_known (list_all shows vs)
      (where_any (list_any is_some (map given_of vs))
      (then_on (each_alone 0 (map given_of vs)) (comment_rounds n (map look (map next vs)))))
      ss (λ x. Both F x vs)
      (both_stuck R shows r.due r.missing ss vs h)
      (λ known.
      does_any (list_any is_some (map given_of vs))
      (then_on (each_alone 0 (map given_of vs)) (comment_rounds n (map look (map next vs))))
      ss (λ x. Both F x vs)
      (λ none.
      both_map (λ s v. R s v × (has v ≡ false)) F ss vs ends_now
      (both_none R has ss vs h (sym (any_map is_some given_of vs) ∙ none)))
      (λ some.
      let any = sym (any_map is_some given_of vs) ∙ some in
      let o = some_one size has n vs one_comment l any in
      does_begin k k
      (then_on (each_alone 0 (map given_of vs)) (comment_rounds n (map look (map next vs))))
      ss (λ x. Both F x vs) (omega (arith, few)) r.spans
      (both_all (λ s v. R s v × (shows v ≡ true)) (Idle k) idle_now ss vs (both_known R shows ss vs h known))
      (both_any R (takes_part k) has r.part ss vs h ∙ any)
      (does_then (each_alone 0 (map given_of vs)) (comment_rounds n (map look (map next vs)))
      (map (begun_at k) ss) (λ x. Both Later x vs) (λ x. Both F x vs)
      (each_now ss vs h)
      (λ x q.
      does_weaken (comment_rounds n (map look (map next vs))) x (λ y. Both F y (map next vs))
      (λ y. Both F y vs)
      (comments_does n x (map next vs) (all_shorter size next n vs (shorter_on n o) l)
      (both_over R next x vs q))
      (λ y w. both_map (λ s v. F s (next v)) F y vs r.on (both_under F next y vs w)))))))

  pub all_comments_does : (ss : List Source) (vs : List V) → Both R ss vs
      → Does (all_comments (map look vs)) ss (λ x. Both F x vs)
  all_comments_does = grind (arith, nat_tests, map_map, comments_does, most_short)
