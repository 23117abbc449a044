-- Nodes and links after one of each has changed.
use Rattle.std.proofs.lemmas.Bool.Decides.{nat_tests}
use Rattle.std.proofs.Common.{◌≡◌, ◌≢◌, ℕ, ◌+◌, ◌<◌, ◌⊎◌, if◌then◌else◌, nat_eq, List, [], ◌∷◌, map, length, Some}
use Rattle.std.proofs.Common.{slice_get, slice_set, get_or, refl, sym, ap, ◌∙◌, subst, inl, inr, arith, append_assoc}
use Rattle.std.proofs.Common.{length-append, length-set}
use Rattle.std.proofs.lemmas.Bool.{cases_eq}
use Rattle.std.proofs.lemmas.Option.{same_Some, slice_get_read, slice_get_within}
use Rattle.std.proofs.Math.Path.{fun_ext}
use Rattle.circular_buffer.proofs.Places.{slice_get-set_same, slice_get-set_other}
use Rattle.hum_score.specs.Row.{Row}
use Rattle.hum_stage.specs.declared.faults.End.{End}
use Rattle.hum_stage.specs.declared.contract.Stage.{Ghosts as Stage}
use Rattle.hum_turns.specs.Flow.{Flow}
use Rattle.hum_turns.specs.Plan.{end_of}
use Rattle.hum_turns.specs.Links.{Link, Moment, given, view, settled}
use Rattle.hum_turns.specs.Turns.{State, Gives, Ends, Does, Becomes, pushed, marked}
use Rattle.hum_nodes.specs.At.{Kind, At, after_take, read_to}
use Rattle.hum_nodes.specs.Nodes.{StandsAs}
use Rattle.hum_nodes.specs.declared.node.Node.{Node}
use Rattle.hum_engine.specs.declared.link.Link as port
use Rattle.hum_engine.specs.Links.{IsLink}
use Rattle.hum_engine.specs.Scene.{Scene, plan_of, moved, at_of, NodesStand, LinksStand}

pub set_cases : {X : Type 0} (xs : List X) (k : ℕ) (y : X) (i : ℕ) (x : X)
    → slice_get (slice_set xs k y) i ≡ Some x
    → ((i ≡ k) × (y ≡ x)) ⊎ ((i ≢ k) × (slice_get xs i ≡ Some x))
set_cases xs k y i x h =
    let within = slice_get_within (slice_set xs k y) i x h in
    elim (cases_eq i k) [
      | inl is ↦ grind (arith, nat_tests, slice_get-set_same, length-set, same_Some)
      | inr other ↦ inr (other, sym (slice_get-set_other xs k i y other) ∙ h)
    ]

pub set_other : {X : Type 0} (xs : List X) (k : ℕ) (y : X) (i : ℕ) → i ≢ k
    → slice_get (slice_set xs k y) i ≡ slice_get xs i
set_other xs k y i o = slice_get-set_other xs k i y o

pub set_here : {X : Type 0} (xs : List X) (k : ℕ) (y x : X) → slice_get xs k ≡ Some x
    → slice_get (slice_set xs k y) k ≡ Some y
set_here xs k y x h = slice_get-set_same xs k y (slice_get_within xs k x h)

pub nth : {X : Type 0} (xs : List X) (i : ℕ) (x : X) → i < length xs → x ≡ get_or xs i x
    → slice_get xs i ≡ Some x
nth xs i x h e = slice_get_read xs (length xs) i x refl h e

-- A moment with one link changed.

pub put_at : Moment Row → ℕ → Link Row → Moment Row
put_at m k l = λ i. if nat_eq i k then l else m i

pub put_becomes : (m : Moment Row) (k : ℕ) (l : Link Row) → Becomes k l m (put_at m k l)
unfolding put_at
put_becomes = grind (arith, nat_tests)

-- What a node stands for, by its parts.

abbrev pub at_with : Kind → List (Flow Row) → ℕ → ℕ → At
at_with kind a r g = record { kind = kind; inputs = a; read = r; given = g }

abbrev pub ins_of : (ℕ → Kind) → Moment Row → ℕ → List (Flow Row)
ins_of kinds m k = map (λ i. view (m i)) (kinds k).stage.sources

pub at_same : (kinds : ℕ → Kind) (old new : Moment Row) (i : ℕ)
    → ins_of kinds new i ≡ ins_of kinds old i → (new i).read ≡ (old i).read
    → given (new i) ≡ given (old i) → at_of kinds new i ≡ at_of kinds old i
at_same kinds old new i a r g = rw (a, r, g)

-- what a link shows that was changed, and others, where that shows the same
pub shows_same : {R A : Type 0} (f : Link R → A) {l : Link R} {old new : ℕ → Link R} {k : ℕ} → Becomes k l old new
    → f l ≡ f (old k) → (i : ℕ) → f (new i) ≡ f (old i)
shows_same = grind (arith, nat_tests)

-- where one link changes but its reader's view doesn't, each stage has its inputs
pub ins_same : (kinds : ℕ → Kind) (l : Link Row) (old new : Moment Row) (k : ℕ)
    → Becomes k l old new → view l ≡ view (old k) → (i : ℕ)
    → ins_of kinds new i ≡ ins_of kinds old i
ins_same kinds l old new k d v i =
    ap (λ f. map f (kinds i).stage.sources) (fun_ext (shows_same view d v))

-- the node of the link that changed
pub at_here : (kinds : ℕ → Kind) (l : Link Row) (old new : Moment Row) (k : ℕ)
    → Becomes k l old new → view l ≡ view (old k)
    → at_of kinds new k ≡ at_with (kinds k) (ins_of kinds old k) l.read (length (given l))
at_here kinds l old new k d v = rw (ins_same kinds l old new k d v k, d.here)

module _ {S R : Type 0} (stage : Stage S) (s : Scene) where
  -- each node but one
  abbrev pub OthersStand : ℕ → Moment Row → List (Node S R) → Type 0
  OthersStand k m nodes =
      (i : ℕ) (y : Node S R) → i ≢ k → slice_get nodes i ≡ Some y → StandsAs stage.stands y (s.rests i) (at_of s.kinds m i)

  pub nodes_set : (m : Moment Row) (nodes : List (Node S R)) (k : ℕ) (node : Node S R) → OthersStand k m nodes
      → StandsAs stage.stands node (s.rests k) (at_of s.kinds m k)
      → NodesStand stage (moved s m) (slice_set nodes k node)
  nodes_set m nodes k node h n i x at =
      elim (set_cases nodes k node i x at) [ inl here ↦ rw (here.0, sym here.1) n | inr there ↦ h i x there.0 there.1 ]

  pub others_kept : (l : Link Row) (old new : Moment Row) (nodes : List (Node S R)) (k : ℕ)
      → Becomes k l old new → view l ≡ view (old k)
      → OthersStand k old nodes → OthersStand k new nodes
  others_kept l old new nodes k d v h i x o at =
      subst (StandsAs stage.stands x (s.rests i)) (sym (at_same s.kinds old new i (ins_same s.kinds l old new k d v i)
      (ap (λ (l : Link Row). l.read) (d.elsewhere i o)) (ap given (d.elsewhere i o)))) (h i x o at)

pub links_set : (size : ℕ) (l : Link Row) (old new : Moment Row) (links : List port.Link) (k : ℕ)
    (link : port.Link) → LinksStand size old links → IsLink size link l → Becomes k l old new
    → LinksStand size new (slice_set links k link)
links_set size l old new links k link h p d i x at = grind (arith, nat_tests, set_cases links k link i x)

-- a source has read: its link is as it was
pub links_read : (size : ℕ) (old new : Moment Row) (links : List port.Link) (k n : ℕ)
    → LinksStand size old links → Becomes k (record (old k) { read = n }) old new
    → LinksStand size new links
links_read = grind (arith, nat_tests)

-- What is so after an actor has done this.
pub record Did {S R : Type 0} (stage : Stage S) (s : Scene) (k : ℕ) (doing : State)
    (m : Moment Row) (nodes : List (Node S R)) (links : List port.Link) : Type 0 where
  pub new : Moment Row
  pub does : Does (plan_of s) k doing m new
  pub at_nodes : NodesStand stage (moved s new) nodes
  pub at_links : LinksStand s.size new links

module _ {S R : Type 0} (stage : Stage S) (s : Scene) (k : ℕ) (m : Moment Row) (nodes : List (Node S R))
    (links : List port.Link) (others : OthersStand stage s k m nodes) (hl : LinksStand s.size m links) where
  -- its link has become this, and shows its reader the same
  changed : (l : Link Row) → view l ≡ view (m k) → (node : Node S R) (after : port.Link)
      → StandsAs stage.stands node (s.rests k) (at_with (s.kinds k) (ins_of s.kinds m k) l.read (length (given l))) → IsLink s.size after l
      → NodesStand stage (moved s (put_at m k l)) (slice_set nodes k node)
      × LinksStand s.size (put_at m k l) (slice_set links k after)
  changed l v node after n p =
      let new = put_at m k l in
      let d = put_becomes m k l in (
        nodes_set stage s new nodes k node (others_kept stage s l m new nodes k d v others)
            (subst (StandsAs stage.stands node (s.rests k)) (sym (at_here s.kinds l m new k d v)) n),
        links_set s.size l m new links k after hl p d,
      )

  -- what the node gave goes onto its link
  pub did_give : (node : Node S R) (after : port.Link) (x : Row)
      → slice_get (settled (plan_of s) m k) (length (given (m k))) ≡ Some x
      → StandsAs stage.stands node (s.rests k) (after_take (at_of s.kinds m k))
      → IsLink s.size after (pushed (m k) x)
      → Did stage s k Gives m (slice_set nodes k node) (slice_set links k after)
  did_give node after x next n p =
      let longer : length (given (pushed (m k) x)) ≡ length (given (m k)) + 1 =
      ap length (sym (append_assoc (m k).taken (m k).waiting (x ∷ []))) ∙ length-append (given (m k)) (x ∷ []) in
      let c = changed (pushed (m k) x) refl node after
      (subst (λ g. StandsAs stage.stands node (s.rests k) (at_with (s.kinds k) (ins_of s.kinds m k) (m k).read g)) (sym longer) n) p in
      record {
        new = put_at m k (pushed (m k) x);
        does = record { next = x; is_next = next; becomes = put_becomes m k (pushed (m k) x) };
        at_nodes = c.0;
        at_links = c.1;
      }

  -- the node sets its end
  pub did_end : (node : Node S R) (after : port.Link) (e : End)
      → e ≡ end_of (s.kinds k).stage (m k).read (ins_of s.kinds m k)
      → StandsAs stage.stands node (s.rests k) (at_of s.kinds m k)
      → IsLink s.size after (record (m k) { mark = Some e })
      → Did stage s k Ends m (slice_set nodes k node) (slice_set links k after)
  did_end node after e is n p =
      let l : Link Row = marked (plan_of s) m k in
      let c = changed l refl node after n (subst (λ f. IsLink s.size after (record (m k) { mark = Some f })) is p) in
      record { new = put_at m k l; does = put_becomes m k l; at_nodes = c.0; at_links = c.1 }

  -- a source has read to n
  pub record ReadTo (n : ℕ) : Type 0 where
    pub mid : Moment Row
    pub becomes : Becomes k (record (m k) { read = n }) m mid
    pub at : at_of s.kinds mid k ≡ read_to n (at_of s.kinds m k)
    pub near : OthersStand stage s k mid nodes
    pub at_links : LinksStand s.size mid links

  pub has_read : (n : ℕ) → ReadTo n
  has_read n =
      let l : Link Row = record (m k) { read = n } in
      let mid : Moment Row = put_at m k l in
      let d = put_becomes m k l in
      record {
        mid = mid;
        becomes = d;
        at = at_here s.kinds l m mid k d refl;
        near = others_kept stage s l m mid nodes k d refl others;
        at_links = links_read s.size m mid links k n hl d;
      }
