-- What is taken from a link, by a stage or by the sink.
use Rattle.std.proofs.lemmas.Grind.{common_steps}
use Rattle.std.proofs.lemmas.Bool.Decides.{nat_tests}
use Rattle.std.proofs.Common.{◌≡◌, ◌≢◌, ◌∙◌, ℕ, zero, suc, ◌+◌, ◌<◌, true, List, []}
use Rattle.std.proofs.Common.{◌∷◌, map, length, Option, Some, None, is_some, slice_get, slice_set, slice_index, refl}
use Rattle.std.proofs.Common.{sym, ap, subst, inl, inr, arith}
use Rattle.std.proofs.lemmas.Bool.{cases_eq, and_parts}
use Rattle.std.proofs.lemmas.Option.{none-some, same_Some, slice_get_within, slice_get-get_or}
use Rattle.std.proofs.lemmas.List.{length-map}
use Rattle.hum_score.specs.Row.{Row}
use Rattle.hum_stage.specs.declared.faults.End.{End}
use Rattle.hum_stage.specs.declared.contract.Stage.{Ghosts as Stage}
use Rattle.hum_turns.specs.Flow.{Flow, AllFine}
use Rattle.hum_turns.specs.Plan.{IsPlan, last}
use Rattle.hum_turns.specs.Links.{Link, Moment, given, view, has_some, inputs}
use Rattle.hum_turns.specs.Turns.{Takes, Becomes, popped}
use Rattle.hum_turns.proofs.Fronts.{source_at}
use Rattle.hum_turns.proofs.States.{last_next}
use Rattle.hum_turns.proofs.Keeping.{fine_each, fine_inputs, are_inputs}
use Rattle.hum_turns.proofs.Good.{fine_popped}
use Rattle.hum_turns.proofs.Every.{reached}
use Rattle.hum_nodes.specs.Doing.{Doing}
use Rattle.hum_nodes.specs.Doing as does
use Rattle.hum_nodes.specs.Fine.{fine}
use Rattle.hum_nodes.specs.At.{doing_of, change_at, after_change, MayChange, with_record, with_end}
use Rattle.hum_nodes.specs.Nodes.{StandsAs}
use Rattle.hum_nodes.specs.declared.node.Node.{Node}
use Rattle.hum_engine.specs.declared.link.Link as port
use Rattle.hum_engine.specs.Links.{Goes, next_of}
use Rattle.hum_engine.specs.Scene.{Scene, plan_of, at_of, NodesStand, LinksStand, IsTree, IsReached}
use Rattle.hum_engine.proofs.Looking.{index_all}
use Rattle.hum_engine.proofs.Moving.{Did, put_at, put_becomes, ins_of, at_same, shows_same, nodes_set, links_set}

-- What comes next from a link.

pub popped_read : (l : Link Row) (ws : List Row) → (popped l ws).read ≡ l.read
popped_read l ws = grind arith

pub popped_given : {R : Type 0} (l : Link R) (ws : List R) → l.waiting ≡ ws → given (popped l ws) ≡ given l
popped_given = grind (arith, common_steps)

pub next_record : (l : Link Row) (ws : List Row) (x : Row) → Some x ≡ next_of ws
    → view (popped l ws) ≡ with_record x (view l)
next_record l ws x h = grind (arith, h)

-- where no record waits the end is heard
pub next_end : (l : Link Row) (ws : List Row) (e : End) → None ≡ next_of ws → l.mark ≡ Some e
    → view (popped l ws) ≡ with_end e (view l)
next_end l ws e h is = grind (arith, h, is)

mark_of : (o : Option End) → is_some o ≡ true → (e : End) × (o ≡ Some e)
mark_of = grind (arith, nat_tests)

-- and there is one, where there is something to take
pub some_mark : (l : Link Row) (ws : List Row) → l.waiting ≡ ws → None ≡ next_of ws → has_some l ≡ true
    → (e : End) × (l.mark ≡ Some e)
some_mark l ws w h some = mark_of l.mark (grind (arith, w, h, some))

-- One place of a list of inputs.

pub map_other : (f g : ℕ → Flow Row) (s : ℕ) → ((i : ℕ) → i ≢ s → f i ≡ g i) → (ss : List ℕ)
    → ((j : ℕ) → slice_get ss j ≡ Some s → ⊥) → map f ss ≡ map g ss
map_other f g s same [] never = refl
map_other f g s same (t ∷ ss) never =
    rw (same t (λ e. never 0 (ap Some e)), map_other f g s same ss (λ j h. never (suc j) h))

map_change : (f g : ℕ → Flow Row) (s : ℕ) (change : Flow Row → Flow Row)
    → ((i : ℕ) → i ≢ s → f i ≡ g i) → f s ≡ change (g s) → (ss : List ℕ) (p : ℕ)
    → slice_get ss p ≡ Some s → ((j : ℕ) → slice_get ss j ≡ Some s → j ≡ p)
    → map f ss ≡ change_at change p (map g ss)
map_change f g s change same here [] p at once = absurd (none-some s at)
map_change f g s change same here (t ∷ ss) zero at once =
    rw (same_Some t s at, here, map_other f g s same ss (λ j h. omega (arith, once (suc j) h)))
map_change f g s change same here (t ∷ ss) (suc p) at once =
    let other : t ≢ s = λ e. omega (arith, once 0 (ap Some e)) in
    rw (same t other, map_change f g s change same here ss p at (λ j h. omega (arith, once (suc j) h)))

-- The moment once something was taken from link i.

module _ (s : Scene) (i : ℕ) where
  abbrev pub left : Link Row
  left = popped (s.links i) (s.links i).waiting

  pub taken : Moment Row
  taken = put_at s.links i left

  pub taken_becomes : Becomes i left s.links taken
  unfolding taken
  taken_becomes = put_becomes s.links i left

  pub others_view : (j : ℕ) → j ≢ i → view (taken j) ≡ view (s.links j)
  others_view j o = ap view (taken_becomes.elsewhere j o)

  -- who doesn't read from link i has what it had
  pub at_kept : (j : ℕ) → ((p : ℕ) → slice_get (s.kinds j).stage.sources p ≡ Some i → ⊥)
      → at_of s.kinds taken j ≡ at_of s.kinds s.links j
  at_kept j never =
      let l = s.links i in
      at_same s.kinds s.links taken j
      (map_other (λ t. view (taken t)) (λ t. view (s.links t)) i others_view
      (s.kinds j).stage.sources never)
      (shows_same (λ (t : Link Row). t.read) taken_becomes (popped_read l l.waiting) j)
      (shows_same given taken_becomes (popped_given l l.waiting refl) j)

  -- what its reader has then
  pub ins_taken : (k place : ℕ) (change : Flow Row → Flow Row) → k < s.count → IsTree s
      → slice_get (s.kinds k).stage.sources place ≡ Some i
      → view left ≡ change (view (s.links i))
      → ins_of s.kinds taken k ≡ change_at change place (ins_of s.kinds s.links k)
  ins_taken k place change less tree at v =
      map_change (λ j. view (taken j)) (λ j. view (s.links j)) i change others_view
      (ap view taken_becomes.here ∙ v) (s.kinds k).stage.sources place at
      (λ j h. (tree k j k place i less less h at).1)

  module _ {S R : Type 0} (stage : Stage S) (nodes : List (Node S R)) (links : List port.Link) (hn : NodesStand stage s nodes)
      (hl : LinksStand s.size s.links links) (count : length nodes ≡ s.count) (link after : port.Link)
      (at_link : slice_get links i ≡ Some link) (goes : Goes link after (λ l. popped l l.waiting)) where
    links_taken : LinksStand s.size taken (slice_set links i after)
    links_taken =
        links_set s.size left s.links taken links i after hl
        (goes s.size (s.links i) (hl i link at_link)) taken_becomes

    -- A stage takes.
    pub did_take : (k place : ℕ) (node : Node S R) (change : Flow Row → Flow Row) → IsTree s
        → k < s.count → i < k → slice_get (s.kinds k).stage.sources place ≡ Some i
        → view left ≡ change (view (s.links i))
        → StandsAs stage.stands node (s.rests k) (after_change change place (at_of s.kinds s.links k))
        → Did stage s k (Takes i) s.links (slice_set nodes k node) (slice_set links i after)
    did_take k place node change tree less lower at v n =
        let here : at_of s.kinds taken k ≡ after_change change place (at_of s.kinds s.links k) =
        rw (ins_taken k place change less tree at v, taken_becomes.elsewhere k (λ e. absurd (omega arith))) in
        record {
          new = taken;
          does = taken_becomes;
          at_nodes = nodes_set stage s taken nodes k node
              (λ j y o g.
              let low : j < s.count = omega (arith, slice_get_within nodes j y g, count) in
              subst (StandsAs stage.stands y (s.rests j)) (sym (at_kept j (λ p h. o (tree j p k place i low less h at).0))) (hn j y g))
              (subst (StandsAs stage.stands node (s.rests k)) (sym here) n);
          at_links = links_taken;
        }

    -- The sink takes.
    pub did_sink : IsPlan (plan_of s) → i ≡ last (plan_of s)
        → Did stage s s.count (Takes i) s.links nodes (slice_set links i after)
    did_sink ok e =
        let top = last_next s.count ok.some in
        record {
          new = taken;
          does = taken_becomes;
          at_nodes = λ j y g.
              let low : j < s.count = omega (arith, slice_get_within nodes j y g, count) in
              let below = λ (p : ℕ). index_all (λ t. t < j) (s.kinds j).stage.sources p i (ok.below j low) in
              subst (StandsAs stage.stands y (s.rests j)) (sym (at_kept j (λ p h. omega (arith, low, e, top, below p h)))) (hn j y g);
          at_links = links_taken;
        }

-- What a stage takes next keeps its inputs fine.
pub may_change : (s : Scene) (k place i : ℕ) (change : Flow Row → Flow Row) → IsReached s
    → k < s.count → i < k → slice_get (s.kinds k).stage.sources place ≡ Some i
    → has_some (s.links i) ≡ true → view (left s i) ≡ change (view (s.links i))
    → doing_of (at_of s.kinds s.links k) ≡ does.Wants place
    → MayChange (at_of s.kinds s.links k) change place
may_change s k place i change r less lower at some v wants =
    let plan = plan_of s in
    let m = s.links in
    let inv = reached plan s.size r.turns r.first m r.ok r.start r.run in
    let new = taken s i in
    let d = taken_becomes s i in
    let here : fine (view (new i)) ≡ true =
    rw d.here (fine_popped (r.ok.lawful i (omega arith)) (r.ok.keeps i (omega arith)) s.size (m i)
    (inputs plan m i) (and_parts _ _ some).0
    (fine_inputs plan s.size r.ok m i inv (omega arith)) (inv i (omega arith))) in
    let each : (t : ℕ) → t + 1 < s.count → fine (view (new t)) ≡ true = λ t more. elim (cases_eq t i) [
      | inl e ↦ rw e here
      | inr o ↦ rw (d.elsewhere t o) (fine_each plan s.size r.ok m t inv more)
    ] in
    record {
      wants = wants;
      fine = subst (AllFine fine) (ins_taken s i k place change less r.tree at v)
          ((are_inputs plan s.size r.ok new each k less).each);
    }

-- A node that wants from a place wants from a lower stage.
pub record WantsAt (s : Scene) (k place : ℕ) : Type 0 where
  pub is_there : slice_get (s.kinds k).stage.sources place
      ≡ Some (slice_index (s.kinds k).stage.sources place)
  pub lower : slice_index (s.kinds k).stage.sources place < k

pub wants_at : (s : Scene) (k place : ℕ) → IsPlan (plan_of s) → k < s.count
    → doing_of (at_of s.kinds s.links k) ≡ does.Wants place → WantsAt s k place
wants_at s k place ok less h =
    let st = (s.kinds k).stage in
    let seen : ℕ → Flow Row = λ i. view (s.links i) in
    let many = length-map st.sources seen in
    let x = (ok.lawful k less).asks (s.links k).read (ins_of s.kinds s.links k) place many (grind (arith, h)) in
    let within = slice_get_within (ins_of s.kinds s.links k) place x.input x.is_there in
    record {
      is_there = slice_get-get_or st.sources place 0 (omega (arith, within, many));
      lower = (source_at seen (λ i. i < k) st.sources place x.input (ok.below k less) x.is_there).0;
    }
