-- What a turn that is tried has taken.
use Rattle.std.proofs.Common.{◌≡◌, ◌∙◌, ℕ, ◌||◌, nat_lt, List, length, Option, Some, None, is_some, ap}
use Rattle.std.proofs.Common.{ap₂, get_or, slice_set, Global, ◌≤◌, arith}
use Rattle.std.specs.declared.vec.Vec.{Vec}
use Rattle.std.specs.Vec.{with_item}
use Rattle.hum_nodes.specs.declared.node.Node.{Node}
use Rattle.hum_engine.specs.declared.web.Web.{Web}
use Rattle.std.proofs.lemmas.List.{set-get_or}
use mathlib.Core.HLevel.{is_prop→PathP}
use Rattle.std.proofs.Props.{props}
use Rattle.std.proofs.lemmas.Bool.Decides.{nat_tests}
use Rattle.hum_score.specs.Row.{Row}
use Rattle.hum_stage.specs.declared.faults.End.{End}
use Rattle.hum_engine.specs.declared.link.Link as port
use Rattle.hum_engine.specs.declared.link.Taken.{Taken}
use Rattle.hum_engine.specs.declared.link.Taken.TheVariants as taken
use Rattle.hum_nodes.specs.At.{with_record, with_end}
use Rattle.hum_turns.specs.Links.{view}
use Rattle.hum_engine.specs.Links.{IsLink, Tells, next_of, taken_of, is_some_of}
use Rattle.hum_engine.specs.Scene.{Scene}
use Rattle.hum_engine.proofs.Taking.{left, next_record, next_end}

abbrev pub row_of : Taken → Option Row
row_of (taken.Record row) = Some row
row_of (taken.End end) = None
row_of taken.Nothing = None

pub row_next : (ws : List Row) (mark : Option End) → row_of (taken_of ws mark) ≡ next_of ws
row_next ws mark = grind arith

-- What a link tells of what was taken from it.
module _ {link : port.Link} {answer : Taken} (tells : Tells link answer (λ size l. taken_of l.waiting l.mark)) where
  pub tells_some : Tells link (is_some_of answer) (λ size l. nat_lt 0 (length l.waiting) || is_some l.mark)
  tells_some size l h = grind (arith, nat_tests, tells size l h)

  -- where it is a record
  pub record_left : (s : Scene) (i : ℕ) {row : Row} → IsLink s.size link (s.links i) → answer ≡ taken.Record row
      → view (left s i) ≡ with_record row (view (s.links i))
  record_left s i {row} here is =
      next_record (s.links i) (s.links i).waiting row (grind (arith, is, tells s.size (s.links i) here))

  -- where it is an end
  pub end_left : (s : Scene) (i : ℕ) {end : End} → IsLink s.size link (s.links i) → answer ≡ taken.End end
      → view (left s i) ≡ with_end end (view (s.links i))
  end_left s i {end} here is =
      let told = tells s.size (s.links i) here in
      next_end (s.links i) (s.links i).waiting end (grind (arith, is, told)) (grind (arith, is, told))

-- What is put back where it lay changes nothing.
pub with_back : {X H : Type 0} (v : Vec X H) (i : ℕ) {x : X} → x ≡ get_or v.items i x → with_item v i x ≡ v
with_back {X} v i {x} e =
    let p : slice_set v.items i x ≡ v.items = ap (slice_set v.items i) e ∙ set-get_or v.items i x in
    λ j. record {
      ptr = v.ptr;
      len = v.len;
      cap = v.cap;
      alloc = v.alloc;
      items = p j;
      ok = is_prop→PathP (λ k. (v.len ≡ length (p k)) × (v.len ≤ v.cap)) (λ k. hlevel props) (with_item v i x).ok v.ok j;
      small = v.small;
    }

pub web_back : {S R : Type 0} {web : Web S R} {nodes : Vec (Node S R) Global} {links : Vec port.Link Global}
    → nodes ≡ web.nodes → links ≡ web.links → record web { nodes = nodes; links = links } ≡ web
web_back {S} {R} {web} n l = ap₂ (λ (x : Vec (Node S R) Global) (y : Vec port.Link Global). record web { nodes = x; links = y }) n l
