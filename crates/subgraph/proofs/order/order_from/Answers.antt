use Rattle.std.proofs.Common.{◌≡◌, ℕ, Bool, List, [], ◌∷◌, length, ap, ◌∙◌, subst, arith}
use Rattle.std.proofs.lemmas.List.{length-reverse}
use Rattle.records.specs.declared.edge.Edge.{Edge}
use Rattle.records.specs.declared.edge.Direction.TheVariants.{Outgoing}
use Rattle.records.specs.Edges.{history}
use Rattle.tables.specs.Marks.{blanks}
use Rattle.tables.proofs.Marking.{blanks_le}
use Rattle.graph.specs.declared.raw.RawInstGraph.{RawInstGraph}
use Rattle.graph.specs.Model.{model}
use Rattle.graph.proofs.Sound.{sound}
use Rattle.walks.specs.Exploring.{targets, nexts, Trail, explored, Left}
use Rattle.walks.proofs.Seeing.{edges_inside}
use Rattle.walks.proofs.Degrees.{pending_total, total_edges}
use Rattle.subgraph.specs.Orders.{found_from}
use Rattle.subgraph.proofs.Components.{room_two, Tie, tied, below_starts, length_starts}
use Rattle.subgraph.proofs.order.order_from.Goals as goal
use Rattle.subgraph.proofs.order.order_from.Goals.{After-explore}

pub explore-requires-clause-room : goal.explore-requires-clause-room
explore-requires-clause-room c =
    let g = c.args.graph.now in
    let room = room_two (model g).edges (length (model g).nodes) c.args.visited.now (sound g).few_edges in
    let one = ap length c.push.ensures in
    let none = ap length c.new-stack.ensures in
    omega arith

pub explore-requires-clause-notes : goal.explore-requires-clause-notes
explore-requires-clause-notes c =
    let none = ap length c.new-found.ensures in
    let blank = blanks_le (length (model c.args.graph.now).nodes) c.args.visited.now in
    let nodes = (sound c.args.graph.now).few_nodes in
    omega arith

-- what the search both ways leaves, which begins with the root alone
found_left : (es : List Edge) (N : ℕ) (v : List Bool) (root : ℕ) (top st o : List ℕ) (v' : List Bool) (o' : List ℕ) → st ≡ root ∷ top → top ≡ [] → o ≡ [] → Left (explored (nexts es) (blanks N v) st v o) v' o' → Left (found_from es N v root) v' o'
found_left es N v root top st o v' o' p q r l =
    subst (λ (t : Trail). Left t v' o')
    (ap (λ s. explored (nexts es) (blanks N v) s v o) (p ∙ ap (λ s. root ∷ s) q) ∙ ap (λ w. explored (nexts es) (blanks N v) (root ∷ []) v w) r)
    l

-- what the search both ways leaves, and what holds of it
record Searched (g : RawInstGraph) (v v' : List Bool) (root : ℕ) (found : List ℕ) : Type 0 where
  pub left : Left (found_from (model g).edges (length (model g).nodes) v root) v' found
  pub tie : Tie (length (model g).nodes) v (found_from (model g).edges (length (model g).nodes) v root).visited (found_from (model g).edges (length (model g).nodes) v root).order

searched : (c : After-explore) → Searched c.args.graph.now c.args.visited.now c.explore.new.visited c.args.root c.explore.new.order
searched c =
    let g = c.args.graph.now in
    let es = (model g).edges in
    let N = length (model g).nodes in
    let v = c.args.visited.now in
    record {
      left = found_left es N v c.args.root c.new-stack.result c.push.new.self c.new-found.result c.explore.new.visited c.explore.new.order c.push.ensures c.new-stack.ensures c.new-found.ensures c.explore.ensures;
      tie = tied es N (edges_inside g) c.args.root c.requires.root v c.requires.visited_room c.requires.shut c.requires.unvisited;
    }

pub explore-requires-2-clause-below : goal.explore-requires-2-clause-below
explore-requires-2-clause-below c =
    let s = searched (goal.at.explore-requires-2-clause-below c).After-explore in
    rw (c.start_nodes-chosen.ensures, s.left.turns) (below_starts (model c.args.graph.now).edges _ _ s.tie.below)

pub explore-requires-2-clause-room : goal.explore-requires-2-clause-room
explore-requires-2-clause-room c =
    let g = c.args.graph.now in
    let es = (model g).edges in
    let N = length (model g).nodes in
    let s = searched (goal.at.explore-requires-2-clause-room c).After-explore in
    let found = ap length s.left.turns in
    let chosen = ap length c.start_nodes-chosen.ensures in
    let few = length_starts es c.explore.new.order in
    let most = s.tie.size in
    let edges = (sound g).few_edges in
    let nodes = (sound g).few_nodes in
    let p = pending_total (targets es) N c.args.appended.now in
    let t = total_edges Outgoing (history es) N in
    let size = length-reverse es in
    omega arith

pub explore-requires-2-clause-notes : goal.explore-requires-2-clause-notes
explore-requires-2-clause-notes c =
    let none = ap length c.new-order.ensures in
    let blank = blanks_le (length (model c.args.graph.now).nodes) c.args.appended.now in
    let nodes = (sound c.args.graph.now).few_nodes in
    omega arith
