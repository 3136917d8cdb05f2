-- Whose values an analysis joins into a node's value.
use Rattle.std.specs.Prelude.{ℕ, Bool, true, false, cond, List, []}
use Rattle.records.specs.declared.edge.Direction.{Direction}
use Rattle.records.specs.declared.edge.Direction.TheVariants.{Outgoing, Incoming}
use Rattle.graph.specs.Model.{Model}
use Rattle.walk_neighbors.specs.PastDisabled.{sees, is_off, enabled_neighbours}

-- forwards the sources of a node's edges, else the targets
abbrev pub looking_along : Bool → Direction
looking_along true = Incoming
looking_along false = Outgoing

-- one neighbour for each edge, newest edge first; when skipping, the walk past disabled nodes, and none for a disabled node
abbrev pub near_of : Bool → Bool → Model → ℕ → List ℕ
near_of forward skips m n =
    cond skips
    (cond (is_off m n) [] (enabled_neighbours (looking_along forward) m n))
    (sees (looking_along forward) m n)
