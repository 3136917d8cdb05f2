-- The order of all nodes: the subgraphs one after another, and then the nodes without edges.
use Rattle.std.specs.Prelude.{ℕ, Bool, ◌&&◌, List, ◌++◌, reverse, filter}
use Rattle.std.specs.List.{range_with_len}
use Rattle.records.specs.declared.edge.Edge.{Edge}
use Rattle.walks.specs.Exploring.{targets, sources}
use Rattle.subgraph.specs.Orders.{is_empty}

-- no edge leads from the node or to it
abbrev pub alone : List Edge → ℕ → Bool
alone es n = is_empty (targets es n) && is_empty (sources es n)

-- those of the first n nodes, ascending
abbrev pub singletons : List Edge → ℕ → List ℕ
singletons es n = filter (alone es) (range_with_len 0 n)

-- the orders of the subgraphs, the last node first, turned round, and then the singletons
abbrev pub whole_order : List Edge → ℕ → List ℕ → List ℕ
whole_order es n flat = reverse flat ++ singletons es n
