-- The edges that an edge table holds.
use Rattle.std.specs.Prelude.{List}
use Rattle.records.specs.declared.edge.Edge.{Edge}
use Rattle.graph.specs.declared.lists.EdgeLists.{EdgeLists}

-- in the order of adding
abbrev pub edges_in : EdgeLists → List Edge
edges_in t = t.rows.items
