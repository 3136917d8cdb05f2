-- Going through a node's edge list step by step.
use Rattle.std.specs.Prelude.{ℕ, suc, cond, List, [], length, take, Some, None, Option, nat_lt, slice_index_or}
use Rattle.records.specs.declared.edge.Edge.{Edge}
use Rattle.records.specs.declared.edge.Direction.{Direction}
use Rattle.records.specs.Edges.{no_edge, history, near, neighbours}
use Rattle.graph.specs.Model.{Model, model}
use Rattle.graph.specs.declared.neighbors.Neighbors.{Neighbors}
use Rattle.graph.specs.declared.neighbors.Walker.{Walker}

-- what is seen from edge e on: the neighbours, over e and the older edges, of the node at which e stands
abbrev pub seen : Direction → List Edge → Option ℕ → List ℕ
seen d es None = []
seen d es (Some e) = cond (nat_lt e (length es)) (neighbours d (history (take (suc e) es)) (near d (slice_index_or es e no_edge))) []

-- what is still to come in a graph with these edges
abbrev pub coming_in : List Edge → Walker → List ℕ
coming_in es w = seen w.direction es w.edge

-- the graph that is gone through
abbrev pub graph_of : Neighbors → Model
graph_of c = model c.graph.now

-- what is still to come
abbrev pub coming : Neighbors → List ℕ
coming c = coming_in (model c.graph.now).edges c.walker
