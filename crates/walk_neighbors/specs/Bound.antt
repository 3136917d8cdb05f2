-- What a walk past disabled nodes has still to give in the graph that it holds.
use Rattle.std.specs.Prelude.{ℕ, List}
use Rattle.graph.specs.Model.{Model, model}
use Rattle.walk_neighbors.specs.declared.walk.Neighbors.{Neighbors}
use Rattle.walk_neighbors.specs.Cursors.{to_come}

-- the graph that is walked
abbrev pub walked : Neighbors → Model
walked n = model n.graph.now

-- what is still to come
abbrev pub still_to_come : Neighbors → List ℕ
still_to_come n = to_come (walked n) n.walk
