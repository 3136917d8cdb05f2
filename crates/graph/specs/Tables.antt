-- Tables by the nodes' numbers.
use Rattle.std.specs.Prelude.{◌≤◌, List, length}
use Rattle.graph.specs.Model.{Model}

-- a table has an entry for each node
abbrev pub IsTableOf : {A : Type 0} → Model → List A → Type 0
IsTableOf m table = length m.nodes ≤ length table
