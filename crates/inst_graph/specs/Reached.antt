-- The reach table that sealing notes.
use Rattle.std.specs.Prelude.{Bool, false, List}
use Rattle.graph.specs.Model.{Model}
use Rattle.analysis.specs.Rule.{value_table}
use Rattle.analysis.specs.Near.{near_of}
use Rattle.routes.specs.Reach.{reach_meaning}
use Rattle.reconnect.specs.Reach.{is_enabled}

-- the table of the analysis that tells from which nodes one that is not disabled can be reached
abbrev pub reach_table : Model → List Bool
reach_table m = value_table (reach_meaning is_enabled) m.nodes (near_of false false m)
