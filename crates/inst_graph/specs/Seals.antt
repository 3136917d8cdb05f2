-- Sealing a graph.
use Rattle.std.specs.Prelude.{◌≡◌, ℕ, ◌<◌, ◌≤◌, Bool, ◌↔◌, List, map, length, Ok, Err, Option, Result}
use Rattle.records.specs.declared.node.Node.{Node}
use Rattle.records.specs.declared.node.Place.{Place}
use Rattle.records.specs.declared.refusal.Refusal.{Refusal}
use Rattle.records.specs.declared.refusal.Refusal.TheVariants.{TableTooShort, ClosedWalk}
use Rattle.records.specs.declared.stage.Call.TheVariants.{Seal}
use Rattle.records.specs.declared.stage.Stage.TheVariants.{Open}
use Rattle.records.specs.Stages.{admission}
use Rattle.records.specs.Walks.{Acyclic, Lowest, Joins}
use Rattle.graph.specs.Model.{Model, Outcome, done, refused, admitted}
use Rattle.graph.specs.Order.{OrdersNodes}
use Rattle.graph.specs.Sealing.{sealed_in, with_reach}
use Rattle.walks.specs.Cycles.{left_blank}
use Rattle.subgraph.specs.Places.{Placed}
use Rattle.subgraph.specs.WholePartitions.{Whole, whole_partition}
use Rattle.analysis.specs.Runs.{left_by}
use Rattle.routes.specs.Reach.{TellsReach}
use Rattle.reconnect.specs.Graphs.{graph_in}
use Rattle.reconnect.specs.Reach.{is_enabled}
use Rattle.inst_graph.specs.Reached.{reach_table}

-- with the reach table of the graph as it stands
abbrev pub noted : Model → Model
noted m = with_reach (reach_table m) m

-- with the places and the order of the partition, and then with the reach table
abbrev pub sealed_by : Result Whole Refusal → Model → Outcome ℕ
sealed_by (Ok w) m = done w.count (noted (sealed_in w.places w.order m))
sealed_by (Err e) m = refused e m

-- with a work table of that room
abbrev pub seal : ℕ → Model → Outcome ℕ
seal room m = admitted (admission m.stage Seal) m (sealed_by (whole_partition m room) m)

-- the work table afterwards: as it was where the call does not belong to the stage
abbrev pub seal_table : Model → List Bool → List Bool
seal_table m work = left_by (admission m.stage Seal) (left_blank (length m.nodes) work) work

-- ---- the laws
abbrev pub places_of : List Node → List (Option Place)
places_of nodes = map (λ n. n.place) nodes

-- what holds of a graph that was sealed
pub record WellSealed (before after : Model) : Type 0 where
  -- there is no closed walk, and the places are those of subgraphs
  pub acyclic : Acyclic (Joins before.edges)
  pub stand : Placed (Joins before.edges) (places_of after.nodes)
  -- each node stands in the order once, and the source of each edge before its target
  pub order : OrdersNodes (length before.nodes) before.edges after.order
  -- the reach table tells from which nodes one that is not disabled can be reached
  pub tells : TellsReach is_enabled (graph_in after) after.reach

-- when a graph that is still open is refused, in both directions
pub record RefusedWell (m : Model) (room : ℕ) (r : Result ℕ Refusal) : Type 0 where
  pub closed : (n : ℕ) → (r ≡ Err (ClosedWalk n)) ↔ ((m.stage ≡ Open) × (length m.nodes ≤ room) × Lowest (Joins m.edges) n)
  pub short : (n : ℕ) → (r ≡ Err (TableTooShort n)) ↔ ((m.stage ≡ Open) × (n ≡ length m.nodes) × (room < length m.nodes))
