-- A graph as its lists, and the outcome of a call on it.
use Rattle.std.specs.Prelude.{ℕ, Bool, List, [], Some, None, Option, Ok, Err, Result}
use Rattle.records.specs.declared.edge.Edge.{Edge}
use Rattle.records.specs.declared.node.Node.{Node}
use Rattle.records.specs.declared.refusal.Refusal.{Refusal}
use Rattle.records.specs.declared.stage.Stage.{Stage}
use Rattle.records.specs.declared.stage.Stage.TheVariants.{Open, Sealed}
use Rattle.graph.specs.declared.raw.RawInstGraph.{RawInstGraph}
use Rattle.graph.specs.declared.raw.Sealing.{Sealing}
use Rattle.graph.specs.EdgeLists.{edges_in}

-- nodes and edges in the order of adding; order and reach are empty until the graph is sealed
pub record Model : Type 0 where
  pub stage : Stage
  pub nodes : List Node
  pub edges : List Edge
  pub generation : ℕ
  pub order : List ℕ
  pub reach : List Bool

abbrev pub stage_of : Option Sealing → Stage
stage_of None = Open
stage_of (Some s) = Sealed

abbrev pub order_of : Option Sealing → List ℕ
order_of None = []
order_of (Some s) = s.order.items

abbrev pub reach_of : Option Sealing → List Bool
reach_of None = []
reach_of (Some s) = s.reach.items

abbrev pub model : RawInstGraph → Model
model g =
    record {
      stage = stage_of g.sealing;
      nodes = g.nodes.items;
      edges = edges_in g.edges;
      generation = g.stats.generation;
      order = order_of g.sealing;
      reach = reach_of g.sealing;
    }

abbrev pub empty : Model
empty = record { stage = Open; nodes = []; edges = []; generation = 0; order = []; reach = [] }

abbrev pub with_nodes : List Node → Model → Model
with_nodes ns m = record { stage = m.stage; nodes = ns; edges = m.edges; generation = m.generation; order = m.order; reach = m.reach }

abbrev pub with_edges : List Edge → Model → Model
with_edges es m = record { stage = m.stage; nodes = m.nodes; edges = es; generation = m.generation; order = m.order; reach = m.reach }

abbrev pub with_generation : ℕ → Model → Model
with_generation g m = record { stage = m.stage; nodes = m.nodes; edges = m.edges; generation = g; order = m.order; reach = m.reach }

-- what a call answers, and the graph it leaves
pub record Outcome (A : Type 0) : Type 0 where
  pub answer : Result A Refusal
  pub after : Model

abbrev pub outcome : {A : Type 0} → Result A Refusal → Model → Outcome A
outcome r m = record { answer = r; after = m }

abbrev pub done : {A : Type 0} → A → Model → Outcome A
done a m = outcome (Ok a) m

-- a refusal changes nothing
abbrev pub refused : {A : Type 0} → Refusal → Model → Outcome A
refused e m = outcome (Err e) m

-- a test first, and then what the call does
abbrev pub admitted : {A : Type 0} → Result (Unit {0}) Refusal → Model → Outcome A → Outcome A
admitted (Ok _) m o = o
admitted (Err e) m o = refused e m

-- an answer, unless a test before it refused
abbrev pub unless_refused : {A : Type 0} → Result (Unit {0}) Refusal → Result A Refusal → Result A Refusal
unless_refused (Ok _) r = r
unless_refused (Err e) r = Err e
