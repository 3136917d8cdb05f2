-- What is answered of a graph's subgraphs and of the order of all its nodes.
use Rattle.std.specs.Prelude.{ℕ, false, List, reverse, length, take, replicate, None, Ok, Err, Option, Result}
use Rattle.records.specs.declared.edge.Edge.{Edge}
use Rattle.records.specs.declared.node.Place.{Place}
use Rattle.records.specs.declared.refusal.Refusal.{Refusal}
use Rattle.records.specs.Walks.{Acyclic, Among, Joins, Touched}
use Rattle.graph.specs.Model.{Model, unless_refused}
use Rattle.graph.specs.Order.{OrdersNodes}
use Rattle.walks.specs.Cycles.{acyclic_answer}
use Rattle.subgraph.specs.declared.places.Subgraphs.{Subgraphs}
use Rattle.subgraph.specs.Orders.{Ordered}
use Rattle.subgraph.specs.Partitions.{partition}
use Rattle.subgraph.specs.Subgraphs.{in_order, in_parts}
use Rattle.subgraph.specs.Places.{in_turn, places, Placed}
use Rattle.subgraph.specs.Wholes.{whole_order}

-- how many subgraphs there are, how many nodes are in them, the order of all nodes, and each node's place
pub record Whole : Type 0 where
  pub count : ℕ
  pub in_subgraphs : ℕ
  pub order : List ℕ
  pub places : List (Option Place)

-- the orders of the subgraphs of n nodes, found from blank tables
abbrev pub orders_of : List Edge → ℕ → List (List ℕ)
orders_of es n = (partition es n (replicate n false) (replicate n false)).orders

-- the orders of the subgraphs, and then the nodes without edges
abbrev pub whole : List Edge → ℕ → List (List ℕ) → Whole
whole es n os = record { count = length os; in_subgraphs = length (in_turn os); order = whole_order es n (in_turn os); places = places os (replicate n None) }

-- what is answered of a graph, with a work table of that room
abbrev pub whole_partition : Model → ℕ → Result Whole Refusal
whole_partition m room = unless_refused (acyclic_answer m room) (Ok (whole m.edges (length m.nodes) (orders_of m.edges (length m.nodes))))

-- what is told of a graph of n nodes
abbrev pub told_whole : ℕ → Result Subgraphs Refusal → Result Whole Refusal
told_whole n (Ok s) = Ok (record { count = s.count; in_subgraphs = in_parts s; order = in_order s; places = take n s.places })
told_whole n (Err e) = Err e

-- ---- the law
pub record LawfulWhole (m : Model) (s : Subgraphs) : Type 0 where
  -- there is no closed walk, and the places are those of subgraphs
  pub acyclic : Acyclic (Joins m.edges)
  pub stand : Placed (Joins m.edges) s.places
  -- each node stands in the order once, and the source of each edge before its target
  pub order : OrdersNodes (length m.nodes) m.edges (in_order s)
  -- the nodes of the subgraphs, which stand first, are those with an edge
  pub touched : (x : ℕ) → (Among x (take (in_parts s) (in_order s)) → Touched (Joins m.edges) x) × (Touched (Joins m.edges) x → Among x (take (in_parts s) (in_order s)))
  -- and among them, too, the source of each edge stands before its target
  pub ordered : Ordered (Joins m.edges) (reverse (take (in_parts s) (in_order s)))
