-- What sealing writes into a graph.
use Rattle.std.specs.Prelude.{ℕ, Bool, true, List, map, length, replicate, None, Option, slice_index_or}
use Rattle.std.specs.List.{range_with_len}
use Rattle.records.specs.declared.node.Node.{Node}
use Rattle.records.specs.declared.node.Place.{Place}
use Rattle.records.specs.declared.stage.Stage.TheVariants.{Sealed}
use Rattle.records.specs.Nodes.{no_node}
use Rattle.graph.specs.Model.{Model}

-- the node at another place
abbrev pub in_place : Option Place → Node → Node
in_place p n = record { state = n.state; kind = n.kind; item = n.item; place = p }

-- each node with its place
abbrev pub with_places : List (Option Place) → List Node → List Node
with_places places nodes = map (λ k. in_place (slice_index_or places k None) (slice_index_or nodes k no_node)) (range_with_len 0 (length nodes))

-- sealed, with an order of all nodes; every node counts as one from which a node that is not disabled can be reached
abbrev pub sealed_in : List (Option Place) → List ℕ → Model → Model
sealed_in places order m =
    record {
      stage = Sealed;
      nodes = with_places places m.nodes;
      edges = m.edges;
      generation = m.generation;
      order = order;
      reach = replicate (length m.nodes) true;
    }

abbrev pub with_reach : List Bool → Model → Model
with_reach reach m = record { stage = m.stage; nodes = m.nodes; edges = m.edges; generation = m.generation; order = m.order; reach = reach }
