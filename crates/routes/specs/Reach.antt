-- Which nodes can be reached, as an analysis and as walks.
use Rattle.std.specs.Prelude.{◌≡◌, ℕ, ◌<◌, Bool, true, false, ◌||◌, ◌⊎◌, ◌↔◌, List, length, slice_index_or}
use Rattle.records.specs.declared.node.Node.{Node}
use Rattle.analysis.specs.Rule.{Meaning}
use Rattle.records.specs.Walks.{Leads, Joins}
use Rattle.routes.specs.Graph.{Graph, node_of}

-- yes if the node is wanted or any child has yes
abbrev pub reach_meaning : (Node → Bool) → Meaning Bool
reach_meaning wanted = record {
  blank = false;
  start = λ n node. wanted node;
  join = λ so_far n node k neighbour value. so_far || value;
  close = λ so_far n node. so_far;
}

-- a wanted node is n or can be reached from n
abbrev pub Reaches : (Node → Bool) → Graph → ℕ → Type 0
Reaches wanted g n = (k : ℕ) × (k < length g.nodes) × (wanted (node_of g k) ≡ true) × ((n ≡ k) ⊎ Leads (Joins g.edges) n k)

-- a table says yes at exactly the nodes from which a wanted node can be reached, themselves included
abbrev pub TellsReach : (Node → Bool) → Graph → List Bool → Type 0
TellsReach wanted g table = (n : ℕ) → n < length g.nodes → (slice_index_or table n false ≡ true) ↔ Reaches wanted g n
