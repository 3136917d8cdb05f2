-- A graph as it is drawn: its nodes and edges.
use Rattle.std.specs.Prelude.{◌≡◌, ℕ, zero, suc, ◌<◌, Bool, true, false, ◌&&◌, ◌||◌, List, [], ◌∷◌, length, get_or, ◌==◌, slice_index_or}
use Rattle.records.specs.declared.edge.Edge.{Edge}
use Rattle.records.specs.declared.edge.Direction.TheVariants.{Outgoing, Incoming}
use Rattle.records.specs.declared.node.Node.{Node}
use Rattle.records.specs.Edges.{no_edge, history, add_if, neighbours}
use Rattle.records.specs.Nodes.{no_node, is_shown, is_hidden}
use Rattle.records.specs.Walks.{Acyclic, Joins}
use Rattle.graph.specs.Order.{Ends}

-- nodes and edges in the order of adding
pub record Graph : Type 0 where
  pub nodes : List Node
  pub edges : List Edge

abbrev pub node_of : Graph → ℕ → Node
node_of g n = slice_index_or g.nodes n no_node

abbrev pub source_of : Graph → ℕ → ℕ
source_of g e = (get_or g.edges e no_edge).source

abbrev pub target_of : Graph → ℕ → ℕ
target_of g e = (get_or g.edges e no_edge).target

abbrev pub shown : Graph → ℕ → Bool
shown g n = is_shown (node_of g n)

abbrev pub hidden : Graph → ℕ → Bool
hidden g n = is_hidden (node_of g n)

-- n is a shown node of the graph
abbrev pub Shown : Graph → ℕ → Type 0
Shown g n = (n < length g.nodes) × (shown g n ≡ true)

abbrev pub NoneShown : Graph → List ℕ → Type 0
NoneShown g [] = Unit {0}
NoneShown g (m ∷ ms) = (shown g m ≡ false) × NoneShown g ms

abbrev pub any_hidden : Graph → List ℕ → Bool
any_hidden g [] = false
any_hidden g (m ∷ ms) = hidden g m || any_hidden g ms

-- the sources of the edges into n, and the targets of those out of n, newest edge first
abbrev pub parents : Graph → ℕ → List ℕ
parents g n = neighbours Incoming (history g.edges) n

abbrev pub children : Graph → ℕ → List ℕ
children g n = neighbours Outgoing (history g.edges) n

-- the edges from h to t, newest first, among the first k
abbrev pub between : Graph → ℕ → ℕ → ℕ → List ℕ
between g zero h t = []
between g (suc k) h t = add_if (source_of g k == h && target_of g k == t) k (between g k h t)

-- every edge runs between nodes, and no walk leads from a node to itself
pub record Proper (g : Graph) : Type 0 where
  pub ends : Ends (length g.nodes) g.edges
  pub acyclic : Acyclic (Joins g.edges)
