-- The sheet of a graph, and the graphs that a sheet can give.
use Rattle.std.specs.Prelude.{◌≡◌, ℕ, ◌/◌, ◌%◌, ◌^◌, ◌<◌, ◌≤◌, cond, List, [], ◌∷◌, ◌++◌, length, None, Ok}
use Rattle.std.specs.List.{flat_map, AllByRecursion}
use Rattle.records.specs.declared.edge.Edge.{Edge}
use Rattle.records.specs.declared.node.Node.{Node}
use Rattle.records.specs.declared.node.NodeState.{NodeState}
use Rattle.records.specs.declared.node.NodeState.TheVariants.{Disabled, Hidden, Visible}
use Rattle.records.specs.declared.stage.Stage.TheVariants.{Open}
use Rattle.records.specs.Nodes.{same_state, kind_number}
use Rattle.graph.specs.Model.{Model}
use Rattle.graph.specs.Tallies.{risen}
use Rattle.sheet.specs.Bytes.{Bytes}
use Rattle.sheet.specs.Reading.{sheet_read}

abbrev pub state_byte : NodeState → ℕ
state_byte Disabled = 0
state_byte Hidden = 1
state_byte Visible = 2

-- a number in two bytes, and in four
abbrev pub two : ℕ → List ℕ
two n = n / 256 ∷ n % 256 ∷ []

abbrev pub four : ℕ → List ℕ
four n = n / 16777216 ∷ n / 65536 % 256 ∷ n / 256 % 256 ∷ n % 256 ∷ []

abbrev pub node_bytes : Node → List ℕ
node_bytes n = state_byte n.state ∷ kind_number n.kind ∷ four n.item

abbrev pub edge_bytes : Edge → List ℕ
edge_bytes e = two e.source ++ two e.target

-- a count and the nodes, a count and the edges
abbrev pub body_of : Model → List ℕ
body_of m = two (length m.nodes) ++ (flat_map node_bytes m.nodes ++ (two (length m.edges) ++ flat_map edge_bytes m.edges))

-- the version, the body's length and the body
abbrev pub sheet_of : Model → List ℕ
sheet_of m = 1 ∷ (four (length (body_of m)) ++ body_of m)

-- a node as a sheet can give it
abbrev pub Plain : Node → Type 0
Plain n = (n.place ≡ None) × (n.item < 2 ^ 32)

-- an edge between two of the first n nodes
abbrev pub Inside : ℕ → Edge → Type 0
Inside n e = (e.source < n) × (e.target < n)

-- one rise from g for each node that is not hidden
abbrev pub rises : ℕ → List Node → ℕ
rises g [] = g
rises g (n ∷ ns) = rises (cond (same_state Hidden n.state) g (risen g)) ns

-- a graph as a sheet can give it
pub record Given (m : Model) : Type 0 where
  pub opened : m.stage ≡ Open
  pub few : length m.nodes ≤ 1024
  pub sparse : length m.edges ≤ 4096
  pub plain : AllByRecursion Plain m.nodes
  pub inside : AllByRecursion (Inside (length m.nodes)) m.edges
  pub risen_so : m.generation ≡ rises 0 m.nodes
  pub unordered : m.order ≡ []
  pub unreached : m.reach ≡ []

-- bytes that are read are the sheet of the graph that they give
abbrev pub SameBytes : Type 0
SameBytes = (bs : List ℕ) (m : Model) → Bytes bs → sheet_read bs ≡ Ok m → (bs ≡ sheet_of m) × Given m

-- the sheet of every such graph is read as that graph
abbrev pub RoundTrip : Type 0
RoundTrip = (m : Model) → Given m → sheet_read (sheet_of m) ≡ Ok m
