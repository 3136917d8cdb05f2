-- Adding nodes and edges, and reading what is there.
use Rattle.std.specs.Prelude.{ℕ, cond, [], ◌∷◌, ◌++◌, length, Ok, Err, Result, nat_lt, slice_index_or}
use Rattle.records.specs.declared.node.Node.{Node}
use Rattle.records.specs.declared.node.NodeKind.{NodeKind}
use Rattle.records.specs.declared.node.NodeState.TheVariants.{Disabled, Hidden}
use Rattle.records.specs.declared.refusal.Refusal.{Refusal}
use Rattle.records.specs.declared.refusal.Refusal.TheVariants.{NodesFull, EdgesFull, UnknownNode, TableTooShort}
use Rattle.records.specs.declared.stage.Call.TheVariants.{AddNode, AddEdge}
use Rattle.records.specs.Nodes.{fresh, no_node}
use Rattle.records.specs.Edges.{edge}
use Rattle.records.specs.Stages.{admission}
use Rattle.graph.specs.declared.stats.GraphStats.{GraphStats}
use Rattle.graph.specs.Model.{Model, Outcome, done, refused, admitted, with_nodes, with_edges}
use Rattle.graph.specs.Tallies.{tally}

-- a new node is hidden, and stands after the others
abbrev pub add_node : NodeKind → ℕ → Model → Outcome ℕ
add_node kind item m =
    admitted (admission m.stage AddNode) m
    (cond (nat_lt (length m.nodes) 1024)
    (done (length m.nodes) (with_nodes (m.nodes ++ fresh kind item ∷ []) m))
    (refused NodesFull m))

abbrev pub known : ℕ → Model → Result (Unit {0}) Refusal
known n m = cond (nat_lt n (length m.nodes)) (Ok tt) (Err (UnknownNode n))

-- a table has an entry for each node
abbrev pub room_for : ℕ → Model → Result (Unit {0}) Refusal
room_for entries m = cond (nat_lt entries (length m.nodes)) (Err (TableTooShort (length m.nodes))) (Ok tt)

-- the source is tested before the target
abbrev pub add_edge : ℕ → ℕ → Model → Outcome ℕ
add_edge a b m =
    admitted (admission m.stage AddEdge) m
    (admitted (known a m) m
    (admitted (known b m) m
    (cond (nat_lt (length m.edges) 4096)
    (done (length m.edges) (with_edges (m.edges ++ edge a b ∷ []) m))
    (refused EdgesFull m))))

abbrev pub node_at : Model → ℕ → Node
node_at m n = slice_index_or m.nodes n no_node

abbrev pub node_record : ℕ → Model → Result Node Refusal
node_record n m = cond (nat_lt n (length m.nodes)) (Ok (node_at m n)) (Err (UnknownNode n))

abbrev pub stats_of : Model → GraphStats
stats_of m = record { hidden = tally Hidden m.nodes; disabled = tally Disabled m.nodes; generation = m.generation }
