-- How many nodes are in a state, and how often a state has changed.
use Rattle.std.specs.Prelude.{ℕ, ◌+◌, ◌%◌, ◌^◌, cond, List, count_by}
use Rattle.records.specs.declared.node.Node.{Node}
use Rattle.records.specs.declared.node.NodeState.{NodeState}
use Rattle.records.specs.Nodes.{same_state}

-- one for a node in the state
abbrev pub one : NodeState → Node → ℕ
one s n = cond (same_state s n.state) 1 0

-- how many of the nodes are in the state
unfoldable pub tally : NodeState → List Node → ℕ
tally s ns = count_by (λ n. same_state s n.state) ns

-- a generation after one change more
abbrev pub risen : ℕ → ℕ
risen g = (g + 1) % 2 ^ 32
