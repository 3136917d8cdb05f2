-- What the reach table of a sealed graph says: from a node with a no only disabled nodes can be reached.
use Rattle.std.specs.Prelude.{◌≡◌, ℕ, ◌<◌, Bool, true, false, not, ◌||◌, List, length, get_or, slice_index_or}
use Rattle.records.specs.declared.edge.Edge.{Edge}
use Rattle.records.specs.declared.node.Node.{Node}
use Rattle.records.specs.Edges.{no_edge}
use Rattle.records.specs.Nodes.{no_node, is_disabled}

-- each node has a yes or is disabled
abbrev pub YesOrDisabled : List Node → List Bool → Type 0
YesOrDisabled nodes reach = (n : ℕ) → n < length nodes → slice_index_or reach n false || is_disabled (slice_index_or nodes n no_node) ≡ true

-- the source of each edge has a yes, or the target has none
abbrev pub YesGoesBack : List Edge → List Bool → Type 0
YesGoesBack es reach = (e : ℕ) → e < length es → slice_index_or reach (get_or es e no_edge).source false || not (slice_index_or reach (get_or es e no_edge).target false) ≡ true
