-- Small graphs whose rows are known: s shown, h Hidden, d Disabled, with their edges in the order of adding.
use Rattle.std.specs.Prelude.{◌≡◌, true, false, List, [], ◌∷◌, map, Some, None}
use Rattle.records.specs.declared.edge.Edge.{Edge}
use Rattle.records.specs.declared.node.NodeKind.TheVariants.{ENode}
use Rattle.records.specs.declared.node.NodeState.{NodeState}
use Rattle.records.specs.declared.node.NodeState.TheVariants.{Disabled, Hidden, Visible}
use Rattle.records.specs.Edges.{edge}
use Rattle.records.specs.Nodes.{fresh, in_state}
use Rattle.routes.specs.Graph.{Graph}
use Rattle.routes.specs.View.{direct, across, view_rows}

abbrev pub drawn : List NodeState → List Edge → Graph
drawn states edges = record { nodes = map (λ s. in_state s (fresh ENode 0)) states; edges = edges }

-- s h d s; 0→1 0→2 1→3 2→3: over the Hidden node and over the Disabled one
abbrev pub fork : Graph
fork = drawn (Visible ∷ Hidden ∷ Disabled ∷ Visible ∷ []) (edge 0 1 ∷ edge 0 2 ∷ edge 1 3 ∷ edge 2 3 ∷ [])

abbrev pub ForkRows : Type 0
ForkRows = view_rows fork ≡ (across 0 3 2 true (Some []) ∷ across 0 3 3 false (Some []) ∷ [])

-- s h s h s; 0→1 1→2 2→3 1→3 3→4: the strand comes to 3 before 2 covers it
abbrev pub kept : Graph
kept = drawn (Visible ∷ Hidden ∷ Visible ∷ Hidden ∷ Visible ∷ []) (edge 0 1 ∷ edge 1 2 ∷ edge 2 3 ∷ edge 1 3 ∷ edge 3 4 ∷ [])

abbrev pub KeptRows : Type 0
KeptRows = view_rows kept ≡ (across 0 2 1 true (Some []) ∷ across 0 4 4 true (Some (1 ∷ [])) ∷ across 2 4 4 true (Some []) ∷ [])

-- the same with 1→3 before 2→3: 2 covers 3 first
abbrev pub turned : Graph
turned = drawn (Visible ∷ Hidden ∷ Visible ∷ Hidden ∷ Visible ∷ []) (edge 0 1 ∷ edge 1 2 ∷ edge 1 3 ∷ edge 2 3 ∷ edge 3 4 ∷ [])

abbrev pub TurnedRows : Type 0
TurnedRows = view_rows turned ≡ (across 0 2 1 true (Some []) ∷ across 2 4 4 true (Some []) ∷ [])

-- s h s h h s; 0→1 1→2 2→3 1→3 3→4 3→4 4→5: the second edge from the covered 3 drops what the first gave to 4
abbrev pub dropped : Graph
dropped =
    drawn (Visible ∷ Hidden ∷ Visible ∷ Hidden ∷ Hidden ∷ Visible ∷ [])
    (edge 0 1 ∷ edge 1 2 ∷ edge 2 3 ∷ edge 1 3 ∷ edge 3 4 ∷ edge 3 4 ∷ edge 4 5 ∷ [])

abbrev pub DroppedRows : Type 0
DroppedRows = view_rows dropped ≡ (across 0 2 1 true (Some []) ∷ across 2 5 6 true None ∷ [])

-- s h s; 0→1 0→1 1→2: two strands over the repeated edge, so no path is kept
abbrev pub doubled : Graph
doubled = drawn (Visible ∷ Hidden ∷ Visible ∷ []) (edge 0 1 ∷ edge 0 1 ∷ edge 1 2 ∷ [])

abbrev pub DoubledRows : Type 0
DoubledRows = view_rows doubled ≡ (across 0 2 2 true None ∷ [])

-- s h s; 0→1 1→2 1→2: the newer of the two last edges alone gives a row, and it has no path
abbrev pub last_twice : Graph
last_twice = drawn (Visible ∷ Hidden ∷ Visible ∷ []) (edge 0 1 ∷ edge 1 2 ∷ edge 1 2 ∷ [])

abbrev pub LastTwiceRows : Type 0
LastTwiceRows = view_rows last_twice ≡ (across 0 2 2 true None ∷ [])

-- s h d s; 0→1 1→2 2→3: the mark stays past a Disabled node
abbrev pub in_a_row : Graph
in_a_row = drawn (Visible ∷ Hidden ∷ Disabled ∷ Visible ∷ []) (edge 0 1 ∷ edge 1 2 ∷ edge 2 3 ∷ [])

abbrev pub InARowRows : Type 0
InARowRows = view_rows in_a_row ≡ (across 0 3 2 true (Some (1 ∷ [])) ∷ [])

-- s s; 0→1 0→1: each edge between shown nodes is a row
abbrev pub pair : Graph
pair = drawn (Visible ∷ Visible ∷ []) (edge 0 1 ∷ edge 0 1 ∷ [])

abbrev pub PairRows : Type 0
PairRows = view_rows pair ≡ (direct 0 1 0 ∷ direct 0 1 1 ∷ [])

-- s h s h s h s; 0→1 1→2 2→3 3→4 1→5 4→5 5→6: no strand of 0 comes to 3, so 4 is not covered and does not cover 5
abbrev pub gap : Graph
gap =
    drawn (Visible ∷ Hidden ∷ Visible ∷ Hidden ∷ Visible ∷ Hidden ∷ Visible ∷ [])
    (edge 0 1 ∷ edge 1 2 ∷ edge 2 3 ∷ edge 3 4 ∷ edge 1 5 ∷ edge 4 5 ∷ edge 5 6 ∷ [])

abbrev pub GapRows : Type 0
GapRows =
    view_rows gap
    ≡ (across 0 2 1 true (Some [])
    ∷ across 2 4 3 true (Some [])
    ∷ across 0 6 6 true (Some (1 ∷ []))
    ∷ across 4 6 6 true (Some [])
    ∷ [])
