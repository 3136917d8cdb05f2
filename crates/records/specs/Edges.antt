-- Edges, and what lies at a node's edges.
use Rattle.std.specs.Prelude.{ℕ, Bool, true, false, List, [], ◌∷◌, reverse, ◌==◌}
use Rattle.records.specs.declared.edge.Edge.{Edge}
use Rattle.records.specs.declared.edge.Direction.{Direction}
use Rattle.records.specs.declared.edge.Direction.TheVariants.{Outgoing, Incoming}

abbrev pub edge : ℕ → ℕ → Edge
edge a b = record { source = a; target = b }

-- what stands for an edge where there is none
abbrev pub no_edge : Edge
no_edge = edge 0 0

-- the edges in the order of adding, read from the newest on
abbrev pub history : List Edge → List Edge
history es = reverse es

-- the end of an edge at which one stands, and the end that one sees from there
abbrev pub near : Direction → Edge → ℕ
near Outgoing e = e.source
near Incoming e = e.target

abbrev pub far : Direction → Edge → ℕ
far Outgoing e = e.target
far Incoming e = e.source

-- x in front of xs, where the test passes
abbrev pub add_if : {A : Type 0} → Bool → A → List A → List A
add_if true x xs = x ∷ xs
add_if false x xs = xs

-- what node n sees along its edges of one direction, an entry for each edge, in the order of the list
abbrev pub neighbours : Direction → List Edge → ℕ → List ℕ
neighbours d [] n = []
neighbours d (e ∷ es) n = add_if (near d e == n) (far d e) (neighbours d es n)
