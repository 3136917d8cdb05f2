-- Orders of nodes, and the order of one subgraph.
use Rattle.std.specs.Prelude.{◌≡◌, ℕ, ◌<◌, Bool, true, false, List, [], ◌∷◌, filter, slice_index_or}
use Rattle.records.specs.declared.edge.Edge.{Edge}
use Rattle.records.specs.Walks.{Among, Joins}
use Rattle.tables.specs.Marks.{blanks}
use Rattle.walks.specs.Exploring.{sources, nexts, Trail, explored}
use Rattle.subgraph.specs.Sorting.{sorted}

-- an order, the last node first: each step's source stands before its target, and no node occurs twice
abbrev pub Ordered : (ℕ → ℕ → Type 0) → List ℕ → Type 0
Ordered R [] = Unit {0}
Ordered R (n ∷ before) = ((x : ℕ) → R x n → Among x before) × (Among n before → ⊥) × Ordered R before

abbrev pub is_empty : List ℕ → Bool
is_empty [] = true
is_empty (x ∷ xs) = false

-- those without incoming edges
abbrev pub starts : List Edge → List ℕ → List ℕ
starts es ns = filter (λ n. is_empty (sources es n)) ns

-- the search along edges both ways from a root
abbrev pub found_from : List Edge → ℕ → List Bool → ℕ → Trail
found_from es nodes visited root = explored (nexts es) (blanks nodes visited) (root ∷ []) visited []

-- the topological search, begun with what of that has no incoming edges
abbrev pub sorted_from : List Edge → ℕ → List Bool → List Bool → ℕ → Trail
sorted_from es nodes visited appended root = sorted es (blanks nodes appended) (starts es (found_from es nodes visited root).order) appended []

-- of each edge a table has both ends or none: it has whole subgraphs
abbrev pub Shut : List Edge → List Bool → Type 0
Shut es t = (x y : ℕ) → Joins es x y → slice_index_or t x false ≡ slice_index_or t y false

-- of the nodes below n, one table has no more than another
abbrev pub NoMore : ℕ → List Bool → List Bool → Type 0
NoMore n w v = (x : ℕ) → x < n → slice_index_or w x false ≡ true → slice_index_or v x false ≡ true
