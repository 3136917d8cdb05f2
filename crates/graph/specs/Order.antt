-- Edges between nodes, and orders in which every edge's source stands before its target.
use Rattle.std.specs.Prelude.{◌≡◌, ℕ, suc, ◌<◌, cond, List, [], ◌∷◌, length, ◌==◌, slice_index, slice_index_or}
use Rattle.records.specs.declared.edge.Edge.{Edge}
use Rattle.records.specs.Edges.{no_edge}

-- both ends of each edge are among the first n nodes
abbrev pub Ends : ℕ → List Edge → Type 0
Ends n es = (e : ℕ) → e < length es → ((slice_index_or es e no_edge).source < n) × ((slice_index_or es e no_edge).target < n)

-- where n first stands in a list; the list's length where it does not stand there
abbrev pub stands_at : List ℕ → ℕ → ℕ
stands_at [] n = 0
stands_at (x ∷ xs) n = cond (x == n) 0 (suc (stands_at xs n))

-- only the first n nodes stand in the order
abbrev pub Within : ℕ → List ℕ → Type 0
Within n order = (i : ℕ) → i < length order → slice_index order i < n

-- each of them does
abbrev pub Complete : ℕ → List ℕ → Type 0
Complete n order = (k : ℕ) → k < n → stands_at order k < length order

-- and none of them twice
abbrev pub Once : List ℕ → Type 0
Once order = (i : ℕ) → i < length order → stands_at order (slice_index order i) ≡ i

-- the source of each edge stands before its target
abbrev pub Topological : List Edge → List ℕ → Type 0
Topological es order = (e : ℕ) → e < length es → stands_at order (slice_index_or es e no_edge).source < stands_at order (slice_index_or es e no_edge).target

-- the order has each of the first n nodes once, and the source of each edge before its target
pub record OrdersNodes (n : ℕ) (es : List Edge) (order : List ℕ) : Type 0 where
  pub long : length order ≡ n
  pub within : Within n order
  pub complete : Complete n order
  pub once : Once order
  pub topological : Topological es order
