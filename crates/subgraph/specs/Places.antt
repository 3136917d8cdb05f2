-- The tables of a partition.
use Rattle.std.specs.Prelude.{◌≡◌, ℕ, ◌<◌, Bool, List, [], ◌∷◌, ◌++◌, reverse, length, replicate, Some, None, Option, slice_index_or, slice_set}
use Rattle.records.specs.declared.node.Place.{Place}
use Rattle.records.specs.Walks.{Connected, Touched}
use Rattle.subgraph.specs.declared.places.Subgraphs.{Subgraphs}
use Rattle.subgraph.specs.Partitions.{Partition}
use Rattle.subgraph.specs.Subgraphs.{in_order}

-- all orders, one after another, the last node first
abbrev pub in_turn : List (List ℕ) → List ℕ
in_turn [] = []
in_turn (o ∷ os) = o ++ in_turn os

-- each node of an order gets the subgraph's number and how many stand before it
abbrev pub placed : ℕ → List ℕ → List (Option Place) → List (Option Place)
placed number [] t = t
placed number (n ∷ before) t = slice_set (placed number before t) n (Some (record { subgraph = number; position = length before }))

-- subgraphs have numbers from 0 on
abbrev pub places : List (List ℕ) → List (Option Place) → List (Option Place)
places [] t = t
places (o ∷ os) t = placed (length os) o (places os t)

-- what a partition leaves in the tables
pub record Filled (p : Partition) (found : List Bool) (s : Subgraphs) : Type 0 where
  pub marks : found ≡ p.found
  pub count : s.count ≡ length p.orders
  pub order : reverse (in_order s) ≡ in_turn p.orders
  pub places_are : s.places ≡ places p.orders (replicate 1024 None)

-- ---- the law, where R are the steps along edges
pub record Placed (R : ℕ → ℕ → Type 0) (t : List (Option Place)) : Type 0 where
  -- each node with an edge has a place, of its own, and no other node has one
  pub some : (x : ℕ) → Touched R x → (p : Place) × (slice_index_or t x None ≡ Some p)
  pub none : (x : ℕ) → (Touched R x → ⊥) → slice_index_or t x None ≡ None
  pub once : (x y : ℕ) (p : Place) → slice_index_or t x None ≡ Some p → slice_index_or t y None ≡ Some p → x ≡ y
  -- an edge's source stands before its target in the same subgraph
  pub before : (x y : ℕ) → R x y → (p : Place) × (q : Place) × (slice_index_or t x None ≡ Some p) × (slice_index_or t y None ≡ Some q) × (p.subgraph ≡ q.subgraph) × (p.position < q.position)
  -- what is in one subgraph is connected, and what is connected is in one subgraph
  pub together : (x y : ℕ) (p q : Place) → slice_index_or t x None ≡ Some p → slice_index_or t y None ≡ Some q → p.subgraph ≡ q.subgraph → Connected R x y
  pub connected : (x y : ℕ) (p q : Place) → slice_index_or t x None ≡ Some p → slice_index_or t y None ≡ Some q → Connected R x y → p.subgraph ≡ q.subgraph
