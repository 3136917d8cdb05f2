-- Walks over any kind of step, and the edges of a graph as steps.
use Rattle.std.specs.Prelude.{◌≡◌, ℕ, ◌<◌, ◌⊎◌, List, [], ◌∷◌, length, slice_index_or}
use Rattle.records.specs.declared.edge.Edge.{Edge}
use Rattle.records.specs.Edges.{no_edge}

-- a walk from a to b by steps of R, whose nodes in between are ms, in order
abbrev pub Walk : (ℕ → ℕ → Type 0) → ℕ → List ℕ → ℕ → Type 0
Walk R a [] b = R a b
Walk R a (m ∷ ms) b = R a m × Walk R m ms b

-- a leads to b: one or more steps
abbrev pub Leads : (ℕ → ℕ → Type 0) → ℕ → ℕ → Type 0
Leads R a b = (ms : List ℕ) × Walk R a ms b

-- no walk leads from a node to itself
abbrev pub Acyclic : (ℕ → ℕ → Type 0) → Type 0
Acyclic R = (n : ℕ) → Leads R n n → ⊥

-- the lowest node from which a walk leads to itself
pub record Lowest (R : ℕ → ℕ → Type 0) (n : ℕ) : Type 0 where
  pub closed : Leads R n n
  pub none_below : (m : ℕ) → m < n → Leads R m m → ⊥

-- steps that are each taken either way
pub data Connected (R : ℕ → ℕ → Type 0) (a : ℕ) : ℕ → Type 0 where
  here : Connected R a a
  onward : {b c : ℕ} → Connected R a b → R b c → Connected R a c
  backward : {b c : ℕ} → Connected R a b → R c b → Connected R a c

-- there is a step from x or to x
abbrev pub Touched : (ℕ → ℕ → Type 0) → ℕ → Type 0
Touched R x = (y : ℕ) × (R x y ⊎ R y x)

abbrev pub Among : {A : Type 0} → A → List A → Type 0
Among x [] = ⊥
Among x (y ∷ ys) = (x ≡ y) ⊎ Among x ys

-- edge number e runs from a to b
abbrev pub Runs : List Edge → ℕ → ℕ → ℕ → Type 0
Runs es e a b = (e < length es) × ((slice_index_or es e no_edge).source ≡ a) × ((slice_index_or es e no_edge).target ≡ b)

-- some edge runs from a to b
abbrev pub Joins : List Edge → ℕ → ℕ → Type 0
Joins es a b = (e : ℕ) × Runs es e a b
