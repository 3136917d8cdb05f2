-- A table with its first entries filled.
use Rattle.std.specs.Prelude.{◌≡◌, ℕ, ◌<◌, Bool, false, List, ◌++◌, drop, replicate, slice_index_or}

-- the first n entries are v, and the others as they were
abbrev pub filled : {V : Type 0} → ℕ → V → List V → List V
filled n v t = replicate n v ++ drop n t

-- the first n entries are no
abbrev pub Blank : ℕ → List Bool → Type 0
Blank n t = (k : ℕ) → k < n → slice_index_or t k false ≡ false
