-- Taking a list element by element.
use Rattle.std.specs.Prelude.{◌≡◌, ℕ, ◌<◌, List, [], ◌∷◌, Some, None, Option}

-- a step gives the first of what there was, and leaves the rest
abbrev pub Steps : {A : Type 0} → List A → Option A → List A → Type 0
Steps before (Some x) after = before ≡ x ∷ after
Steps before None after = (before ≡ []) × (after ≡ [])

-- what is given is below n
abbrev pub Inside : ℕ → Option ℕ → Type 0
Inside n (Some x) = x < n
Inside n None = Unit {0}

-- every element is below n
abbrev pub Below : ℕ → List ℕ → Type 0
Below n [] = Unit {0}
Below n (x ∷ xs) = (x < n) × Below n xs
