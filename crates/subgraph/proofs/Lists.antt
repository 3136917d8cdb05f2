-- What a list keeps of another, and lists with no element.
use Rattle.std.proofs.Common.{◌≡◌, ℕ, Bool, true, false, List, [], ◌∷◌, filter, refl, inl, arith}
use Rattle.std.proofs.lemmas.Bool.{both_ways}
use Rattle.std.proofs.lemmas.Grind.{common_steps}
use Rattle.records.specs.Walks.{Among}
use Rattle.subgraph.specs.Orders.{is_empty}

module _ (p : ℕ → Bool) where
  pub filter_has : (xs : List ℕ) (m : ℕ) → Among m xs → p m ≡ true → Among m (filter p xs)
  filter_has [] m a t = a
  filter_has (x ∷ xs) m a t = grind (arith, common_steps, filter_has xs m)

  pub filter_only : (xs : List ℕ) (m : ℕ) → Among m (filter p xs) → Among m xs × (p m ≡ true)
  filter_only [] m a = absurd a
  filter_only (x ∷ xs) m a = grind (arith, common_steps, filter_only xs m)

-- a list that has an element is not empty, and one that is not empty has one
pub some_in : (x : ℕ) (xs : List ℕ) → Among x xs → is_empty xs ≡ false
some_in x [] m = absurd m
some_in x (y ∷ ys) m = refl

pub in_some : (xs : List ℕ) → is_empty xs ≡ false → (x : ℕ) × Among x xs
in_some [] h = absurd (both_ways true h refl)
in_some (x ∷ xs) h = (x, inl refl)
