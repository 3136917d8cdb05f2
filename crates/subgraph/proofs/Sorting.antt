-- Lists of which each node is marked.
use Rattle.std.proofs.Common.{◌≡◌, ℕ, Bool, true, false, ◌&&◌, List, [], ◌∷◌, get_or, sym, refl, ap, ◌∙◌, inl, inr, ⊎_elim, arith}
use Rattle.std.proofs.lemmas.Bool.{cases_Bool, both_ways, and_from}
use Rattle.std.proofs.lemmas.Grind.{common_steps}
use Rattle.records.specs.Walks.{Among}
use Rattle.subgraph.specs.Sorting.{all_in}

pub all_in_each : (xs : List ℕ) (v : List Bool) (y : ℕ) → all_in xs v ≡ true → Among y xs → get_or v y false ≡ true
all_in_each [] v y h a = absurd a
all_in_each (x ∷ xs) v y h a = grind (arith, common_steps, all_in_each xs v y)

pub all_in_from : (xs : List ℕ) (v : List Bool) → ((y : ℕ) → Among y xs → get_or v y false ≡ true) → all_in xs v ≡ true
all_in_from [] v h = refl
all_in_from (x ∷ xs) v h = and_from _ _ (h x (inl refl)) (all_in_from xs v (λ y a. h y (inr a)))

pub all_in_not : (xs : List ℕ) (v : List Bool) → all_in xs v ≡ false → (y : ℕ) × Among y xs × (get_or v y false ≡ false)
all_in_not [] v h = absurd (both_ways true h refl)
all_in_not (x ∷ xs) v h =
    ⊎_elim
    (λ (t : get_or v x false ≡ true). let deeper = all_in_not xs v (ap (λ b. b && all_in xs v) (sym t) ∙ h) in (deeper.0, inr deeper.1, deeper.2))
    (λ (f : get_or v x false ≡ false). (x, inl refl, f))
    (cases_Bool (get_or v x false))
