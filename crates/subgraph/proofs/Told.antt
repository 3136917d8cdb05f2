-- From the tables to what is answered.
use Rattle.std.proofs.Common.{◌≡◌, ℕ, zero, suc, ◌≤◌, List, [], ◌∷◌, length, take, set, replicate, Some, None, Option, refl, ap, ◌∙◌}
use Rattle.std.proofs.lemmas.List.{take-replicate}
use Rattle.records.specs.declared.node.Place.{Place}
use Rattle.subgraph.specs.Places.{placed, places}

take_set : {A : Type 0} (n k : ℕ) (t : List A) (a : A) → take n (set t k a) ≡ set (take n t) k a
take_set zero k t a = refl
take_set (suc n) k [] a = refl
take_set (suc n) zero (x ∷ t) a = refl
take_set (suc n) (suc k) (x ∷ t) a = ap (λ l. x ∷ l) (take_set n k t a)

take_placed : (n s : ℕ) (o : List ℕ) (t : List (Option Place)) → take n (placed s o t) ≡ placed s o (take n t)
take_placed n s [] t = refl
take_placed n s (x ∷ o) t =
    let p : Option Place = Some (record { subgraph = s; position = length o }) in
    take_set n x (placed s o t) p ∙ ap (λ l. set l x p) (take_placed n s o t)

take_places : (n : ℕ) (os : List (List ℕ)) (t : List (Option Place)) → take n (places os t) ≡ places os (take n t)
take_places n [] t = refl
take_places n (o ∷ os) t = take_placed n (length os) o (places os t) ∙ ap (placed (length os) o) (take_places n os t)

-- the front of a table of places
pub front_places : (N : ℕ) (os : List (List ℕ)) → N ≤ 1024 → take N (places os (replicate 1024 None)) ≡ places os (replicate N None)
front_places N os few = take_places N os (replicate 1024 None) ∙ ap (places os) (take-replicate N 1024 None few)
