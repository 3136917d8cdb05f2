-- What stands in lists that are joined from parts.
use Rattle.std.proofs.Common.{◌≡◌, ℕ, zero, suc, ◌+◌, ◌<◌, ◌≤◌, Bool, true, false, ◌⊎◌, List, [], ◌∷◌, sym, refl, subst, inl, inr, ⊎_elim, arith}
use Rattle.std.proofs.lemmas.Bool.{cases_eq}
use Rattle.std.specs.List.{flat_map, range_with_len}
use Rattle.records.specs.Walks.{Among}
use Rattle.graph.proofs.Standings.{among_either, among_left, among_right}
use Rattle.routes.specs.View.{only_if}

pub among_flat_map : {A B : Type 0} (x : B) (f : A → List B) (l : List A) → Among x (flat_map f l) → (a : A) × Among a l × Among x (f a)
among_flat_map x f [] m = absurd m
among_flat_map {A} {B} x f (a ∷ l) m = go (among_either x (f a) (flat_map f l) m) (λ h. among_flat_map x f l h)
  where
    go : Among x (f a) ⊎ Among x (flat_map f l) → (Among x (flat_map f l) → (b : A) × Among b l × Among x (f b)) → (b : A) × Among b (a ∷ l) × Among x (f b)
    go (inl h) r = (a, inl refl, h)
    go (inr h) r = let q = r h in (q.0, inr q.1, q.2)

pub flat_map_among : {A B : Type 0} (x : B) (f : A → List B) (l : List A) (a : A) → Among a l → Among x (f a) → Among x (flat_map f l)
flat_map_among x f [] a m h = absurd m
flat_map_among {A} {B} x f (b ∷ l) a (inl e) h = among_left x (f b) (flat_map f l) (subst (λ (y : A). Among x (f y)) e h)
flat_map_among x f (b ∷ l) a (inr m) h = among_right x (f b) (flat_map f l) (flat_map_among x f l a m h)

among_range : (a n k : ℕ) → Among k (range_with_len a n) → (a ≤ k) × (k < a + n)
among_range a zero k m = absurd m
among_range a (suc n) k (inl e) = (omega arith, omega arith)
among_range a (suc n) k (inr m) = let h = among_range (a + 1) n k m in (omega (arith, h.0), omega (arith, h.1))

range_among : (a n k : ℕ) → a ≤ k → k < a + n → Among k (range_with_len a n)
range_among a zero k h l = absurd (omega arith)
range_among a (suc n) k h l = ⊎_elim (λ (e : k ≡ a). inl e) (λ (ne : k ≡ a → ⊥). inr (range_among (a + 1) n k (omega (arith, ne)) (omega arith))) (cases_eq k a)

pub among_first : (n k : ℕ) → Among k (range_with_len 0 n) → k < n
among_first n k m = omega (arith, (among_range 0 n k m).1)

pub first_among : (n k : ℕ) → k < n → Among k (range_with_len 0 n)
first_among n k h = range_among 0 n k (omega arith) (omega arith)

pub among_only_if : {A : Type 0} (x : A) (b : Bool) (l : List A) → Among x (only_if b l) → (b ≡ true) × Among x l
among_only_if x true l m = (refl, m)
among_only_if x false l m = absurd m

pub only_if_among : {A : Type 0} (x : A) (b : Bool) (l : List A) → b ≡ true → Among x l → Among x (only_if b l)
only_if_among {A} x b l e m = subst (λ (c : Bool). Among x (only_if c l)) (sym e) m
