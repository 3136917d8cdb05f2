-- What holds of each item of a list, and of each node that a walk gives out.
use Rattle.std.proofs.Common.{ℕ, zero, suc, ◌<◌, refl, Bool, true, false, cond, List, [], ◌∷◌, get_or, length, set, filter, replicate, inl, inr, arith}
use Rattle.std.specs.List.{AllByRecursion}
use Rattle.tables.specs.Steps.{Below}
use Rattle.records.specs.declared.edge.Direction.{Direction}
use Rattle.records.specs.Walks.{Among}
use Rattle.graph.specs.Model.{Model}
use Rattle.graph.specs.Sound.{Sound}
use Rattle.graph.proofs.Sound.{neighbours_below}
use Rattle.walk_neighbors.specs.PastDisabled.{Noted, noted, push, push_all, drained, gone_through, sees, is_off, may_reach, enabled_neighbours}

pub each_map : {X : Type 0} (P Q : X → Type 0) (xs : List X) → ((x : X) → P x → Q x) → AllByRecursion P xs → AllByRecursion Q xs
each_map P Q [] f a = tt
each_map P Q (x ∷ xs) f a = (f x a.0, each_map P Q xs f a.1)

pub each_among : {X : Type 0} (P : X → Type 0) (xs : List X) → ((x : X) → Among x xs → P x) → AllByRecursion P xs
each_among P [] f = tt
each_among P (x ∷ xs) f = (f x (inl refl), each_among P xs (λ y m. f y (inr m)))

pub each_at : {X : Type 0} (P : X → Type 0) (xs : List X) (i : ℕ) (d : X) → AllByRecursion P xs → i < length xs → P (get_or xs i d)
each_at P [] i d a h = absurd (omega arith)
each_at P (x ∷ xs) zero d a h = a.0
each_at P (x ∷ xs) (suc i) d a h = each_at P xs i d a.1 (omega arith)

each_kept : (P : ℕ → Type 0) (p : ℕ → Bool) (xs : List ℕ) → AllByRecursion P xs → AllByRecursion P (filter p xs)
each_kept P p [] a = tt
each_kept P p (x ∷ xs) a =
    let rest = each_kept P p xs a.1 in
    elim (p x) as (λ b. AllByRecursion P (cond b (x ∷ filter p xs) (filter p xs))) [ true ↦ (a.0, rest) | false ↦ rest ]

-- what holds of the direct list and the stack, and passes on to a node's list, holds of all that is given out
module _ (P : ℕ → Type 0) (lists : ℕ → List ℕ) (off : ℕ → Bool) (passes : (m : ℕ) → P m → AllByRecursion P (lists m)) where
  pushed_each : (ms : List ℕ) (p : Noted) → AllByRecursion P ms → AllByRecursion P p.stack → AllByRecursion P (push_all ms p).stack
  pushed_each [] p a s = s
  pushed_each (m ∷ ms) p a s = pushed_each ms (push m p) a.1 (one (get_or p.visited m false))
    where
      one : (b : Bool) → AllByRecursion P (cond b p (noted (set p.visited m true) (m ∷ p.stack))).stack
      one true = s
      one false = (a.0, s)

  drained_each : (k : ℕ) (v : List Bool) (st : List ℕ) → AllByRecursion P st → AllByRecursion P (drained lists off k (noted v st))
  drained_each zero v st s = tt
  drained_each (suc k) v [] s = tt
  drained_each (suc k) v (n ∷ rest) s =
      let q = push_all (lists n) (noted v rest) in
      one (off n) (drained_each k q.visited q.stack (pushed_each (lists n) (noted v rest) (passes n s.0) s.1)) (drained_each k v rest s.1)
    where
      one : (b : Bool) → AllByRecursion P (drained lists off k (push_all (lists n) (noted v rest))) → AllByRecursion P (drained lists off k (noted v rest)) → AllByRecursion P (cond b (drained lists off k (push_all (lists n) (noted v rest))) (n ∷ drained lists off k (noted v rest)))
      one true x y = x
      one false x y = (s.0, y)

  pub given_each : (k : ℕ) (ms : List ℕ) (p : Noted) → AllByRecursion P ms → AllByRecursion P p.stack → AllByRecursion P (gone_through lists off k ms p)
  given_each k [] p a s = drained_each k p.visited p.stack s
  given_each k (m ∷ ms) p a s = one (off m) (given_each k ms (push_all (lists m) p) a.1 (pushed_each (lists m) p (passes m a.0) s)) (given_each k ms p a.1 s)
    where
      one : (b : Bool) → AllByRecursion P (gone_through lists off k ms (push_all (lists m) p)) → AllByRecursion P (gone_through lists off k ms p) → AllByRecursion P (cond b (gone_through lists off k ms (push_all (lists m) p)) (m ∷ gone_through lists off k ms p))
      one true x y = x
      one false x y = (a.0, y)

-- what holds of all that a node sees, and passes on so, holds of its neighbours past disabled nodes
pub enabled_each : (P : ℕ → Type 0) (d : Direction) (m : Model) → ((k : ℕ) → P k → AllByRecursion P (sees d m k)) → (n : ℕ) → AllByRecursion P (sees d m n) → AllByRecursion P (enabled_neighbours d m n)
enabled_each P d m passes n direct =
    given_each P (sees d m) (is_off m) passes (length m.nodes) (filter (may_reach m) (sees d m n)) (noted (replicate 1024 false) [])
    (each_kept P (may_reach m) (sees d m n) direct) tt

pub enabled_below : (m : Model) → Sound m → (d : Direction) (n : ℕ) → Below (length m.nodes) (enabled_neighbours d m n)
enabled_below m good d n =
    let low : (k : ℕ) → Below (length m.nodes) (sees d m k) = λ k. neighbours_below (length m.nodes) m.edges d k good.ends in
    enabled_each (λ i. i < length m.nodes) d m (λ k _. low k) n (low n)
