-- Orders that stand apart, one after another.
use Rattle.std.proofs.Common.{ℕ, List, [], ◌∷◌, ◌++◌, refl, inl, inr, ⊎_elim}
use Rattle.records.specs.Walks.{Among}
use Rattle.subgraph.specs.Orders.{Ordered}
use Rattle.subgraph.specs.Places.{in_turn}
use Rattle.graph.proofs.Standings.{among_left, among_right, among_either}
use Rattle.subgraph.proofs.Partitions.{Somewhere, Apart}

pub somewhere_in : (os : List (List ℕ)) (x : ℕ) → Somewhere os x → Among x (in_turn os)
somewhere_in [] x s = s
somewhere_in (o ∷ os) x (inl a) = among_left x o (in_turn os) a
somewhere_in (o ∷ os) x (inr s) = among_right x o (in_turn os) (somewhere_in os x s)

pub in_somewhere : (os : List (List ℕ)) (x : ℕ) → Among x (in_turn os) → Somewhere os x
in_somewhere [] x a = a
in_somewhere (o ∷ os) x a = ⊎_elim (λ b. inl b) (λ b. inr (in_somewhere os x b)) (among_either x o (in_turn os) a)

ordered_after : (R : ℕ → ℕ → Type 0) (o before : List ℕ) → Ordered R o → Ordered R before → ((x : ℕ) → Among x o → Among x before → ⊥) → Ordered R (o ++ before)
ordered_after R [] before p q apart = q
ordered_after R (n ∷ o) before p q apart = (
  λ x r. among_left x o before (p.0 x r),
  λ a. ⊎_elim (λ b. p.1 b) (λ b. apart n (inl refl) b) (among_either n o before a),
  ordered_after R o before p.2 q (λ x a b. apart x (inr a) b),
)

pub in_order_lem : (R : ℕ → ℕ → Type 0) (os : List (List ℕ)) → Apart R os → Ordered R (in_turn os)
in_order_lem R [] a = tt
in_order_lem R (o ∷ os) a = ordered_after R o (in_turn os) a.0.1.ordered (in_order_lem R os a.2) (λ x b c. a.1 x b (in_somewhere os x c))
