-- In a topological order each neighbour of a node has a lower rank.
use Rattle.std.proofs.Common.{◌≡◌, ℕ, ◌-◌, ◌<◌, Bool, true, false, cond, eqb, List, [], ◌∷◌, length, get_or, refl, subst, inl, inr, arith}
use Rattle.std.proofs.lemmas.Bool.{eqb-true}
use Rattle.std.specs.List.{AllByRecursion}
use Rattle.records.specs.declared.edge.Edge.{Edge}
use Rattle.records.specs.declared.edge.Direction.{Direction}
use Rattle.records.specs.Edges.{no_edge, history, near, far, add_if, neighbours}
use Rattle.records.specs.Walks.{Among}
use Rattle.graph.specs.Model.{Model}
use Rattle.graph.specs.Order.{stands_at}
use Rattle.graph.specs.Sound.{Sound, Ordered}
use Rattle.graph.proofs.Standings.{among_reversed, among_get_or}
use Rattle.walk_neighbors.specs.PastDisabled.{sees, is_off, enabled_neighbours}
use Rattle.walk_neighbors.proofs.Each.{each_map, enabled_each}
use Rattle.analysis.specs.Near.{looking_along, near_of}
use Rattle.analysis.proofs.Unique.{Lower}

-- what holds of the far end of each edge at n holds of each neighbour
each_neighbour : (P : ℕ → Type 0) (d : Direction) (es : List Edge) (n : ℕ) → ((e : Edge) → Among e es → near d e ≡ n → P (far d e)) → AllByRecursion P (neighbours d es n)
each_neighbour P d [] n f = tt
each_neighbour P d (e ∷ es) n f = here (each_neighbour P d es n (λ x m. f x (inr m))) (eqb (near d e) n) refl
  where
    here : AllByRecursion P (neighbours d es n) → (b : Bool) → eqb (near d e) n ≡ b → AllByRecursion P (add_if b (far d e) (neighbours d es n))
    here rest true q = (f e (inl refl) (eqb-true (near d e) n q), rest)
    here rest false q = rest

-- the step at which a run comes to a node: along the order, or against it
abbrev pub rank : Bool → List ℕ → ℕ → ℕ
rank true order n = stands_at order n
rank false order n = length order - 1 - stands_at order n

module _ (m : Model) (good : Sound m) (fine : Ordered m) where
  abbrev count : ℕ
  count = length m.nodes

  edge_falls : (forward : Bool) (x : Edge) → Among x (history m.edges) → (far (looking_along forward) x < count) × (rank forward m.order (far (looking_along forward) x) < rank forward m.order (near (looking_along forward) x))
  edge_falls forward x a =
      let at = among_get_or x m.edges no_edge (among_reversed x m.edges a) in
      let P : Edge → Type 0 = λ y. (far (looking_along forward) y < count) × (rank forward m.order (far (looking_along forward) y) < rank forward m.order (near (looking_along forward) y)) in
      subst P at.2 (falls forward at.0 at.1)
    where
      falls : (forward : Bool) (e : ℕ) → e < length m.edges → (far (looking_along forward) (get_or m.edges e no_edge) < count) × (rank forward m.order (far (looking_along forward) (get_or m.edges e no_edge)) < rank forward m.order (near (looking_along forward) (get_or m.edges e no_edge)))
      falls true e h = ((good.ends e h).0, fine.order.topological e h)
      falls false e h =
          let t = fine.order.topological e h in
          let low = fine.order.complete (get_or m.edges e no_edge).target (good.ends e h).1 in
          ((good.ends e h).1, omega arith)

  pub sees_lower : (forward : Bool) → Lower count (sees (looking_along forward) m) (rank forward m.order)
  sees_lower forward n =
      each_neighbour _ (looking_along forward) (history m.edges) n
      (λ x a q. let f = edge_falls forward x a in (f.0, subst (λ k. rank forward m.order (far (looking_along forward) x) < rank forward m.order k) q f.1))

  enabled_lower : (forward : Bool) → Lower count (enabled_neighbours (looking_along forward) m) (rank forward m.order)
  enabled_lower forward n =
      let P : ℕ → Type 0 = λ k. (k < count) × (rank forward m.order k < rank forward m.order n) in
      enabled_each P (looking_along forward) m
      (λ j h. each_map _ P (sees (looking_along forward) m j) (λ i l. (l.0, omega (arith, l.1, h.1))) (sees_lower forward j))
      n (sees_lower forward n)

  pub near_lower : (forward skips : Bool) → Lower count (near_of forward skips m) (rank forward m.order)
  near_lower forward true n = off_or_on (is_off m n)
    where
      off_or_on : (b : Bool) → AllByRecursion (λ k. (k < count) × (rank forward m.order k < rank forward m.order n)) (cond b [] (enabled_neighbours (looking_along forward) m n))
      off_or_on true = tt
      off_or_on false = enabled_lower forward n
  near_lower forward false n = sees_lower forward n

  pub rank_low : (forward : Bool) (n : ℕ) → n < count → rank forward m.order n < count
  rank_low true n h = let c = fine.order.complete n h in let l = fine.order.long in omega arith
  rank_low false n h = let c = fine.order.complete n h in let l = fine.order.long in omega arith
