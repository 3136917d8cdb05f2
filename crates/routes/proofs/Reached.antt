-- A table that obeys the rule of reach tells what can be reached.
use Rattle.std.proofs.Common.{◌≡◌, ℕ, zero, suc, ◌<◌, Bool, true, false, ◌||◌, ◌⊎◌, List, [], ◌∷◌, length, get_or, fold, sym, refl, ap, ◌∙◌, subst, inl, inr, ⊎_elim, arith}
use Rattle.std.proofs.lemmas.List.FromFn.{get_or-map-range_with_len}
use Rattle.records.specs.declared.edge.Direction.TheVariants.{Outgoing}
use Rattle.records.specs.declared.node.Node.{Node}
use Rattle.analysis.specs.Rule.{Obeys, worth}
use Rattle.records.specs.Walks.{Walk, Among, Joins}
use Rattle.graph.proofs.Seen.{seen_joins, joins_seen}
use Rattle.routes.specs.Graph.{Graph, node_of, children, Proper}
use Rattle.routes.specs.Reach.{reach_meaning, Reaches, TellsReach}
use Rattle.routes.proofs.Settled.{edge_to}
use Rattle.routes.proofs.Solved.{ranked, children_solve}

-- answers joined: yes at the start, or at one of those joined
or_any : (f : ℕ → Bool) (s : Bool) (ks : List ℕ) → fold (λ v k. v || f k) s ks ≡ true → (s ≡ true) ⊎ ((k : ℕ) × Among k ks × (f k ≡ true))
or_any f s [] e = inl e
or_any f true (k ∷ ks) e = inl refl
or_any f false (k ∷ ks) e =
    ⊎_elim
    (λ (p : f k ≡ true). inr (k, inl refl, p))
    (λ (a : (j : ℕ) × Among j ks × (f j ≡ true)). inr (a.0, inr a.1, a.2))
    (or_any f (f k) ks e)

or_yes : (f : ℕ → Bool) (ks : List ℕ) → fold (λ v k. v || f k) true ks ≡ true
or_yes f [] = refl
or_yes f (k ∷ ks) = or_yes f ks

or_some : (f : ℕ → Bool) (s : Bool) (ks : List ℕ) (k : ℕ) → Among k ks → f k ≡ true → fold (λ v j. v || f j) s ks ≡ true
or_some f s [] k m p = absurd m
or_some f true (j ∷ ks) k m p = or_yes f ks
or_some f false (j ∷ ks) k (inl e) p = ap (λ v. fold (λ w i. w || f i) v ks) (ap f (sym e) ∙ p) ∙ or_yes f ks
or_some f false (j ∷ ks) k (inr m) p = or_some f (f j) ks k m p

-- one edge before what can be reached
pub further : (wanted : Node → Bool) (g : Graph) (n k : ℕ) → Joins g.edges n k → Reaches wanted g k → Reaches wanted g n
further wanted g n k e (j, low, w, inl q) = (j, low, w, inr ([], subst (Joins g.edges n) q e))
further wanted g n k e (j, low, w, inr (ms, walk)) = (j, low, w, inr (k ∷ ms, (e, walk)))

module _ (wanted : Node → Bool) (g : Graph) (proper : Proper g) where
  below : (a b : ℕ) → Joins g.edges a b → b < length g.nodes
  below a b e = edge_to (ranked g proper) a b e

  worth_reaches : (d n : ℕ) → n < length g.nodes → worth (reach_meaning wanted) g.nodes (children g) d n ≡ true → Reaches wanted g n
  worth_reaches zero n h e = absurd cc
  worth_reaches (suc d) n h e =
      ⊎_elim
      (λ (here : wanted (node_of g n) ≡ true). (n, h, here, inl refl))
      (λ (some : (k : ℕ) × Among k (children g n) × (worth (reach_meaning wanted) g.nodes (children g) d k ≡ true)).
      let edge = seen_joins Outgoing g.edges n some.0 some.1 in
      further wanted g n some.0 edge (worth_reaches d some.0 (below n some.0 edge) some.2))
      (or_any (worth (reach_meaning wanted) g.nodes (children g) d) (wanted (node_of g n)) (children g n) e)

  module _ (table : List Bool) (obeys : Obeys (reach_meaning wanted) g.nodes (children g) table) where
    here_yes : (n : ℕ) → n < length g.nodes → wanted (node_of g n) ≡ true → get_or table n false ≡ true
    here_yes n h w = obeys n h ∙ ap (λ s. fold (λ v k. v || get_or table k false) s (children g n)) w ∙ or_yes (λ k. get_or table k false) (children g n)

    back_yes : (a b : ℕ) → a < length g.nodes → Joins g.edges a b → get_or table b false ≡ true → get_or table a false ≡ true
    back_yes a b h e told = obeys a h ∙ or_some (λ k. get_or table k false) (wanted (node_of g a)) (children g a) b (joins_seen Outgoing g.edges a b e) told

    walk_yes : (ms : List ℕ) (a c : ℕ) → Walk (Joins g.edges) a ms c → a < length g.nodes → wanted (node_of g c) ≡ true → get_or table a false ≡ true
    walk_yes [] a c e h w = back_yes a c h e (here_yes c (below a c e) w)
    walk_yes (b ∷ ms) a c (e, rest) h w = back_yes a b h e (walk_yes ms b c rest (below a b e) w)

    reaches_yes : (n : ℕ) → n < length g.nodes → Reaches wanted g n → get_or table n false ≡ true
    reaches_yes n h (k, low, w, inl q) = here_yes n h (subst (λ j. wanted (node_of g j) ≡ true) (sym q) w)
    reaches_yes n h (k, low, w, inr (ms, walk)) = walk_yes ms n k walk h w

  pub table_tells : (table : List Bool) → length table ≡ length g.nodes → Obeys (reach_meaning wanted) g.nodes (children g) table → TellsReach wanted g table
  table_tells table l obeys n h =
      let value = (children_solve g proper (reach_meaning wanted) table l).0 obeys in
      let at = get_or-map-range_with_len (worth (reach_meaning wanted) g.nodes (children g) (length g.nodes)) 0 (length g.nodes) n n false h (omega arith) in
      (λ told. worth_reaches (length g.nodes) n h (sym at ∙ ap (λ t. get_or t n false) (sym value) ∙ told), reaches_yes table obeys n h)
