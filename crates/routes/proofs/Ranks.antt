-- A graph without closed walks can be ordered along its edges: by the longest walk to a node.
use Rattle.std.proofs.Common.{◌≡◌, ℕ, zero, suc, ◌+◌, ◌<◌, ◌≤◌, max, ◌⊎◌, List, [], ◌∷◌, ◌++◌, length, get_or, sym, refl, ap, subst, inl, inr, arith, length-append}
use Rattle.std.proofs.lemmas.Bool.{cases_lt}
use Rattle.records.specs.declared.edge.Direction.TheVariants.{Incoming}
use Rattle.records.specs.Walks.{Walk, Leads, Among, Joins, Acyclic}
use Rattle.tables.specs.Steps.{Below}
use Rattle.graph.specs.Order.{Ends}
use Rattle.graph.proofs.Standings.{get_or_among, fewer}
use Rattle.walk_neighbors.proofs.Each.{each_at}
use Rattle.routes.proofs.Walking.{snoc}
use Rattle.graph.proofs.Seen.{seen_joins, joins_seen}
use Rattle.routes.specs.Graph.{Graph, source_of, target_of, parents}

Distinct : List ℕ → Type 0
Distinct [] = Unit {0}
Distinct (x ∷ xs) = (Among x xs → ⊥) × Distinct xs

distinct_at : (xs : List ℕ) → Distinct xs → (i j : ℕ) → i < length xs → j < length xs → get_or xs i 0 ≡ get_or xs j 0 → i ≡ j
unfolding Distinct
distinct_at [] d i j h k e = absurd (omega arith)
distinct_at (x ∷ xs) d zero zero h k e = refl
distinct_at (x ∷ xs) d zero (suc j) h k e = absurd (d.0 (subst (λ (y : ℕ). Among y xs) (sym e) (get_or_among xs j 0 (omega arith))))
distinct_at (x ∷ xs) d (suc i) zero h k e = absurd (d.0 (subst (λ (y : ℕ). Among y xs) e (get_or_among xs i 0 (omega arith))))
distinct_at (x ∷ xs) d (suc i) (suc j) h k e = ap suc (distinct_at xs d.1 i j (omega arith) (omega arith) e)

-- a list of different numbers below n has at most n
few : (n : ℕ) (xs : List ℕ) → Distinct xs → Below n xs → length xs ≤ n
few n xs d b = fewer n (length xs) (λ i. get_or xs i 0) (λ i h. each_at (λ k. k < n) xs i 0 b h) (distinct_at xs d)

-- the largest f of a list's numbers, and 0
top : (ℕ → ℕ) → List ℕ → ℕ
top f [] = 0
top f (x ∷ xs) = max (f x) (top f xs)

top_has : (f : ℕ → ℕ) (xs : List ℕ) (d : ℕ) → d < top f xs → (x : ℕ) × Among x xs × (d < f x)
unfolding top
top_has f [] d h = absurd (omega arith)
top_has f (x ∷ xs) d h = go (cases_lt d (f x)) (λ q. top_has f xs d q)
  where
    go : (d < f x) ⊎ (f x ≤ d) → (d < top f xs → (y : ℕ) × Among y xs × (d < f y)) → (y : ℕ) × Among y (x ∷ xs) × (d < f y)
    go (inl q) r = (x, inl refl, q)
    go (inr q) r = let s = r (omega arith) in (s.0, inr s.1, s.2)

top_le : (f : ℕ → ℕ) (xs : List ℕ) (x : ℕ) → Among x xs → f x ≤ top f xs
unfolding top
top_le f [] x m = absurd m
top_le f (y ∷ xs) x (inl e) = let q : f x ≡ f y = ap f e in omega arith
top_le f (y ∷ xs) x (inr m) = let q : f x ≤ top f xs = top_le f xs x m in omega arith

top_same : (f h : ℕ → ℕ) (xs : List ℕ) → ((x : ℕ) → Among x xs → f x ≡ h x) → top f xs ≡ top h xs
unfolding top
top_same f h [] e = refl
top_same f h (x ∷ xs) e = let p : f x ≡ h x = e x (inl refl) in let q : top f xs ≡ top h xs = top_same f h xs (λ y m. e y (inr m)) in cc

module _ (g : Graph) where
  -- the longest walk to n, of at most k edges
  depth : ℕ → ℕ → ℕ
  unfolding top
  depth zero n = 0
  depth (suc k) n = top (λ f. suc (depth k f)) (parents g n)

  deep_walk : (k n d : ℕ) → d < depth k n → (a : ℕ) × (ms : List ℕ) × (length ms ≡ d) × Walk (Joins g.edges) a ms n
  unfolding depth
  deep_walk zero n d h = absurd (omega arith)
  deep_walk (suc k) n d h = go d (top_has (λ f. suc (depth k f)) (parents g n) d h) (λ f e q. deep_walk k f e q)
    where
      go : (d : ℕ) → (f : ℕ) × Among f (parents g n) × (d < suc (depth k f)) → ((f e : ℕ) → e < depth k f → (a : ℕ) × (ms : List ℕ) × (length ms ≡ e) × Walk (Joins g.edges) a ms f) → (a : ℕ) × (ms : List ℕ) × (length ms ≡ d) × Walk (Joins g.edges) a ms n
      go zero s r = (s.0, [], refl, seen_joins Incoming g.edges n s.0 s.1)
      go (suc d) s r =
          let lt : suc d < suc (depth k s.0) = s.2 in
          let w = r s.0 d (omega arith) in
          let l : length w.1 ≡ d = w.2 in
          (w.0, w.1 ++ (s.0 ∷ []), simp length-append (omega arith), snoc (Joins g.edges) w.0 w.1 s.0 n w.3 (seen_joins Incoming g.edges n s.0 s.1))

  walk_to : (a : ℕ) (ms : List ℕ) (b x : ℕ) → Walk (Joins g.edges) a ms b → Among x (ms ++ (b ∷ [])) → Leads (Joins g.edges) a x
  walk_to a [] b x w (inl e) = ([], subst (λ (y : ℕ). Joins g.edges a y) (sym e) w)
  walk_to a [] b x w (inr m) = absurd m
  walk_to a (m ∷ ms) b x w (inl e) = ([], subst (λ (y : ℕ). Joins g.edges a y) (sym e) w.0)
  walk_to a (m ∷ ms) b x w (inr i) = let q = walk_to m ms b x w.1 i in (m ∷ q.0, (w.0, q.1))

  module _ (ends : Ends (length g.nodes) g.edges) (acyclic : Acyclic (Joins g.edges)) where
    walk_distinct : (a : ℕ) (ms : List ℕ) (b : ℕ) → Walk (Joins g.edges) a ms b → Distinct (a ∷ (ms ++ (b ∷ [])))
    unfolding Distinct
    walk_distinct a [] b w = (λ m. acyclic a (walk_to a [] b a w m), ((λ m. absurd m), tt))
    walk_distinct a (m ∷ ms) b w = (λ i. acyclic a (walk_to a (m ∷ ms) b a w i), walk_distinct m ms b w.1)

    pub from_below : (a b : ℕ) → Joins g.edges a b → a < length g.nodes
    from_below a b d = subst (λ (x : ℕ). x < length g.nodes) d.1.1 (ends d.0 d.1.0).0

    pub to_below : (a b : ℕ) → Joins g.edges a b → b < length g.nodes
    to_below a b d = subst (λ (x : ℕ). x < length g.nodes) d.1.2 (ends d.0 d.1.0).1

    walk_below : (a : ℕ) (ms : List ℕ) (b : ℕ) → Walk (Joins g.edges) a ms b → Below (length g.nodes) (a ∷ (ms ++ (b ∷ [])))
    walk_below a [] b w = (from_below a b w, (to_below a b w, tt))
    walk_below a (m ∷ ms) b w = (from_below a m w.0, walk_below m ms b w.1)

    -- a walk has fewer edges than there are nodes
    pub walk_short : (a : ℕ) (ms : List ℕ) (b : ℕ) → Walk (Joins g.edges) a ms b → length ms + 2 ≤ length g.nodes
    walk_short a ms b w =
        let f : length (a ∷ (ms ++ (b ∷ []))) ≤ length g.nodes = few (length g.nodes) (a ∷ (ms ++ (b ∷ []))) (walk_distinct a ms b w) (walk_below a ms b w) in
        let s : length (ms ++ (b ∷ [])) ≡ length ms + 1 = length-append ms (b ∷ []) in
        omega arith

    depth_small : (k n : ℕ) → n < length g.nodes → depth k n < length g.nodes
    depth_small k n h = go (depth k n) refl
      where
        go : (d : ℕ) → depth k n ≡ d → depth k n < length g.nodes
        go zero e = omega arith
        go (suc d) e =
            let w = deep_walk k n d (omega arith) in
            let l : length w.1 ≡ d = w.2 in
            let f : length w.1 + 2 ≤ length g.nodes = walk_short w.0 w.1 n w.3 in
            omega arith

    depth_stays : (k n : ℕ) → depth k n < k → depth (suc k) n ≡ depth k n
    unfolding depth
    depth_stays zero n h = absurd (omega arith)
    depth_stays (suc k) n h =
        top_same (λ f. suc (depth (suc k) f)) (λ f. suc (depth k f)) (parents g n)
        (λ f m. let q : suc (depth k f) ≤ top (λ f. suc (depth k f)) (parents g n) = top_le (λ f. suc (depth k f)) (parents g n) f m in ap suc (depth_stays k f (omega arith)))

    pub rank : ℕ → ℕ
    rank n = depth (length g.nodes) n

    pub rank_within : (n : ℕ) → n < length g.nodes → rank n < length g.nodes
    unfolding rank
    rank_within n h = depth_small (length g.nodes) n h

    deeper : (f n : ℕ) → Joins g.edges f n → suc (depth (length g.nodes) f) ≤ depth (suc (length g.nodes)) n
    unfolding depth
    deeper f n d = top_le (λ f. suc (depth (length g.nodes) f)) (parents g n) f (joins_seen Incoming g.edges n f d)

    pub rank_onward : (e : ℕ) → e < length g.edges → rank (source_of g e) < rank (target_of g e)
    unfolding rank
    rank_onward e h =
        let q : suc (depth (length g.nodes) (source_of g e)) ≤ depth (suc (length g.nodes)) (target_of g e) = deeper (source_of g e) (target_of g e) (e, (h, refl, refl)) in
        let s : depth (suc (length g.nodes)) (target_of g e) ≡ depth (length g.nodes) (target_of g e) = depth_stays (length g.nodes) (target_of g e) (depth_small (length g.nodes) (target_of g e) (ends e h).1) in
        omega arith
