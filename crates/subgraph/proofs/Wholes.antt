-- The order of all nodes has each of them once, and each edge's source before its target.
use Rattle.std.proofs.Common.{◌≡◌, ℕ, zero, suc, ◌+◌, ◌-◌, ◌<◌, ◌≤◌, Bool, true, false, cond, ◌&&◌, ◌⊎◌, List, [], ◌∷◌, ◌++◌, reverse, length, get_or, filter, sym, refl, ap, ◌∙◌, subst, inl, inr, ⊎_elim, arith}
use Rattle.std.proofs.lemmas.List.{reverse-append, append-nil, length-append}
use Rattle.std.proofs.lemmas.List.Elements.{filter-append}
use Rattle.std.proofs.lemmas.Bool.{cases_eq, cases_Bool, cond-true, cond-false}
use Rattle.std.proofs.lemmas.Grind.{common_steps}
use Rattle.std.specs.List.{range_with_len}
use Rattle.records.specs.declared.edge.Edge.{Edge}
use Rattle.records.specs.declared.edge.Direction.TheVariants.{Outgoing, Incoming}
use Rattle.records.specs.Edges.{no_edge}
use Rattle.records.specs.Walks.{Among, Touched, Joins}
use Rattle.graph.specs.Order.{stands_at, Ends, Within, Complete, Once, Topological, OrdersNodes}
use Rattle.subgraph.specs.Orders.{Ordered, is_empty}
use Rattle.subgraph.specs.Wholes.{alone, singletons, whole_order}
use Rattle.subgraph.proofs.Lists.{filter_has, filter_only, some_in, in_some}
use Rattle.graph.proofs.Seen.{seen_joins, joins_seen}
use Rattle.walks.specs.Exploring.{targets, sources}
use Rattle.graph.proofs.Standings.{stands_here, stands_inside, stands_left, stands_right, among_left, among_right, among_either, among_reverse, among_reversed, get_or_among, once_append, once_one, once_cons, order_length}

turned : (n : ℕ) (before : List ℕ) → reverse (n ∷ before) ≡ reverse before ++ n ∷ []
turned n before = reverse-append (n ∷ []) before

module _ (R : ℕ → ℕ → Type 0) where
  pub ordered_once : (flat : List ℕ) → Ordered R flat → Once (reverse flat)
  ordered_once [] o = λ i h. absurd (omega arith)
  ordered_once (n ∷ before) o =
      subst Once (sym (turned n before))
      (once_append (reverse before) (n ∷ []) (ordered_once before o.2) (once_one n) (λ k l r. clash k l r))
    where
      clash : (k : ℕ) → Among k (reverse before) → Among k (n ∷ []) → ⊥
      clash k l (inl e) = o.1 (subst (λ x. Among x before) e (among_reversed k before l))
      clash k l (inr r) = r

  ordered_source : (flat : List ℕ) → Ordered R flat → (a b : ℕ) → R a b → Among b flat → Among a flat
  ordered_source [] o a b r m = absurd m
  ordered_source (n ∷ before) o a b r (inl e) = inr (o.0 a (subst (R a) e r))
  ordered_source (n ∷ before) o a b r (inr k) = inr (ordered_source before o.2 a b r k)

  -- a step's source stands before its target
  pub ordered_before : (flat : List ℕ) → Ordered R flat → (a b : ℕ) → R a b → Among b flat → stands_at (reverse flat) a < stands_at (reverse flat) b
  ordered_before [] o a b r m = absurd m
  ordered_before (n ∷ before) o a b r m =
      let P : List ℕ → Type 0 = λ l. stands_at l a < stands_at l b in
      ⊎_elim
      (λ (e : b ≡ n).
      let inside : Among a before = o.0 a (subst (R a) e r) in
      let left = stands_left (reverse before) (n ∷ []) a (among_reverse a before inside) in
      let low = stands_inside (reverse before) a (among_reverse a before inside) in
      let right = stands_right (reverse before) (n ∷ []) b (λ k. o.1 (subst (λ x. Among x before) e (among_reversed b before k))) in
      let last = stands_here n [] b (sym e) in
      subst P (sym (turned n before)) (omega arith))
      (λ (ne : b ≡ n → ⊥).
      let inside : Among b before = rest ne m in
      let source : Among a before = ordered_source before o.2 a b r inside in
      let left = stands_left (reverse before) (n ∷ []) a (among_reverse a before source) in
      let right = stands_left (reverse before) (n ∷ []) b (among_reverse b before inside) in
      let lower = ordered_before before o.2 a b r inside in
      subst P (sym (turned n before)) (omega arith))
      (cases_eq b n)
    where
      rest : (b ≡ n → ⊥) → (b ≡ n) ⊎ Among b before → Among b before
      rest ne (inl e) = absurd (ne e)
      rest ne (inr k) = k

-- ---- a row of numbers
in_range : (a n k : ℕ) → Among k (range_with_len a n) → (a ≤ k) × (k < a + n)
in_range a zero k m = absurd m
in_range a (suc n) k m = grind (arith, common_steps, in_range (a + 1) n k)

range_in : (a n k : ℕ) → a ≤ k → k < a + n → Among k (range_with_len a n)
range_in a zero k h l = absurd (omega arith)
range_in a (suc n) k h l = grind (arith, common_steps, range_in (a + 1) n k)

range_split : (a n d : ℕ) → range_with_len a (n + d) ≡ range_with_len a n ++ range_with_len (a + n) d
range_split a zero d =
    let none : 0 + d ≡ d = omega arith in
    let here : a ≡ a + 0 = omega arith in
    (λ i. range_with_len (here i) (none i))
range_split a (suc n) d =
    let more : suc n + d ≡ suc (n + d) = omega arith in
    let on : a + 1 + n ≡ a + suc n = omega arith in
    ap (range_with_len a) more ∙ ap (λ l. a ∷ l) (range_split (a + 1) n d ∙ ap (λ k. range_with_len (a + 1) n ++ range_with_len k d) on)

module _ (p : ℕ → Bool) where
  passing_more : (n : ℕ) → filter p (range_with_len 0 (n + 1)) ≡ filter p (range_with_len 0 n) ++ cond (p n) (n ∷ []) []
  passing_more n =
      let here : 0 + n ≡ n = omega arith in
      ap (filter p) (range_split 0 n 1) ∙ filter-append p (range_with_len 0 n) (range_with_len (0 + n) 1) ∙ ap (λ k. filter p (range_with_len 0 n) ++ filter p (k ∷ [])) here

  pub passing_taken : (n : ℕ) → p n ≡ true → filter p (range_with_len 0 (n + 1)) ≡ filter p (range_with_len 0 n) ++ n ∷ []
  passing_taken n e = passing_more n ∙ ap (λ l. filter p (range_with_len 0 n) ++ l) (cond-true (p n) (n ∷ []) [] e)

  pub passing_left : (n : ℕ) → p n ≡ false → filter p (range_with_len 0 (n + 1)) ≡ filter p (range_with_len 0 n)
  passing_left n e = passing_more n ∙ ap (λ l. filter p (range_with_len 0 n) ++ l) (cond-false (p n) (n ∷ []) [] e) ∙ append-nil (filter p (range_with_len 0 n))

  -- one that passes leaves fewer before it than there are in all
  pub passing_room : (n k : ℕ) → k < n → p k ≡ true → length (filter p (range_with_len 0 k)) + 1 ≤ length (filter p (range_with_len 0 n))
  passing_room n k h e =
      let rest : n ≡ k + 1 + (n - (k + 1)) = omega arith in
      let front = filter p (range_with_len 0 (k + 1)) in
      let back = filter p (range_with_len (0 + (k + 1)) (n - (k + 1))) in
      let all = ap (λ x. length (filter p (range_with_len 0 x))) rest ∙ ap (λ l. length (filter p l)) (range_split 0 (k + 1) (n - (k + 1))) ∙ ap length (filter-append p (range_with_len 0 (k + 1)) (range_with_len (0 + (k + 1)) (n - (k + 1)))) ∙ length-append front back in
      let some = ap length (passing_taken k e) ∙ length-append (filter p (range_with_len 0 k)) (k ∷ []) in
      omega arith

  pub passing_once : (a n : ℕ) → Once (filter p (range_with_len a n))
  passing_once a zero = λ i h. absurd (omega arith)
  passing_once a (suc n) =
      let rest = filter p (range_with_len (a + 1) n) in
      ⊎_elim
      (λ (e : p a ≡ true). subst Once (sym (cond-true (p a) (a ∷ rest) rest e)) (once_cons a rest (λ m. let r = in_range (a + 1) n a (filter_only p (range_with_len (a + 1) n) a m).0 in let low = r.0 in omega arith) (passing_once (a + 1) n)))
      (λ (e : p a ≡ false). subst Once (sym (cond-false (p a) (a ∷ rest) rest e)) (passing_once (a + 1) n))
      (cases_Bool (p a))

module _ (es : List Edge) where
  pub touched_not_alone : (n : ℕ) → Touched (Joins es) n → alone es n ≡ false
  touched_not_alone n (y, inl j) = let has = some_in y (targets es n) (joins_seen Outgoing es n y j) in grind (arith, common_steps)
  touched_not_alone n (y, inr j) = let has = some_in y (sources es n) (joins_seen Incoming es n y j) in grind (arith, common_steps)

  pub not_alone_touched : (n : ℕ) → alone es n ≡ false → Touched (Joins es) n
  not_alone_touched n h =
      ⊎_elim
      (λ (t : is_empty (targets es n) ≡ true).
      let into = in_some (sources es n) (sym (ap (λ b. b && is_empty (sources es n)) t) ∙ h) in
      (into.0, inr (seen_joins Incoming es n into.0 into.1)))
      (λ (t : is_empty (targets es n) ≡ false).
      let out = in_some (targets es n) t in
      (out.0, inl (seen_joins Outgoing es n out.0 out.1)))
      (cases_Bool (is_empty (targets es n)))

  module _ (n : ℕ) (flat : List ℕ) (ends : Ends n es) (ordered : Ordered (Joins es) flat) (only : (x : ℕ) → Among x flat → Touched (Joins es) x) (all : (x : ℕ) → Touched (Joins es) x → Among x flat) where
    touched_below : (x : ℕ) → Touched (Joins es) x → x < n
    touched_below x (y, inl (e, (h, s, t))) = subst (λ k. k < n) s (ends e h).0
    touched_below x (y, inr (e, (h, s, t))) = subst (λ k. k < n) t (ends e h).1

    apart : (k : ℕ) → Among k (reverse flat) → Among k (singletons es n) → ⊥
    apart k l r =
        let no = touched_not_alone k (only k (among_reversed k flat l)) in
        let yes' = (filter_only (alone es) (range_with_len 0 n) k r).1 in
        cc

    among_below : (k : ℕ) → Among k (whole_order es n flat) → k < n
    among_below k m =
        ⊎_elim
        (λ (l : Among k (reverse flat)). touched_below k (only k (among_reversed k flat l)))
        (λ (r : Among k (singletons es n)). let b = (in_range 0 n k (filter_only (alone es) (range_with_len 0 n) k r).0).1 in omega arith)
        (among_either k (reverse flat) (singletons es n) m)

    pub whole_within : Within n (whole_order es n flat)
    whole_within i h = among_below (get_or (whole_order es n flat) i 0) (get_or_among (whole_order es n flat) i 0 h)

    pub whole_complete : Complete n (whole_order es n flat)
    whole_complete k h =
        stands_inside (whole_order es n flat) k
        (⊎_elim
        (λ (t : alone es k ≡ true). among_right k (reverse flat) (singletons es n) (filter_has (alone es) (range_with_len 0 n) k (range_in 0 n k (omega arith) (omega arith)) t))
        (λ (t : alone es k ≡ false). among_left k (reverse flat) (singletons es n) (among_reverse k flat (all k (not_alone_touched k t))))
        (cases_Bool (alone es k)))

    pub whole_once : Once (whole_order es n flat)
    whole_once = once_append (reverse flat) (singletons es n) (ordered_once (Joins es) flat ordered) (passing_once (alone es) 0 n) apart

    pub whole_topological : Topological es (whole_order es n flat)
    whole_topological e h =
        let a = (get_or es e no_edge).source in
        let b = (get_or es e no_edge).target in
        let j : Joins es a b = (e, (h, refl, refl)) in
        let source = among_reverse a flat (all a (b, inl j)) in
        let target = all b (a, inr j) in
        let left = stands_left (reverse flat) (singletons es n) a source in
        let right = stands_left (reverse flat) (singletons es n) b (among_reverse b flat target) in
        let before = ordered_before (Joins es) flat ordered a b j target in
        omega arith

    pub whole_orders : OrdersNodes n es (whole_order es n flat)
    whole_orders = record {
      long = order_length n (whole_order es n flat) whole_within whole_complete whole_once;
      within = whole_within;
      complete = whole_complete;
      once = whole_once;
      topological = whole_topological;
    }
