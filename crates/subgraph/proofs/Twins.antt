-- A partition does not depend on what the tables hold past the nodes.
use Rattle.std.proofs.Common.{◌≡◌, ℕ, zero, suc, ◌<◌, ◌≤◌, Bool, true, false, not, ◌&&◌, List, [], ◌∷◌, length, get_or, sym, refl, ap, ◌∙◌, subst, inl, inr, ⊎_elim, arith}
use Rattle.std.proofs.lemmas.Bool.{cases_Bool, cond-true, cond-false}
use Rattle.records.specs.declared.edge.Edge.{Edge}
use Rattle.records.specs.declared.edge.Direction.TheVariants.{Outgoing, Incoming}
use Rattle.records.specs.Walks.{Joins}
use Rattle.tables.specs.Filled.{Blank}
use Rattle.tables.specs.Marks.{blanks}
use Rattle.walks.specs.Exploring.{targets, sources, nexts, piled, walked}
use Rattle.graph.proofs.Seen.{seen_joins}
use Rattle.walks.proofs.Exploring.{piled_only, stacked_only, below_at}
use Rattle.subgraph.specs.Sorting.{is_ready, ready}
use Rattle.subgraph.specs.Orders.{starts, found_from, sorted_from}
use Rattle.subgraph.specs.Partitions.{root, Partition, joined, begins, turn, parted, partition}
use Rattle.subgraph.proofs.Alike.{Agree, Alike, stacked_alike, all_alike, same_turns}
use Rattle.subgraph.proofs.Components.{in_nexts, tied, below_starts}
use Rattle.subgraph.proofs.Partitions.{Tables, blank_tables, parted_tables, begins_new}

module _ (es : List Edge) (N : ℕ) (inside : (x y : ℕ) → Joins es x y → (x < N) × (y < N)) where
  -- the same orders, from tables that agree on the nodes
  pub record Twin (p q : Partition) : Type 0 where
    pub found : Agree N p.found q.found
    pub appended : Agree N p.appended q.appended
    pub orders : p.orders ≡ q.orders

  found_twin : (n : ℕ) (p q : Partition) → n < N → Tables es N inside p → Tables es N inside q → Twin p q → Alike N (found_from es N p.found n) (found_from es N q.found n)
  found_twin n p q low s t w =
      same_turns N (λ m v st. piled (nexts es m) v st)
      (λ m v st y a. ⊎_elim (λ b. inl (in_nexts es N inside m y b)) (λ b. inr b) (piled_only (nexts es m) v st y a))
      (λ m v u st a. stacked_alike N (λ y. not (get_or v y false)) (λ y. not (get_or u y false)) (nexts es m) st (λ y b. ap not (a y (in_nexts es N inside m y b))))
      (blanks N p.found) (blanks N q.found) (n ∷ []) p.found q.found [] s.long t.long (omega arith) (omega arith)
      (λ y a. ⊎_elim (λ (is : y ≡ n). subst (λ i. i < N) (sym is) low) (λ b. absurd b) a) w.found

  sorted_twin : (n : ℕ) (p q : Partition) → n < N → get_or p.found n false ≡ false → Tables es N inside p → Tables es N inside q → Twin p q → Alike N (sorted_from es N p.found p.appended n) (sorted_from es N q.found q.appended n)
  sorted_twin n p q low new s t w =
      let begin = starts es (found_from es N p.found n).order in
      let below = below_starts es N (found_from es N p.found n).order (tied es N inside n low p.found s.long s.shut new).below in
      subst (λ st. Alike N (sorted_from es N p.found p.appended n) (walked (λ m v st. ready es (targets es m) v st) (blanks N q.appended) st q.appended []))
      (ap (starts es) (found_twin n p q low s t w).turns)
      (same_turns N (λ m v st. ready es (targets es m) v st)
      (λ m v st y a. ⊎_elim (λ b. inl (inside m y (seen_joins Outgoing es m y b.0)).1) (λ b. inr b) (stacked_only (is_ready es v) (targets es m) st y a))
      (λ m v u st a. stacked_alike N (is_ready es v) (is_ready es u) (targets es m) st (λ y b. all_alike N v u a (sources es y) (λ z c. (inside z y (seen_joins Incoming es y z c)).0)))
      (blanks N p.appended) (blanks N q.appended) begin p.appended q.appended [] s.room t.room (omega arith) (omega arith) (λ y a. below_at N begin y below a) w.appended)

  turn_twin : (n : ℕ) (p q : Partition) → n < N → Tables es N inside p → Tables es N inside q → Twin p q → Twin (turn es N n p) (turn es N n q)
  turn_twin n p q low s t w =
      let same : begins es p.found n ≡ begins es q.found n = ap (λ b. root es n && not b) (w.found n low) in
      ⊎_elim
      (λ (yes' : begins es p.found n ≡ true).
      let fd = found_twin n p q low s t w in
      let sd = sorted_twin n p q low (begins_new es p.found n yes') s t w in
      let both : Twin (joined es N n p) (joined es N n q) = record { found = fd.marks; appended = sd.marks; orders = λ i. sd.turns i ∷ w.orders i } in
      subst (λ r. Twin r (turn es N n q)) (sym (cond-true _ (joined es N n p) p yes')) (subst (Twin (joined es N n p)) (sym (cond-true _ (joined es N n q) q (sym same ∙ yes'))) both))
      (λ (no' : begins es p.found n ≡ false). subst (λ r. Twin r (turn es N n q)) (sym (cond-false _ (joined es N n p) p no')) (subst (Twin p) (sym (cond-false _ (joined es N n q) q (sym same ∙ no'))) w))
      (cases_Bool (begins es p.found n))

  parted_twin : (n : ℕ) (p q : Partition) → n ≤ N → Tables es N inside p → Tables es N inside q → Twin p q → Twin (parted es N n p) (parted es N n q)
  parted_twin zero p q few s t w = w
  parted_twin (suc n) p q few s t w = turn_twin n (parted es N n p) (parted es N n q) (omega arith) (parted_tables es N inside n p (omega arith) s) (parted_tables es N inside n q (omega arith) t) (parted_twin n p q (omega arith) s t w)

  pub same_orders : (v w v' w' : List Bool) → N ≤ length v → N ≤ length w → N ≤ length v' → N ≤ length w' → Blank N v → Blank N w → Blank N v' → Blank N w' → (partition es N v w).orders ≡ (partition es N v' w').orders
  same_orders v w v' w' lv lw lv' lw' bv bw bv' bw' =
      (parted_twin N (record { found = v; appended = w; orders = [] }) (record { found = v'; appended = w'; orders = [] }) (omega arith) (blank_tables es N inside v w [] lv lw bv bw) (blank_tables es N inside v' w' [] lv' lw' bv' bw')
      (record { found = λ x h. bv x h ∙ sym (bv' x h); appended = λ x h. bw x h ∙ sym (bw' x h); orders = refl })).orders
