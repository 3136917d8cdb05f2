-- The partition over all roots.
use Rattle.std.proofs.Common.{◌≡◌, ℕ, zero, suc, ◌+◌, ◌<◌, ◌≤◌, Bool, true, false, cond, not, ◌⊎◌, List, [], ◌∷◌, length, get_or, sym, refl, ap, ◌∙◌, subst, inl, inr, ⊎_elim, arith}
use Rattle.std.proofs.lemmas.List.{length-append}
use Rattle.std.proofs.lemmas.Bool.{cases_eq, cases_Bool, cond-true, cond-false, both_ways, and_parts, and_from, not-true}
use Rattle.records.specs.declared.edge.Edge.{Edge}
use Rattle.records.specs.declared.edge.Direction.TheVariants.{Outgoing, Incoming}
use Rattle.records.specs.Walks.{Among, Joins, Acyclic, Connected, Touched}
use Rattle.records.specs.Walks.Connected.{here, onward, backward}
use Rattle.tables.specs.Filled.{Blank}
use Rattle.tables.specs.Marks.{blanks}
use Rattle.tables.specs.Steps.{Below}
use Rattle.walks.specs.Exploring.{targets, sources}
use Rattle.graph.proofs.Seen.{joins_seen, seen_joins}
use Rattle.walks.proofs.Closure.{Past}
use Rattle.subgraph.specs.Sorting.{is_ready}
use Rattle.subgraph.specs.Orders.{is_empty, sorted_from, Shut, NoMore}
use Rattle.subgraph.specs.Partitions.{root, Partition, joined, begins, turn, parted}
use Rattle.subgraph.specs.Places.{in_turn}
use Rattle.graph.proofs.Sound.{below_all}
use Rattle.subgraph.proofs.Lists.{some_in, in_some}
use Rattle.subgraph.proofs.Sorting.{all_in_each}
use Rattle.subgraph.proofs.Topological.{all_done}
use Rattle.subgraph.proofs.Components.{Topological, tied, unfound, found_past, connected_small, found_all, marked_only, shut_again, end, topological, within_again, order_size}

-- ---- orders that stand apart
abbrev pub Somewhere : List (List ℕ) → ℕ → Type 0
Somewhere [] x = ⊥
Somewhere (o ∷ os) x = Among x o ⊎ Somewhere os x

-- each order is that of a subgraph, and no node stands in two
abbrev pub Apart : (ℕ → ℕ → Type 0) → List (List ℕ) → Type 0
Apart R [] = Unit {0}
Apart R (o ∷ os) = ((r : ℕ) × Topological R r o) × ((x : ℕ) → Among x o → Somewhere os x → ⊥) × Apart R os

-- each node with an edge stands in one order, and no other node does
pub record Parts (R : ℕ → ℕ → Type 0) (orders : List (List ℕ)) : Type 0 where
  pub apart : Apart R orders
  pub whole : (x : ℕ) → Touched R x → Somewhere orders x
  pub only : (x : ℕ) → Somewhere orders x → Touched R x

-- ---- tests
begins_root : (es : List Edge) (v : List Bool) (n : ℕ) → begins es v n ≡ true → root es n ≡ true
begins_root es v n h = (and_parts (root es n) _ h).0

pub begins_new : (es : List Edge) (v : List Bool) (n : ℕ) → begins es v n ≡ true → get_or v n false ≡ false
begins_new es v n h = not-true (get_or v n false) (and_parts (root es n) _ h).1

-- a root that begins none is found
passed : (es : List Edge) (v : List Bool) (n : ℕ) → begins es v n ≡ false → root es n ≡ true → get_or v n false ≡ true
passed es v n no' r =
    ⊎_elim
    (λ h. h)
    (λ (new : get_or v n false ≡ false). absurd (both_ways _ no' (and_from (root es n) (not (get_or v n false)) r (ap not new))))
    (cases_Bool (get_or v n false))

root_touched : (es : List Edge) (n : ℕ) → root es n ≡ true → Touched (Joins es) n
root_touched es n h =
    let t = in_some (targets es n) (not-true _ (and_parts (is_empty (sources es n)) _ h).1) in
    (t.0, inl (seen_joins Outgoing es n t.0 t.1))

-- what is connected with a touched node is touched
connected_touched : (es : List Edge) (r : ℕ) → Touched (Joins es) r → {x : ℕ} → Connected (Joins es) r x → Touched (Joins es) x
connected_touched es r t here = t
connected_touched es r t (onward {b} {c} w j) = (b, inr j)
connected_touched es r t (backward {b} {c} w j) = (b, inl j)

module _ (es : List Edge) (N : ℕ) (inside : (x y : ℕ) → Joins es x y → (x < N) × (y < N)) where
  -- the tables as they are before a root is taken
  pub record Tables (p : Partition) : Type 0 where
    pub long : N ≤ length p.found
    pub room : N ≤ length p.appended
    pub shut : Shut es p.found
    pub within : NoMore N p.appended p.found

  -- the orders beside them
  pub record Orders (n : ℕ) (p : Partition) : Type 0 where
    pub apart : Apart (Joins es) p.orders
    pub noted : (x : ℕ) → x < N → get_or p.found x false ≡ true → Somewhere p.orders x
    pub marked : (x : ℕ) → Somewhere p.orders x → (get_or p.found x false ≡ true) × Touched (Joins es) x
    pub taken : (m : ℕ) → m < n → root es m ≡ true → get_or p.found m false ≡ true

  pub blank_tables : (v w : List Bool) (os : List (List ℕ)) → N ≤ length v → N ≤ length w → Blank N v → Blank N w → Tables (record { found = v; appended = w; orders = os })
  blank_tables v w os lv lw bv bw = record { long = lv; room = lw; shut = λ x y j. bv x (inside x y j).0 ∙ sym (bv y (inside x y j).1); within = λ x lt h. absurd (both_ways _ (bw x lt) h) }

  joined_tables : (n : ℕ) (p : Partition) → n < N → get_or p.found n false ≡ false → Tables p → Tables (joined es N n p)
  joined_tables n p low new t = record {
    long = (tied es N inside n low p.found t.long t.shut new).long;
    room = (end es N inside n low p.found t.long t.shut new p.appended t.room t.within).long;
    shut = shut_again es N inside n low p.found t.long t.shut new;
    within = within_again es N inside n low p.found t.long t.shut new p.appended t.room t.within;
  }

  turn_tables : (n : ℕ) (p : Partition) → n < N → Tables p → Tables (turn es N n p)
  turn_tables n p low t =
      ⊎_elim
      (λ (yes' : begins es p.found n ≡ true). subst Tables (sym (cond-true _ (joined es N n p) p yes')) (joined_tables n p low (begins_new es p.found n yes') t))
      (λ (no' : begins es p.found n ≡ false). subst Tables (sym (cond-false _ (joined es N n p) p no')) t)
      (cases_Bool (begins es p.found n))

  pub parted_tables : (n : ℕ) (p : Partition) → n ≤ N → Tables p → Tables (parted es N n p)
  parted_tables zero p few t = t
  parted_tables (suc n) p few t = turn_tables n (parted es N n p) (omega arith) (parted_tables n p (omega arith) t)

  pub parted_past : (n : ℕ) (p : Partition) → n ≤ N → Tables p → Past N p.found (parted es N n p).found
  parted_past zero p few t = record { long = refl; same = λ _ _. refl }
  parted_past (suc n) p few t =
      let q = parted es N n p in
      let rest = parted_past n p (omega arith) t in
      let tq = parted_tables n p (omega arith) t in
      ⊎_elim
      (λ (yes' : begins es q.found n ≡ true).
      let more' = found_past es N inside n (omega arith) q.found tq.long tq.shut (begins_new es q.found n yes') in
      subst (λ (r : Partition). Past N p.found r.found) (sym (cond-true _ (joined es N n q) q yes')) (record { long = more'.long ∙ rest.long; same = λ k h. more'.same k h ∙ rest.same k h }))
      (λ (no' : begins es q.found n ≡ false). subst (λ (r : Partition). Past N p.found r.found) (sym (cond-false _ (joined es N n q) q no')) rest)
      (cases_Bool (begins es q.found n))

  -- ---- room
  pub parted_count : (n : ℕ) (p : Partition) → length (parted es N n p).orders ≤ n + length p.orders
  parted_count zero p = omega arith
  parted_count (suc n) p =
      let rest = parted_count n p in
      let q = parted es N n p in
      elim (begins es q.found n) as (λ b. length (cond b (joined es N n q) q).orders ≤ suc n + length p.orders) [ true ↦ omega arith | false ↦ omega arith ]

  abbrev pub Roomy : Partition → Type 0
  Roomy p = length (in_turn p.orders) + blanks N p.appended ≤ N

  pub joined_roomy : (n : ℕ) (p : Partition) → n < N → get_or p.found n false ≡ false → Tables p → Roomy p → Roomy (joined es N n p)
  joined_roomy n p low new t r =
      let size = order_size es N inside n low p.found t.long t.shut new p.appended t.room t.within in
      let both = length-append (sorted_from es N p.found p.appended n).order (in_turn p.orders) in
      omega arith

  pub parted_roomy : (n : ℕ) (p : Partition) → n ≤ N → Tables p → Roomy p → Roomy (parted es N n p)
  parted_roomy zero p few t r = r
  parted_roomy (suc n) p few t r =
      let q = parted es N n p in
      let tq = parted_tables n p (omega arith) t in
      let rq = parted_roomy n p (omega arith) t r in
      ⊎_elim
      (λ (yes' : begins es q.found n ≡ true). subst Roomy (sym (cond-true _ (joined es N n q) q yes')) (joined_roomy n q (omega arith) (begins_new es q.found n yes') tq rq))
      (λ (no' : begins es q.found n ≡ false). subst Roomy (sym (cond-false _ (joined es N n q) q no')) rq)
      (cases_Bool (begins es q.found n))

  pub order_below : (n : ℕ) (p : Partition) (m : ℕ) → N ≤ m → n < N → get_or p.found n false ≡ false → Tables p → Below m (sorted_from es N p.found p.appended n).order
  order_below n p m most low new t = below_all m _ (λ x a.
      let c = ((end es N inside n low p.found t.long t.shut new p.appended t.room t.within).marked x a).1 in
      let lt : x < N = connected_small es N inside n low p.found t.long t.shut new x c in
      omega arith)

  module _ (acyclic : Acyclic (Joins es)) where
    joined_orders : (n : ℕ) (p : Partition) → n < N → root es n ≡ true → get_or p.found n false ≡ false → Tables p → Orders n p → Orders (suc n) (joined es N n p)
    joined_orders n p low is-root new t o =
        let top = topological es N inside n low p.found t.long t.shut new p.appended t.room t.within acyclic in
        let tie = tied es N inside n low p.found t.long t.shut new in
        let reached : (x : ℕ) → Connected (Joins es) n x → get_or (joined es N n p).found x false ≡ true = λ x c. tie.from x (found_all es N inside n low p.found t.long t.shut new x c) in
        record {
          apart = ((n, top), λ x a s. both_ways _ (unfound es p.found t.shut n new (top.only x a)) (o.marked x s).0, o.apart);
          noted = λ x lt h. ⊎_elim (λ was. inr (o.noted x lt was)) (λ c. inl (top.whole x c)) (marked_only es N inside n low p.found t.long t.shut new x h);
          marked = λ x s. ⊎_elim (λ a. (reached x (top.only x a), connected_touched es n (root_touched es n is-root) (top.only x a))) (λ b. (tie.kept x (o.marked x b).0, (o.marked x b).1)) s;
          taken = λ m lt r. ⊎_elim (λ (is : m ≡ n). subst (λ i. get_or (joined es N n p).found i false ≡ true) (sym is) (reached n here)) (λ (ne : m ≡ n → ⊥). tie.kept m (o.taken m (omega arith) r)) (cases_eq m n);
        }

    passed_orders : (n : ℕ) (p : Partition) → begins es p.found n ≡ false → Orders n p → Orders (suc n) p
    passed_orders n p no' o = record {
      apart = o.apart;
      noted = o.noted;
      marked = o.marked;
      taken = λ m lt r. ⊎_elim (λ (is : m ≡ n). subst (λ i. get_or p.found i false ≡ true) (sym is) (passed es p.found n no' (subst (λ i. root es i ≡ true) is r))) (λ (ne : m ≡ n → ⊥). o.taken m (omega arith) r) (cases_eq m n);
    }

    turn_orders : (n : ℕ) (p : Partition) → n < N → Tables p → Orders n p → Orders (suc n) (turn es N n p)
    turn_orders n p low t o =
        ⊎_elim
        (λ (yes' : begins es p.found n ≡ true). subst (Orders (suc n)) (sym (cond-true _ (joined es N n p) p yes')) (joined_orders n p low (begins_root es p.found n yes') (begins_new es p.found n yes') t o))
        (λ (no' : begins es p.found n ≡ false). subst (Orders (suc n)) (sym (cond-false _ (joined es N n p) p no')) (passed_orders n p no' o))
        (cases_Bool (begins es p.found n))

    parted_orders : (n : ℕ) (p : Partition) → n ≤ N → Tables p → Orders 0 p → Orders n (parted es N n p)
    parted_orders zero p few t o = o
    parted_orders (suc n) p few t o = turn_orders n (parted es N n p) (omega arith) (parted_tables n p (omega arith) t) (parted_orders n p (omega arith) t o)

    -- where every root is found, so is every node with an edge
    all_found : (v : List Bool) → Shut es v → ((m : ℕ) → m < N → root es m ≡ true → get_or v m false ≡ true) → (x : ℕ) → Touched (Joins es) x → get_or v x false ≡ true
    all_found v shut roots = all_done es N (Touched (Joins es)) small (λ x y j _. (x, inr j)) (λ x y j _. (y, inl j)) acyclic v done
      where
        small : (x : ℕ) → Touched (Joins es) x → x < N
        small x (y, inl j) = (inside x y j).0
        small x (y, inr j) = (inside y x j).1

        out : (m : ℕ) → is_empty (sources es m) ≡ true → Touched (Joins es) m → root es m ≡ true
        out m none (y, inl j) = and_from (is_empty (sources es m)) (not (is_empty (targets es m))) none (ap not (some_in y (targets es m) (joins_seen Outgoing es m y j)))
        out m none (y, inr j) = absurd (both_ways _ (some_in y (sources es m) (joins_seen Incoming es m y j)) none)

        done : (m : ℕ) → Touched (Joins es) m → is_ready es v m ≡ true → get_or v m false ≡ true
        done m t h =
            ⊎_elim
            (λ (none : is_empty (sources es m) ≡ true). roots m (small m t) (out m none t))
            (λ (has : is_empty (sources es m) ≡ false). let s = in_some (sources es m) has in sym (shut s.0 m (seen_joins Incoming es m s.0 s.1)) ∙ all_in_each (sources es m) v s.0 h s.1)
            (cases_Bool (is_empty (sources es m)))

    pub parts : (v w : List Bool) → N ≤ length v → N ≤ length w → Blank N v → Blank N w → Parts (Joins es) (parted es N N (record { found = v; appended = w; orders = [] })).orders
    parts v w lv lw bv bw =
        let p₀ : Partition = record { found = v; appended = w; orders = [] } in
        let t₀ = blank_tables v w [] lv lw bv bw in
        let o₀ : Orders 0 p₀ = record { apart = tt; noted = λ x lt h. absurd (both_ways _ (bv x lt) h); marked = λ x s. absurd s; taken = λ m lt r. absurd (omega arith) } in
        let p = parted es N N p₀ in
        let t = parted_tables N p₀ (omega arith) t₀ in
        let o = parted_orders N p₀ (omega arith) t₀ o₀ in
        record {
          apart = o.apart;
          whole = λ x to. o.noted x (small x to) (all_found p.found t.shut o.taken x to);
          only = λ x s. (o.marked x s).1;
        }
      where
        small : (x : ℕ) → Touched (Joins es) x → x < N
        small x (y, inl j) = (inside x y j).0
        small x (y, inr j) = (inside y x j).1
