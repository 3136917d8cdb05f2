-- The order of the topological stack.
use Rattle.std.proofs.Common.{◌≡◌, ℕ, zero, suc, ◌<◌, ◌≤◌, Bool, true, false, ◌⊎◌, List, [], ◌∷◌, length, get_or, set, replicate, sym, ap, ◌∙◌, subst, inl, inr, ⊎_elim, arith}
use Rattle.std.proofs.lemmas.List.{get_or-set_same, length-set, get_or-replicate, length-replicate}
use Rattle.std.proofs.lemmas.Bool.{cases_Bool, both_ways}
use Rattle.records.specs.declared.edge.Edge.{Edge}
use Rattle.records.specs.declared.edge.Direction.TheVariants.{Outgoing, Incoming}
use Rattle.records.specs.Walks.{Among, Joins, Leads, Acyclic}
use Rattle.tables.specs.Marks.{blanks}
use Rattle.tables.proofs.Marking.{blanks_set, no_blanks, blanks_le}
use Rattle.walks.specs.Exploring.{targets, sources}
use Rattle.graph.proofs.Seen.{joins_seen, seen_joins}
use Rattle.walks.proofs.Exploring.{stacked_keeps, stacked_has, stacked_only, fresh_none, walk_cases, Fresh}
use Rattle.walks.proofs.Closure.{Covered, visited_set, set_visited}
use Rattle.subgraph.specs.Sorting.{all_in, is_ready, ready, sorted}
use Rattle.subgraph.specs.Orders.{Ordered}
use Rattle.subgraph.proofs.Sorting.{all_in_each, all_in_from, all_in_not}

-- C is a set of nodes that no edge leaves or enters
module _ (es : List Edge) (N : ℕ) (C : ℕ → Type 0) (small : (x : ℕ) → C x → x < N) (forth : (x y : ℕ) → Joins es x y → C x → C y) (back : (x y : ℕ) → Joins es x y → C y → C x) where
  pub record State (v : List Bool) (st o : List ℕ) : Type 0 where
    pub long : N ≤ length v
    pub inside : (m : ℕ) → Among m st → C m
    pub readies : (m : ℕ) → Among m st → is_ready es v m ≡ true
    pub noted : (x : ℕ) → C x → get_or v x false ≡ true → Among x o
    pub marked : (x : ℕ) → Among x o → (get_or v x false ≡ true) × C x
    pub ordered : Ordered (Joins es) o
    pub covered : (m : ℕ) → C m → is_ready es v m ≡ true → Covered v st m

  settle : (v : List Bool) (st o : List ℕ) → ((m : ℕ) → C m → Covered v st m → get_or v m false ≡ true) → State v st o → State v [] o
  settle v st o all s = record {
    long = s.long;
    inside = λ m a. absurd a;
    readies = λ m a. absurd a;
    noted = s.noted;
    marked = s.marked;
    ordered = s.ordered;
    covered = λ m c h. inl (all m c (s.covered m c h));
  }

  module _ (v : List Bool) (st o : List ℕ) (n : ℕ) (rest : List ℕ) (f : Fresh v st n rest) (s : State v st o) where
    in_table : n < length v
    in_table = let a = small n (s.inside n f.among) in let b = s.long in omega arith

    more_in : (xs : List ℕ) → all_in xs v ≡ true → all_in xs (set v n true) ≡ true
    more_in xs h = all_in_from xs (set v n true) (λ y a. visited_set v n y in_table (all_in_each xs v y h a))

    now_covered : (m : ℕ) → C m → is_ready es (set v n true) m ≡ true → Covered (set v n true) (ready es (targets es n) (set v n true) rest) m
    now_covered m c h =
        ⊎_elim
        (λ (t : is_ready es v m ≡ true).
        ⊎_elim
        (λ was. inl (visited_set v n m in_table was))
        (λ a. ⊎_elim
        (λ was. inl (visited_set v n m in_table was))
        (λ p. ⊎_elim
        (λ (is : m ≡ n). inl (ap (λ i. get_or (set v n true) i false) is ∙ get_or-set_same v n true false in_table))
        (λ b. inr (stacked_keeps (is_ready es (set v n true)) (targets es n) rest m b))
        p)
        (f.still m a))
        (s.covered m c t))
        (λ (no' : is_ready es v m ≡ false).
        let gap = all_in_not (sources es m) v no' in
        let y = gap.0 in
        ⊎_elim
        (λ (is : y ≡ n). inr (stacked_has (is_ready es (set v n true)) (targets es n) rest m (joins_seen Outgoing es n m (seen_joins Incoming es m n (subst (λ i. Among i (sources es m)) is gap.1))) h))
        (λ was. absurd (both_ways _ gap.2 was))
        (set_visited v n y (all_in_each (sources es m) (set v n true) y h gap.1)))
        (cases_Bool (all_in (sources es m) v))

    advance : State (set v n true) (ready es (targets es n) (set v n true) rest) (n ∷ o)
    advance =
        let c = s.inside n f.among in
        record {
          long = subst (λ m. N ≤ m) (sym (length-set v n true)) s.long;
          inside = λ m a. ⊎_elim (λ p. forth n m (target m p.0) c) (λ b. s.inside m (f.part m b)) (stacked_only (is_ready es (set v n true)) (targets es n) rest m a);
          readies = λ m a. ⊎_elim (λ p. p.1) (λ b. more_in (sources es m) (s.readies m (f.part m b))) (stacked_only (is_ready es (set v n true)) (targets es n) rest m a);
          noted = λ x cx h. ⊎_elim (λ (is : x ≡ n). inl is) (λ was. inr (s.noted x cx was)) (set_visited v n x h);
          marked = λ x a. ⊎_elim (λ (is : x ≡ n). (ap (λ i. get_or (set v n true) i false) is ∙ get_or-set_same v n true false in_table, subst C (sym is) c)) (λ b. (visited_set v n x in_table (s.marked x b).0, (s.marked x b).1)) a;
          ordered = (
            λ x j. s.noted x (back x n j c) (all_in_each (sources es n) v x (s.readies n f.among) (joins_seen Incoming es n x j)),
            λ a. both_ways _ f.new (s.marked n a).0,
            s.ordered,
          );
          covered = now_covered;
        }
      where
        target : (m : ℕ) → Among m (targets es n) → Joins es n m
        target m a = seen_joins Outgoing es n m a

  pub runs : (k : ℕ) (v : List Bool) (st o : List ℕ) → blanks N v ≤ k → State v st o → State (sorted es k st v o).visited [] (sorted es k st v o).order
  runs zero v st o few s =
      let none : blanks N v ≡ 0 = omega arith in
      settle v st o (λ m c _. no_blanks N m v none (small m c)) s
  runs (suc k) v st o few s =
      walk_cases (λ n v st. ready es (targets es n) v st) k st v o (λ t. State t.visited [] t.order)
      (λ e. settle v st o (λ m c. ⊎_elim (λ h. h) (λ a. fresh_none v st m e a)) s)
      (λ n rest f.
      let a = small n (s.inside n f.among) in
      let b = s.long in
      let fewer = blanks_set N n v a (omega arith) f.new in
      runs k (set v n true) (ready es (targets es n) (set v n true) rest) (n ∷ o) (omega arith) (advance v st o n rest f s))

  -- a node left out would be reached from another, and so on without end
  module _ (acyclic : Acyclic (Joins es)) (t : List Bool) (done : (m : ℕ) → C m → is_ready es t m ≡ true → get_or t m false ≡ true) where
    before : (x : ℕ) → C x → get_or t x false ≡ false → (y : ℕ) × Joins es y x × (get_or t y false ≡ false)
    before x c no' =
        ⊎_elim
        (λ h. absurd (both_ways _ no' (done x c h)))
        (λ h. let gap = all_in_not (sources es x) t h in (gap.0, seen_joins Incoming es x gap.0 gap.1, gap.2))
        (cases_Bool (all_in (sources es x) t))

    on_from : {x y : ℕ} (z : ℕ) → Joins es y x → (x ≡ z) ⊎ Leads (Joins es) x z → Leads (Joins es) y z
    on_from {x} {y} z j (inl is) = subst (λ i. Leads (Joins es) y i) is ([], j)
    on_from {x} {y} z j (inr w) = (x ∷ w.0, (j, w.1))

    chase : (k : ℕ) (seen : List Bool) (x : ℕ) → N ≤ length seen → blanks N seen ≤ k → C x → get_or t x false ≡ false → ((z : ℕ) → z < N → get_or seen z false ≡ true → (x ≡ z) ⊎ Leads (Joins es) x z) → ⊥
    chase zero seen x long few c no' trail =
        let b = before x c no' in
        let y = b.0 in
        let none : blanks N seen ≡ 0 = omega arith in
        let s = small y (back y x b.1 c) in
        acyclic y (on_from y b.1 (trail y s (no_blanks N y seen none s)))
    chase (suc k) seen x long few c no' trail =
        let b = before x c no' in
        let y = b.0 in
        let j = b.1 in
        let cy = back y x j c in
        let s = small y cy in
        ⊎_elim
        (λ (yes' : get_or seen y false ≡ true). acyclic y (on_from y j (trail y s yes')))
        (λ (new : get_or seen y false ≡ false).
        let fewer = blanks_set N y seen s (omega arith) new in
        chase k (set seen y true) y (subst (λ m. N ≤ m) (sym (length-set seen y true)) long) (omega arith) cy b.2
        (λ z lt h. ⊎_elim (λ (is : z ≡ y). inl (sym is)) (λ was. inr (on_from z j (trail z lt was))) (set_visited seen y z h)))
        (cases_Bool (get_or seen y false))

    pub all_done : (x : ℕ) → C x → get_or t x false ≡ true
    all_done x c =
        ⊎_elim
        (λ h. h)
        (λ no'.
        let empty = replicate N false in
        let size = length-replicate N false in
        absurd (chase N empty x (omega arith) (blanks_le N empty) c no' (λ z lt h. absurd (both_ways _ (get_or-replicate N z false false lt) h))))
        (cases_Bool (get_or t x false))
