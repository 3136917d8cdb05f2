-- A stack walk along the edges finds the closed walks.
use Rattle.std.proofs.Common.{◌≡◌, ℕ, ◌<◌, ◌≤◌, Bool, true, false, List, [], ◌∷◌, length, get_or, replicate, Decides, sym, ◌∙◌, ⊎_elim, arith}
use Rattle.std.proofs.lemmas.List.{ext_get_or, get_or-replicate, length-replicate}
use Rattle.std.proofs.lemmas.Bool.{cases_Bool, cases_lt, both_ways}
use Rattle.records.specs.declared.edge.Edge.{Edge}
use Rattle.records.specs.declared.edge.Direction.TheVariants.{Outgoing}
use Rattle.records.specs.Walks.{Among, Joins, Walk, Leads}
use Rattle.tables.specs.Filled.{filled, Blank}
use Rattle.tables.specs.Marks.{blanks}
use Rattle.tables.proofs.Filling.{length_filled, filled_below, filled_past}
use Rattle.tables.proofs.Marking.{blanks_le}
use Rattle.walks.specs.Exploring.{targets, piled, explored}
use Rattle.walks.specs.Cycles.{comes_back}
use Rattle.graph.proofs.Seen.{joins_seen, seen_joins}
use Rattle.walks.proofs.Exploring.{piled_has, piled_only}
use Rattle.walks.proofs.Closure.{ended, only, Past, walk_past}

-- one step more
one_on : (R : ℕ → ℕ → Type 0) (a : ℕ) (ms : List ℕ) (b c : ℕ) → Walk R a ms b → R b c → Leads R a c
one_on R a [] b c w j = (b ∷ [], (w, j))
one_on R a (m ∷ ms) b c w j = let (ns, rest) = one_on R m ms b c w.1 j in (m ∷ ns, (w.0, rest))

pub leads_inside : (es : List Edge) (N a : ℕ) (ms : List ℕ) (b : ℕ) → ((x y : ℕ) → Joins es x y → (x < N) × (y < N)) → Walk (Joins es) a ms b → a < N
leads_inside es N a [] b inside w = (inside _ _ w).0
leads_inside es N a (m ∷ ms) b inside w = (inside _ _ w.0).0

along_visited : (es : List Edge) (t : List Bool) → ((x y : ℕ) → get_or t x false ≡ true → Among y (targets es x) → get_or t y false ≡ true) → (a : ℕ) (ms : List ℕ) (b : ℕ) → Walk (Joins es) a ms b → ((y : ℕ) → Joins es a y → get_or t y false ≡ true) → get_or t b false ≡ true
along_visited es t closed a [] b w first = first b w
along_visited es t closed a (m ∷ ms) b w first = along_visited es t closed m ms b w.1 (λ y k. closed m y (first m w.0) (joins_seen Outgoing es m y k))

-- edges among the first N nodes, and the targets of n as they come onto the stack of a walk
module _ (es : List Edge) (N : ℕ) (inside : (x y : ℕ) → Joins es x y → (x < N) × (y < N)) (n : ℕ) where
  in_targets : (x y : ℕ) → Among y (targets es x) → y < N
  in_targets x y a = (inside x y (seen_joins Outgoing es x y a)).1

  on_stack : (v : List Bool) (y : ℕ) → Among y (piled (targets es n) v []) → Among y (targets es n)
  on_stack v y a = ⊎_elim (λ c. c) (λ c. absurd c) (piled_only (targets es n) v [] y a)

  -- the walk from there visits n just if n is on a closed walk
  decided : n < N → (k : ℕ) (v : List Bool) (o : List ℕ) → N ≤ length v → Blank N v → blanks N v ≤ k → Decides (get_or (explored (targets es) k (piled (targets es n) v []) v o).visited n false) (Leads (Joins es) n n)
  decided small k v o long blank few =
      let st = piled (targets es n) v [] in
      let t = (explored (targets es) k st v o).visited in
      let end = ended (targets es) N in_targets k v st o long few (λ y a. in_targets n y (on_stack v y a)) (λ x y h a. absurd (both_ways _ (blank x (inside x y (seen_joins Outgoing es x y a)).0) h)) in (
        λ yes'. ⊎_elim (λ was. absurd (both_ways _ (blank n small) was)) (λ w. w)
            (only (targets es) N in_targets (λ y. Leads (Joins es) n y) (λ x y w a. one_on (Joins es) n w.0 x y w.1 (seen_joins Outgoing es x y a)) k v st o (λ y a. ([], seen_joins Outgoing es n y (on_stack v y a))) n yes'),
        λ w. along_visited es t end.closed n w.0 n w.1 (λ y j. end.came y (piled_has (targets es n) v [] y (joins_seen Outgoing es n y j))),
      )

  pub back_decides : n < N → Decides (comes_back es N n) (Leads (Joins es) n n)
  back_decides small =
      let size = length-replicate N false in
      decided small N (replicate N false) [] (omega arith) (λ k h. get_or-replicate N k false false h) (blanks_le N (replicate N false))

  -- on any blank table the answer is the same
  pub back_same : n < N → (v : List Bool) (o : List ℕ) → N ≤ length v → Blank N v → get_or (explored (targets es) (blanks N v) (piled (targets es n) v []) v o).visited n false ≡ comes_back es N n
  back_same small v o long blank = same_answer _ _ (decided small (blanks N v) v o long blank (omega arith)) (back_decides small)
    where
      same_answer : (b c : Bool) → Decides b (Leads (Joins es) n n) → Decides c (Leads (Joins es) n n) → b ≡ c
      same_answer b c p q =
          ⊎_elim
          (λ (t : b ≡ true). t ∙ sym (q.1 (p.0 t)))
          (λ (f : b ≡ false). ⊎_elim (λ (t : c ≡ true). absurd (both_ways _ f (p.1 (q.0 t)))) (λ (g : c ≡ false). f ∙ sym g) (cases_Bool c))
          (cases_Bool b)

  pub back_past : (k : ℕ) (v : List Bool) (o : List ℕ) → Past N v (explored (targets es) k (piled (targets es n) v []) v o).visited
  back_past k v o = walk_past (targets es) N in_targets k v (piled (targets es n) v []) o (λ y a. in_targets n y (on_stack v y a))

-- a blank table is restored by filling
pub restored : (n : ℕ) (v w : List Bool) → n ≤ length v → Blank n v → Past n v w → filled n false w ≡ v
restored n v w l b p =
    let long = p.long in
    let size = length_filled n false w (omega arith) in
    ext_get_or false (filled n false w) v (size ∙ long)
    (λ k h. ⊎_elim (λ (lt : k < n). filled_below n k false false w lt ∙ sym (b k lt)) (λ (ge : n ≤ k). filled_past n k false false w ge ∙ p.same k ge) (cases_lt k n))
