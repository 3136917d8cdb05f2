-- What the test of all nodes answers.
use Rattle.std.proofs.Common.{◌≡◌, ℕ, zero, suc, ◌<◌, ◌≤◌, true, false, cond, ◌⊎◌, List, length, Ok, Err, Result, sym, refl, ap, ◌∙◌, subst, inl, inr, ⊎_elim, arith}
use Rattle.std.proofs.lemmas.Bool.{cases_Bool, cases_lt, cases_eq, cond-true, cond-false, lt-ltb, le-ltb, both_ways}
use Rattle.records.specs.declared.edge.Edge.{Edge}
use Rattle.records.specs.declared.refusal.Refusal.{Refusal}
use Rattle.records.specs.declared.refusal.Refusal.TheVariants.{TableTooShort, ClosedWalk}
use Rattle.records.specs.Walks.{Joins, Leads, Lowest, Acyclic}
use Rattle.graph.specs.declared.raw.RawInstGraph.{RawInstGraph}
use Rattle.graph.specs.Model.{Model, model, unless_refused}
use Rattle.walks.proofs.Seeing.{edges_inside}
use Rattle.walks.specs.Cycles.{comes_back, checked, acyclic_answer, Tested}
use Rattle.walks.proofs.Closed.{back_decides, leads_inside}

-- one node more
pub checked_on : (es : List Edge) (N n : ℕ) → checked es N n ≡ Ok tt → comes_back es N n ≡ false → checked es N (suc n) ≡ Ok tt
checked_on es N n e f = ap (λ r. unless_refused r (cond (comes_back es N n) (Err (ClosedWalk n)) (Ok tt))) e ∙ cond-false _ _ _ f

pub checked_stop : (es : List Edge) (N n : ℕ) → checked es N n ≡ Ok tt → comes_back es N n ≡ true → checked es N (suc n) ≡ Err (ClosedWalk n)
checked_stop es N n e t = ap (λ r. unless_refused r (cond (comes_back es N n) (Err (ClosedWalk n)) (Ok tt))) e ∙ cond-true _ _ _ t

-- a refusal stays
pub checked_stays : (es : List Edge) (N n m : ℕ) (e : Refusal) → n ≤ m → checked es N n ≡ Err e → checked es N m ≡ Err e
checked_stays es N n zero e h is = let same : n ≡ 0 = omega arith in subst (λ k. checked es N k ≡ Err e) same is
checked_stays es N n (suc m) e h is =
    ⊎_elim
    (λ (same : n ≡ suc m). subst (λ k. checked es N k ≡ Err e) same is)
    (λ (ne : n ≡ suc m → ⊥). ap (λ r. unless_refused r (cond (comes_back es N m) (Err (ClosedWalk m)) (Ok tt))) (checked_stays es N n m e (omega arith) is))
    (cases_eq n (suc m))

-- ---- the law
module _ (es : List Edge) (N : ℕ) (inside : (x y : ℕ) → Joins es x y → (x < N) × (y < N)) where
  -- no node below n is on a closed walk, or the lowest on one is told
  abbrev Found : ℕ → Result (Unit {0}) Refusal → Type 0
  Found n r = ((r ≡ Ok tt) × ((m : ℕ) → m < n → Leads (Joins es) m m → ⊥)) ⊎ ((m : ℕ) × (r ≡ Err (ClosedWalk m)) × Lowest (Joins es) m)

  found : (n : ℕ) → n ≤ N → Found n (checked es N n)
  found zero h = inl (refl, λ m lt w. absurd (omega arith))
  found (suc n) h = ⊎_elim ok err (found n (omega arith))
    where
      ok : ((checked es N n ≡ Ok tt) × ((m : ℕ) → m < n → Leads (Joins es) m m → ⊥)) → Found (suc n) (checked es N (suc n))
      ok (e, none) =
          let decides = back_decides es N inside n (omega arith) in
          ⊎_elim
          (λ (t : comes_back es N n ≡ true). inr (n, checked_stop es N n e t, record { closed = decides.0 t; none_below = none }))
          (λ (f : comes_back es N n ≡ false).
          inl (
            checked_on es N n e f,
            λ m lt w.
                ⊎_elim
                (λ (is : m ≡ n). both_ways _ f (decides.1 (subst (λ k. Leads (Joins es) k k) is w)))
                (λ (ne : m ≡ n → ⊥). none m (omega arith) w)
                (cases_eq m n),
          ))
          (cases_Bool (comes_back es N n))

      err : (m : ℕ) × (checked es N n ≡ Err (ClosedWalk m)) × Lowest (Joins es) m → Found (suc n) (checked es N (suc n))
      err (m, is, low) = inr (m, checked_stays es N n (suc n) (ClosedWalk m) (omega arith) is, low)

-- a table is too short, or long enough
pub short_answer : (m : Model) (room : ℕ) → room < length m.nodes → acyclic_answer m room ≡ Err (TableTooShort (length m.nodes))
short_answer m room lt = ap (λ r. unless_refused r (checked m.edges (length m.nodes) (length m.nodes))) (cond-true _ _ _ (lt-ltb room (length m.nodes) lt))

long_answer : (m : Model) (room : ℕ) → length m.nodes ≤ room → acyclic_answer m room ≡ checked m.edges (length m.nodes) (length m.nodes)
long_answer m room ge = ap (λ r. unless_refused r (checked m.edges (length m.nodes) (length m.nodes))) (cond-false _ _ _ (le-ltb room (length m.nodes) ge))

pub tested : (m : Model) → ((x y : ℕ) → Joins m.edges x y → (x < length m.nodes) × (y < length m.nodes)) → (room : ℕ) → Tested m room (acyclic_answer m room)
tested m inside room =
    ⊎_elim
    (λ (lt : room < N). subst (Tested m room) (sym (short_answer m room lt)) (too_short lt))
    (λ (ge : N ≤ room). subst (Tested m room) (sym (long_answer m room ge)) (⊎_elim (no_walk ge) (closed_walk ge) (found es N inside N (omega arith))))
    (cases_lt room N)
  where
    other : {A : Type 0} → ◌≡◌ {A = ℕ} 0 1 → A
    other z = absurd (omega arith)

    N : ℕ
    N = length m.nodes

    es : List Edge
    es = m.edges

    too_short : room < N → Tested m room (Err (TableTooShort N))
    too_short lt =
        record {
          passed = (λ e. other cc, λ h. let ge = h.0 in absurd (omega arith));
          closed = λ n. (λ e. other cc, λ h. let ge = h.0 in absurd (omega arith));
          short = λ n. (λ e. (cc, lt), λ h. ap (λ k. Err (TableTooShort k)) (sym h.0));
        }

    no_walk : N ≤ room → ((checked es N N ≡ Ok tt) × ((k : ℕ) → k < N → Leads (Joins es) k k → ⊥)) → Tested m room (checked es N N)
    no_walk ge (is, none) =
        let acyclic : Acyclic (Joins es) = λ n w. none n (leads_inside es N n w.0 n inside w.1) w in
        subst (Tested m room) (sym is)
        (record {
          passed = (λ e. (ge, acyclic), λ h. refl);
          closed = λ n. (λ e. other cc, λ h. absurd (acyclic n h.1.closed));
          short = λ n. (λ e. other cc, λ h. let lt = h.1 in absurd (omega arith));
        })

    -- there is one lowest node only
    same_lowest : (k n : ℕ) → Lowest (Joins es) k → Lowest (Joins es) n → k ≡ n
    same_lowest k n a b =
        ⊎_elim
        (λ (lt : k < n). absurd (b.none_below k lt a.closed))
        (λ (ge : n ≤ k).
        ⊎_elim
        (λ (lt : n < k). absurd (a.none_below n lt b.closed))
        (λ (le : k ≤ n). omega arith)
        (cases_lt n k))
        (cases_lt k n)

    closed_walk : N ≤ room → (k : ℕ) × (checked es N N ≡ Err (ClosedWalk k)) × Lowest (Joins es) k → Tested m room (checked es N N)
    closed_walk ge (k, is, low) =
        subst (Tested m room) (sym is)
        (record {
          passed = (λ e. other cc, λ h. absurd (h.1 k low.closed));
          closed = λ n. (λ e. (let same : k ≡ n = cc in (ge, subst (Lowest (Joins es)) same low)), λ h. ap (λ x. Err (ClosedWalk x)) (same_lowest k n low h.1));
          short = λ n. (λ e. other cc, λ h. let lt = h.1 in absurd (omega arith));
        })

pub tested_lem : (g : RawInstGraph) (room : ℕ) (r : Result (Unit {0}) Refusal) → r ≡ acyclic_answer (model g) room → Tested (model g) room r
tested_lem g room r is = subst (Tested (model g) room) (sym is) (tested (model g) (edges_inside g) room)

-- a node that leads back is the answer where none below it does
pub stopped : (m : Model) (room n : ℕ) → length m.nodes ≤ room → n < length m.nodes → checked m.edges (length m.nodes) n ≡ Ok tt → comes_back m.edges (length m.nodes) n ≡ true → Err (ClosedWalk n) ≡ acyclic_answer m room
stopped m room n fits low below back =
    sym (long_answer m room fits ∙ checked_stays m.edges (length m.nodes) (suc n) (length m.nodes) (ClosedWalk n) (omega arith) (checked_stop m.edges (length m.nodes) n below back))

pub finished : (m : Model) (room n : ℕ) → length m.nodes ≤ room → n ≡ length m.nodes → checked m.edges (length m.nodes) n ≡ Ok tt → Ok tt ≡ acyclic_answer m room
finished m room n fits all below = sym (long_answer m room fits ∙ ap (checked m.edges (length m.nodes)) (sym all) ∙ below)
