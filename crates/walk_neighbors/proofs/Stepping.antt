-- What pushing a list keeps, and the steps of a walk past disabled nodes.
use Rattle.std.proofs.Common.{◌≡◌, ℕ, zero, suc, ◌<◌, ◌≤◌, Bool, true, false, List, [], ◌∷◌, length, get_or, set, replicate, filter, sym, refl, ap, ◌∙◌, subst, ⊎_elim, arith}
use Rattle.std.proofs.lemmas.List.{length-set, length-replicate}
use Rattle.std.proofs.lemmas.Bool.{cases_Bool, cond-true, cond-false}
use Rattle.tables.specs.Steps.{Below}
use Rattle.tables.proofs.Marking.{blanks_set, blanks_new}
use Rattle.records.specs.declared.edge.Direction.{Direction}
use Rattle.graph.specs.Model.{Model}
use Rattle.walk_neighbors.specs.PastDisabled.{Noted, noted, push, push_all, drained, gone_through, pops, sees, is_off, may_reach, enabled_neighbours}
use Rattle.walk_neighbors.specs.Cursors.{Fits}

pub push_yes : (m : ℕ) (p : Noted) → get_or p.visited m false ≡ true → push m p ≡ p
push_yes m p t = cond-true _ p (noted (set p.visited m true) (m ∷ p.stack)) t

pub push_no : (m : ℕ) (p : Noted) → get_or p.visited m false ≡ false → push m p ≡ noted (set p.visited m true) (m ∷ p.stack)
push_no m p n = cond-false _ p (noted (set p.visited m true) (m ∷ p.stack)) n

-- a node that is pushed can no more be pushed, and can once be popped
push_new : (N m : ℕ) (p : Noted) → m < N → get_or p.visited m false ≡ false → Fits N p → Fits N (noted (set p.visited m true) (m ∷ p.stack)) × (pops N (noted (set p.visited m true) (m ∷ p.stack)) ≡ pops N p)
push_new N m p low n f =
    let long' = f.long in
    let fewer = blanks_set N m p.visited low (omega arith) n in
    let room' = f.room in
    let same : pops N (noted (set p.visited m true) (m ∷ p.stack)) ≡ pops N p = omega arith in
    (record { long = subst (λ l. N ≤ l) (sym (length-set p.visited m true)) f.long; below = (low, f.below); room = omega arith }, same)

pub push_one : (N m : ℕ) (p : Noted) → m < N → Fits N p → Fits N (push m p) × (pops N (push m p) ≡ pops N p)
push_one N m p low f =
    let Kept : Noted → Type 0 = λ q. Fits N q × (pops N q ≡ pops N p) in
    ⊎_elim
    (λ (t : get_or p.visited m false ≡ true). subst Kept (sym (push_yes m p t)) (f, refl))
    (λ (n : get_or p.visited m false ≡ false). subst Kept (sym (push_no m p n)) (push_new N m p low n f))
    (cases_Bool (get_or p.visited m false))

pub push_list : (N : ℕ) (ms : List ℕ) (p : Noted) → Below N ms → Fits N p → Fits N (push_all ms p) × (pops N (push_all ms p) ≡ pops N p)
push_list N [] p b f = (f, refl)
push_list N (m ∷ ms) p b f =
    let one = push_one N m p b.0 f in
    let rest = push_list N ms (push m p) b.1 one.0 in
    (rest.0, rest.1 ∙ one.1)

-- where nothing is pushed yet, each node can be
pub fits_new : (N : ℕ) → N ≤ 1024 → Fits N (noted (replicate 1024 false) []) × (pops N (noted (replicate 1024 false) []) ≡ N)
fits_new N small =
    let size = length-replicate 1024 false in
    let all = blanks_new N 1024 small in
    (record { long = omega arith; below = tt; room = omega arith }, omega arith)

pub pops_more : (N n : ℕ) (v : List Bool) (st : List ℕ) → pops N (noted v (n ∷ st)) ≡ suc (pops N (noted v st))
pops_more N n v st = omega arith

pub none_left : (lists : ℕ → List ℕ) (off : ℕ → Bool) (k : ℕ) (v : List Bool) → drained lists off k (noted v []) ≡ []
none_left lists off zero v = refl
none_left lists off (suc k) v = refl

-- a walk that begins with nothing noted gives what the rule says
pub new_gives : (d : Direction) (m : Model) (n : ℕ) (ms : List ℕ) (p : Noted) → length m.nodes ≤ 1024 → ms ≡ sees d m n → p ≡ noted (replicate 1024 false) [] → gone_through (sees d m) (is_off m) (pops (length m.nodes) p) (filter (may_reach m) ms) p ≡ enabled_neighbours d m n
new_gives d m n ms p few is none =
    ap (λ q. gone_through (sees d m) (is_off m) (pops (length m.nodes) q) (filter (may_reach m) ms) q) none
    ∙ ap (λ l. gone_through (sees d m) (is_off m) (pops (length m.nodes) (noted (replicate 1024 false) [])) (filter (may_reach m) l) (noted (replicate 1024 false) [])) is
    ∙ ap (λ k. gone_through (sees d m) (is_off m) k (filter (may_reach m) (sees d m n)) (noted (replicate 1024 false) [])) (fits_new (length m.nodes) few).1
