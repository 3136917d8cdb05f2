-- How many nodes a walk gives out.
use Rattle.std.proofs.Common.{ℕ, zero, suc, ◌+◌, ◌≤◌, Bool, true, false, cond, eqb, List, [], ◌∷◌, length, replicate, filter, arith}
use Rattle.std.proofs.lemmas.List.{length-reverse}
use Rattle.std.proofs.lemmas.List.Sums.{length-filter, count_by-le-length}
use Rattle.records.specs.declared.edge.Direction.{Direction}
use Rattle.records.specs.declared.edge.Edge.{Edge}
use Rattle.records.specs.Edges.{history, near, far, add_if, neighbours}
use Rattle.graph.specs.Model.{Model}
use Rattle.graph.specs.Sound.{Sound}
use Rattle.walk_neighbors.specs.PastDisabled.{Noted, noted, push_all, drained, gone_through, sees, is_off, may_reach, enabled_neighbours}

drained_le : (lists : ℕ → List ℕ) (off : ℕ → Bool) (k : ℕ) (v : List Bool) (st : List ℕ) → length (drained lists off k (noted v st)) ≤ k
drained_le lists off zero v st = omega arith
drained_le lists off (suc k) v [] = omega arith
drained_le lists off (suc k) v (n ∷ st) =
    let q = push_all (lists n) (noted v st) in
    let a = drained_le lists off k q.visited q.stack in
    let b = drained_le lists off k v st in
    elim (off n) as (λ t. length (cond t (drained lists off k q) (n ∷ drained lists off k (noted v st))) ≤ suc k) [ true ↦ omega arith | false ↦ omega arith ]

through_le : (lists : ℕ → List ℕ) (off : ℕ → Bool) (k : ℕ) (ms : List ℕ) (p : Noted) → length (gone_through lists off k ms p) ≤ length ms + k
through_le lists off k [] p = let a = drained_le lists off k p.visited p.stack in omega arith
through_le lists off k (m ∷ ms) p =
    let a = through_le lists off k ms (push_all (lists m) p) in
    let b = through_le lists off k ms p in
    elim (off m) as (λ t. length (cond t (gone_through lists off k ms (push_all (lists m) p)) (m ∷ gone_through lists off k ms p)) ≤ suc (length ms) + k) [ true ↦ omega arith | false ↦ omega arith ]

neighbours_le : (d : Direction) (es : List Edge) (n : ℕ) → length (neighbours d es n) ≤ length es
neighbours_le d [] n = omega arith
neighbours_le d (e ∷ es) n =
    let rest = neighbours_le d es n in
    elim (eqb (near d e) n) as (λ b. length (add_if b (far d e) (neighbours d es n)) ≤ suc (length es)) [ true ↦ omega arith | false ↦ omega arith ]

-- as many as there are edges and nodes, at most
pub given_le : (m : Model) → Sound m → (d : Direction) (n : ℕ) → length (enabled_neighbours d m n) ≤ 5120
given_le m good d n =
    let direct = filter (may_reach m) (sees d m n) in
    let a = through_le (sees d m) (is_off m) (length m.nodes) direct (noted (replicate 1024 false) []) in
    let b = length-filter (may_reach m) (sees d m n) in
    let c = count_by-le-length (may_reach m) (sees d m n) in
    let e = neighbours_le d (history m.edges) n in
    let r = length-reverse m.edges in
    omega arith
