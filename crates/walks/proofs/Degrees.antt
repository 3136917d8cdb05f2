-- How many neighbours all nodes have together.
use Rattle.std.proofs.Common.{◌≡◌, ℕ, zero, suc, ◌+◌, ◌<◌, ◌≤◌, Bool, true, false, cond, eqb, List, [], ◌∷◌, length, get_or, refl, ap, ⊎_elim, arith}
use Rattle.std.proofs.lemmas.Bool.{cases_eq, eq-eqb, ne_eqb, cases_lt}
use Rattle.records.specs.declared.edge.Edge.{Edge}
use Rattle.records.specs.declared.edge.Direction.{Direction}
use Rattle.records.specs.Edges.{near, far, add_if, neighbours}
use Rattle.walks.specs.Exploring.{pending}

abbrev pub total : (ℕ → List ℕ) → ℕ → ℕ
total next zero = 0
total next (suc n) = length (next n) + total next n

pub pending_total : (next : ℕ → List ℕ) (n : ℕ) (v : List Bool) → pending next n v ≤ total next n
pending_total next zero v = omega arith
pending_total next (suc n) v =
    let rest = pending_total next n v in
    elim (get_or v n false) as (λ b. cond b (pending next n v) (length (next n) + pending next n v) ≤ length (next n) + total next n) [ true ↦ omega arith | false ↦ omega arith ]

-- one edge more is one neighbour more, at one node
one_more : (d : Direction) (e : Edge) (es : List Edge) (n : ℕ) → (near d e < n → total (neighbours d (e ∷ es)) n ≡ suc (total (neighbours d es) n)) × (n ≤ near d e → total (neighbours d (e ∷ es)) n ≡ total (neighbours d es) n)
one_more d e es zero = (λ h. absurd (omega arith), λ _. refl)
one_more d e es (suc n) =
    let rest = one_more d e es n in
    ⊎_elim
    (λ (is : near d e ≡ n).
    let here : neighbours d (e ∷ es) n ≡ far d e ∷ neighbours d es n = ap (λ t. add_if t (far d e) (neighbours d es n)) (eq-eqb _ _ is) in
    let size = ap length here in
    let below = rest.1 (omega arith) in
    (λ h. omega arith, λ h. absurd (omega arith)))
    (λ (ne : near d e ≡ n → ⊥).
    let here : neighbours d (e ∷ es) n ≡ neighbours d es n = ap (λ t. add_if t (far d e) (neighbours d es n)) (ne_eqb _ _ ne) in
    let size = ap length here in
    (λ h. let below = rest.0 (omega arith) in omega arith, λ h. let below = rest.1 (omega arith) in omega arith))
    (cases_eq (near d e) n)

none : (d : Direction) (n : ℕ) → total (neighbours d []) n ≡ 0
none d zero = refl
none d (suc n) = let rest = none d n in omega arith

pub total_edges : (d : Direction) (es : List Edge) (n : ℕ) → total (neighbours d es) n ≤ length es
total_edges d [] n = let z = none d n in omega arith
total_edges d (e ∷ es) n =
    let rest = total_edges d es n in
    let one = one_more d e es n in
    ⊎_elim (λ (h : near d e < n). let a = one.0 h in omega arith) (λ (h : n ≤ near d e). let a = one.1 h in omega arith) (cases_lt (near d e) n)

pub length_neighbours : (d : Direction) (es : List Edge) (n : ℕ) → length (neighbours d es n) ≤ length es
length_neighbours d [] n = omega arith
length_neighbours d (e ∷ es) n =
    let rest = length_neighbours d es n in
    elim (eqb (near d e) n) as (λ t. length (add_if t (far d e) (neighbours d es n)) ≤ suc (length es)) [ true ↦ omega arith | false ↦ omega arith ]
