-- How a tally of states goes with the list of nodes.
use Rattle.std.proofs.Common.{◌≡◌, ℕ, suc, ◌+◌, ◌^◌, ◌<◌, ◌≤◌, cond, List, [], ◌∷◌, ◌++◌, length, get_or, set, refl, ap, arith}
use Rattle.std.proofs.lemmas.List.Sums.{sum_by-cons, sum_by_push, sum_by-set, get_or-le-sum_by, count_by-le-length}
use Rattle.records.specs.declared.node.Node.{Node}
use Rattle.records.specs.declared.node.NodeState.{NodeState}
use Rattle.records.specs.declared.node.NodeState.TheVariants.{Disabled, Hidden, Visible}
use Rattle.records.specs.Nodes.{no_node, same_state}
use Rattle.graph.specs.Tallies.{tally, one}

pub tally_none : (s : NodeState) → tally s [] ≡ 0
unfolding tally
tally_none s = refl

pub tally_push : (s : NodeState) (ns : List Node) (n : Node) → tally s (ns ++ n ∷ []) ≡ tally s ns + one s n
unfolding tally
tally_push s ns n = sum_by_push (one s) ns n

pub tally_set : (s : NodeState) (ns : List Node) (i : ℕ) (n d : Node) → i < length ns → tally s (set ns i n) + one s (get_or ns i d) ≡ tally s ns + one s n
unfolding tally
tally_set s ns i n d h = sum_by-set (one s) ns i n d h

pub tally_le : (s : NodeState) (ns : List Node) → tally s ns ≤ length ns
unfolding tally
tally_le s ns = count_by-le-length (λ n. same_state s n.state) ns

-- a node that is read from a slice of the list is counted, and there is room to count one more
pub tally_at : (s : NodeState) (ns shown : List Node) (i k : ℕ) → shown ≡ ns → i < length ns → length ns ≤ 1024 → k ≡ tally s ns → (one s (get_or shown i no_node) ≤ k) × (k + 1 < 2 ^ 32)
unfolding tally
tally_at s ns shown i k same there few e =
    let low = get_or-le-sum_by (one s) ns i no_node there in
    let most = tally_le s ns in
    let here : one s (get_or shown i no_node) ≡ one s (get_or ns i no_node) = ap (λ xs. one s (get_or xs i no_node)) same in
    (omega arith, omega arith)

-- a tally kept with a node that was put in place of another
pub tally_put : (s : NodeState) (ns shown : List Node) (i : ℕ) (x : Node) (was next : ℕ) → shown ≡ ns → i < length ns → was ≡ tally s ns → next + one s (get_or shown i no_node) ≡ was + one s x → next ≡ tally s (set ns i x)
tally_put s ns shown i x was next same h l e =
    let here : one s (get_or shown i no_node) ≡ one s (get_or ns i no_node) = ap (λ xs. one s (get_or xs i no_node)) same in
    omega (arith, tally_set s ns i x no_node h)

-- nodes in the same states give the same tally
pub tally_same : (s : NodeState) (xs ys : List Node) → length xs ≡ length ys → ((k : ℕ) → k < length xs → (get_or xs k no_node).state ≡ (get_or ys k no_node).state) → tally s xs ≡ tally s ys
unfolding tally
tally_same s [] [] e h = refl
tally_same s [] (y ∷ ys) e h = absurd (omega arith)
tally_same s (x ∷ xs) [] e h = absurd (omega arith)
tally_same s (x ∷ xs) (y ∷ ys) e h =
    let rest = tally_same s xs ys (omega arith) (λ k l. h (suc k) (omega arith)) in
    let here : one s x ≡ one s y = ap (λ t. cond (same_state s t) 1 0) (h 0 (omega arith)) in
    let a = sum_by-cons (one s) x xs in
    let b = sum_by-cons (one s) y ys in
    omega arith

-- each node is in one of the three states
pub tally_all : (ns : List Node) → tally Visible ns + tally Hidden ns + tally Disabled ns ≡ length ns
unfolding tally
tally_all [] = refl
tally_all (n ∷ ns) =
    let rest = tally_all ns in
    let v = sum_by-cons (one Visible) n ns in
    let h = sum_by-cons (one Hidden) n ns in
    let d = sum_by-cons (one Disabled) n ns in
    let here = one_state n.state in
    omega arith
  where
    one_state : (s : NodeState) → cond (same_state Visible s) 1 0 + cond (same_state Hidden s) 1 0 + cond (same_state Disabled s) 1 0 ≡ 1
    one_state Disabled = refl
    one_state Hidden = refl
    one_state Visible = refl
