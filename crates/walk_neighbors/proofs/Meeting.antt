-- The next node met, and going past it.
use Rattle.std.proofs.Common.{◌≡◌, ℕ, suc, Bool, true, cond, List, [], ◌∷◌, length, Some, None, filter, Option, sym, ap, ◌∙◌, subst, arith}
use Rattle.std.proofs.lemmas.Bool.{cond-true}
use Rattle.tables.specs.Steps.{Steps, Inside, Below}
use Rattle.graph.specs.Model.{Model}
use Rattle.graph.specs.Cursors.{coming_in}
use Rattle.walk_neighbors.specs.declared.walk.WalkNeighbors.{WalkNeighbors}
use Rattle.walk_neighbors.specs.PastDisabled.{Noted, noted, push_all, drained, gone_through, pops, sees, is_off, may_reach}
use Rattle.walk_neighbors.specs.Cursors.{Fits, Fit, pops_of, direct_of, to_come, after, left, Met}
use Rattle.walk_neighbors.proofs.Stepping.{push_list, none_left, pops_more}

none_to_come : (m : Model) (w : WalkNeighbors) → direct_of m w ≡ [] → w.pending.stack ≡ [] → to_come m w ≡ []
none_to_come m w is none =
    let L = sees w.direction m in
    ap (λ ms. gone_through L (is_off m) (pops_of m w) ms w.pending) is
    ∙ ap (λ st. drained L (is_off m) (pops_of m w) (noted w.pending.visited st)) none
    ∙ none_left L (is_off m) (pops_of m w) w.pending.visited

pub met_stack : (m : Model) (w w' : WalkNeighbors) (r : Option ℕ) → direct_of m w ≡ [] → direct_of m w' ≡ [] → w'.direction ≡ w.direction → w'.pending.visited ≡ w.pending.visited → Steps w.pending.stack r w'.pending.stack → Met m w r w'
met_stack m w w' None is is' dir vs pop = (none_to_come m w is pop.0, none_to_come m w' is' pop.1)
met_stack m w w' (Some n) is is' dir vs pop =
    let N = length m.nodes in
    let L = sees w'.direction m in
    let q : Noted = noted w'.pending.visited (n ∷ w'.pending.stack) in
    let p : w.pending ≡ q = ap (λ v. noted v w.pending.stack) (sym vs) ∙ ap (noted w'.pending.visited) pop in
    let size = ap length is in
    let size' = ap length is' in
    let one = pops_more N n w'.pending.visited w'.pending.stack in
    let more : pops_of m w ≡ suc (pops_of m w') = ap (pops N) p ∙ one in (
      ap (λ d. gone_through (sees d m) (is_off m) (pops_of m w) (direct_of m w) w.pending) (sym dir)
          ∙ ap (λ r. gone_through L (is_off m) (pops N r) (direct_of m w) r) p
          ∙ ap (λ ms. gone_through L (is_off m) (pops N q) ms q) is
          ∙ ap (λ k. drained L (is_off m) k q) one
          ∙ ap (λ ms. cond (is_off m n) (gone_through L (is_off m) (pops_of m w') ms (push_all (L n) w'.pending)) (n ∷ gone_through L (is_off m) (pops_of m w') ms w'.pending)) (sym is'),
      omega arith,
    )

pub popped_fits : (N : ℕ) (v : List Bool) (st : List ℕ) (r : Option ℕ) (st' : List ℕ) → Steps st r st' → Fits N (noted v st) → Inside N r × Fits N (noted v st')
popped_fits N v st None st' pop f = (tt, subst (λ s. Fits N (noted v s)) (pop.0 ∙ sym pop.1) f)
popped_fits N v st (Some n) st' pop f =
    let f' : Fits N (noted v (n ∷ st')) = subst (λ s. Fits N (noted v s)) pop f in
    let more = pops_more N n v st' in
    let room' = f'.room in
    (f'.below.0, record { long = f.long; below = f'.below.1; room = omega arith })

-- a disabled node was met, and its list is pushed to the end
pub gone_past : (m : Model) (n : ℕ) (w w' : WalkNeighbors) → Fit m w → Below (length m.nodes) (sees w.direction m n) → is_off m n ≡ true → w'.pending ≡ push_all (sees w.direction m n) w.pending → w'.direction ≡ w.direction → w'.direct ≡ w.direct → (to_come m w' ≡ after m n w) × (left m w' ≡ left m w)
gone_past m n w w' f b t is dir dr =
    let N = length m.nodes in
    let L = sees w.direction m in
    let q = push_all (L n) w.pending in
    let same : pops N q ≡ pops_of m w = (push_list N (L n) w.pending b f).1 in
    let direct : direct_of m w' ≡ direct_of m w = ap (λ c. filter (may_reach m) (coming_in m.edges c)) dr in
    let size = ap length direct in
    let still : pops_of m w' ≡ pops_of m w = ap (pops N) is ∙ same in (
      ap (λ d. gone_through (sees d m) (is_off m) (pops_of m w') (direct_of m w') w'.pending) dir
          ∙ ap (λ ms. gone_through L (is_off m) (pops_of m w') ms w'.pending) direct
          ∙ ap (λ r. gone_through L (is_off m) (pops N r) (direct_of m w) r) is
          ∙ ap (λ k. gone_through L (is_off m) k (direct_of m w) q) same
          ∙ sym (cond-true (is_off m n) (gone_through L (is_off m) (pops_of m w) (direct_of m w) q) (n ∷ to_come m w) t),
      omega arith,
    )
