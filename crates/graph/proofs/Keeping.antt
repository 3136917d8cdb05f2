-- Keeping the first shown entries of a list splits it in two.
use Rattle.std.proofs.Common.{◌≡◌, ℕ, zero, suc, ◌+◌, ◌-◌, ◌<◌, ◌≤◌, Bool, true, false, cond, List, [], ◌∷◌, ◌++◌, length, count_by, sym, refl, ap, subst, ⊎_elim, arith}
use Rattle.std.proofs.lemmas.List.Sums.{sum_by-cons}
use Rattle.std.proofs.lemmas.Grind.{common_steps}
use Rattle.std.proofs.lemmas.Bool.{cases_Bool, cond-true, cond-false}
use Rattle.records.specs.declared.node.Visibility.TheVariants as visibility
use Rattle.records.specs.Nodes.{is_shown}
use Rattle.graph.specs.Adding.{node_at}
use Rattle.graph.specs.Hiding.{change, after_shown, keep_first}
use Rattle.graph.specs.HidingLaws.{KeptFirst}
use Rattle.graph.specs.Model.{Model}
use Rattle.graph.proofs.Turning.{turned_list}

module _ (m : Model) where
  abbrev shown : ℕ → Bool
  shown n = is_shown (node_at m n)

  record Split (k : ℕ) (ns back : List ℕ) : Type 0 where
    pub front : List ℕ
    pub parts : ns ≡ front ++ back
    pub few : count_by shown front ≤ k
    pub enough : 0 < length back → count_by shown front ≡ k

  one_more : (n : ℕ) (front : List ℕ) → count_by shown (n ∷ front) ≡ cond (shown n) 1 0 + count_by shown front
  one_more n front = sum_by-cons (λ x. cond (shown x) 1 0) n front

  split : (k : ℕ) (ns : List ℕ) → Split k ns (after_shown k ns m)
  split zero ns = record { front = []; parts = refl; few = omega arith; enough = λ _. refl }
  split (suc k) [] = record { front = []; parts = refl; few = omega arith; enough = λ h. absurd (omega arith) }
  split (suc k) (n ∷ ns) =
      ⊎_elim
      (λ (e : shown n ≡ true).
      let rest = split k ns in
      let few = rest.few in
      let count = one_more n rest.front in
      subst (Split (suc k) (n ∷ ns)) (sym (cond-true _ _ _ e)) (record { front = n ∷ rest.front; parts = ap (λ xs. n ∷ xs) rest.parts; few = grind (arith, common_steps); enough = λ h. let full = rest.enough h in grind (arith, common_steps) }))
      (λ (e : shown n ≡ false).
      let rest = split (suc k) ns in
      let few = rest.few in
      let count = one_more n rest.front in
      subst (Split (suc k) (n ∷ ns)) (sym (cond-false _ _ _ e)) (record { front = n ∷ rest.front; parts = ap (λ xs. n ∷ xs) rest.parts; few = grind (arith, common_steps); enough = λ h. let full = rest.enough h in grind (arith, common_steps) }))
      (cases_Bool (shown n))

  -- one entry after another
  pub after_one : (k : ℕ) (n : ℕ) (ns : List ℕ) → 0 < k → after_shown k (n ∷ ns) m ≡ cond (shown n) (after_shown (k - 1) ns m) (after_shown k ns m)
  after_one zero n ns h = absurd (omega arith)
  after_one (suc k) n ns h = ap (λ j. cond (shown n) (after_shown j ns m) (after_shown (suc k) ns m)) (omega arith)

  pub kept_first : (k : ℕ) (ns : List ℕ) (m' : Model) (b : Bool) → change b m' ≡ keep_first k ns m → KeptFirst k ns b m m'
  kept_first k ns m' b e =
      let s = split k ns in
      let rest = after_shown k ns m in
      record { front = s.front; back = rest; parts = s.parts; few = s.few; enough = s.enough; hidden = turned_list visibility.Hidden rest m m' b e }
