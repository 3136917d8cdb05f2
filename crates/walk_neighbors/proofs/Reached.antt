-- The nodes that the direct list skips are none that the walk would miss.
use Rattle.std.proofs.Common.{◌≡◌, ℕ, suc, ◌<◌, ◌≤◌, Bool, true, false, not, ◌||◌, ◌⊎◌, List, [], ◌∷◌, length, get_or, filter, sym, refl, ap, ◌∙◌, subst, inl, inr, ⊎_elim, arith}
use Rattle.std.proofs.lemmas.List.{get_or_default, get_or_past}
use Rattle.std.proofs.lemmas.Bool.{cases_eq, cases_Bool, cases_lt, cond-true, cond-false, both_ways, or_cases, or_left, not-true}
use Rattle.records.specs.declared.edge.Direction.{Direction}
use Rattle.records.specs.declared.edge.Direction.TheVariants.{Outgoing, Incoming}
use Rattle.records.specs.declared.stage.Stage.{Stage}
use Rattle.records.specs.declared.stage.Stage.TheVariants.{Open, Sealed}
use Rattle.records.specs.Edges.{no_edge}
use Rattle.records.specs.Walks.{Among, Joins}
use Rattle.graph.specs.Model.{Model}
use Rattle.graph.specs.Sound.{Sound, Ordered}
use Rattle.graph.proofs.Seen.{seen_joins}
use Rattle.graph.proofs.Sound.{neighbours_below}
use Rattle.walk_neighbors.specs.PastDisabled.{sees, is_off, may_reach, enabled_neighbours}
use Rattle.walk_neighbors.specs.GivenOut.{times, Past, near_by, onward, Gives, GivesFrom}
use Rattle.walk_neighbors.proofs.Pushing.{times_same, times_other}
use Rattle.walk_neighbors.proofs.Running.{gives}

-- ---- what is kept of a list
times_kept : (may : ℕ → Bool) (l : List ℕ) (x : ℕ) → may x ≡ true → times x (filter may l) ≡ times x l
times_kept may [] x t = refl
times_kept may (m ∷ l) x t =
    let rest = times_kept may l x t in
    ⊎_elim
    (λ (y : may m ≡ true).
    let here = ap (times x) (cond-true (may m) (m ∷ filter may l) (filter may l) y) in
    ⊎_elim
    (λ (is : x ≡ m). here ∙ times_same x m (filter may l) is ∙ ap suc rest ∙ sym (times_same x m l is))
    (λ (ne : x ≡ m → ⊥). here ∙ times_other x m (filter may l) ne ∙ rest ∙ sym (times_other x m l ne))
    (cases_eq x m))
    (λ (n : may m ≡ false).
    let here = ap (times x) (cond-false (may m) (m ∷ filter may l) (filter may l) n) in
    here ∙ rest ∙ sym (times_other x m l (λ is. both_ways (may m) n (ap may (sym is) ∙ t))))
    (cases_Bool (may m))

among_kept : (may : ℕ → Bool) (l : List ℕ) (x : ℕ) → (Among x (filter may l) → Among x l) × (may x ≡ true → Among x l → Among x (filter may l))
among_kept may [] x = (λ a. a, λ t a. a)
among_kept may (m ∷ l) x =
    let rest = among_kept may l x in
    let Same : List ℕ → Type 0 = λ k. (Among x k → Among x (m ∷ l)) × (may x ≡ true → Among x (m ∷ l) → Among x k) in
    ⊎_elim
    (λ (y : may m ≡ true).
    subst Same (sym (cond-true (may m) (m ∷ filter may l) (filter may l) y))
    (λ a. ⊎_elim (λ (is : x ≡ m). inl is) (λ i. inr (rest.0 i)) a, λ t a. ⊎_elim (λ (is : x ≡ m). inl is) (λ i. inr (rest.1 t i)) a))
    (λ (n : may m ≡ false).
    subst Same (sym (cond-false (may m) (m ∷ filter may l) (filter may l) n))
    (λ a. inr (rest.0 a), λ t a. ⊎_elim (λ (is : x ≡ m). absurd (both_ways (may m) n (ap may (sym is) ∙ t))) (λ i. rest.1 t i) a))
    (cases_Bool (may m))

all_kept : (may : ℕ → Bool) (l : List ℕ) → ((z : ℕ) → Among z l → may z ≡ true) → filter may l ≡ l
all_kept may [] h = refl
all_kept may (m ∷ l) h = cond-true (may m) (m ∷ filter may l) (filter may l) (h m (inl refl)) ∙ ap (λ k. m ∷ k) (all_kept may l (λ z a. h z (inr a)))

-- where a no is disabled and sees only such, to skip it loses nothing
module _ (lists : ℕ → List ℕ) (off may : ℕ → Bool) (yes : (x : ℕ) → off x ≡ false → may x ≡ true) (back : (m z : ℕ) → may z ≡ true → Among z (lists m) → may m ≡ true) where
  past_all : (l : List ℕ) (x : ℕ) → Past lists off (filter may l) x → Past lists off l x
  past_all l x (near_by {m} a t i) = near_by ((among_kept may l m).0 a) t i
  past_all l x (onward {m} h t i) = onward (past_all l m h) t i

  past_kept : (l : List ℕ) (x : ℕ) → may x ≡ true → Past lists off l x → Past lists off (filter may l) x
  past_kept l x y (near_by {m} a t i) = near_by ((among_kept may l m).1 (back m x y i) a) t i
  past_kept l x y (onward {m} h t i) = onward (past_kept l m (back m x y i) h) t i

  gives_all : (l given : List ℕ) → Gives lists off (filter may l) given → Gives lists off l given
  gives_all l given g = record {
    enabled = g.enabled;
    direct = λ x e out. g.direct x e (λ h. out (past_all l x h)) ∙ times_kept may l x (yes x e);
    past = λ x e h. g.past x e (past_kept l x (yes x e) h) ∙ ap suc (times_kept may l x (yes x e));
  }

-- ---- what a graph's reach table says
stages : (s : Stage) → (s ≡ Open) ⊎ (s ≡ Sealed)
stages Open = inl refl
stages Sealed = inr refl

module _ (m : Model) (good : Sound m) where
  -- an open graph tells nothing
  open_yes : m.stage ≡ Open → (x : ℕ) → may_reach m x ≡ true
  open_yes o x = ap (λ r. get_or r x true) (good.no_reach o)

  told_of : Ordered m → (x : ℕ) → x < length m.nodes → get_or m.reach x false ≡ may_reach m x
  told_of o x h = let long = o.reach_long in get_or_default m.reach x false true (omega arith)

  sealed_yes : Ordered m → (x : ℕ) → is_off m x ≡ false → may_reach m x ≡ true
  sealed_yes o x e =
      let long = o.reach_long in
      ⊎_elim
      (λ (h : x < length m.nodes).
      ⊎_elim
      (λ (t : get_or m.reach x false ≡ true). sym (told_of o x h) ∙ t)
      (λ (t : is_off m x ≡ true). absurd (both_ways (is_off m x) e t))
      (or_cases (get_or m.reach x false) (is_off m x) (o.yes_or_disabled x h)))
      (λ (h : length m.nodes ≤ x). get_or_past m.reach x true (omega arith))
      (cases_lt x (length m.nodes))

  enabled_yes : (x : ℕ) → is_off m x ≡ false → may_reach m x ≡ true
  enabled_yes x e = ⊎_elim (λ (o : m.stage ≡ Open). open_yes o x) (λ (s : m.stage ≡ Sealed). sealed_yes (good.ordered s) x e) (stages m.stage)

  edge_back : (e : ℕ) → e < length m.edges → may_reach m (get_or m.edges e no_edge).source || not (may_reach m (get_or m.edges e no_edge).target) ≡ true
  edge_back e h =
      let a = (get_or m.edges e no_edge).source in
      let b = (get_or m.edges e no_edge).target in
      let ends = good.ends e h in
      ⊎_elim
      (λ (o : m.stage ≡ Open). or_left (may_reach m a) (not (may_reach m b)) (open_yes o a))
      (λ (s : m.stage ≡ Sealed).
      let o = good.ordered s in
      ap (λ v. v || not (may_reach m b)) (sym (told_of o a ends.0))
      ∙ ap (λ v. get_or m.reach a false || not v) (sym (told_of o b ends.1))
      ∙ o.yes_goes_back e h)
      (stages m.stage)

  goes_back : (a b : ℕ) → Joins m.edges a b → may_reach m b ≡ true → may_reach m a ≡ true
  goes_back a b (e, (h, s, t)) told =
      let x = get_or m.edges e no_edge in
      let back : may_reach m a || not (may_reach m b) ≡ true = ap (λ i. may_reach m i || not (may_reach m b)) (sym s) ∙ ap (λ i. may_reach m x.source || not (may_reach m i)) (sym t) ∙ edge_back e h in
      ⊎_elim
      (λ (y : may_reach m a ≡ true). y)
      (λ (n : not (may_reach m b) ≡ true). absurd (both_ways (may_reach m b) (not-true (may_reach m b) n) told))
      (or_cases (may_reach m a) (not (may_reach m b)) back)

  pub lawful : (d : Direction) (n : ℕ) → GivesFrom d m n (enabled_neighbours d m n)
  lawful d n e = go d
    where
      of_kept : (d : Direction) → Gives (sees d m) (is_off m) (filter (may_reach m) (sees d m n)) (enabled_neighbours d m n)
      of_kept d = gives (sees d m) (is_off m) (length m.nodes) (λ k. neighbours_below (length m.nodes) m.edges d k good.ends) (filter (may_reach m) (sees d m n)) good.few_nodes

      go : (d : Direction) → Gives (sees d m) (is_off m) (sees d m n) (enabled_neighbours d m n)
      go Outgoing =
          gives_all (sees Outgoing m) (is_off m) (may_reach m) enabled_yes
          (λ k z t a. goes_back k z (seen_joins Outgoing m.edges k z a) t)
          (sees Outgoing m n) (enabled_neighbours Outgoing m n) (of_kept Outgoing)
      go Incoming =
          subst (λ l. Gives (sees Incoming m) (is_off m) l (enabled_neighbours Incoming m n))
          (all_kept (may_reach m) (sees Incoming m n) (λ z a. goes_back z n (seen_joins Incoming m.edges n z a) (enabled_yes n e)))
          (of_kept Incoming)
