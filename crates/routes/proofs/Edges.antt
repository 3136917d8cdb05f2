-- The edges from one node to another.
use Rattle.std.proofs.Common.{◌≡◌, ℕ, zero, suc, ◌<◌, ◌≤◌, Bool, true, false, ◌&&◌, eqb, ◌⊎◌, List, length, sym, refl, ap, ◌∙◌, inl, inr, arith}
use mathlib.Core.Bool.{false≢true}
use Rattle.std.proofs.lemmas.Bool.{eqb-true, eq-eqb, and_parts, and_from, cases_eq}
use Rattle.records.specs.Edges.{add_if}
use Rattle.records.specs.Walks.{Among, Runs}
use Rattle.routes.specs.Graph.{Graph, source_of, target_of, between}

among_add_if : {A : Type 0} (x : A) (b : Bool) (y : A) (ys : List A) → Among x (add_if b y ys) → ((b ≡ true) × (x ≡ y)) ⊎ Among x ys
among_add_if x true y ys (inl e) = inl (refl, e)
among_add_if x true y ys (inr m) = inr m
among_add_if x false y ys m = inr m

add_if_rest : {A : Type 0} (x : A) (b : Bool) (y : A) (ys : List A) → Among x ys → Among x (add_if b y ys)
add_if_rest x true y ys m = inr m
add_if_rest x false y ys m = m

add_if_first : {A : Type 0} (x : A) (b : Bool) (y : A) (ys : List A) → b ≡ true → x ≡ y → Among x (add_if b y ys)
add_if_first x true y ys e p = inl p
add_if_first x false y ys e p = absurd (false≢true e)

module _ (g : Graph) where
  pub between_runs : (k h t e : ℕ) → k ≤ length g.edges → Among e (between g k h t) → Runs g.edges e h t
  between_runs zero h t e le m = absurd m
  between_runs (suc k) h t e le m = go (among_add_if e (eqb (source_of g k) h && eqb (target_of g k) t) k (between g k h t) m) (λ x. between_runs k h t e (omega arith) x)
    where
      go : (((eqb (source_of g k) h && eqb (target_of g k) t) ≡ true) × (e ≡ k)) ⊎ Among e (between g k h t) → (Among e (between g k h t) → Runs g.edges e h t) → Runs g.edges e h t
      go (inl x) r =
          let b = and_parts (eqb (source_of g k) h) (eqb (target_of g k) t) x.0 in
          (omega arith, ap (source_of g) x.1 ∙ eqb-true (source_of g k) h b.0, ap (target_of g) x.1 ∙ eqb-true (target_of g k) t b.1)
      go (inr x) r = r x

  runs_between' : (k h t e : ℕ) → e < k → source_of g e ≡ h → target_of g e ≡ t → Among e (between g k h t)
  runs_between' zero h t e lt p q = absurd (omega arith)
  runs_between' (suc k) h t e lt p q = go (cases_eq e k) (λ x. runs_between' k h t e x p q)
    where
      go : (e ≡ k) ⊎ (e ≡ k → ⊥) → (e < k → Among e (between g k h t)) → Among e (between g (suc k) h t)
      go (inl x) r =
          add_if_first e (eqb (source_of g k) h && eqb (target_of g k) t) k (between g k h t)
          (and_from (eqb (source_of g k) h) (eqb (target_of g k) t) (eq-eqb (source_of g k) h (ap (source_of g) (sym x) ∙ p)) (eq-eqb (target_of g k) t (ap (target_of g) (sym x) ∙ q))) x
      go (inr x) r = add_if_rest e (eqb (source_of g k) h && eqb (target_of g k) t) k (between g k h t) (r (omega (arith, x)))

  pub runs_between : (h t e : ℕ) → Runs g.edges e h t → Among e (between g (length g.edges) h t)
  runs_between h t e r = runs_between' (length g.edges) h t e r.0 r.1 r.2
