-- Where the nodes of a partition stand.
use Rattle.std.proofs.Common.{◌≡◌, ℕ, ◌<◌, ◌≤◌, Bool, true, false, ◌⊎◌, List, [], ◌∷◌, length, get_or, set, replicate, Some, None, Option, sym, refl, ap, ◌∙◌, subst, inl, inr, ⊎_elim, arith}
use Rattle.std.proofs.lemmas.List.{get_or-set_same, get_or-set_other, length-set, get_or-replicate, length-replicate, get_or_past}
use Rattle.std.proofs.lemmas.Bool.{cases_eq, cases_lt, both_ways}
use Rattle.records.specs.declared.edge.Edge.{Edge}
use Rattle.records.specs.declared.node.Place.{Place}
use Rattle.records.specs.Walks.{Among, Joins, Connected, Touched}
use Rattle.records.specs.Walks.Connected.{here, onward, backward}
use Rattle.subgraph.specs.Orders.{Ordered}
use Rattle.subgraph.specs.Places.{placed, places, Placed}
use Rattle.subgraph.proofs.Partitions.{Somewhere, Apart, Parts}

abbrev at : ℕ → ℕ → Place
at s i = record { subgraph = s; position = i }

-- x stands in an order with i nodes before it
abbrev Nth : List ℕ → ℕ → ℕ → Type 0
Nth [] x i = ⊥
Nth (n ∷ before) x i = ((x ≡ n) × (i ≡ length before)) ⊎ Nth before x i

abbrev Stands : List (List ℕ) → ℕ → ℕ → ℕ → Type 0
Stands [] x s i = ⊥
Stands (o ∷ os) x s i = ((s ≡ length os) × Nth o x i) ⊎ Stands os x s i

nth_among : (o : List ℕ) (x i : ℕ) → Nth o x i → Among x o
nth_among [] x i h = h
nth_among (n ∷ o) x i (inl p) = inl p.0
nth_among (n ∷ o) x i (inr h) = inr (nth_among o x i h)

among_nth : (o : List ℕ) (x : ℕ) → Among x o → (i : ℕ) × Nth o x i
among_nth [] x a = absurd a
among_nth (n ∷ o) x (inl is) = (length o, inl (is, refl))
among_nth (n ∷ o) x (inr a) = let r = among_nth o x a in (r.0, inr r.1)

nth_below : (o : List ℕ) (x i : ℕ) → Nth o x i → i < length o
nth_below [] x i h = absurd h
nth_below (n ∷ o) x i (inl p) = let e = p.1 in omega arith
nth_below (n ∷ o) x i (inr h) = let r = nth_below o x i h in omega arith

nth_once : (o : List ℕ) (x y i : ℕ) → Nth o x i → Nth o y i → x ≡ y
nth_once [] x y i h k = absurd h
nth_once (n ∷ o) x y i (inl p) (inl q) = p.0 ∙ sym q.0
nth_once (n ∷ o) x y i (inl p) (inr k) = let b = nth_below o y i k in let e = p.1 in absurd (omega arith)
nth_once (n ∷ o) x y i (inr h) (inl q) = let b = nth_below o x i h in let e = q.1 in absurd (omega arith)
nth_once (n ∷ o) x y i (inr h) (inr k) = nth_once o x y i h k

nth_before : (es : List Edge) (o : List ℕ) (x y j : ℕ) → Ordered (Joins es) o → Joins es x y → Nth o y j → (i : ℕ) × Nth o x i × (i < j)
nth_before es [] x y j ord e h = absurd h
nth_before es (n ∷ o) x y j ord e (inl p) =
    let r = among_nth o x (ord.0 x (subst (λ k. Joins es x k) p.0 e)) in
    let b = nth_below o x r.0 r.1 in
    let is = p.1 in
    (r.0, inr r.1, omega arith)
nth_before es (n ∷ o) x y j ord e (inr h) = let r = nth_before es o x y j ord.2 e h in (r.0, inr r.1, r.2)

-- ---- orders
stands_below : (os : List (List ℕ)) (x s i : ℕ) → Stands os x s i → s < length os
stands_below [] x s i h = absurd h
stands_below (o ∷ os) x s i (inl p) = let e = p.0 in omega arith
stands_below (o ∷ os) x s i (inr h) = let r = stands_below os x s i h in omega arith

stands_somewhere : (os : List (List ℕ)) (x s i : ℕ) → Stands os x s i → Somewhere os x
stands_somewhere [] x s i h = h
stands_somewhere (o ∷ os) x s i (inl p) = inl (nth_among o x i p.1)
stands_somewhere (o ∷ os) x s i (inr h) = inr (stands_somewhere os x s i h)

somewhere_stands : (os : List (List ℕ)) (x : ℕ) → Somewhere os x → (s : ℕ) × (i : ℕ) × Stands os x s i
somewhere_stands [] x h = absurd h
somewhere_stands (o ∷ os) x (inl a) = let r = among_nth o x a in (length os, r.0, inl (refl, r.1))
somewhere_stands (o ∷ os) x (inr h) = let r = somewhere_stands os x h in (r.0, r.1, inr r.2)

stands_once : (os : List (List ℕ)) (x y s i : ℕ) → Stands os x s i → Stands os y s i → x ≡ y
stands_once [] x y s i h k = absurd h
stands_once (o ∷ os) x y s i (inl p) (inl q) = nth_once o x y i p.1 q.1
stands_once (o ∷ os) x y s i (inl p) (inr k) = let b = stands_below os y s i k in let e = p.0 in absurd (omega arith)
stands_once (o ∷ os) x y s i (inr h) (inl q) = let b = stands_below os x s i h in let e = q.0 in absurd (omega arith)
stands_once (o ∷ os) x y s i (inr h) (inr k) = stands_once os x y s i h k

stands_before : (es : List Edge) (os : List (List ℕ)) (x y s j : ℕ) → Apart (Joins es) os → Joins es x y → Stands os y s j → (i : ℕ) × Stands os x s i × (i < j)
stands_before es [] x y s j a e h = absurd h
stands_before es (o ∷ os) x y s j a e (inl p) = let r = nth_before es o x y j a.0.1.ordered e p.1 in (r.0, inl (p.0, r.1), r.2)
stands_before es (o ∷ os) x y s j a e (inr h) = let r = stands_before es os x y s j a.2 e h in (r.0, inr r.1, r.2)

and_then : (es : List Edge) (a b : ℕ) {c : ℕ} → Connected (Joins es) a b → Connected (Joins es) b c → Connected (Joins es) a c
and_then es a b w here = w
and_then es a b w (onward u j) = onward (and_then es a b w u) j
and_then es a b w (backward u j) = backward (and_then es a b w u) j

turned : (es : List Edge) (a : ℕ) {b : ℕ} → Connected (Joins es) a b → Connected (Joins es) b a
turned es a here = here
turned es a (onward {b} {c} w j) = and_then es c b (backward here j) (turned es a w)
turned es a (backward {b} {c} w j) = and_then es c b (onward here j) (turned es a w)

stands_together : (es : List Edge) (os : List (List ℕ)) (x y s i j : ℕ) → Apart (Joins es) os → Stands os x s i → Stands os y s j → Connected (Joins es) x y
stands_together es [] x y s i j a h k = absurd h
stands_together es (o ∷ os) x y s i j a (inl p) (inl q) =
    let top = a.0.1 in
    and_then es x a.0.0 (turned es a.0.0 (top.only x (nth_among o x i p.1))) (top.only y (nth_among o y j q.1))
stands_together es (o ∷ os) x y s i j a (inl p) (inr k) = let b = stands_below os y s j k in let e = p.0 in absurd (omega arith)
stands_together es (o ∷ os) x y s i j a (inr h) (inl q) = let b = stands_below os x s i h in let e = q.0 in absurd (omega arith)
stands_together es (o ∷ os) x y s i j a (inr h) (inr k) = stands_together es os x y s i j a.2 h k

-- ---- the table
placed_other : (s : ℕ) (o : List ℕ) (t : List (Option Place)) (x : ℕ) → (Among x o → ⊥) → get_or (placed s o t) x None ≡ get_or t x None
placed_other s [] t x no' = refl
placed_other s (n ∷ o) t x no' = get_or-set_other (placed s o t) n x (Some (at s (length o))) None (λ is. no' (inl is)) ∙ placed_other s o t x (λ a. no' (inr a))

length_placed : (s : ℕ) (o : List ℕ) (t : List (Option Place)) → length (placed s o t) ≡ length t
length_placed s [] t = refl
length_placed s (n ∷ o) t = length-set (placed s o t) n (Some (at s (length o))) ∙ length_placed s o t

placed_at : (es : List Edge) (s : ℕ) (o : List ℕ) (t : List (Option Place)) (x i : ℕ) → Ordered (Joins es) o → x < length t → Nth o x i → get_or (placed s o t) x None ≡ Some (at s i)
placed_at es s [] t x i ord lt h = absurd h
placed_at es s (n ∷ o) t x i ord lt (inl p) =
    let size = length_placed s o t in
    let is = p.0 in
    let low : n < length (placed s o t) = omega arith in
    ap (λ k. get_or (set (placed s o t) n (Some (at s (length o)))) k None) is ∙ get_or-set_same (placed s o t) n (Some (at s (length o))) None low ∙ ap (λ k. Some (at s k)) (sym p.1)
placed_at es s (n ∷ o) t x i ord lt (inr h) =
    get_or-set_other (placed s o t) n x (Some (at s (length o))) None (λ is. ord.1 (subst (λ k. Among k o) is (nth_among o x i h))) ∙ placed_at es s o t x i ord.2 lt h

length_places : (os : List (List ℕ)) (t : List (Option Place)) → length (places os t) ≡ length t
length_places [] t = refl
length_places (o ∷ os) t = length_placed (length os) o (places os t) ∙ length_places os t

places_none : (os : List (List ℕ)) (t : List (Option Place)) (x : ℕ) → (Somewhere os x → ⊥) → get_or (places os t) x None ≡ get_or t x None
places_none [] t x no' = refl
places_none (o ∷ os) t x no' = placed_other (length os) o (places os t) x (λ a. no' (inl a)) ∙ places_none os t x (λ a. no' (inr a))

places_at : (es : List Edge) (os : List (List ℕ)) (t : List (Option Place)) (x s i : ℕ) → Apart (Joins es) os → x < length t → Stands os x s i → get_or (places os t) x None ≡ Some (at s i)
places_at es [] t x s i a lt h = absurd h
places_at es (o ∷ os) t x s i a lt (inl p) =
    let size = length_places os t in
    placed_at es (length os) o (places os t) x i a.0.1.ordered (omega arith) p.1 ∙ ap (λ k. Some (at k i)) (sym p.0)
places_at es (o ∷ os) t x s i a lt (inr h) =
    placed_other (length os) o (places os t) x (λ b. a.1 x b (stands_somewhere os x s i h)) ∙ places_at es os t x s i a.2 lt h

among_or : (o : List ℕ) (x : ℕ) → Among x o ⊎ (Among x o → ⊥)
among_or [] x = inr (λ a. a)
among_or (n ∷ o) x =
    ⊎_elim
    (λ (is : x ≡ n). inl (inl is))
    (λ (ne : x ≡ n → ⊥). ⊎_elim (λ a. inl (inr a)) (λ no'. inr (λ b. ⊎_elim ne no' b)) (among_or o x))
    (cases_eq x n)

somewhere_or : (os : List (List ℕ)) (x : ℕ) → Somewhere os x ⊎ (Somewhere os x → ⊥)
somewhere_or [] x = inr (λ a. a)
somewhere_or (o ∷ os) x =
    ⊎_elim
    (λ a. inl (inl a))
    (λ no'. ⊎_elim (λ b. inl (inr b)) (λ no''. inr (λ c. ⊎_elim no' no'' c)) (somewhere_or os x))
    (among_or o x)

abbrev number : Option Place → ℕ
number None = 0
number (Some p) = p.subgraph

abbrev spot : Option Place → ℕ
spot None = 0
spot (Some p) = p.position

abbrev here? : Option Place → Bool
here? None = false
here? (Some p) = true

module _ (es : List Edge) (N : ℕ) (inside : (x y : ℕ) → Joins es x y → (x < N) × (y < N)) (few : N ≤ 1024) (os : List (List ℕ)) (parts : Parts (Joins es) os) where
  abbrev table : List (Option Place)
  table = places os (replicate 1024 None)

  small : (x : ℕ) → Touched (Joins es) x → x < length (replicate {A = Option Place} 1024 None)
  small x (y, inl j) = let a = (inside x y j).0 in let b = length-replicate {A = Option Place} 1024 None in omega arith
  small x (y, inr j) = let a = (inside y x j).1 in let b = length-replicate {A = Option Place} 1024 None in omega arith

  stands_at_lem : (x s i : ℕ) → Stands os x s i → get_or table x None ≡ Some (at s i)
  stands_at_lem x s i h = places_at es os (replicate 1024 None) x s i parts.apart (small x (parts.only x (stands_somewhere os x s i h))) h

  absent : (x : ℕ) → (Somewhere os x → ⊥) → get_or table x None ≡ None
  absent x no' =
      let size = length-replicate {A = Option Place} 1024 None in
      places_none os (replicate 1024 None) x no' ∙
      ⊎_elim (λ (lt : x < 1024). get_or-replicate 1024 x None None lt) (λ (ge : 1024 ≤ x). get_or_past (replicate 1024 None) x None (omega arith)) (cases_lt x 1024)

  -- what the table says
  told : (x : ℕ) (p : Place) → get_or table x None ≡ Some p → Stands os x p.subgraph p.position
  told x p h =
      ⊎_elim
      (λ a.
      let r = somewhere_stands os x a in
      let is = sym (stands_at_lem x r.0 r.1 r.2) ∙ h in
      subst (λ s. Stands os x s p.position) (ap number is) (subst (λ i. Stands os x r.0 i) (ap spot is) r.2))
      (λ no'. absurd (both_ways false refl (ap here? (sym (absent x no') ∙ h))))
      (somewhere_or os x)

  before : (x y : ℕ) → Joins es x y → (p : Place) × (q : Place) × (get_or table x None ≡ Some p) × (get_or table y None ≡ Some q) × (p.subgraph ≡ q.subgraph) × (p.position < q.position)
  before x y j =
      let r = somewhere_stands os y (parts.whole y (x, inr j)) in
      let b = stands_before es os x y r.0 r.1 parts.apart j r.2 in
      (at r.0 b.0, at r.0 r.1, stands_at_lem x r.0 b.0 b.1, stands_at_lem y r.0 r.1 r.2, refl, b.2)

  connected : (x y : ℕ) (p q : Place) → get_or table x None ≡ Some p → get_or table y None ≡ Some q → Connected (Joins es) x y → p.subgraph ≡ q.subgraph
  connected x y p q h k here = ap number (sym h ∙ k)
  connected x y p q h k (onward {b} {c} w j) = let s = before b y j in connected x b p s.0 h s.2 w ∙ s.4 ∙ ap number (sym s.3 ∙ k)
  connected x y p q h k (backward {b} {c} w j) = let s = before y b j in connected x b p s.1 h s.3 w ∙ sym s.4 ∙ ap number (sym s.2 ∙ k)

  pub standing : Placed (Joins es) table
  standing =
      record {
        some = λ x t. let r = somewhere_stands os x (parts.whole x t) in (at r.0 r.1, stands_at_lem x r.0 r.1 r.2);
        none = λ x no'. absent x (λ a. no' (parts.only x a));
        once = λ x y p h k. stands_once os x y p.subgraph p.position (told x p h) (told y p k);
        before = before;
        together = λ x y p q h k is. stands_together es os x y q.subgraph p.position q.position parts.apart (subst (λ s. Stands os x s p.position) is (told x p h)) (told y q k);
        connected = connected;
      }
