-- The stack walk.
use Rattle.std.proofs.Common.{◌≡◌, ℕ, zero, suc, ◌+◌, ◌<◌, ◌≤◌, Bool, true, false, cond, not, ◌≢◌, ◌⊎◌, List, [], ◌∷◌, ◌++◌, length, get_or, set, sym, refl, ap, ◌∙◌, subst, inl, inr, ⊎_elim, append_assoc, arith}
use Rattle.std.proofs.lemmas.List.{get_or-set_same, get_or-set_other}
use Rattle.std.proofs.lemmas.Bool.{cases_eq, cases_Bool, cond-true, cond-false}
use Rattle.std.proofs.lemmas.Grind.{common_steps}
use Rattle.tables.specs.Steps.{Below}
use Rattle.records.specs.Walks.{Among}
use Rattle.walks.specs.Exploring.{stacked, piled, fresh, Trail, walked, searched, pending}

-- ---- stacks
module _ (test : ℕ → Bool) where
  pub stacked_append : (xs ys st : List ℕ) → stacked test (xs ++ ys) st ≡ stacked test ys (stacked test xs st)
  stacked_append [] ys st = refl
  stacked_append (x ∷ xs) ys st = stacked_append xs ys (cond (test x) (x ∷ st) st)

  pub stacked_keeps : (xs st : List ℕ) (y : ℕ) → Among y st → Among y (stacked test xs st)
  stacked_keeps [] st y h = h
  stacked_keeps (x ∷ xs) st y h = stacked_keeps xs (cond (test x) (x ∷ st) st) y (elim (test x) as (λ b. Among y (cond b (x ∷ st) st)) [ true ↦ inr h | false ↦ h ])

  pub stacked_has : (xs st : List ℕ) (y : ℕ) → Among y xs → test y ≡ true → Among y (stacked test xs st)
  stacked_has [] st y h t = absurd h
  stacked_has (x ∷ xs) st y (inr h) t = stacked_has xs (cond (test x) (x ∷ st) st) y h t
  stacked_has (x ∷ xs) st y (inl is) t = stacked_keeps xs (cond (test x) (x ∷ st) st) y (subst (λ l. Among y l) (sym (cond-true _ (x ∷ st) st (ap test (sym is) ∙ t))) (inl is))

  -- and nothing else comes onto it
  pub stacked_only : (xs st : List ℕ) (y : ℕ) → Among y (stacked test xs st) → (Among y xs × (test y ≡ true)) ⊎ Among y st
  stacked_only [] st y h = inr h
  stacked_only (x ∷ xs) st y h = grind (arith, common_steps, stacked_only xs (cond (test x) (x ∷ st) st) y h)

  pub length_stacked : (xs st : List ℕ) → length (stacked test xs st) ≤ length xs + length st
  length_stacked [] st = omega arith
  length_stacked (x ∷ xs) st = grind (arith, common_steps, length_stacked xs (cond (test x) (x ∷ st) st))

  -- what is below n stays so
  pub below_stacked : (n : ℕ) (xs st : List ℕ) → ((y : ℕ) → Among y xs → y < n) → Below n st → Below n (stacked test xs st)
  below_stacked n [] st low b = b
  below_stacked n (x ∷ xs) st low b =
      below_stacked n xs (cond (test x) (x ∷ st) st) (λ y a. low y (inr a)) (elim (test x) as (λ t. Below n (cond t (x ∷ st) st)) [ true ↦ (low x (inl refl), b) | false ↦ b ])

-- each is visited or on the pile
pub piled_has : (xs : List ℕ) (v : List Bool) (st : List ℕ) (y : ℕ) → Among y xs → (get_or v y false ≡ true) ⊎ Among y (piled xs v st)
piled_has xs v st y a = ⊎_elim (λ t. inl t) (λ f. inr (stacked_has (λ m. not (get_or v m false)) xs st y a (ap not f))) (cases_Bool (get_or v y false))

pub piled_only : (xs : List ℕ) (v : List Bool) (st : List ℕ) (y : ℕ) → Among y (piled xs v st) → Among y xs ⊎ Among y st
piled_only xs v st y h = ⊎_elim (λ p. inl p.0) (λ a. inr a) (stacked_only (λ m. not (get_or v m false)) xs st y h)

pub length_piled : (xs : List ℕ) (v : List Bool) (st : List ℕ) → length (piled xs v st) ≤ length xs + length st
length_piled xs v st = length_stacked (λ m. not (get_or v m false)) xs st

pub below_at : (n : ℕ) (xs : List ℕ) (y : ℕ) → Below n xs → Among y xs → y < n
below_at n [] y b h = absurd h
below_at n (x ∷ xs) y b (inl e) = subst (λ i. i < n) (sym e) b.0
below_at n (x ∷ xs) y b (inr h) = below_at n xs y b.1 h

-- ---- the first node not visited
pub fresh_none : (v : List Bool) (st : List ℕ) (y : ℕ) → fresh v st ≡ [] → Among y st → get_or v y false ≡ true
fresh_none v [] y e h = absurd h
fresh_none v (x ∷ st) y e h = grind (arith, common_steps, fresh_none v st y)

pub record Fresh (v : List Bool) (st : List ℕ) (n : ℕ) (rest : List ℕ) : Type 0 where
  pub new : get_or v n false ≡ false
  pub among : Among n st
  pub still : (y : ℕ) → Among y st → (get_or v y false ≡ true) ⊎ Among y (n ∷ rest)
  pub part : (y : ℕ) → Among y rest → Among y st

pub fresh_some : (v : List Bool) (st : List ℕ) (n : ℕ) (rest : List ℕ) → fresh v st ≡ n ∷ rest → Fresh v st n rest
fresh_some v [] n rest e = absurd cc
fresh_some v (x ∷ st) n rest e =
    ⊎_elim
    (λ (t : get_or v x false ≡ true). old t (fresh_some v st n rest (sym (cond-true _ (fresh v st) (x ∷ st) t) ∙ e)))
    (λ (f : get_or v x false ≡ false). let same : x ∷ st ≡ n ∷ rest = sym (cond-false _ (fresh v st) (x ∷ st) f) ∙ e in here f (cc) (cc))
    (cases_Bool (get_or v x false))
  where
    old_still : get_or v x false ≡ true → Fresh v st n rest → (y : ℕ) → Among y (x ∷ st) → (get_or v y false ≡ true) ⊎ Among y (n ∷ rest)
    old_still t r y (inl is) = inl (ap (λ i. get_or v i false) is ∙ t)
    old_still t r y (inr a) = r.still y a

    old : get_or v x false ≡ true → Fresh v st n rest → Fresh v (x ∷ st) n rest
    old t r = record { new = r.new; among = inr r.among; still = old_still t r; part = λ y a. inr (r.part y a) }

    here_still : x ≡ n → st ≡ rest → (y : ℕ) → Among y (x ∷ st) → (get_or v y false ≡ true) ⊎ Among y (n ∷ rest)
    here_still p q y (inl is) = inr (inl (is ∙ p))
    here_still p q y (inr a) = inr (inr (subst (λ l. Among y l) q a))

    here : get_or v x false ≡ false → x ≡ n → st ≡ rest → Fresh v (x ∷ st) n rest
    here f p q = record { new = ap (λ i. get_or v i false) (sym p) ∙ f; among = inl (sym p); still = here_still p q; part = λ y a. inr (subst (λ l. Among y l) (sym q) a) }

-- ---- one step of a walk
module _ (push : ℕ → List Bool → List ℕ → List ℕ) (k : ℕ) (st : List ℕ) (v : List Bool) (o : List ℕ) where
  pub walk_stops : fresh v st ≡ [] → walked push (suc k) st v o ≡ record { visited = v; order = o }
  walk_stops e = ap (λ l. elim l [ [] ↦ record { visited = v; order = o } | m ∷ rest ↦ walked push k (push m (set v m true) rest) (set v m true) (m ∷ o) ]) e

  pub walk_steps : (n : ℕ) (rest : List ℕ) → fresh v st ≡ n ∷ rest → walked push (suc k) st v o ≡ walked push k (push n (set v n true) rest) (set v n true) (n ∷ o)
  walk_steps n rest e = ap (λ l. elim l [ [] ↦ record { visited = v; order = o } | m ∷ rest ↦ walked push k (push m (set v m true) rest) (set v m true) (m ∷ o) ]) e

  -- it ends here, or visits the first node that is not visited
  pub walk_cases : (Q : Trail → Type 0) → (fresh v st ≡ [] → Q (record { visited = v; order = o })) → ((n : ℕ) (rest : List ℕ) → Fresh v st n rest → Q (walked push k (push n (set v n true) rest) (set v n true) (n ∷ o))) → Q (walked push (suc k) st v o)
  walk_cases Q stop step = go (fresh v st) refl
    where
      go : (l : List ℕ) → fresh v st ≡ l → Q (walked push (suc k) st v o)
      go [] e = subst Q (sym (walk_stops e)) (stop e)
      go (n ∷ rest) e = subst Q (sym (walk_steps n rest e)) (step n rest (fresh_some v st n rest e))

pub turn_new : (push : ℕ → List Bool → List ℕ → List ℕ) (k n : ℕ) (st : List ℕ) (v : List Bool) (o : List ℕ) → get_or v n false ≡ false → walked push (suc k) (n ∷ st) v o ≡ walked push k (push n (set v n true) st) (set v n true) (n ∷ o)
turn_new push k n st v o f = walk_steps push k (n ∷ st) v o n st (cond-false (get_or v n false) (fresh v st) (n ∷ st) f)

pub turn_none : (push : ℕ → List Bool → List ℕ → List ℕ) (k : ℕ) (v : List Bool) (o : List ℕ) → walked push k [] v o ≡ record { visited = v; order = o }
turn_none push zero v o = refl
turn_none push (suc k) v o = refl

-- a walk has the marks of another one, and its order with more behind it
pub record WithBehind (more : List ℕ) (t u : Trail) : Type 0 where
  pub marks : t.visited ≡ u.visited
  pub order : t.order ≡ u.order ++ more

-- walking on from an order is walking from the empty one, with that order behind
pub walked_on : (push : ℕ → List Bool → List ℕ → List ℕ) (k : ℕ) (st : List ℕ) (v : List Bool) (o : List ℕ) → WithBehind o (walked push k st v o) (walked push k st v [])
walked_on push zero st v o = record { marks = refl; order = refl }
walked_on push (suc k) st v o = go (walked_on push k) (fresh v st)
  where
    turn : List ℕ → List ℕ → Trail
    turn l before = elim l [ [] ↦ record { visited = v; order = before } | m ∷ rest ↦ walked push k (push m (set v m true) rest) (set v m true) (m ∷ before) ]

    go : ((s : List ℕ) (w : List Bool) (before : List ℕ) → WithBehind before (walked push k s w before) (walked push k s w [])) → (l : List ℕ) → WithBehind o (turn l o) (turn l [])
    go on [] = record { marks = refl; order = refl }
    go on (m ∷ rest) =
        let w = set v m true in
        let later = on (push m w rest) w (m ∷ o) in
        let first = on (push m w rest) w (m ∷ []) in
        record { marks = later.marks ∙ sym first.marks; order = later.order ∙ sym (append_assoc _ (m ∷ []) o) ∙ ap (λ l. l ++ o) (sym first.order) }

pub searched_on : (test : List Bool → ℕ → Bool) (next : ℕ → List ℕ) (k : ℕ) (st : List ℕ) (v : List Bool) (o : List ℕ) → WithBehind o (searched test next k st v o) (searched test next k st v [])
searched_on test next k st v o = walked_on (λ n w s. stacked (test w) (next n) s) k st v o

-- ---- what is pending
pending_past : (next : ℕ → List ℕ) (n j : ℕ) (v : List Bool) (b : Bool) → n ≤ j → pending next n (set v j b) ≡ pending next n v
pending_past next zero j v b h = refl
pending_past next (suc n) j v b h =
    let ne : n ≢ j = omega arith in
    let here = get_or-set_other v j n b false ne in
    let rest = pending_past next n j v b (omega arith) in
    cc

pub pending_set : (next : ℕ → List ℕ) (n j : ℕ) (v : List Bool) → j < n → j < length v → get_or v j false ≡ false → pending next n v ≡ length (next j) + pending next n (set v j true)
pending_set next zero j v h l e = absurd (omega arith)
pending_set next (suc n) j v h l e =
    ⊎_elim
    (λ (is : n ≡ j).
    let was : get_or v n false ≡ false = ap (λ i. get_or v i false) is ∙ e in
    let now' : get_or (set v j true) n false ≡ true = ap (λ i. get_or (set v j true) i false) is ∙ get_or-set_same v j true false l in
    let rest = pending_past next n j v true (omega arith) in
    let left = cond-false (get_or v n false) (pending next n v) (length (next n) + pending next n v) was in
    let right = cond-true (get_or (set v j true) n false) (pending next n (set v j true)) (length (next n) + pending next n (set v j true)) now' in
    let size = ap (λ i. length (next i)) is in
    omega arith)
    (λ (ne : n ≡ j → ⊥).
    let here = get_or-set_other v j n true false ne in
    let rest = pending_set next n j v (omega arith) l e in
    ⊎_elim
    (λ (y : get_or v n false ≡ true).
    let left = cond-true (get_or v n false) (pending next n v) (length (next n) + pending next n v) y in
    let right = cond-true (get_or (set v j true) n false) (pending next n (set v j true)) (length (next n) + pending next n (set v j true)) (here ∙ y) in
    omega arith)
    (λ (y : get_or v n false ≡ false).
    let left = cond-false (get_or v n false) (pending next n v) (length (next n) + pending next n v) y in
    let right = cond-false (get_or (set v j true) n false) (pending next n (set v j true)) (length (next n) + pending next n (set v j true)) (here ∙ y) in
    omega arith)
    (cases_Bool (get_or v n false)))
    (cases_eq n j)
