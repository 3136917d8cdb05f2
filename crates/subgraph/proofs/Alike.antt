-- Walks from tables that agree on the nodes.
use Rattle.std.proofs.Common.{◌≡◌, ℕ, zero, suc, ◌<◌, ◌≤◌, Bool, true, false, cond, ◌&&◌, ◌⊎◌, List, [], ◌∷◌, length, get_or, set, sym, refl, ap, ◌∙◌, subst, inl, inr, ⊎_elim, arith}
use Rattle.std.proofs.lemmas.List.{get_or-set_same, get_or-set_other, length-set}
use Rattle.std.proofs.lemmas.Bool.{cases_eq, cond-true}
use Rattle.records.specs.Walks.{Among}
use Rattle.tables.specs.Marks.{blanks}
use Rattle.tables.proofs.Marking.{blanks_set, no_blanks}
use Rattle.walks.specs.Exploring.{stacked, fresh, Trail, walked}
use Rattle.walks.proofs.Exploring.{Fresh, fresh_some, walk_stops, walk_steps}
use Rattle.subgraph.specs.Sorting.{all_in}

module _ (N : ℕ) where
  -- two tables agree on the first N entries
  abbrev pub Agree : List Bool → List Bool → Type 0
  Agree v u = (x : ℕ) → x < N → get_or v x false ≡ get_or u x false

  agree_set : (v u : List Bool) (n : ℕ) → n < length v → n < length u → Agree v u → Agree (set v n true) (set u n true)
  agree_set v u n lv lu a x c =
      ⊎_elim
      (λ (is : x ≡ n). ap (λ i. get_or (set v n true) i false) is ∙ get_or-set_same v n true false lv ∙ sym (get_or-set_same u n true false lu) ∙ ap (λ i. get_or (set u n true) i false) (sym is))
      (λ (ne : x ≡ n → ⊥). get_or-set_other v n x true false ne ∙ a x c ∙ sym (get_or-set_other u n x true false ne))
      (cases_eq x n)

  pub stacked_alike : (t s : ℕ → Bool) (xs st : List ℕ) → ((y : ℕ) → Among y xs → t y ≡ s y) → stacked t xs st ≡ stacked s xs st
  stacked_alike t s [] st h = refl
  stacked_alike t s (x ∷ xs) st h = ap (λ b. stacked t xs (cond b (x ∷ st) st)) (h x (inl refl)) ∙ stacked_alike t s xs (cond (s x) (x ∷ st) st) (λ y b. h y (inr b))

  fresh_alike : (v u : List Bool) → Agree v u → (st : List ℕ) → ((y : ℕ) → Among y st → y < N) → fresh v st ≡ fresh u st
  fresh_alike v u a [] h = refl
  fresh_alike v u a (x ∷ st) h = (λ i. cond (a x (h x (inl refl)) i) (fresh_alike v u a st (λ y b. h y (inr b)) i) (x ∷ st))

  pub all_alike : (v u : List Bool) → Agree v u → (xs : List ℕ) → ((y : ℕ) → Among y xs → y < N) → all_in xs v ≡ all_in xs u
  all_alike v u a [] h = refl
  all_alike v u a (x ∷ xs) h = (λ i. a x (h x (inl refl)) i && all_alike v u a xs (λ y b. h y (inr b)) i)

  fresh_all : (v : List Bool) (st : List ℕ) → ((y : ℕ) → Among y st → get_or v y false ≡ true) → fresh v st ≡ []
  fresh_all v [] h = refl
  fresh_all v (x ∷ st) h = cond-true _ (fresh v st) (x ∷ st) (h x (inl refl)) ∙ fresh_all v st (λ y a. h y (inr a))

  -- the same turns, and marks that agree again
  pub record Alike (t s : Trail) : Type 0 where
    pub turns : t.order ≡ s.order
    pub marks : Agree t.visited s.visited

  module _ (push : ℕ → List Bool → List ℕ → List ℕ)
      (stays : (n : ℕ) (v : List Bool) (st : List ℕ) (y : ℕ) → Among y (push n v st) → (y < N) ⊎ Among y st)
      (alike : (n : ℕ) (v u : List Bool) (st : List ℕ) → Agree v u → push n v st ≡ push n u st) where
    idle : (k : ℕ) (st : List ℕ) (v : List Bool) (o : List ℕ) → fresh v st ≡ [] → walked push k st v o ≡ record { visited = v; order = o }
    idle zero st v o e = refl
    idle (suc k) st v o e = walk_stops push k st v o e

    both_idle : (k j : ℕ) (st : List ℕ) (v u : List Bool) (o : List ℕ) → fresh v st ≡ [] → fresh u st ≡ [] → Agree v u → Alike (walked push k st v o) (walked push j st u o)
    both_idle k j st v u o e f a =
        subst (λ t. Alike t (walked push j st u o)) (sym (idle k st v o e))
        (subst (λ t. Alike (record { visited = v; order = o }) t) (sym (idle j st u o f)) (record { turns = refl; marks = a }))

    -- if both may take turns enough
    pub same_turns : (k j : ℕ) (st : List ℕ) (v u : List Bool) (o : List ℕ) → N ≤ length v → N ≤ length u → blanks N v ≤ k → blanks N u ≤ j → ((y : ℕ) → Among y st → y < N) → Agree v u → Alike (walked push k st v o) (walked push j st u o)
    same_turns zero j st v u o lv lu fv fu h a =
        let none : blanks N v ≡ 0 = omega arith in
        let e : fresh v st ≡ [] = fresh_all v st (λ y b. no_blanks N y v none (h y b)) in
        both_idle zero j st v u o e (sym (fresh_alike v u a st h) ∙ e) a
    same_turns (suc k) zero st v u o lv lu fv fu h a =
        let none : blanks N u ≡ 0 = omega arith in
        let e : fresh u st ≡ [] = fresh_all u st (λ y b. no_blanks N y u none (h y b)) in
        both_idle (suc k) zero st v u o (fresh_alike v u a st h ∙ e) e a
    same_turns (suc k) (suc j) st v u o lv lu fv fu h a = go (fresh v st) refl (λ n rest f.
        let lt = h n f.among in
        let nv : n < length v = omega arith in
        let nu : n < length u = omega arith in
        let a' = agree_set v u n nv nu a in
        let bv = blanks_set N n v lt nv f.new in
        let bu = blanks_set N n u lt nu (sym (a n lt) ∙ f.new) in
        subst (λ s. Alike (walked push k (push n (set v n true) rest) (set v n true) (n ∷ o)) (walked push j s (set u n true) (n ∷ o))) (alike n (set v n true) (set u n true) rest a')
        (same_turns k j (push n (set v n true) rest) (set v n true) (set u n true) (n ∷ o) (subst (λ m. N ≤ m) (sym (length-set v n true)) lv) (subst (λ m. N ≤ m) (sym (length-set u n true)) lu) (omega arith) (omega arith)
        (λ y b. ⊎_elim (λ d. d) (λ d. h y (f.part y d)) (stays n (set v n true) rest y b)) a'))
      where
        go : (l : List ℕ) → fresh v st ≡ l → ((n : ℕ) (rest : List ℕ) → Fresh v st n rest → Alike (walked push k (push n (set v n true) rest) (set v n true) (n ∷ o)) (walked push j (push n (set u n true) rest) (set u n true) (n ∷ o))) → Alike (walked push (suc k) st v o) (walked push (suc j) st u o)
        go [] e deeper = both_idle (suc k) (suc j) st v u o e (sym (fresh_alike v u a st h) ∙ e) a
        go (n ∷ rest) e deeper =
            subst (λ t. Alike t (walked push (suc j) st u o)) (sym (walk_steps push k st v o n rest e))
            (subst (λ t. Alike (walked push k (push n (set v n true) rest) (set v n true) (n ∷ o)) t) (sym (walk_steps push j st u o n rest (sym (fresh_alike v u a st h) ∙ e))) (deeper n rest (fresh_some v st n rest e)))
