-- What a stack walk has visited when it ends.
use Rattle.std.proofs.Common.{◌≡◌, ℕ, zero, suc, ◌<◌, ◌≤◌, Bool, true, false, not, ◌≢◌, ◌⊎◌, List, ◌∷◌, length, get_or, set, sym, refl, ap, ◌∙◌, subst, inl, inr, ⊎_elim, arith}
use Rattle.std.proofs.lemmas.List.{get_or-set_same, get_or-set_other, length-set}
use Rattle.std.proofs.lemmas.Bool.{cases_eq}
use Rattle.tables.specs.Marks.{blanks}
use Rattle.records.specs.Walks.{Among}
use Rattle.walks.specs.Exploring.{piled, explored}
use Rattle.tables.proofs.Marking.{blanks_set, no_blanks}
use Rattle.walks.proofs.Exploring.{stacked_keeps, piled_has, piled_only, fresh_none, walk_cases, Fresh}

-- visited, or still to come
abbrev pub Covered : List Bool → List ℕ → ℕ → Type 0
Covered v st y = (get_or v y false ≡ true) ⊎ Among y st

-- one more is visited
pub visited_set : (v : List Bool) (n y : ℕ) → n < length v → get_or v y false ≡ true → get_or (set v n true) y false ≡ true
visited_set v n y l h =
    ⊎_elim
    (λ (is : y ≡ n). ap (λ i. get_or (set v n true) i false) is ∙ get_or-set_same v n true false l)
    (λ (ne : y ≡ n → ⊥). get_or-set_other v n y true false ne ∙ h)
    (cases_eq y n)

pub set_visited : (v : List Bool) (n y : ℕ) → get_or (set v n true) y false ≡ true → (y ≡ n) ⊎ (get_or v y false ≡ true)
set_visited v n y h =
    ⊎_elim (λ is. inl is) (λ (ne : y ≡ n → ⊥). inr (sym (get_or-set_other v n y true false ne) ∙ h)) (cases_eq y n)

module _ (next : ℕ → List ℕ) (N : ℕ) (inside : (x y : ℕ) → Among y (next x) → y < N) where
  -- the neighbours of what is visited are visited, or still to come
  abbrev pub Open : List Bool → List ℕ → Type 0
  Open v st = (x y : ℕ) → get_or v x false ≡ true → Among y (next x) → Covered v st y

  pub record Ended (v : List Bool) (st : List ℕ) (t : List Bool) : Type 0 where
    pub closed : (x y : ℕ) → get_or t x false ≡ true → Among y (next x) → get_or t y false ≡ true
    pub came : (y : ℕ) → Covered v st y → get_or t y false ≡ true

  carried : (v : List Bool) (st : List ℕ) (n : ℕ) (rest : List ℕ) → n < length v → Fresh v st n rest → (y : ℕ) → Covered v st y → Covered (set v n true) (piled (next n) (set v n true) rest) y
  carried v st n rest l f y (inl h) = inl (visited_set v n y l h)
  carried v st n rest l f y (inr a) =
      ⊎_elim
      (λ h. inl (visited_set v n y l h))
      (λ o. ⊎_elim
      (λ (is : y ≡ n). inl (ap (λ i. get_or (set v n true) i false) is ∙ get_or-set_same v n true false l))
      (λ b. inr (stacked_keeps (λ m. not (get_or (set v n true) m false)) (next n) rest y b))
      o)
      (f.still y a)

  opened : (v : List Bool) (st : List ℕ) (n : ℕ) (rest : List ℕ) → n < length v → Fresh v st n rest → Open v st → Open (set v n true) (piled (next n) (set v n true) rest)
  opened v st n rest l f o x y h a =
      ⊎_elim
      (λ (is : x ≡ n). piled_has (next n) (set v n true) rest y (subst (λ i. Among y (next i)) is a))
      (λ was. carried v st n rest l f y (o x y was a))
      (set_visited v n x h)

  piled_inside : (v : List Bool) (n : ℕ) (rest : List ℕ) → ((y : ℕ) → Among y rest → y < N) → (y : ℕ) → Among y (piled (next n) v rest) → y < N
  piled_inside v n rest b y a = ⊎_elim (λ c. inside n y c) (λ c. b y c) (piled_only (next n) v rest y a)

  pub ended : (k : ℕ) (v : List Bool) (st : List ℕ) (o : List ℕ) → N ≤ length v → blanks N v ≤ k → ((y : ℕ) → Among y st → y < N) → Open v st → Ended v st (explored next k st v o).visited
  ended zero v st o long few b op =
      let none : blanks N v ≡ 0 = omega arith in
      record {
        closed = λ x y h a. no_blanks N y v none (inside x y a);
        came = λ y c. ⊎_elim (λ h. h) (λ a. no_blanks N y v none (b y a)) c;
      }
  ended (suc k) v st o long few b op =
      walk_cases (λ n v st. piled (next n) v st) k st v o (λ t. Ended v st t.visited)
      (λ e. record {
        closed = λ x y h a. ⊎_elim (λ t. t) (λ c. fresh_none v st y e c) (op x y h a);
        came = λ y c. ⊎_elim (λ t. t) (λ a. fresh_none v st y e a) c;
      })
      (λ n rest f.
      let small : n < N = b n f.among in
      let l : n < length v = omega arith in
      let fewer = blanks_set N n v small l f.new in
      let long' : N ≤ length (set v n true) = subst (λ m. N ≤ m) (sym (length-set v n true)) long in
      let d = ended k (set v n true) (piled (next n) (set v n true) rest) (n ∷ o) long' (omega arith) (piled_inside (set v n true) n rest (λ y a. b y (f.part y a))) (opened v st n rest l f op) in
      record { closed = d.closed; came = λ y c. d.came y (carried v st n rest l f y c) })

  -- and nothing is visited but what P holds of, where P goes on from neighbour to neighbour
  pub only : (P : ℕ → Type 0) → ((x y : ℕ) → P x → Among y (next x) → P y) → (k : ℕ) (v : List Bool) (st : List ℕ) (o : List ℕ) → ((y : ℕ) → Among y st → P y) → (y : ℕ) → get_or (explored next k st v o).visited y false ≡ true → (get_or v y false ≡ true) ⊎ P y
  only P step zero v st o s y = λ h. inl h
  only P step (suc k) v st o s y =
      walk_cases (λ n v st. piled (next n) v st) k st v o (λ t. get_or t.visited y false ≡ true → (get_or v y false ≡ true) ⊎ P y)
      (λ e h. inl h)
      (λ n rest f h.
      ⊎_elim
      (λ t. ⊎_elim (λ (is : y ≡ n). inr (subst P (sym is) (s n f.among))) (λ was. inl was) (set_visited v n y t))
      (λ p. inr p)
      (only P step k (set v n true) (piled (next n) (set v n true) rest) (n ∷ o) (λ z a. ⊎_elim (λ c. step n z (s n f.among) c) (λ c. s z (f.part z c)) (piled_only (next n) (set v n true) rest z a)) y h))

  -- what each visit keeps, the walk keeps
  pub kept : (Q : List Bool → List ℕ → Type 0) → ((v : List Bool) (o : List ℕ) (n : ℕ) → n < N → get_or v n false ≡ false → Q v o → Q (set v n true) (n ∷ o)) → (k : ℕ) (v : List Bool) (st : List ℕ) (o : List ℕ) → ((y : ℕ) → Among y st → y < N) → Q v o → Q (explored next k st v o).visited (explored next k st v o).order
  kept Q keep zero v st o b q = q
  kept Q keep (suc k) v st o b q =
      walk_cases (λ n v st. piled (next n) v st) k st v o (λ t. Q t.visited t.order)
      (λ e. q)
      (λ n rest f. kept Q keep k (set v n true) (piled (next n) (set v n true) rest) (n ∷ o) (piled_inside (set v n true) n rest (λ y a. b y (f.part y a))) (keep v o n (b n f.among) f.new q))

-- w is v but for the first n entries
pub record Past (n : ℕ) (v w : List Bool) : Type 0 where
  pub long : length w ≡ length v
  pub same : (k : ℕ) → n ≤ k → get_or w k false ≡ get_or v k false

-- a walk among the first N nodes leaves the entries past them
pub walk_past : (next : ℕ → List ℕ) (N : ℕ) → ((x y : ℕ) → Among y (next x) → y < N) → (k : ℕ) (v : List Bool) (st o : List ℕ) → ((y : ℕ) → Among y st → y < N) → Past N v (explored next k st v o).visited
walk_past next N inside k v st o b =
    kept next N inside (λ w _. Past N v w)
    (λ w _ m small _ p. record { long = length-set w m true ∙ p.long; same = λ j h. let ne : j ≢ m = omega arith in get_or-set_other w m j true false ne ∙ p.same j h })
    k v st o b (record { long = refl; same = λ _ _. refl })
