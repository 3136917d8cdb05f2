-- What pushing a list does to the stack and the marks.
use Rattle.std.proofs.Common.{◌≡◌, ℕ, suc, ◌+◌, ◌<◌, Bool, true, false, cond, eqb, ◌⊎◌, List, [], ◌∷◌, length, get_or, set, sym, refl, ap, ◌∙◌, subst, inl, inr, ⊎_elim, arith}
use Rattle.std.proofs.lemmas.List.{get_or-set_same, get_or-set_other}
use Rattle.std.proofs.lemmas.List.Sums.{sum_by-cons}
use Rattle.std.proofs.lemmas.Bool.{cases_eq, cases_Bool, eq-eqb, ne_eqb}
use Rattle.tables.specs.Steps.{Below}
use Rattle.records.specs.Walks.{Among}
use Rattle.walk_neighbors.specs.PastDisabled.{Noted, noted, push, push_all}
use Rattle.walk_neighbors.specs.GivenOut.{times}
use Rattle.walk_neighbors.specs.Cursors.{Fits}
use Rattle.walk_neighbors.proofs.Stepping.{push_one, push_yes, push_no}

abbrev pub mark : Bool → ℕ
mark b = cond b 1 0

abbrev pub marked : Noted → ℕ → Bool
marked p y = get_or p.visited y false

pub times_none : (x : ℕ) → times x [] ≡ 0
unfolding times
times_none x = refl

pub times_same : (x n : ℕ) (l : List ℕ) → x ≡ n → times x (n ∷ l) ≡ suc (times x l)
unfolding times
times_same x n l is =
    let here = ap mark (eq-eqb n x (sym is)) in
    let all = sum_by-cons (λ y. mark (eqb y x)) n l in
    omega arith

pub times_other : (x n : ℕ) (l : List ℕ) → (x ≡ n → ⊥) → times x (n ∷ l) ≡ times x l
unfolding times
times_other x n l ne =
    let here = ap mark (ne_eqb n x (λ e. ne (sym e))) in
    let all = sum_by-cons (λ y. mark (eqb y x)) n l in
    omega arith

pub record Pushed (ms : List ℕ) (p q : Noted) : Type 0 where
  pub counts : (x : ℕ) → times x q.stack + mark (marked p x) ≡ times x p.stack + mark (marked q x)
  pub grows : (y : ℕ) → marked p y ≡ true → marked q y ≡ true
  pub all : (y : ℕ) → Among y ms → marked q y ≡ true
  pub keeps : (y : ℕ) → Among y p.stack → Among y q.stack
  pub new : (y : ℕ) → marked q y ≡ true → (marked p y ≡ true) ⊎ Among y q.stack
  pub only_marked : (y : ℕ) → marked q y ≡ true → (marked p y ≡ true) ⊎ Among y ms
  pub only_held : (y : ℕ) → Among y q.stack → Among y p.stack ⊎ Among y ms

one_yes : (m : ℕ) (p : Noted) → marked p m ≡ true → Pushed (m ∷ []) p p
one_yes m p t = record {
  counts = λ x. refl;
  grows = λ y h. h;
  all = λ y a. ⊎_elim (λ (is : y ≡ m). ap (marked p) is ∙ t) (λ b. absurd b) a;
  keeps = λ y a. a;
  new = λ y h. inl h;
  only_marked = λ y h. inl h;
  only_held = λ y a. inl a;
}

one_no : (m : ℕ) (p : Noted) → m < length p.visited → marked p m ≡ false → Pushed (m ∷ []) p (noted (set p.visited m true) (m ∷ p.stack))
one_no m p low n = record {
  counts = counts';
  grows = λ y h. ⊎_elim (λ (is : y ≡ m). at y is) (λ (ne : y ≡ m → ⊥). off y ne ∙ h) (cases_eq y m);
  all = λ y a. ⊎_elim (λ (is : y ≡ m). at y is) (λ b. absurd b) a;
  keeps = λ y a. inr a;
  new = λ y h. ⊎_elim (λ (is : y ≡ m). inr (inl is)) (λ (ne : y ≡ m → ⊥). inl (sym (off y ne) ∙ h)) (cases_eq y m);
  only_marked = λ y h. ⊎_elim (λ (is : y ≡ m). inr (inl is)) (λ (ne : y ≡ m → ⊥). inl (sym (off y ne) ∙ h)) (cases_eq y m);
  only_held = λ y a. ⊎_elim (λ (is : y ≡ m). inr (inl is)) (λ b. inl b) a;
}
  where
    at : (y : ℕ) → y ≡ m → get_or (set p.visited m true) y false ≡ true
    at y is = ap (λ i. get_or (set p.visited m true) i false) is ∙ get_or-set_same p.visited m true false low

    off : (y : ℕ) → (y ≡ m → ⊥) → get_or (set p.visited m true) y false ≡ get_or p.visited y false
    off y ne = get_or-set_other p.visited m y true false ne

    counts' : (x : ℕ) → times x (m ∷ p.stack) + mark (marked p x) ≡ times x p.stack + mark (get_or (set p.visited m true) x false)
    counts' x =
        ⊎_elim
        (λ (is : x ≡ m).
        let more = times_same x m p.stack is in
        let was : mark (marked p x) ≡ 0 = ap mark (ap (marked p) is ∙ n) in
        let now' : mark (get_or (set p.visited m true) x false) ≡ 1 = ap mark (at x is) in
        omega arith)
        (λ (ne : x ≡ m → ⊥).
        let same = times_other x m p.stack ne in
        let still = ap mark (off x ne) in
        omega arith)
        (cases_eq x m)

one : (N m : ℕ) (p : Noted) → m < N → Fits N p → Pushed (m ∷ []) p (push m p)
one N m p low f =
    let long' = f.long in
    ⊎_elim
    (λ (t : marked p m ≡ true). subst (Pushed (m ∷ []) p) (sym (push_yes m p t)) (one_yes m p t))
    (λ (n : marked p m ≡ false). subst (Pushed (m ∷ []) p) (sym (push_no m p n)) (one_no m p (omega arith) n))
    (cases_Bool (marked p m))

then : (m : ℕ) (ms : List ℕ) (p q r : Noted) → Pushed (m ∷ []) p q → Pushed ms q r → Pushed (m ∷ ms) p r
then m ms p q r a b = record {
  counts = λ x. (let i = a.counts x in let j = b.counts x in omega arith);
  grows = λ y h. b.grows y (a.grows y h);
  all = λ y i. ⊎_elim (λ (is : y ≡ m). b.grows y (a.all y (inl is))) (λ j. b.all y j) i;
  keeps = λ y h. b.keeps y (a.keeps y h);
  new = λ y h. ⊎_elim (λ (s : marked q y ≡ true). ⊎_elim (λ (t : marked p y ≡ true). inl t) (λ i. inr (b.keeps y i)) (a.new y s)) (λ i. inr i) (b.new y h);
  only_marked = λ y h. ⊎_elim (λ (s : marked q y ≡ true). first (a.only_marked y s)) (λ i. inr (inr i)) (b.only_marked y h);
  only_held = λ y h. ⊎_elim (λ s. first (a.only_held y s)) (λ i. inr (inr i)) (b.only_held y h);
}
  where
    first : {P : Type 0} {y : ℕ} → P ⊎ Among y (m ∷ []) → P ⊎ Among y (m ∷ ms)
    first (inl t) = inl t
    first (inr (inl is)) = inr (inl is)
    first (inr (inr z)) = absurd z

pub pushed : (N : ℕ) (ms : List ℕ) (p : Noted) → Below N ms → Fits N p → Pushed ms p (push_all ms p)
pushed N [] p b f = record { counts = λ x. refl; grows = λ y h. h; all = λ y a. absurd a; keeps = λ y a. a; new = λ y h. inl h; only_marked = λ y h. inl h; only_held = λ y a. inl a }
pushed N (m ∷ ms) p b f = then m ms p (push m p) (push_all ms (push m p)) (one N m p b.0 f) (pushed N ms (push m p) b.1 (push_one N m p b.0 f).0)
