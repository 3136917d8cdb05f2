-- Where the elements of a list stand.
use Rattle.std.proofs.Common.{◌≡◌, ℕ, zero, suc, ◌+◌, ◌-◌, ◌<◌, ◌≤◌, cond, eqb, ◌⊎◌, List, [], ◌∷◌, ◌++◌, reverse, length, get_or, sym, refl, ap, ◌∙◌, subst, inl, inr, ⊎_elim, suc-le-suc, arith}
use Rattle.std.proofs.lemmas.List.{get_or_append_left, get_or-append_right, length-append, reverse-append}
use Rattle.std.proofs.lemmas.Bool.{cases_lt, eq-eqb, ne_eqb, cond-true, cond-false}
use Rattle.std.proofs.lemmas.Grind.{common_steps}
use Rattle.records.specs.Walks.{Among}
use Rattle.graph.specs.Order.{stands_at, Within, Complete, Once}

pub stands_here : (x : ℕ) (xs : List ℕ) (n : ℕ) → x ≡ n → stands_at (x ∷ xs) n ≡ 0
stands_here x xs n e = cond-true (eqb x n) 0 (suc (stands_at xs n)) (eq-eqb x n e)

pub stands_later : (x : ℕ) (xs : List ℕ) (n : ℕ) → (x ≡ n → ⊥) → stands_at (x ∷ xs) n ≡ suc (stands_at xs n)
stands_later x xs n e = cond-false (eqb x n) 0 (suc (stands_at xs n)) (ne_eqb x n e)

pub stands_inside : (xs : List ℕ) (n : ℕ) → Among n xs → stands_at xs n < length xs
stands_inside [] n m = absurd m
stands_inside (x ∷ xs) n m = grind (arith, common_steps, stands_inside xs n)

pub among_left : {A : Type 0} (n : A) (xs ys : List A) → Among n xs → Among n (xs ++ ys)
among_left n [] ys m = absurd m
among_left n (x ∷ xs) ys (inl e) = inl e
among_left n (x ∷ xs) ys (inr m) = inr (among_left n xs ys m)

pub among_right : {A : Type 0} (n : A) (xs ys : List A) → Among n ys → Among n (xs ++ ys)
among_right n [] ys m = m
among_right n (x ∷ xs) ys m = inr (among_right n xs ys m)

pub among_either : {A : Type 0} (n : A) (xs ys : List A) → Among n (xs ++ ys) → Among n xs ⊎ Among n ys
among_either n [] ys m = inr m
among_either n (x ∷ xs) ys m = grind (arith, common_steps, among_either n xs ys)

pub among_reverse : {A : Type 0} (n : A) (xs : List A) → Among n xs → Among n (reverse xs)
among_reverse n [] m = m
among_reverse n (x ∷ xs) (inl e) = subst (Among n) (sym (reverse-append (x ∷ []) xs)) (among_right n (reverse xs) (x ∷ []) (inl e))
among_reverse n (x ∷ xs) (inr k) = subst (Among n) (sym (reverse-append (x ∷ []) xs)) (among_left n (reverse xs) (x ∷ []) (among_reverse n xs k))

pub among_reversed : {A : Type 0} (n : A) (xs : List A) → Among n (reverse xs) → Among n xs
among_reversed n [] m = m
among_reversed n (x ∷ xs) m = grind (arith, common_steps, reverse-append (x ∷ []) xs, among_either n (reverse xs) (x ∷ []), among_reversed n xs)

pub get_or_among : {A : Type 0} (xs : List A) (i : ℕ) (d : A) → i < length xs → Among (get_or xs i d) xs
get_or_among [] i d h = absurd (omega arith)
get_or_among (x ∷ xs) zero d h = inl refl
get_or_among (x ∷ xs) (suc i) d h = inr (get_or_among xs i d (omega arith))

pub among_get_or : {A : Type 0} (x : A) (xs : List A) (d : A) → Among x xs → (i : ℕ) × (i < length xs) × (get_or xs i d ≡ x)
among_get_or x [] d m = absurd m
among_get_or x (y ∷ ys) d (inl e) = (0, omega arith, sym e)
among_get_or x (y ∷ ys) d (inr m) = let r = among_get_or x ys d m in (suc r.0, omega (arith, r.1), r.2)

pub stands_left : (xs ys : List ℕ) (n : ℕ) → Among n xs → stands_at (xs ++ ys) n ≡ stands_at xs n
stands_left [] ys n m = absurd m
stands_left (x ∷ xs) ys n m = grind (arith, common_steps, stands_left xs ys n)

pub stands_right : (xs ys : List ℕ) (n : ℕ) → (Among n xs → ⊥) → stands_at (xs ++ ys) n ≡ length xs + stands_at ys n
stands_right [] ys n out = omega arith
stands_right (x ∷ xs) ys n out = grind (arith, common_steps, stands_right xs ys n)

-- two lists in each of which no number stands twice, and that share none
pub once_append : (xs ys : List ℕ) → Once xs → Once ys → ((n : ℕ) → Among n xs → Among n ys → ⊥) → Once (xs ++ ys)
once_append xs ys a b apart i h =
    ⊎_elim
    (λ (l : i < length xs).
    let read = get_or_append_left xs ys 0 i l in
    ap (stands_at (xs ++ ys)) read ∙ stands_left xs ys (get_or xs i 0) (get_or_among xs i 0 l) ∙ a i l)
    (λ (l : length xs ≤ i).
    let long = length-append xs ys in
    let j = i - length xs in
    let low : j < length ys = omega arith in
    let read = get_or-append_right xs ys (length xs) i 0 refl l in
    let at = stands_right xs ys (get_or ys j 0) (λ m. apart (get_or ys j 0) m (get_or_among ys j 0 low)) in
    let there = b j low in
    ap (stands_at (xs ++ ys)) read ∙ at ∙ omega arith)
    (cases_lt i (length xs))

pub once_one : (x : ℕ) → Once (x ∷ [])
once_one x zero h = stands_here x [] x refl
once_one x (suc i) h = absurd (omega arith)

pub once_cons : (x : ℕ) (xs : List ℕ) → (Among x xs → ⊥) → Once xs → Once (x ∷ xs)
once_cons x xs out o zero h = stands_here x xs x refl
once_cons x xs out o (suc i) h =
    let low : i < length xs = omega arith in
    stands_later x xs (get_or xs i 0) (λ e. out (subst (λ y. Among y xs) (sym e) (get_or_among xs i 0 low))) ∙ ap suc (o i low)

pub stands_read : (xs : List ℕ) (n : ℕ) → stands_at xs n < length xs → get_or xs (stands_at xs n) 0 ≡ n
stands_read [] n h = absurd (omega arith)
stands_read (x ∷ xs) n h = grind (arith, common_steps, stands_read xs n)

-- numbers below m that go to different numbers below n are no more than those
pub fewer : (n m : ℕ) (f : ℕ → ℕ) → ((i : ℕ) → i < m → f i < n) → ((i j : ℕ) → i < m → j < m → f i ≡ f j → i ≡ j) → m ≤ n
fewer n zero f low same = omega arith
fewer zero (suc m) f low same = absurd (let z = low 0 (omega arith) in omega arith)
fewer (suc n) (suc m) f low same = suc-le-suc (fewer n m g g_low g_same)
  where
    g : ℕ → ℕ
    g i = cond (eqb (f i) n) (f m) (f i)

    g_low : (i : ℕ) → i < m → g i < n
    g_low i h = grind (arith, common_steps, low i, low m, same i m)

    g_same : (i j : ℕ) → i < m → j < m → g i ≡ g j → i ≡ j
    g_same i j h k e = grind (arith, common_steps, same i j, same i m, same m j)

-- an order that has each of the first n numbers once has n entries
pub order_length : (n : ℕ) (xs : List ℕ) → Within n xs → Complete n xs → Once xs → length xs ≡ n
order_length n xs within complete once =
    let most : length xs ≤ n = fewer n (length xs) (λ i. get_or xs i 0) within (λ i j h k e. sym (once i h) ∙ ap (stands_at xs) e ∙ once j k) in
    let least : n ≤ length xs = fewer (length xs) n (stands_at xs) complete (λ i j h k e. sym (stands_there i h) ∙ ap (λ p. get_or xs p 0) e ∙ stands_there j k) in
    omega arith
  where
    stands_there : (k : ℕ) → k < n → get_or xs (stands_at xs k) 0 ≡ k
    stands_there k h = stands_read xs k (complete k h)
