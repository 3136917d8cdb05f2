-- What a walk past disabled nodes gives out.
use Rattle.std.proofs.Common.{◌≡◌, ℕ, zero, suc, ◌+◌, ◌<◌, ◌≤◌, Bool, true, false, ◌⊎◌, List, [], ◌∷◌, get_or, replicate, sym, refl, ap, ◌∙◌, subst, inl, inr, ⊎_elim, arith}
use Rattle.std.proofs.lemmas.List.{length-replicate, get_or-replicate, get_or_past}
use Rattle.std.proofs.lemmas.Bool.{cases_eq, cases_Bool, cases_lt, cond-true, cond-false, both_ways}
use Rattle.tables.specs.Steps.{Below}
use Rattle.records.specs.Walks.{Among}
use Rattle.walk_neighbors.specs.PastDisabled.{Noted, noted, push_all, drained, gone_through, pops}
use Rattle.walk_neighbors.specs.GivenOut.{times, Past, near_by, onward, Gives}
use Rattle.walk_neighbors.specs.Cursors.{Fits}
use Rattle.walk_neighbors.proofs.Stepping.{push_list, fits_new, none_left}
use Rattle.walk_neighbors.proofs.Pushing.{mark, marked, times_none, times_same, times_other, Pushed, pushed}

unmarked : (y : ℕ) → get_or (replicate 1024 false) y false ≡ false
unmarked y =
    let size = length-replicate 1024 false in
    ⊎_elim (λ (h : y < 1024). get_or-replicate 1024 y false false h) (λ (h : 1024 ≤ y). get_or_past (replicate 1024 false) y false (omega arith)) (cases_lt y 1024)

module _ (lists : ℕ → List ℕ) (off : ℕ → Bool) (N : ℕ) (inside : (x : ℕ) → Below N (lists x)) where
  clash : {x n : ℕ} → off x ≡ false → off n ≡ true → x ≡ n → ⊥
  clash {x} {n} f t is = both_ways (off x) f (ap off is ∙ t)

  -- all that a disabled node's list has is marked
  abbrev Done : List Bool → ℕ → Type 0
  Done f y = off y ≡ true → (z : ℕ) → Among z (lists y) → get_or f z false ≡ true

  abbrev Owed : Noted → Type 0
  Owed p = (y : ℕ) → marked p y ≡ true → Among y p.stack ⊎ Done p.visited y

  -- from a direct list and what is noted, a walk gave ys, and marked f in all
  pub record Ran (ms : List ℕ) (p : Noted) (ys : List ℕ) (f : List Bool) : Type 1 where
    pub counted : (x : ℕ) → off x ≡ false → times x ys + mark (marked p x) ≡ times x ms + times x p.stack + mark (get_or f x false)
    pub none : (x : ℕ) → off x ≡ true → times x ys ≡ 0
    pub grows : (y : ℕ) → marked p y ≡ true → get_or f y false ≡ true
    pub closed : Owed p → (y : ℕ) → get_or f y false ≡ true → Done f y
    pub direct : (m : ℕ) → Among m ms → Done f m
    pub sound : (P : ℕ → Type 0) → ((m : ℕ) → P m → off m ≡ true → (z : ℕ) → Among z (lists m) → P z) → ((y : ℕ) → marked p y ≡ true → P y) → ((y : ℕ) → Among y p.stack → P y) → ((m : ℕ) → Among m ms → off m ≡ true → (z : ℕ) → Among z (lists m) → P z) → (y : ℕ) → get_or f y false ≡ true → P y

  ran_none : (v : List Bool) → Ran [] (noted v []) [] v
  ran_none v = record {
    counted = λ x e. omega (arith, times_none x);
    none = λ x e. times_none x;
    grows = λ y h. h;
    closed = λ owed y h. ⊎_elim (λ a. absurd a) (λ d. d) (owed y h);
    direct = λ m a. absurd a;
    sound = λ P step vis st dir y h. vis y h;
  }

  more_given : (n : ℕ) (ys : List ℕ) → off n ≡ false → ((x : ℕ) → off x ≡ true → times x ys ≡ 0) → (x : ℕ) → off x ≡ true → times x (n ∷ ys) ≡ 0
  more_given n ys e none x t = times_other x n ys (λ is. clash e t (sym is)) ∙ none x t

  ran_give_stack : (n : ℕ) (v : List Bool) (st ys : List ℕ) (f : List Bool) → off n ≡ false → Ran [] (noted v st) ys f → Ran [] (noted v (n ∷ st)) (n ∷ ys) f
  ran_give_stack n v st ys f e r = record {
    counted = λ x en.
        let old = r.counted x en in
        ⊎_elim
        (λ (is : x ≡ n). let a = times_same x n ys is in let b = times_same x n st is in omega arith)
        (λ (ne : x ≡ n → ⊥). let a = times_other x n ys ne in let b = times_other x n st ne in omega arith)
        (cases_eq x n);
    none = more_given n ys e r.none;
    grows = r.grows;
    closed = λ owed. r.closed (λ y h. still y (owed y h));
    direct = λ m a. absurd a;
    sound = λ P step vis held dir. r.sound P step vis (λ y a. held y (inr a)) (λ m a. absurd a);
  }
    where
      still : (y : ℕ) → Among y (n ∷ st) ⊎ Done v y → Among y st ⊎ Done v y
      still y (inl (inl is)) = inr (λ t z a. absurd (clash e t (sym is)))
      still y (inl (inr a)) = inl a
      still y (inr d) = inr d

  -- what a disabled node's list leaves owed
  owed_push : (n : ℕ) (p q : Noted) → Pushed (lists n) p q → ((y : ℕ) → marked p y ≡ true → ((y ≡ n) ⊎ Among y p.stack) ⊎ Done p.visited y) → Owed q
  owed_push n p q b owed y h = ⊎_elim (λ (s : marked p y ≡ true). at (owed y s)) (λ a. inl a) (b.new y h)
    where
      at : ((y ≡ n) ⊎ Among y p.stack) ⊎ Done p.visited y → Among y q.stack ⊎ Done q.visited y
      at (inl (inl is)) = inr (λ t z a. b.all z (subst (λ m. Among z (lists m)) is a))
      at (inl (inr a)) = inl (b.keeps y a)
      at (inr d) = inr (λ t z a. b.grows z (d t z a))

  ran_push_stack : (n : ℕ) (v : List Bool) (st ys : List ℕ) (f : List Bool) → off n ≡ true → Fits N (noted v st) → Ran [] (push_all (lists n) (noted v st)) ys f → Ran [] (noted v (n ∷ st)) ys f
  ran_push_stack n v st ys f t fits r =
      let p = noted v st in
      let q = push_all (lists n) p in
      let b = pushed N (lists n) p (inside n) fits in
      record {
        counted = λ x en. (let old = r.counted x en in let c = b.counts x in let d = times_other x n st (clash en t) in omega arith);
        none = r.none;
        grows = λ y h. r.grows y (b.grows y h);
        closed = λ owed. r.closed (owed_push n p q b owed);
        direct = λ m a. absurd a;
        sound = λ P step vis held dir. r.sound P step
            (λ y h. ⊎_elim (λ (s : marked p y ≡ true). vis y s) (λ a. step n (held n (inl refl)) t y a) (b.only_marked y h))
            (λ y h. ⊎_elim (λ a. held y (inr a)) (λ a. step n (held n (inl refl)) t y a) (b.only_held y h))
            (λ m a. absurd a);
      }

  ran_give_direct : (m : ℕ) (ms : List ℕ) (p : Noted) (ys : List ℕ) (f : List Bool) → off m ≡ false → Ran ms p ys f → Ran (m ∷ ms) p (m ∷ ys) f
  ran_give_direct m ms p ys f e r = record {
    counted = λ x en.
        let old = r.counted x en in
        ⊎_elim
        (λ (is : x ≡ m). let a = times_same x m ys is in let b = times_same x m ms is in omega arith)
        (λ (ne : x ≡ m → ⊥). let a = times_other x m ys ne in let b = times_other x m ms ne in omega arith)
        (cases_eq x m);
    none = more_given m ys e r.none;
    grows = r.grows;
    closed = r.closed;
    direct = λ y a. ⊎_elim (λ (is : y ≡ m). (λ t z i. absurd (clash e t (sym is)))) (λ b. r.direct y b) a;
    sound = λ P step vis held dir. r.sound P step vis held (λ y a. dir y (inr a));
  }

  ran_push_direct : (m : ℕ) (ms : List ℕ) (p : Noted) (ys : List ℕ) (f : List Bool) → off m ≡ true → Fits N p → Ran ms (push_all (lists m) p) ys f → Ran (m ∷ ms) p ys f
  ran_push_direct m ms p ys f t fits r =
      let q = push_all (lists m) p in
      let b = pushed N (lists m) p (inside m) fits in
      record {
        counted = λ x en. (let old = r.counted x en in let c = b.counts x in let d = times_other x m ms (clash en t) in omega arith);
        none = r.none;
        grows = λ y h. r.grows y (b.grows y h);
        closed = λ owed. r.closed (owed_push m p q b (λ y h. ⊎_elim (λ a. inl (inr a)) (λ d. inr d) (owed y h)));
        direct = λ y a. ⊎_elim (λ (is : y ≡ m). (λ t' z i. r.grows z (b.all z (subst (λ k. Among z (lists k)) is i)))) (λ i. r.direct y i) a;
        sound = λ P step vis held dir. r.sound P step
            (λ y h. ⊎_elim (λ (s : marked p y ≡ true). vis y s) (λ a. dir m (inl refl) t y a) (b.only_marked y h))
            (λ y h. ⊎_elim (λ a. held y a) (λ a. dir m (inl refl) t y a) (b.only_held y h))
            (λ y a. dir y (inr a));
      }

  pub record Run (ms : List ℕ) (p : Noted) (ys : List ℕ) : Type 1 where
    pub final : List Bool
    pub ran : Ran ms p ys final

  run_stack : (k : ℕ) (v : List Bool) (st : List ℕ) → Fits N (noted v st) → pops N (noted v st) ≤ k → Run [] (noted v st) (drained lists off k (noted v st))
  run_stack k v [] fits h = subst (Run [] (noted v [])) (sym (none_left lists off k v)) (record { final = v; ran = ran_none v })
  run_stack zero v (n ∷ st) fits h = absurd (omega arith)
  run_stack (suc k) v (n ∷ st) fits h =
      let room' = fits.room in
      let fits' : Fits N (noted v st) = record { long = fits.long; below = fits.below.1; room = omega arith } in
      let next = push_list N (lists n) (noted v st) (inside n) fits' in
      let same = next.1 in
      let q = push_all (lists n) (noted v st) in
      ⊎_elim
      (λ (t : off n ≡ true).
      let r = run_stack k q.visited q.stack next.0 (omega arith) in
      subst (Run [] (noted v (n ∷ st))) (sym (cond-true (off n) (drained lists off k q) (n ∷ drained lists off k (noted v st)) t))
      (record { final = r.final; ran = ran_push_stack n v st (drained lists off k q) r.final t fits' r.ran }))
      (λ (e : off n ≡ false).
      let r = run_stack k v st fits' (omega arith) in
      subst (Run [] (noted v (n ∷ st))) (sym (cond-false (off n) (drained lists off k q) (n ∷ drained lists off k (noted v st)) e))
      (record { final = r.final; ran = ran_give_stack n v st (drained lists off k (noted v st)) r.final e r.ran }))
      (cases_Bool (off n))

  run_all : (k : ℕ) (ms : List ℕ) (p : Noted) → Fits N p → pops N p ≤ k → Run ms p (gone_through lists off k ms p)
  run_all k [] p fits h = run_stack k p.visited p.stack fits h
  run_all k (m ∷ ms) p fits h =
      let next = push_list N (lists m) p (inside m) fits in
      let same = next.1 in
      let q = push_all (lists m) p in
      ⊎_elim
      (λ (t : off m ≡ true).
      let r = run_all k ms q next.0 (omega arith) in
      subst (Run (m ∷ ms) p) (sym (cond-true (off m) (gone_through lists off k ms q) (m ∷ gone_through lists off k ms p) t))
      (record { final = r.final; ran = ran_push_direct m ms p (gone_through lists off k ms q) r.final t fits r.ran }))
      (λ (e : off m ≡ false).
      let r = run_all k ms p fits h in
      subst (Run (m ∷ ms) p) (sym (cond-false (off m) (gone_through lists off k ms q) (m ∷ gone_through lists off k ms p) e))
      (record { final = r.final; ran = ran_give_direct m ms p (gone_through lists off k ms p) r.final e r.ran }))
      (cases_Bool (off m))

  -- what is past disabled nodes is marked
  past_marked : (start : List ℕ) (f : List Bool) → ((m : ℕ) → Among m start → Done f m) → ((y : ℕ) → get_or f y false ≡ true → Done f y) → (x : ℕ) → Past lists off start x → get_or f x false ≡ true
  past_marked start f dir closed x (near_by {m} a t i) = dir m a t x i
  past_marked start f dir closed x (onward {m} h t i) = closed m (past_marked start f dir closed m h) t x i

  pub gives : (start : List ℕ) → N ≤ 1024 → Gives lists off start (gone_through lists off N start (noted (replicate 1024 false) []))
  gives start small =
      let p₀ = noted (replicate 1024 false) [] in
      let new = fits_new N small in
      let run = run_all N start p₀ new.0 (omega (arith, new.1)) in
      let f = run.final in
      let r = run.ran in
      let bad : (y : ℕ) → marked p₀ y ≡ true → ⊥ = λ y h. both_ways (marked p₀ y) (unmarked y) h in
      let closed = r.closed (λ y h. absurd (bad y h)) in
      let is_past : (y : ℕ) → get_or f y false ≡ true → Past lists off start y = r.sound (Past lists off start) (λ m h t z i. onward h t i) (λ y h. absurd (bad y h)) (λ y a. absurd a) (λ m a t z i. near_by a t i) in
      record {
        enabled = r.none;
        direct = λ x e out.
            let old = r.counted x e in
            let none = times_none x in
            let blank : mark (marked p₀ x) ≡ 0 = ap mark (unmarked x) in
            ⊎_elim (λ (t : get_or f x false ≡ true). absurd (out (is_past x t))) (λ (u : get_or f x false ≡ false). let w = ap mark u in omega arith) (cases_Bool (get_or f x false));
        past = λ x e h.
            let old = r.counted x e in
            let none = times_none x in
            let blank : mark (marked p₀ x) ≡ 0 = ap mark (unmarked x) in
            let w : mark (get_or f x false) ≡ 1 = ap mark (past_marked start f r.direct closed x h) in
            omega arith;
      }
