-- How the number of blanks goes with marks.
use Rattle.std.proofs.Common.{◌≡◌, ℕ, zero, suc, ◌<◌, ◌≤◌, Bool, true, false, cond, ◌≢◌, List, length, get_or, set, replicate, sym, refl, ap, ◌∙◌, ⊎_elim, arith}
use Rattle.std.proofs.lemmas.List.{get_or-set_same, get_or-set_other, get_or-replicate}
use Rattle.std.proofs.lemmas.Bool.{cases_eq, cases_Bool, cond-true, cond-false}
use Rattle.tables.specs.Marks.{blanks}

pub blanks_past : (n j : ℕ) (t : List Bool) (b : Bool) → n ≤ j → blanks n (set t j b) ≡ blanks n t
blanks_past zero j t b h = refl
blanks_past (suc n) j t b h =
    let ne : n ≢ j = omega arith in
    let here = get_or-set_other t j n b false ne in
    let rest = blanks_past n j t b (omega arith) in
    cc

-- a yes where there was a no
pub blanks_set : (n j : ℕ) (t : List Bool) → j < n → j < length t → get_or t j false ≡ false → blanks n t ≡ suc (blanks n (set t j true))
blanks_set zero j t h l e = absurd (omega arith)
blanks_set (suc n) j t h l e =
    ⊎_elim
    (λ (is : n ≡ j).
    let was : get_or t n false ≡ false = ap (λ i. get_or t i false) is ∙ e in
    let now' : get_or (set t j true) n false ≡ true = ap (λ i. get_or (set t j true) i false) is ∙ get_or-set_same t j true false l in
    let rest = blanks_past n j t true (omega arith) in
    cond-false _ _ _ was ∙ ap suc (sym rest) ∙ ap suc (sym (cond-true _ _ _ now')))
    (λ (ne : n ≡ j → ⊥).
    let here = get_or-set_other t j n true false ne in
    let rest = blanks_set n j t (omega arith) l e in
    ⊎_elim
    (λ (y : get_or t n false ≡ true). cond-true _ _ _ y ∙ rest ∙ ap suc (sym (cond-true _ _ _ (here ∙ y))))
    (λ (y : get_or t n false ≡ false). cond-false _ _ _ y ∙ ap suc rest ∙ ap suc (sym (cond-false _ _ _ (here ∙ y))))
    (cases_Bool (get_or t n false)))
    (cases_eq n j)

-- where no blank is left, every entry is yes
pub no_blanks : (n j : ℕ) (t : List Bool) → blanks n t ≡ 0 → j < n → get_or t j false ≡ true
no_blanks zero j t h l = absurd (omega arith)
no_blanks (suc n) j t h l =
    ⊎_elim
    (λ (y : get_or t n false ≡ true).
    let rest : blanks n t ≡ 0 = sym (cond-true _ _ _ y) ∙ h in
    ⊎_elim (λ (is : j ≡ n). ap (λ i. get_or t i false) is ∙ y) (λ (ne : j ≡ n → ⊥). no_blanks n j t rest (omega arith)) (cases_eq j n))
    (λ (y : get_or t n false ≡ false). let bad : suc (blanks n t) ≡ 0 = sym (cond-false _ _ _ y) ∙ h in absurd (omega arith))
    (cases_Bool (get_or t n false))

pub blanks_le : (n : ℕ) (v : List Bool) → blanks n v ≤ n
blanks_le zero v = omega arith
blanks_le (suc n) v =
    let rest = blanks_le n v in
    elim (get_or v n false) as (λ b. cond b (blanks n v) (suc (blanks n v)) ≤ suc n) [ true ↦ omega arith | false ↦ omega arith ]

pub blanks_new : (n k : ℕ) → n ≤ k → blanks n (replicate k false) ≡ n
blanks_new zero k h = refl
blanks_new (suc n) k h = cond-false _ _ _ (get_or-replicate k n false false (omega arith)) ∙ ap suc (blanks_new n k (omega arith))
