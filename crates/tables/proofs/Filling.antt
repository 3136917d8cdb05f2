-- A table that is filled from its start.
use Rattle.std.proofs.Common.{◌≡◌, ℕ, ◌+◌, ◌-◌, ◌<◌, ◌≤◌, List, [], ◌∷◌, ◌++◌, length, get_or, take, drop, set, replicate, sym, ap, ◌∙◌, append_assoc, arith}
use Rattle.std.proofs.lemmas.List.{drop_all, length-take-le, drop_more, set_at, replicate_more, length-replicate, length-append, length-drop, get_or_append_left, get_or-append_right, get_or-replicate, get_or-drop}
use Rattle.tables.specs.Filled.{filled}

pub fill_step : {V : Type 0} (t : List V) (i : ℕ) (v : V) → i < length t → set (filled i v t) i v ≡ filled (i + 1) v t
fill_step t i v h =
    ap (λ rest. set (replicate i v ++ rest) i v) (drop_more t i v h)
    ∙ set_at (replicate i v) (get_or t i v) (drop (i + 1) t) v i (length-replicate i v)
    ∙ sym (append_assoc (replicate i v) (v ∷ []) (drop (i + 1) t))
    ∙ ap (λ front. front ++ drop (i + 1) t) (replicate_more i v)

pub length_filled : {V : Type 0} (n : ℕ) (v : V) (t : List V) → n ≤ length t → length (filled n v t) ≡ length t
length_filled n v t h =
    let whole = length-append (replicate n v) (drop n t) in
    let front = length-replicate n v in
    let back = length-drop n t in
    omega arith

pub filled_below : {V : Type 0} (n k : ℕ) (v d : V) (t : List V) → k < n → get_or (filled n v t) k d ≡ v
filled_below n k v d t h =
    let front = length-replicate n v in
    get_or_append_left (replicate n v) (drop n t) d k (omega arith) ∙ get_or-replicate n k v d h

pub filled_past : {V : Type 0} (n k : ℕ) (v d : V) (t : List V) → n ≤ k → get_or (filled n v t) k d ≡ get_or t k d
filled_past n k v d t h =
    get_or-append_right (replicate n v) (drop n t) n k d (length-replicate n v) h
    ∙ get_or-drop n t (k - n) d
    ∙ ap (λ i. get_or t i d) (omega arith)

-- the front of a table is filled by itself
pub front_filled : {V : Type 0} (t : List V) (n i : ℕ) (v : V) → n ≤ length t → i ≡ length (take n t) → filled i v (take n t) ++ drop n t ≡ filled n v t
front_filled t n i v h e =
    let long = length-take-le n t h in
    let same : i ≡ n = e ∙ long in
    let nothing : drop i (take n t) ≡ [] = drop_all i (take n t) (omega arith) in
    append_assoc (replicate i v) (drop i (take n t)) (drop n t)
    ∙ ap (λ rest. replicate i v ++ (rest ++ drop n t)) nothing
    ∙ ap (λ k. replicate k v ++ drop n t) same
