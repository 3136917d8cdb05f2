-- A link to the newest edge at a node leads through all that the node sees.
use Rattle.std.proofs.Common.{◌≡◌, ℕ, suc, ◌<◌, ◌≤◌, true, false, eqb, List, [], ◌∷◌, ◌++◌, reverse, length, get_or, take, drop, Some, None, Option, sym, refl, ap, ◌∙◌, add-one, inl, ⊎_elim, arith}
use Rattle.std.proofs.lemmas.List.{get_or_append_left, get_or_push, length-take-le, length-append, length-reverse, reverse-reverse, reverse-append, take-append-le, take-append-drop, take_all, take_more}
use Rattle.std.proofs.lemmas.Bool.{cases_Bool}
use Rattle.std.proofs.lemmas.Grind.{common_steps}
use Rattle.records.specs.declared.edge.Edge.{Edge}
use Rattle.records.specs.declared.edge.Direction.{Direction}
use Rattle.records.specs.declared.edge.Direction.TheVariants.{Outgoing, Incoming}
use Rattle.records.specs.Edges.{no_edge, history, near, far, neighbours}
use Rattle.records.specs.Walks.{Among}
use Rattle.graph.specs.Cursors.{seen}
use Rattle.graph.specs.Links.{newest, upto}
use Rattle.graph.specs.Order.{Ends}
use Rattle.graph.proofs.Chains.{history_push}
use Rattle.graph.proofs.Seen.{Along, seen_joins}

newest_low : (d : Direction) (es : List Edge) (n : ℕ) → newest d es n ≤ length es
newest_low d [] n = omega arith
newest_low d (e ∷ es) n = grind (arith, common_steps, newest_low d es n)

-- later edges change nothing of it
seen_more : (d : Direction) (rows later : List Edge) (link : Option ℕ) → upto link ≤ length rows → seen d (rows ++ later) link ≡ seen d rows link
seen_more d rows later None h = refl
seen_more d rows later (Some e) h =
    let long = length-append rows later in
    let here = get_or_append_left rows later no_edge e (omega arith) in
    let front = take-append-le (suc e) rows later (omega arith) in
    grind (arith, common_steps)

-- the newest edge at n leads to all that n sees; the edges stand newest first
seen_newest : (d : Direction) (es : List Edge) (n : ℕ) (link : Option ℕ) → upto link ≡ newest d es n → seen d (reverse es) link ≡ neighbours d es n
seen_newest d [] n None h = refl
seen_newest d [] n (Some e) h = absurd (omega arith)
seen_newest d (x ∷ es) n link h =
    let turned = reverse-append (x ∷ []) es in
    let long = length-reverse es in
    let low = newest_low d es n in
    let same = seen_more d (reverse es) (x ∷ []) link in
    let rest = seen_newest d es n link in
    ⊎_elim
    (λ (yes' : eqb (near d x) n ≡ true). here link (grind (arith, common_steps)) yes')
    (λ (no' : eqb (near d x) n ≡ false). grind (arith, common_steps))
    (cases_Bool (eqb (near d x) n))
  where
    here : (link : Option ℕ) → upto link ≡ suc (length es) → eqb (near d x) n ≡ true → seen d (reverse (x ∷ es)) link ≡ neighbours d (x ∷ es) n
    here None q y = absurd (omega arith)
    here (Some e) q y =
        let turned = reverse-append (x ∷ []) es in
        let long = length-reverse (x ∷ es) in
        let size = length-reverse es in
        let row : get_or (reverse es ++ x ∷ []) e no_edge ≡ x = get_or_push (reverse es) x no_edge e (omega arith) in
        let whole : history (take (suc e) (reverse (x ∷ es))) ≡ x ∷ es = ap history (take_all (suc e) (reverse (x ∷ es)) (omega arith)) ∙ reverse-reverse (x ∷ es) in
        grind (arith, common_steps)

pub seen_first : (d : Direction) (rows : List Edge) (n : ℕ) (link : Option ℕ) → upto link ≡ newest d (history rows) n → seen d rows link ≡ neighbours d (history rows) n
seen_first d rows n link h = ap (λ es. seen d es link) (sym (reverse-reverse rows)) ∙ seen_newest d (history rows) n link h

pub seen_next : (d : Direction) (rows : List Edge) (e : ℕ) (link : Option ℕ) → e < length rows → upto link ≡ newest d (history (take e rows)) (near d (get_or rows e no_edge)) → seen d rows (Some e) ≡ far d (get_or rows e no_edge) ∷ seen d rows link
seen_next d rows e link h older =
    let row = get_or rows e no_edge in
    let front = take e rows in
    let size = length-take-le e rows (omega arith) in
    let turned = length-reverse front in
    let low = newest_low d (history front) (near d row) in
    let more : take (suc e) rows ≡ front ++ row ∷ [] = rw (add-one e) at (take_more rows e no_edge h) in
    let rest : seen d rows link ≡ neighbours d (history front) (near d row) =
    ap (λ es. seen d es link) (sym (take-append-drop e rows)) ∙ seen_more d front (drop e rows) link (omega arith) ∙ seen_first d front (near d row) link older
    in
    grind (arith, common_steps, history_push front row)

none_among : (xs : List ℕ) → ((z : ℕ) → Among z xs → ⊥) → xs ≡ []
none_among [] h = refl
none_among (x ∷ xs) h = absurd (h x (inl refl))

-- a number past the ends of all edges sees nothing
pub none_seen : (d : Direction) (rows : List Edge) (bound n : ℕ) → Ends bound rows → bound ≤ n → neighbours d (history rows) n ≡ []
none_seen d rows bound n ends h = none_among (neighbours d (history rows) n) (λ z a. out d z (seen_joins d rows n z a))
  where
    out : (w : Direction) (z : ℕ) → Along w rows n z → ⊥
    out Outgoing z (e, j) = let low = ends e j.0 in omega arith
    out Incoming z (e, j) = let low = ends e j.0 in omega arith
