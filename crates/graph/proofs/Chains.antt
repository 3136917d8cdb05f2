-- What adding an edge keeps of the links.
use Rattle.std.proofs.Common.{◌≡◌, ℕ, ◌<◌, List, [], ◌∷◌, ◌++◌, length, get_or, take, set, replicate, Some, None, Option, sym, ap, ◌∙◌, subst, ⊎_elim, arith}
use Rattle.std.proofs.lemmas.List.{get_or-replicate, length_push, reverse-append, length-reverse, take-append-le, take_all}
use Rattle.std.proofs.lemmas.Bool.{cases_eq}
use Rattle.std.proofs.lemmas.Grind.{common_steps}
use Rattle.records.specs.declared.edge.Edge.{Edge}
use Rattle.records.specs.declared.edge.Direction.{Direction}
use Rattle.records.specs.Edges.{history, near}
use Rattle.graph.specs.declared.lists.Links.{Links}
use Rattle.graph.specs.Links.{newest, upto, Starts, GoesOn, Chained}

pub history_push : (rows : List Edge) (e : Edge) → history (rows ++ e ∷ []) ≡ e ∷ history rows
history_push rows e = reverse-append rows (e ∷ [])

pub starts_push : (d : Direction) (rows : List Edge) (first : List (Option ℕ)) (e : Edge) → near d e < length first → Starts d rows first → Starts d (rows ++ e ∷ []) (set first (near d e) (Some (length rows)))
starts_push d rows first e inside old n lt =
    let turned = history_push rows e in
    let long = length-reverse rows in
    let before = old n lt in
    grind (arith, common_steps)

pub goes_on_push : (d : Direction) (rows : List Edge) (first next : List (Option ℕ)) (e : Edge) → length rows < length next → near d e < 1024 → Starts d rows first → GoesOn d rows next → GoesOn d (rows ++ e ∷ []) (set next (length rows) (get_or first (near d e) None))
goes_on_push d rows first next e inside small starts old j lt =
    let more = length_push rows e in
    let back : take j (rows ++ e ∷ []) ≡ take j rows = take-append-le j rows (e ∷ []) (omega arith) in
    ⊎_elim
    (λ (is : j ≡ length rows).
    let all : take j rows ≡ rows = take_all j rows (omega arith) in
    let first_at = starts (near d e) small in
    grind (arith, common_steps))
    (λ (ne : j ≡ length rows → ⊥).
    let before = old j (omega arith) in
    grind (arith, common_steps))
    (cases_eq j (length rows))

pub chained_none : (d : Direction) (rows : List Edge) (links : Links) → rows ≡ [] → links.first ≡ replicate 1024 None → Chained d rows links
chained_none d rows links e f =
    let none : length rows ≡ 0 = ap length e in
    (λ n h. ap (λ l. upto (get_or l n None)) f ∙ ap upto (get_or-replicate 1024 n None None h) ∙ ap (λ es. newest d (history es) n) (sym e), λ j h. absurd (omega arith))

-- an edge is put in front of its node's list
pub chained_push : (d : Direction) (rows rows' : List Edge) (links links' : Links) (e : Edge) (k : ℕ) → near d e < 1024 → near d e < length links.first → k < length links.next → Chained d rows links
    → rows' ≡ rows ++ e ∷ [] → k ≡ length rows → links'.first ≡ set links.first (near d e) (Some k) → links'.next ≡ set links.next k (get_or links.first (near d e) None) → Chained d rows' links'
chained_push d rows rows' links links' e k small inside room old added number first next =
    let Goal : List Edge → List (Option ℕ) → List (Option ℕ) → Type 0 = λ es f n. Starts d es f × GoesOn d es n in
    let linked : ℕ → Type 0 = λ j. Goal (rows ++ e ∷ []) (set links.first (near d e) (Some j)) (set links.next j (get_or links.first (near d e) None)) in
    subst (λ es. Goal es links'.first links'.next) (sym added)
    (subst (λ f. Goal (rows ++ e ∷ []) f links'.next) (sym first)
    (subst (Goal (rows ++ e ∷ []) (set links.first (near d e) (Some k))) (sym next)
    (subst linked (sym number)
    (starts_push d rows links.first e inside old.0, goes_on_push d rows links.first links.next e (omega arith) small old.0 old.1))))
