-- What a node sees along its edges is what they join it with.
use Rattle.std.proofs.Common.{◌≡◌, ℕ, ◌<◌, Bool, true, false, eqb, List, [], ◌∷◌, length, get_or, sym, refl, ap, ◌∙◌, subst, inl, inr, arith}
use Rattle.std.proofs.lemmas.Bool.{eqb-true}
use Rattle.std.proofs.lemmas.Grind.{common_steps}
use Rattle.records.specs.declared.edge.Edge.{Edge}
use Rattle.records.specs.declared.edge.Direction.{Direction}
use Rattle.records.specs.declared.edge.Direction.TheVariants.{Outgoing, Incoming}
use Rattle.records.specs.Edges.{no_edge, history, near, far, add_if, neighbours}
use Rattle.records.specs.Walks.{Among, Joins}
use Rattle.graph.proofs.Standings.{among_reverse, among_reversed, get_or_among, among_get_or}

-- an edge of a list, seen from one of its ends
pub record Seen (d : Direction) (es : List Edge) (n k : ℕ) : Type 0 where
  pub edge : Edge
  pub there : Among edge es
  pub near_end : near d edge ≡ n
  pub far_end : far d edge ≡ k

pub seen_edge : (d : Direction) (es : List Edge) (n k : ℕ) → Among k (neighbours d es n) → Seen d es n k
seen_edge d [] n k m = absurd m
seen_edge d (e ∷ es) n k m = here (λ r. later (seen_edge d es n k r)) (eqb (near d e) n) refl m
  where
    later : Seen d es n k → Seen d (e ∷ es) n k
    later s = record { edge = s.edge; there = inr s.there; near_end = s.near_end; far_end = s.far_end }

    here : (Among k (neighbours d es n) → Seen d (e ∷ es) n k) → (b : Bool) → eqb (near d e) n ≡ b → Among k (add_if b (far d e) (neighbours d es n)) → Seen d (e ∷ es) n k
    here rest true q (inl r) = record { edge = e; there = inl refl; near_end = eqb-true (near d e) n q; far_end = sym r }
    here rest true q (inr r) = rest r
    here rest false q r = rest r

pub edge_seen : (d : Direction) (es : List Edge) (n : ℕ) (x : Edge) → Among x es → near d x ≡ n → Among (far d x) (neighbours d es n)
edge_seen d [] n x m e = absurd m
edge_seen d (y ∷ ys) n x m e = grind (arith, common_steps, edge_seen d ys n x)

-- an edge from one node to another, along a direction
abbrev pub Along : Direction → List Edge → ℕ → ℕ → Type 0
Along Outgoing es a b = Joins es a b
Along Incoming es a b = Joins es b a

pub seen_joins : (d : Direction) (es : List Edge) (n k : ℕ) → Among k (neighbours d (history es) n) → Along d es n k
seen_joins d es n k m =
    let s = seen_edge d (history es) n k m in
    let at = among_get_or s.edge es no_edge (among_reversed s.edge es s.there) in
    along d at.0 at.1 (ap (near d) at.2 ∙ s.near_end) (ap (far d) at.2 ∙ s.far_end)
  where
    along : (w : Direction) (e : ℕ) → e < length es → near w (get_or es e no_edge) ≡ n → far w (get_or es e no_edge) ≡ k → Along w es n k
    along Outgoing e h p q = (e, (h, p, q))
    along Incoming e h p q = (e, (h, q, p))

pub joins_seen : (d : Direction) (es : List Edge) (n k : ℕ) → Along d es n k → Among k (neighbours d (history es) n)
joins_seen Outgoing es n k (e, (h, s, t)) =
    let x = get_or es e no_edge in subst (λ j. Among j (neighbours Outgoing (history es) n)) t (edge_seen Outgoing (history es) n x (among_reverse x es (get_or_among es e no_edge h)) s)
joins_seen Incoming es n k (e, (h, s, t)) =
    let x = get_or es e no_edge in subst (λ j. Among j (neighbours Incoming (history es) n)) s (edge_seen Incoming (history es) n x (among_reverse x es (get_or_among es e no_edge h)) t)
