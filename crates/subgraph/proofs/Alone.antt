-- Adding the nodes without edges, one after another.
use Rattle.std.proofs.Common.{◌≡◌, ℕ, ◌+◌, ◌<◌, ◌≤◌, true, false, List, [], ◌∷◌, ◌++◌, length, sym, ap, ◌∙◌, append_assoc, arith}
use Rattle.std.proofs.lemmas.List.{length-append}
use Rattle.records.specs.declared.edge.Edge.{Edge}
use Rattle.subgraph.specs.declared.places.Subgraphs.{Subgraphs}
use Rattle.subgraph.specs.Subgraphs.{in_order, in_parts}
use Rattle.subgraph.specs.Wholes.{alone, singletons}
use Rattle.subgraph.proofs.Wholes.{passing_taken, passing_left, passing_room}

-- s is t with those of the first n nodes that have no edge
pub record Added (es : List Edge) (n : ℕ) (t s : Subgraphs) : Type 0 where
  pub order : in_order s ≡ in_order t ++ singletons es n
  pub parts : in_parts s ≡ length (in_order t)
  pub count : s.count ≡ t.count
  pub places : s.places ≡ t.places

module _ (es : List Edge) (n : ℕ) {t : Subgraphs} (s : Subgraphs) (added : Added es n t s) where
  pub added_kept : (s' : Subgraphs) → s' ≡ s → alone es n ≡ false → Added es (n + 1) t s'
  added_kept s' same has =
      record {
        order = ap in_order same ∙ added.order ∙ ap (λ l. in_order t ++ l) (sym (passing_left (alone es) n has));
        parts = ap in_parts same ∙ added.parts;
        count = ap (λ (x : Subgraphs). x.count) same ∙ added.count;
        places = ap (λ (x : Subgraphs). x.places) same ∙ added.places;
      }

  pub added_taken : (s' : Subgraphs) → alone es n ≡ true → in_order s' ≡ in_order s ++ n ∷ [] → in_parts s' ≡ in_parts s → s'.count ≡ s.count → s'.places ≡ s.places → Added es (n + 1) t s'
  added_taken s' yes' o p c q =
      record {
        order = o ∙ ap (λ l. l ++ n ∷ []) added.order ∙ append_assoc (in_order t) (singletons es n) (n ∷ []) ∙ ap (λ l. in_order t ++ l) (sym (passing_taken (alone es) n yes'));
        parts = p ∙ added.parts;
        count = c ∙ added.count;
        places = q ∙ added.places;
      }

  pub added_room : (N : ℕ) → n < N → alone es n ≡ true → length (in_order t) + length (singletons es N) ≤ 1024 → length (in_order s) < 1024
  added_room N low yes' all =
      let more = passing_room (alone es) N n low yes' in
      let now' = ap length added.order ∙ length-append (in_order t) (singletons es n) in
      omega arith
