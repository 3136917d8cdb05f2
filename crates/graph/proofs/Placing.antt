-- Places that are given node by node.
use Rattle.std.proofs.Common.{◌≡◌, ℕ, ◌+◌, ◌<◌, ◌≤◌, List, length, get_or, set, None, Option, sym, refl, ap, ◌∙◌, arith}
use Rattle.std.proofs.lemmas.List.{length-map, ext_get_or}
use Rattle.std.proofs.lemmas.List.FromFn.{get_or-map-range_with_len, length-range_with_len}
use Rattle.std.proofs.lemmas.Grind.{common_steps}
use Rattle.std.specs.List.{range_with_len}
use Rattle.records.specs.declared.node.Node.{Node}
use Rattle.records.specs.declared.node.NodeState.{NodeState}
use Rattle.records.specs.declared.node.Place.{Place}
use Rattle.records.specs.Nodes.{no_node}
use Rattle.graph.specs.Sealing.{in_place, with_places}
use Rattle.graph.specs.Tallies.{tally}
use Rattle.graph.proofs.Counting.{tally_same}

-- the first i nodes have their places, and the others are as they were
pub record Placed (places : List (Option Place)) (nodes : List Node) (i : ℕ) (now' : List Node) : Type 0 where
  pub long : length now' ≡ length nodes
  pub done : (k : ℕ) → k < i → get_or now' k no_node ≡ in_place (get_or places k None) (get_or nodes k no_node)
  pub rest : (k : ℕ) → i ≤ k → get_or now' k no_node ≡ get_or nodes k no_node

module _ (places : List (Option Place)) (nodes : List Node) where
  pub placed_none : Placed places nodes 0 nodes
  placed_none = record { long = refl; done = λ k h. absurd (omega arith); rest = λ k h. refl }

  pub placed_more : (i : ℕ) (now' : List Node) → i < length nodes → Placed places nodes i now' → Placed places nodes (i + 1) (set now' i (in_place (get_or places i None) (get_or now' i no_node)))
  placed_more i now' h p =
      let l = p.long in record {
        long = grind (arith, common_steps);
        done = λ k lt. grind (arith, common_steps, p.done k, p.rest i);
        rest = λ k le. grind (arith, common_steps, p.rest k);
      }

  pub length_places : length (with_places places nodes) ≡ length nodes
  length_places = length-map (range_with_len 0 (length nodes)) _ ∙ length-range_with_len 0 (length nodes)

  placed_at : (k : ℕ) → k < length nodes → get_or (with_places places nodes) k no_node ≡ in_place (get_or places k None) (get_or nodes k no_node)
  placed_at k h = get_or-map-range_with_len (λ j. in_place (get_or places j None) (get_or nodes j no_node)) 0 (length nodes) k k no_node h (omega arith)

  pub placed_all : (i : ℕ) (now' : List Node) → length nodes ≤ i → Placed places nodes i now' → now' ≡ with_places places nodes
  placed_all i now' le p =
      let l = p.long in
      ext_get_or no_node now' (with_places places nodes) (p.long ∙ sym length_places) (λ k h. p.done k (omega arith) ∙ sym (placed_at k (omega arith)))

  -- a place is no state
  pub tally_places : (s : NodeState) → tally s (with_places places nodes) ≡ tally s nodes
  tally_places s =
      let l = length_places in
      tally_same s (with_places places nodes) nodes length_places (λ k h. ap (λ (n : Node). n.state) (placed_at k (omega arith)))
