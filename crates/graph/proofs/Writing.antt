-- What is written through a slice of the nodes.
use Rattle.std.proofs.Common.{◌≡◌, ℕ, ◌<◌, Bool, List, length, get_or, set, Option, sym, ap, ◌∙◌, subst}
use Rattle.std.proofs.lemmas.List.{length-set}
use Rattle.arrayvec.specs.ArrayVec.{ArrayVec, with_items}
use Rattle.arrayvec.proofs.ArrayVecLemmas.{items-with_items}
use Rattle.records.specs.declared.edge.Edge.{Edge}
use Rattle.records.specs.declared.node.Node.{Node}
use Rattle.records.specs.declared.node.Place.{Place}
use Rattle.records.specs.Nodes.{no_node, is_disabled}
use Rattle.graph.specs.Ordered.{OrdersAll}
use Rattle.graph.specs.Order.{OrdersNodes}
use Rattle.graph.specs.Sealing.{with_places}
use Rattle.graph.proofs.Disabled.{yes_put}
use Rattle.graph.proofs.Placing.{length_places}

pub items_set : (v : ArrayVec Node) (shown : List Node) (i : ℕ) (x : Node) → shown ≡ v.items → (with_items v (set shown i x)).items ≡ set v.items i x
items_set v shown i x same =
    let put = ap (λ ns. set ns i x) same in
    items-with_items v _ (ap length put ∙ length-set v.items i x) ∙ put

pub items_places : (v : ArrayVec Node) (shown written : List Node) (places : List (Option Place)) → shown ≡ v.items → written ≡ with_places places shown → (with_items v written).items ≡ with_places places v.items
items_places v shown written places same w =
    let placed = w ∙ ap (with_places places) same in
    items-with_items v written (ap length placed ∙ length_places places v.items) ∙ placed

-- where a node stays disabled, or stays not so, the order and the reach table still hold
pub ordered_put : (ns : List Node) (es : List Edge) (order : List ℕ) (reach : List Bool) (i : ℕ) (x : Node) → i < length ns → is_disabled (get_or ns i no_node) ≡ is_disabled x → OrdersAll ns es order reach → OrdersAll (set ns i x) es order reach
ordered_put ns es order reach i x there same o =
    let many = sym (length-set ns i x) in
    record {
      order = subst (λ n. OrdersNodes n es order) many o.order;
      reach_long = o.reach_long ∙ many;
      yes_or_disabled = yes_put ns reach i x there same o.yes_or_disabled;
      yes_goes_back = o.yes_goes_back;
    }
