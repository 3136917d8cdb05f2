-- A graph that is sealed just now.
use Rattle.std.proofs.Common.{◌≡◌, ℕ, ◌<◌, true, false, not, ◌||◌, Bool, List, length, get_or, replicate, sym, ap, ◌∙◌, subst}
use Rattle.std.proofs.lemmas.List.{get_or-replicate, length-replicate}
use Rattle.records.specs.declared.edge.Edge.{Edge}
use Rattle.records.specs.declared.node.Node.{Node}
use Rattle.records.specs.Edges.{no_edge}
use Rattle.records.specs.Nodes.{no_node, is_disabled}
use Rattle.graph.specs.Order.{Ends, OrdersNodes}
use Rattle.graph.specs.Ordered.{OrdersAll}

-- every node counts as one from which a node that is not disabled can be reached
all_yes : (nodes : List Node) (edges : List Edge) (order : List ℕ) → Ends (length nodes) edges → OrdersNodes (length nodes) edges order → OrdersAll nodes edges order (replicate (length nodes) true)
all_yes nodes edges order ends orders = record {
  order = orders;
  reach_long = length-replicate (length nodes) true;
  yes_or_disabled = λ k h. ap (λ b. b || is_disabled (get_or nodes k no_node)) (yes_at k h);
  yes_goes_back = λ e h. ap (λ b. b || not (get_or (replicate (length nodes) true) (get_or edges e no_edge).target false)) (yes_at (get_or edges e no_edge).source (ends e h).0);
}
  where
    yes_at : (k : ℕ) → k < length nodes → get_or (replicate (length nodes) true) k false ≡ true
    yes_at k h = get_or-replicate (length nodes) k true false h

pub ordered_all : (was nodes : List Node) (edges : List Edge) (given order : List ℕ) (reach : List Bool) → length nodes ≡ length was → order ≡ given → reach ≡ replicate (length given) true → Ends (length was) edges
    → OrdersNodes (length was) edges given → OrdersAll nodes edges order reach
ordered_all was nodes edges given order reach many is filled ends orders =
    let same = sym many in
    subst (λ o. OrdersAll nodes edges o reach) (sym is)
    (subst (OrdersAll nodes edges given) (sym (filled ∙ ap (λ n. replicate n true) (orders.long ∙ same)))
    (all_yes nodes edges given (subst (λ n. Ends n edges) same ends) (subst (λ n. OrdersNodes n edges given) same orders)))
