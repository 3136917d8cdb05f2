-- What is shown of a graph's subgraphs beside their number and the places.
use Rattle.std.specs.Prelude.{ℕ, List}
use Rattle.subgraph.specs.declared.places.Subgraphs.{Subgraphs}

-- the nodes of the order, the first node first
abbrev pub in_order : Subgraphs → List ℕ
in_order s = s.order.items

-- how many of them are in subgraphs; these stand first
abbrev pub in_parts : Subgraphs → ℕ
in_parts s = s.in_subgraphs
