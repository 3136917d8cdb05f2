-- What holds of every graph.
use Rattle.std.specs.Prelude.{◌≡◌, ◌≤◌, [], length}
use Rattle.records.specs.declared.stage.Stage.TheVariants.{Open, Sealed}
use Rattle.graph.specs.Model.{Model}
use Rattle.graph.specs.Order.{Ends}
use Rattle.graph.specs.Ordered.{OrdersAll}

-- a sealed graph's order has each node once, sources before targets, and its reach table has an entry for each node
abbrev pub Ordered : Model → Type 0
Ordered m = OrdersAll m.nodes m.edges m.order m.reach

pub record Sound (m : Model) : Type 0 where
  pub few_nodes : length m.nodes ≤ 1024
  pub few_edges : length m.edges ≤ 4096
  pub ends : Ends (length m.nodes) m.edges
  pub no_order : m.stage ≡ Open → m.order ≡ []
  pub no_reach : m.stage ≡ Open → m.reach ≡ []
  pub ordered : m.stage ≡ Sealed → Ordered m
