-- What holds of a sealed graph's order and reach table.
use Rattle.std.specs.Prelude.{◌≡◌, ℕ, Bool, List, length}
use Rattle.records.specs.declared.edge.Edge.{Edge}
use Rattle.records.specs.declared.node.Node.{Node}
use Rattle.graph.specs.Order.{OrdersNodes}
use Rattle.graph.specs.Reach.{YesOrDisabled, YesGoesBack}

-- the order has each node once, sources before targets, and the reach table has an entry for each node
pub record OrdersAll (nodes : List Node) (edges : List Edge) (numbers : List ℕ) (reach : List Bool) : Type 0 where
  pub order : OrdersNodes (length nodes) edges numbers
  pub reach_long : length reach ≡ length nodes
  pub yes_or_disabled : YesOrDisabled nodes reach
  pub yes_goes_back : YesGoesBack edges reach
