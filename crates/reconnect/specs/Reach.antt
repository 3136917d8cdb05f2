-- Which nodes a reach analysis may look for.
use Rattle.std.specs.Prelude.{Bool, not}
use Rattle.records.specs.declared.node.Node.{Node}
use Rattle.records.specs.Nodes.{is_disabled}

abbrev pub is_enabled : Node → Bool
is_enabled n = not (is_disabled n)
