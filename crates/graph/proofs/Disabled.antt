-- A change of state that leaves disabled nodes disabled leaves the reach table true.
use Rattle.std.proofs.Common.{◌≡◌, ℕ, ◌<◌, Bool, true, false, ◌||◌, List, length, get_or, set, arith}
use Rattle.std.proofs.lemmas.List.{length-set}
use Rattle.std.proofs.lemmas.Grind.{common_steps}
use Rattle.records.specs.declared.node.Node.{Node}
use Rattle.records.specs.Nodes.{no_node, is_disabled}
use Rattle.graph.specs.Reach.{YesOrDisabled}

pub yes_put : (ns : List Node) (reach : List Bool) (n : ℕ) (x : Node) → n < length ns → is_disabled (get_or ns n no_node) ≡ is_disabled x → YesOrDisabled ns reach → YesOrDisabled (set ns n x) reach
yes_put ns reach n x there same old k h =
    let long = length-set ns n x in
    let was : get_or reach k false || is_disabled (get_or ns k no_node) ≡ true = old k (omega arith) in
    grind (arith, common_steps)
