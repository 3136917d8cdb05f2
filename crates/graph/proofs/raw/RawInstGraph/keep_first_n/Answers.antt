use Rattle.std.proofs.Common.{◌≡◌, rules}
use Rattle.std.proofs.lemmas.Iterator.{YieldsList-from_slice}
use Rattle.std.proofs.lemmas.Iterator.Consumers.{YieldsList-from_copied}
use Rattle.records.specs.declared.node.Visibility.TheVariants.{Hidden}
use Rattle.graph.specs.Hiding.{change, after_shown, keep_first}
use Rattle.graph.specs.Model.{model}
use Rattle.graph.proofs.Keeping.{kept_first}
use Rattle.graph.proofs.Turns.{all_in_turn}
use Rattle.graph.proofs.raw.RawInstGraph.keep_first_n.Goals as goal

hidden : (c : goal.After-show_each) → change c.show_each.result (model c.show_each.new.self) ≡ keep_first c.args.n c.args.numbers.now (model c.args.self.now)
hidden c =
    let rest = after_shown c.args.n c.args.numbers.now (model c.args.self.now) in
    all_in_turn Hidden rest _ _ c.show_each.ensures (YieldsList-from_copied (YieldsList-from_slice rest (cc)))

pub returns-clause-whole : goal.returns-clause-whole
returns-clause-whole c = let e = hidden c in search rules

pub returns-clause-law : goal.returns-clause-law
returns-clause-law c = kept_first _ _ _ _ _ (hidden c)
