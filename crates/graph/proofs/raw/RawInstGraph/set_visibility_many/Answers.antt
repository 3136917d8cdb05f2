use Rattle.std.proofs.Common.{◌≡◌, rules}
use Rattle.std.proofs.lemmas.Iterator.{YieldsList-from_slice}
use Rattle.std.proofs.lemmas.Iterator.Consumers.{YieldsList-from_copied}
use Rattle.graph.specs.Hiding.{change, show_in_turn}
use Rattle.graph.specs.Model.{model}
use Rattle.graph.proofs.Turning.{turned_list}
use Rattle.graph.proofs.Turns.{all_in_turn}
use Rattle.graph.proofs.raw.RawInstGraph.set_visibility_many.Goals as goal

shown : (c : goal.After-show_each) → change c.show_each.result (model c.show_each.new.self) ≡ show_in_turn c.args.to c.args.numbers.now (model c.args.self.now)
shown c = all_in_turn _ c.args.numbers.now _ _ c.show_each.ensures (YieldsList-from_copied (YieldsList-from_slice c.args.numbers.now (cc)))

pub returns-clause-whole : goal.returns-clause-whole
returns-clause-whole c = let e = shown c in search rules

pub returns-clause-law : goal.returns-clause-law
returns-clause-law c = turned_list _ _ _ _ _ (shown c)
