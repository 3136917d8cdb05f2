use Rattle.std.proofs.Common.{◌≡◌, length, arith, rules}
use Rattle.std.proofs.lemmas.Iterator.{YieldsList-from_range}
use Rattle.std.specs.List.{range_with_len}
use Rattle.graph.specs.Hiding.{change, show_all}
use Rattle.graph.specs.Model.{model}
use Rattle.graph.proofs.Turning.{turned_every}
use Rattle.graph.proofs.Turns.{all_in_turn}
use Rattle.graph.proofs.raw.RawInstGraph.reset_visibility_to.Goals as goal

shown : (c : goal.After-show_each) → change c.show_each.result (model c.show_each.new.self) ≡ show_all c.args.to (model c.args.self.now)
shown c = all_in_turn _ (range_with_len 0 (length (model c.args.self.now).nodes)) _ _ c.show_each.ensures (YieldsList-from_range 0 c.len-count.result (length (model c.args.self.now).nodes) (cc) (omega arith))

pub returns-clause-whole : goal.returns-clause-whole
returns-clause-whole c = let e = shown c in search rules

pub returns-clause-law : goal.returns-clause-law
returns-clause-law c = turned_every _ _ _ _ (shown c)
