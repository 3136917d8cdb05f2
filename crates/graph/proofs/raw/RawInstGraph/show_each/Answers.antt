use Rattle.std.proofs.Common.{rules}
use Rattle.graph.specs.Model.{model}
use Rattle.graph.proofs.Turns.{show_one_more}
use Rattle.graph.proofs.raw.RawInstGraph.show_each.Goals as goal

pub loop-number-preserved : goal.loop-number-preserved
loop-number-preserved g c = (search rules, search rules, show_one_more c.args.to c.loop-number.yielded c.in-Some.number (model c.args.self.now) (model c.loop-number.self) _ _ _ c.loop-number.invariant.2 c.show-changed.ensures.change)
