use Rattle.std.proofs.Common.{◌≡◌, true, false, sym, ap, ◌∙◌, rules}
use Rattle.std.proofs.lemmas.Iterator.{YieldsList-from_slice}
use Rattle.std.proofs.lemmas.Iterator.Consumers.{YieldsList-from_copied}
use Rattle.std.proofs.lemmas.Iterator.Adapters.{YieldsList-from_rev_slice}
use Rattle.graph.specs.Model.{model}
use Rattle.analysis.specs.Runs.{walk}
use Rattle.analysis.proofs.Joining.{listed_as}
use Rattle.analysis.proofs.Stepping.{run_solves}
use Rattle.analysis.proofs.run.topo_analysis.Goals as goal

pub run_steps-requires-clause-gives : goal.run_steps-requires-clause-gives
run_steps-requires-clause-gives g c =
    let order = (model c.args.graph.now).order in
    let way : g.A.Course.Course.FORWARD ≡ true = sym c.FORWARD.ensures ∙ c.if-FORWARD.true in
    (listed_as (walk g.A.Course.Course.FORWARD order) (sym (ap (λ b. walk b order) way)) (YieldsList-from_copied {s = c.copied.result} (YieldsList-from_slice order (cc)))).runs

pub run_steps-requires-else-FORWARD-clause-gives : goal.run_steps-requires-else-FORWARD-clause-gives
run_steps-requires-else-FORWARD-clause-gives g c =
    let order = (model c.args.graph.now).order in
    let way : g.A.Course.Course.FORWARD ≡ false = sym c.FORWARD.ensures ∙ c.if-FORWARD.false in
    (listed_as (walk g.A.Course.Course.FORWARD order) (sym (ap (λ b. walk b order) way)) (YieldsList-from_copied {s = c.copied-else-FORWARD.result} (YieldsList-from_rev_slice order (cc)))).runs

pub returns-then-FORWARD-clause-only : goal.returns-then-FORWARD-clause-only
returns-then-FORWARD-clause-only g c = λ ok. run_solves c.args.graph.now (search rules) (g.A.TopoAnalysis.meaning c.args.analysis.now) g.A.Course.Course.FORWARD g.A.Course.Course.SKIP_DISABLED c.fill.new.table c.run_steps.new.table c.run_steps.ensures

pub returns-else-FORWARD-clause-only : goal.returns-else-FORWARD-clause-only
returns-else-FORWARD-clause-only g c = λ ok. run_solves c.args.graph.now (search rules) (g.A.TopoAnalysis.meaning c.args.analysis.now) g.A.Course.Course.FORWARD g.A.Course.Course.SKIP_DISABLED c.fill.new.table c.run_steps-else-FORWARD.new.table c.run_steps-else-FORWARD.ensures
