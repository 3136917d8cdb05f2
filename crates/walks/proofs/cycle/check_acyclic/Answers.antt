use Rattle.std.proofs.Common.{◌≡◌, true, length, Err, sym, ap, ◌∙◌, arith}
use Rattle.records.specs.declared.refusal.Refusal.TheVariants.{ClosedWalk}
use Rattle.graph.specs.Model.{model}
use Rattle.walks.specs.Cycles.{acyclic_answer}
use Rattle.graph.proofs.Rooms.{passed_room}
use Rattle.walks.proofs.Checking.{stopped, finished, tested_lem}
use Rattle.walks.proofs.cycle.check_acyclic.Goals as goal
use Rattle.walks.proofs.cycle.check_acyclic.Goals.{After-leads_back}

stops : (c : After-leads_back) → c.leads_back.result ≡ true → Err (ClosedWalk c.loop-node.node) ≡ acyclic_answer (model c.args.graph.now) (length c.args.work.now)
stops c back =
    let m = model c.args.graph.now in
    let count = ap length c.nodes-count.ensures in
    let fits = passed_room m (length c.args.work.now) (sym c.in_ok-room_for.ensures) in
    stopped m _ c.loop-node.node fits (omega arith) c.loop-node.invariant.1 (sym c.leads_back.ensures.answer ∙ back)

pub returns-then-leads_back-clause-answer : goal.returns-then-leads_back-clause-answer
returns-then-leads_back-clause-answer c = stops (goal.at.returns-then-leads_back-clause-answer c).After-leads_back c.if-leads_back.true

pub returns-then-leads_back-clause-law : goal.returns-then-leads_back-clause-law
returns-then-leads_back-clause-law c = tested_lem c.args.graph.now _ _ (stops (goal.at.returns-then-leads_back-clause-law c).After-leads_back c.if-leads_back.true)

pub returns-clause-law : goal.returns-clause-law
returns-clause-law c =
    let m = model c.args.graph.now in
    let count = ap length c.nodes-count.ensures in
    let fits = passed_room m (length c.args.work.now) (sym c.in_ok-room_for.ensures) in
    tested_lem c.args.graph.now _ _ (finished m _ c.loop-node.node fits (omega arith) c.loop-node.invariant.1)
