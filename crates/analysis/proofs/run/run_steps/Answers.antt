use Rattle.std.proofs.Common.{◌<◌, ◌≤◌, length, set, sym, subst, arith, rules}
use Rattle.std.proofs.lemmas.List.{length_push}
use Rattle.graph.specs.Model.{model}
use Rattle.graph.proofs.Sound.{sound}
use Rattle.analysis.proofs.Stepping.{past_kept, Done, turn_at, node_low, all_walked, done_more, done_all}
use Rattle.analysis.proofs.run.run_steps.Given as given
use Rattle.analysis.proofs.run.run_steps.Goals as goal

pub value_of-requires : goal.value_of-requires
value_of-requires g c =
    let good = sound c.args.graph.now in
    node_low (model c.args.graph.now) good (good.ordered c.requires.sealed) g.A.Course.Course.FORWARD g.I.Iterator.next_gives c.into_iter-node-iterator.ensures.into_iter_gives c.requires.gives c.loop-node.yielded c.loop-node.yielded_by c.in-Some.is c.next.ensures.steps

-- the node of a turn is a node of the graph
low : (g : given.Over) (c : goal.After-value_of g) → c.in-Some.node < length (model c.args.graph.now).nodes
low g c =
    let good = sound c.args.graph.now in
    node_low (model c.args.graph.now) good (good.ordered c.requires.sealed) g.A.Course.Course.FORWARD g.I.Iterator.next_gives c.into_iter-node-iterator.ensures.into_iter_gives c.requires.gives c.loop-node.yielded c.loop-node.yielded_by c.in-Some.is c.next.ensures.steps

pub offset_bounds-table-at : goal.offset_bounds-table-at
offset_bounds-table-at g c =
    let within : c.in-Some.node < length c.loop-node.table = omega (arith, low g c, c.loop-node.auto.table, c.requires.room) in
    search rules

pub bounds-table-at : goal.bounds-table-at
bounds-table-at g c = omega (arith, low g c, c.loop-node.auto.table, c.requires.room)

pub loop-node-preserved : goal.loop-node-preserved
loop-node-preserved g c =
    let a = g.A.TopoAnalysis.meaning c.args.analysis.now in
    let fwd = g.A.Course.Course.FORWARD in
    let skp = g.A.Course.Course.SKIP_DISABLED in
    let m = model c.args.graph.now in
    let good = sound c.args.graph.now in
    let fine = good.ordered c.requires.sealed in
    let table = c.loop-node.table in
    let node = c.in-Some.node in
    let x = c.value_of.result in
    let i = length c.loop-node.yielded in
    let at = turn_at m good fine fwd g.I.Iterator.next_gives c.into_iter-node-iterator.ensures.into_iter_gives c.requires.gives c.loop-node.yielded c.loop-node.yielded_by c.in-Some.is c.next.ensures.steps in
    let within : node < length table = omega (arith, low g c, c.loop-node.auto.table, c.requires.room) in
    let here = done_more m good fine a fwd skp i table node x at.0 at.1 within c.value_of.ensures c.loop-node.invariant.3 in (
      search rules,
      search rules,
      past_kept (length m.nodes) table c.args.table.now node x (low g c) c.loop-node.invariant.2,
      subst (λ n. Done m good fine a fwd skp n (set table node x)) (sym (length_push c.loop-node.yielded node)) here,
    )

pub returns : goal.returns
returns g c =
    let a = g.A.TopoAnalysis.meaning c.args.analysis.now in
    let fwd = g.A.Course.Course.FORWARD in
    let skp = g.A.Course.Course.SKIP_DISABLED in
    let m = model c.args.graph.now in
    let good = sound c.args.graph.now in
    let fine = good.ordered c.requires.sealed in
    let table = c.loop-node.table in
    let long : length m.nodes ≤ length table = omega (arith, c.loop-node.auto.table, c.requires.room) in
    let every = all_walked m good fine fwd g.I.Iterator.next_gives c.into_iter-node-iterator.ensures.into_iter_gives c.requires.gives c.loop-node.yielded c.loop-node.yielded_by c.in-None.is c.next.ensures.steps in
    let done : Done m good fine a fwd skp (length m.nodes) table = subst (λ n. Done m good fine a fwd skp n table) every c.loop-node.invariant.3 in
    done_all m good fine a fwd skp c.args.table.now table long c.loop-node.invariant.2 done
