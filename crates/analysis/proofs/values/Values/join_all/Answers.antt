use Rattle.std.proofs.Common.{◌≡◌, ◌<◌, [], ◌∷◌, length, get_or, fold, sym, ap, ◌∙◌, subst, arith, rules}
use Rattle.std.proofs.lemmas.List.{get_or_read}
use Rattle.std.proofs.lemmas.List.Sums.{fold-append}
use Rattle.records.specs.Nodes.{no_node}
use Rattle.graph.specs.Model.{model}
use Rattle.graph.proofs.Sound.{sound}
use Rattle.analysis.specs.Near.{near_of}
use Rattle.analysis.specs.Rule.{joining}
use Rattle.analysis.proofs.Joining.{neighbour_low, at_end}
use Rattle.analysis.proofs.values.Values.join_all.Given as given
use Rattle.analysis.proofs.values.Values.join_all.Goals as goal

-- the neighbour of a turn is a node of the graph
low : (g : given.Over) (c : goal.After-node-in-loop-other-1 g) → c.in-Some.other < length (model c.args.self.now.graph.now).nodes
low g c =
    neighbour_low (model c.args.self.now.graph.now) (sound c.args.self.now.graph.now) g.A.Course.Course.FORWARD g.A.Course.Course.SKIP_DISABLED c.args.at g.I.Iterator.next_gives c.into_iter-other-iterator.ensures.into_iter_gives c.requires.gives c.loop-other.yielded c.loop-other.yielded_by c.in-Some.is c.next.ensures.steps

pub bounds-nodes-from : goal.bounds-nodes-from
bounds-nodes-from g c = omega (arith, low g c, ap length c.nodes-nodes.ensures)

pub offset_bounds-self-from : goal.offset_bounds-self-from
offset_bounds-self-from g c =
    let within : c.in-Some.other < length c.args.self.now.table.now = omega (arith, low g c, c.args.self.now.room) in
    search rules

pub bounds-self-from : goal.bounds-self-from
bounds-self-from g c = omega (arith, low g c, c.args.self.now.room)

pub loop-other-preserved : goal.loop-other-preserved
loop-other-preserved g c =
    let a = g.A.TopoAnalysis.meaning c.args.self.now.analysis.now in
    let m = model c.args.self.now.graph.now in
    let from = c.in-Some.other in
    let table = c.args.self.now.table.now in
    let J = joining a m.nodes (λ k. get_or table k a.blank) c.args.at in
    let here = ap (λ ns. get_or ns c.args.at no_node) c.nodes-nodes.ensures in
    let there = ap (λ ns. get_or ns from no_node) c.nodes-nodes.ensures in
    let low = neighbour_low (model c.args.self.now.graph.now) (sound c.args.self.now.graph.now) g.A.Course.Course.FORWARD g.A.Course.Course.SKIP_DISABLED c.args.at g.I.Iterator.next_gives c.into_iter-other-iterator.ensures.into_iter_gives c.requires.gives c.loop-other.yielded c.loop-other.yielded_by c.in-Some.is c.next.ensures.steps in
    let in_table : from < length table = omega (arith, c.args.self.now.room) in
    let read = get_or_read table from c.index-self-from.result in_table c.index-self-from.is a.blank in
    let one : c.join-value.result ≡ J c.loop-other.value from = cc in (
      search rules,
      search rules,
      one ∙ ap (λ v. J v from) {y = fold J c.start-value.result c.loop-other.yielded} c.loop-other.invariant.2 ∙ sym (fold-append J c.start-value.result c.loop-other.yielded (from ∷ [])),
    )

pub returns : goal.returns
returns g c =
    let t = c.args.self.now in
    let a = g.A.TopoAnalysis.meaning t.analysis.now in
    let m = model t.graph.now in
    let near = near_of g.A.Course.Course.FORWARD g.A.Course.Course.SKIP_DISABLED m c.args.at in
    let J = joining a m.nodes (λ k. get_or t.table.now k a.blank) c.args.at in
    let here = ap (λ ns. get_or ns c.args.at no_node) c.nodes-nodes.ensures in
    let all = at_end g.I.Iterator.next_gives near c.into_iter-other-iterator.ensures.into_iter_gives c.requires.gives c.loop-other.yielded c.loop-other.yielded_by c.in-None.is c.next.ensures.steps in
    let begun : c.start-value.result ≡ a.start c.args.at (get_or m.nodes c.args.at no_node) = cc in
    let sum : c.loop-other.value ≡ fold J (a.start c.args.at (get_or m.nodes c.args.at no_node)) near =
    subst (λ ks. c.loop-other.value ≡ fold J c.start-value.result ks) all c.loop-other.invariant.2
    ∙ ap (λ v. fold J v near) begun
    in
    cc
