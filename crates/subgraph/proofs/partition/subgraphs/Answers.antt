use Rattle.std.proofs.Common.{◌≡◌, false, length, rules}
use Rattle.tables.specs.Filled.{filled}
use Rattle.graph.specs.Model.{model}
use Rattle.subgraph.proofs.WorkTable.{table, room, answer, law}
use Rattle.subgraph.proofs.partition.subgraphs.Goals as goal

pub add_singletons-requires : goal.add_singletons-requires
add_singletons-requires c =
    let t = c.in_ok-check_acyclic.ensures in
    room c.args.graph.now c.args.work.now t.law c.check_acyclic.new.work t.table c.partition-parts.new.found c.partition-parts.result c.partition-parts.ensures

pub returns : goal.returns
returns c =
    let g = c.args.graph.now in
    let work = c.args.work.now in
    let t = c.in_ok-check_acyclic.ensures in
    let v = c.check_acyclic.new.work in
    let f = c.partition-parts.new.found in
    let s = c.partition-parts.result in
    let fl = c.partition-parts.ensures in
    let u = c.add_singletons.new.self in
    let added = c.add_singletons.ensures in
    let blank : c.fill.new.table ≡ filled (length (model g).nodes) false f = search rules in
    record {
      answer = answer g work t.law v t.table f s fl u added.order added.parts added.count added.places t.answer;
      table = table g work t.law v t.table f s fl c.fill.new.table blank;
      law = law g work t.law v t.table f s fl u added.order added.parts added.count added.places;
    }
