use Rattle.std.proofs.Common.{◌≡◌, length, take, IfOk, Ok, Err, sym, ap, ◌∙◌, subst}
use Rattle.std.proofs.lemmas.Result.{err_from_is_err_and}
use Rattle.records.specs.Stages.{of_open}
use Rattle.graph.specs.Model.{model, outcome}
use Rattle.inst_graph.specs.Seals.{WellSealed}
use Rattle.inst_graph.proofs.SealLaws.{refusals, refused_whole, refused_table, sealed_whole, sealed_table, sealed_well}
use Rattle.graph.specs.Sealing.{sealed_in}
use Rattle.subgraph.specs.Subgraphs.{in_order}
use Rattle.inst_graph.proofs.seal.seal.Goals as goal

pub returns-in_err-parts : goal.returns-in_err-parts
returns-in_err-parts c =
    let g = c.args.graph.now in
    let work = c.args.work.now in
    let was = c.in_err-parts.ensures in
    let e = c.in_err-parts.field-0.0 in
    let r = c.from_residual-in_err-parts.result in
    let found = err_from_is_err_and r c.from_residual-in_err-parts.ensures.1 in
    let is : r ≡ Err e = found.1 ∙ ap Err found.2 in
    let adm = c.in_ok-admit.ensures ∙ ap of_open c.stage.ensures in
    let whole = ap (λ x. outcome x (model g)) is ∙ refused_whole g work adm e was.answer in
    record {
      whole = whole;
      table = refused_table g work adm c.subgraphs.new.work was.table;
      law = subst (λ q. IfOk q (λ _. WellSealed (model g) (model g))) (sym is) tt;
      refusals = refusals g (length work) r (model g) whole;
    }

pub returns : goal.returns
returns c =
    let g = c.args.graph.now in
    let work = c.args.work.now in
    let adm = c.in_ok-admit.ensures ∙ ap of_open c.stage.ensures in
    let s = c.in_ok-parts.parts in
    let was = c.in_ok-parts.ensures in
    let one = model c.seal_in_order.new.self in
    let two = model c.note_reach.new.graph in
    let places = ap (λ l. take (length l) s.places) c.nodes-count.ensures in
    let first : one ≡ sealed_in (take (length (model g).nodes) s.places) (in_order s) (model g) =
    c.seal_in_order.ensures ∙ ap (λ l. sealed_in l c.topo_node_indices.result.now (model g)) places ∙ ap (λ o. sealed_in (take (length (model g).nodes) s.places) o (model g)) c.topo_node_indices.ensures in
    let noted = c.note_reach.ensures in
    let whole = sealed_whole g work adm s was.answer was.law one two first noted.after in
    record {
      whole = whole;
      table = sealed_table g work adm s was.answer was.law one two first noted.after c.subgraphs.new.work c.note_reach.new.work was.table noted.table;
      law = sealed_well g work adm s was.answer was.law one two first noted.after noted.tells;
      refusals = refusals g (length work) (Ok s.count) two whole;
    }
