use Rattle.std.proofs.Common.{false, length, take, sym, ap, ◌∙◌, subst}
use Rattle.tables.specs.Filled.{filled}
use Rattle.graph.specs.Model.{Model, model}
use Rattle.graph.specs.Sealing.{with_reach}
use Rattle.graph.proofs.Sound.{sound}
use Rattle.routes.specs.Reach.{TellsReach}
use Rattle.reconnect.specs.Graphs.{graph_in}
use Rattle.reconnect.specs.Reach.{is_enabled}
use Rattle.inst_graph.proofs.Yes.{yes_or_disabled, yes_goes_back}
use Rattle.inst_graph.proofs.Noted.{run_done, front, blank_again, length_reach}
use Rattle.inst_graph.proofs.noting.note_reach.Goals as goal

pub put_reach-requires : goal.put_reach-requires
put_reach-requires c =
    let g = c.args.graph.now in
    let m = model g in
    let N = length m.nodes in
    let t = c.reach.new.table in
    let piece = ap (λ l. take (length l) t) c.nodes-count.ensures in
    let is = piece ∙ front m c.args.work.now c.requires.sealed c.requires.room t c.reach.ensures.values in
    let tells = subst (TellsReach is_enabled (graph_in m)) (sym piece) (c.reach.ensures.tells (c.reach.ensures.answer ∙ run_done m c.args.work.now c.requires.sealed c.requires.room)) in
    let reach = take (length c.nodes-count.result.now) t in
    record {
      sealed = c.requires.sealed;
      long = ap length is ∙ length_reach m;
      or_disabled = yes_or_disabled m reach tells;
      goes_back = yes_goes_back m reach tells (sound g).ends;
    }

pub returns : goal.returns
returns c =
    let g = c.args.graph.now in
    let m = model g in
    let N = length m.nodes in
    let t = c.reach.new.table in
    let count = ap length c.nodes-count.ensures in
    let piece = ap (λ k. take k t) count in
    let is = piece ∙ front m c.args.work.now c.requires.sealed c.requires.room t c.reach.ensures.values in
    let after = c.put_reach.ensures in
    let tells = c.reach.ensures.tells (c.reach.ensures.answer ∙ run_done m c.args.work.now c.requires.sealed c.requires.room) in
    record {
      after = after ∙ ap (λ l. with_reach l m) is;
      table = c.fill.ensures ∙ ap (λ n. filled n false t) count ∙ blank_again m c.args.work.now c.requires.sealed c.requires.room t c.reach.ensures.values;
      tells = subst (TellsReach is_enabled (graph_in m)) (sym (ap (λ (x : Model). x.reach) after ∙ piece)) tells;
    }
