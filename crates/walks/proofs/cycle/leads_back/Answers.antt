use Rattle.std.proofs.Common.{◌≡◌, false, [], length, get_or, sym, ap, ◌∙◌, subst, arith}
use Rattle.std.proofs.lemmas.List.{length-reverse}
use Rattle.records.specs.declared.edge.Direction.TheVariants.{Outgoing}
use Rattle.records.specs.Edges.{history}
use Rattle.tables.specs.Filled.{filled}
use Rattle.tables.specs.Marks.{blanks}
use Rattle.tables.proofs.Marking.{blanks_le}
use Rattle.graph.specs.Model.{model}
use Rattle.graph.proofs.Sound.{sound, neighbours_below}
use Rattle.walks.specs.Exploring.{targets, piled, explored, is_unvisited}
use Rattle.walks.proofs.Seeing.{edges_inside}
use Rattle.walks.proofs.Exploring.{length_piled, below_stacked, below_at}
use Rattle.walks.proofs.Degrees.{pending_total, total_edges, length_neighbours}
use Rattle.walks.proofs.Closed.{back_same, back_past, restored}
use Rattle.walks.proofs.Closure.{Past}
use Rattle.walks.proofs.cycle.leads_back.Goals as goal

pub push_next-requires-clause-room : goal.push_next-requires-clause-room
push_next-requires-clause-room c =
    let es = (model c.args.graph.now).edges in
    let few = length_neighbours Outgoing (history es) c.args.node in
    let size = length-reverse es in
    let fit = (sound c.args.graph.now).few_edges in
    let none = ap length c.new-stack.ensures in
    omega arith

pub explore-requires : goal.explore-requires
explore-requires c =
    let g = c.args.graph.now in
    let v = c.args.visited.now in
    let es = (model g).edges in
    let n = c.args.node in
    let N = length (model g).nodes in
    let fit = (sound g).few_edges in
    let size = length-reverse es in
    let few = length_neighbours Outgoing (history es) n in
    let pile : c.push_next.new.stack ≡ piled (targets es n) v [] = c.push_next.ensures ∙ ap (piled (targets es n) v) c.new-stack.ensures in
    let height = length_piled (targets es n) v [] in
    let p = pending_total (targets es) N v in
    let t = total_edges Outgoing (history es) N in
    let blank = blanks_le N v in
    let nodes = (sound g).few_nodes in
    rw (pile, c.new-order.ensures)
    (record {
      table = c.requires.table;
      below = below_stacked (is_unvisited v) N (targets es n) [] (λ y a. below_at N (targets es n) y (neighbours_below N es Outgoing n (sound g).ends) a) tt;
      room = omega arith;
      notes = omega arith;
    })

pub returns : goal.returns
returns c =
    let g = c.args.graph.now in
    let v = c.args.visited.now in
    let es = (model g).edges in
    let n = c.args.node in
    let N = length (model g).nodes in
    let stack : c.push_next.new.stack ≡ piled (targets es n) v [] = c.push_next.ensures ∙ ap (piled (targets es n) v) c.new-stack.ensures in
    let marks : c.explore.new.visited ≡ (explored (targets es) (blanks N v) (piled (targets es n) v []) v []).visited =
    c.explore.ensures.marks ∙ ap (λ s. (explored (targets es) (blanks N v) s v c.new-order.result).visited) stack
    ∙ ap (λ o. (explored (targets es) (blanks N v) (piled (targets es n) v []) v o).visited) c.new-order.ensures in
    let count : length c.nodes.result.now ≡ N = ap length c.nodes.ensures in
    record {
      answer = ap (λ t. get_or t n false) marks ∙ back_same es N (edges_inside g) n c.requires.node v [] c.requires.table c.requires.blank;
      table = c.fill.ensures ∙ ap (λ k. filled k false c.explore.new.visited) count ∙ restored N v c.explore.new.visited c.requires.table c.requires.blank (subst (Past N v) (sym marks) (back_past es N (edges_inside g) n (blanks N v) v []));
    }
