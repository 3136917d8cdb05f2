use Rattle.std.proofs.Common.{◌≡◌, true, false, ap, ◌∙◌, rules}
use Rattle.std.proofs.lemmas.Iterator.Consumers.{YieldsList-from_first}
use Rattle.graph.specs.Cursors.{coming}
use Rattle.graph.specs.Model.{model}
use Rattle.walk_neighbors.specs.Bound.{still_to_come}
use Rattle.walk_neighbors.specs.PastDisabled.{is_off}
use Rattle.analysis.specs.Near.{looking_along, near_of}
use Rattle.analysis.proofs.Joining.{near_direct, near_past}
use Rattle.analysis.proofs.values.Values.value_of.Goals as goal

pub join_all-requires-clause-gives : goal.join_all-requires-clause-gives
join_all-requires-clause-gives g c =
    let fwd = g.A.Course.Course.FORWARD in
    let skp = g.A.Course.Course.SKIP_DISABLED in
    let m = model c.args.self.now.graph.now in
    let way = c.looking_along-direction.ensures ∙ ap looking_along c.FORWARD.ensures in
    let all : skp ≡ false = search rules in
    (YieldsList-from_first (λ k. k) coming (near_of fwd skp m c.args.at) (near_direct fwd skp m c.args.at _ _ way all c.neighbors_directed.ensures.list)).runs

pub join_all-requires-else-disabled-clause-gives : goal.join_all-requires-else-disabled-clause-gives
join_all-requires-else-disabled-clause-gives g c =
    let fwd = g.A.Course.Course.FORWARD in
    let skp = g.A.Course.Course.SKIP_DISABLED in
    let m = model c.args.self.now.graph.now in
    let way = c.looking_along-direction.ensures ∙ ap looking_along c.FORWARD.ensures in
    let past : skp ≡ true = search rules in
    let on : is_off m c.args.at ≡ false = search rules in
    (YieldsList-from_first (λ k. k) still_to_come (near_of fwd skp m c.args.at) (near_past fwd skp m c.args.at _ _ way past on c.neighbors_directed-else-disabled.ensures.coming)).runs
