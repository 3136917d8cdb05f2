use Rattle.std.proofs.Common.{◌≡◌, length, sym, refl, ap, ◌∙◌, subst}
use Rattle.tables.specs.Steps.{Below}
use Rattle.graph.specs.Model.{model}
use Rattle.graph.specs.Cursors.{coming}
use Rattle.graph.proofs.Sound.{sound, neighbours_below}
use Rattle.walk_neighbors.specs.PastDisabled.{push_all, sees}
use Rattle.walk_neighbors.specs.Cursors.{Fits}
use Rattle.walk_neighbors.proofs.Stepping.{push_one}
use Rattle.walk_neighbors.proofs.Meeting.{gone_past}
use Rattle.walk_neighbors.proofs.walk.WalkNeighbors.push_list.Goals as goal

pub loop-other-init : goal.loop-other-init
loop-other-init c =
    let w = c.args.self.now in
    let m = model c.args.graph.now in
    let all : coming c.into_iter-other-iterator.result ≡ sees w.direction m c.args.node = ap coming c.into_iter-other-iterator.ensures.into_iter_gives ∙ c.neighbors_directed-other-items.ensures.list in (
      ap (λ l. push_all l w.pending) all,
      subst (Below (length m.nodes)) (sym all) (neighbours_below (length m.nodes) m.edges w.direction c.args.node (sound c.args.graph.now).ends),
      c.requires.fit,
      refl,
      refl,
    )

pub loop-other-preserved : goal.loop-other-preserved
loop-other-preserved c =
    let w = c.loop-other.self in
    let N = length (model c.args.graph.now).nodes in
    let inv = c.loop-other.invariant in
    let low = subst (Below N) c.in-Some.ensures.steps inv.1 in
    let kept = subst (Fits N) (sym c.push.ensures) (push_one N c.in-Some.other w.pending low.0 inv.2).0 in
    (ap (push_all (coming c.next.new.self)) c.push.ensures ∙ ap (λ l. push_all l w.pending) (sym c.in-Some.ensures.steps) ∙ inv.0, low.1, kept, inv.3, inv.4)

pub returns : goal.returns
returns c =
    let w = c.args.self.now in
    let m = model c.args.graph.now in
    let inv = c.loop-other.invariant in
    let pushed = ap (λ l. push_all l c.loop-other.self.pending) (sym c.in-None.ensures.steps.0) ∙ inv.0 in
    let b = neighbours_below (length m.nodes) m.edges w.direction c.args.node (sound c.args.graph.now).ends in
    let got = gone_past m c.args.node w c.loop-other.self c.requires.fit b c.requires.off pushed inv.3 inv.4 in
    record { onward = got.0; left = got.1; fit = inv.2 }
