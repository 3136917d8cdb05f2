use Rattle.std.proofs.Common.{length, refl, sym, subst}
use Rattle.graph.specs.Model.{model}
use Rattle.walk_neighbors.specs.PastDisabled.{noted}
use Rattle.walk_neighbors.specs.Cursors.{Fits}
use Rattle.walk_neighbors.proofs.Meeting.{met_stack, popped_fits}
use Rattle.walk_neighbors.proofs.walk.WalkNeighbors.next_met.Goals as goal

pub returns-in-None : goal.returns-in-None
returns-in-None c =
    let m = model c.args.graph.now in
    let e = c.in-None.ensures in
    let p = c.args.self.now.pending in
    let q = c.pop.new.self in
    let got = popped_fits (length m.nodes) p.visited p.stack c.pop.result q.stack c.pop.ensures.steps c.requires in
    record {
      met = met_stack m c.args.self.now _ c.pop.result e.steps.0 e.steps.1 refl c.pop.ensures.visited c.pop.ensures.steps;
      inside = got.0;
      fit = subst (λ v. Fits (length m.nodes) (noted v q.stack)) (sym c.pop.ensures.visited) got.1;
    }
