use Rattle.std.proofs.Common.{◌≡◌, ◌≤◌, length, sym, ap, ◌∙◌, subst}
use Rattle.tables.specs.Steps.{Below}
use Rattle.graph.specs.Model.{model}
use Rattle.graph.specs.Cursors.{coming_in}
use Rattle.graph.proofs.Sound.{sound}
use Rattle.walk_neighbors.specs.PastDisabled.{sees}
use Rattle.walk_neighbors.specs.GivenOut.{GivesFrom}
use Rattle.walk_neighbors.specs.Cursors.{Fits}
use Rattle.walk_neighbors.proofs.Each.{enabled_below}
use Rattle.walk_neighbors.proofs.Stepping.{fits_new, new_gives}
use Rattle.walk_neighbors.proofs.Counting.{given_le}
use Rattle.walk_neighbors.proofs.Reached.{lawful}
use Rattle.walk_neighbors.proofs.walk.WalkNeighbors.new.Goals as goal

pub returns : goal.returns
returns c =
    let m = model c.args.graph.now in
    let N = length m.nodes in
    let d = c.args.direction in
    let n = c.args.node in
    let good = sound c.args.graph.now in
    let list = c.neighbors_directed.ensures in
    let direct : coming_in m.edges c.detach.result ≡ sees d m n = ap (λ g. coming_in g.edges c.detach.result) (sym list.graph) ∙ c.detach.ensures ∙ list.list in
    let is = new_gives d m n _ _ good.few_nodes direct c.new.ensures in
    record {
      coming = is;
      law = subst (GivesFrom d m n) (sym is) (lawful m good d n);
      few = subst (λ l. length l ≤ 5120) (sym is) (given_le m good d n);
      inside = subst (Below N) (sym is) (enabled_below m good d n);
      fit = subst (Fits N) (sym c.new.ensures) (fits_new N good.few_nodes).0;
    }
