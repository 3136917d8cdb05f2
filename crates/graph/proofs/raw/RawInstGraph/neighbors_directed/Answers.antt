use Rattle.std.proofs.Common.{rules}
use Rattle.graph.specs.Model.{model}
use Rattle.graph.proofs.Following.{seen_first, none_seen}
use Rattle.graph.proofs.Sound.{sound, neighbours_below}
use Rattle.graph.proofs.raw.RawInstGraph.neighbors_directed.Goals as goal

pub returns-clause-list : goal.returns-clause-list
returns-clause-list c = search (rules, seen_first, none_seen)

pub returns-clause-inside : goal.returns-clause-inside
returns-clause-inside c =
    let g = c.args.self.now in
    rw (returns-clause-list c) (neighbours_below _ (model g).edges c.args.direction c.args.node (sound g).ends)
