use Rattle.std.proofs.Common.{subst}
use Rattle.graph.specs.Sound.{Sound}
use Rattle.graph.proofs.Sound.{sound}
use Rattle.inst_graph.proofs.inst_graph.InstGraph.node.Goals as goal

pub returns-clause-sound : goal.returns-clause-sound
returns-clause-sound c = subst Sound c.self.view_is (sound c.self.inside.raw)
