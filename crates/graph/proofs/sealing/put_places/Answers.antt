use Rattle.std.proofs.Common.{arith}
use Rattle.graph.proofs.Placing.{placed_none, placed_more, placed_all}
use Rattle.graph.proofs.sealing.put_places.Goals as goal

pub loop-at-init : goal.loop-at-init
loop-at-init c = placed_none c.args.places.now c.args.nodes.now

pub loop-at-preserved : goal.loop-at-preserved
loop-at-preserved c = placed_more c.args.places.now c.args.nodes.now c.loop-at.at c.loop-at.nodes (omega arith) c.loop-at.invariant

pub returns : goal.returns
returns c = placed_all c.args.places.now c.args.nodes.now c.loop-at.at c.loop-at.nodes (omega arith) c.loop-at.invariant
