use Rattle.graph.proofs.Placing.{Placed}
use Rattle.graph.proofs.sealing.put_places.Given as goal

abbrev pub invariant-loop-at : goal.invariant-loop-at
invariant-loop-at l = Placed l.places l.fn.nodes l.at l.nodes
