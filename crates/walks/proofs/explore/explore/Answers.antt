use Rattle.std.proofs.Common.{⊎_elim, arith}
use Rattle.walks.proofs.Seeing.{edges_inside}
use Rattle.walks.proofs.Turns.{starts, order_room, push_room, falls, new_going, ends_left}
use Rattle.walks.proofs.explore.explore.Goals as goal

pub loop-node-init : goal.loop-node-init
loop-node-init g c = starts _ _ _ c.args.visited.now c.args.stack.now c.args.order.now c.requires.below c.requires.room

pub push-requires : goal.push-requires
push-requires g c = order_room _ _ _ _ _ _ c.loop-node.visited c.loop-node.stack c.pop.new.self c.loop-node.order c.in-Some.node c.in-Some.ensures.next c.loop-node.invariant c.if-not-visited-node.true (omega arith) c.requires.notes

pub push_next-requires-clause-room : goal.push_next-requires-clause-room
push_next-requires-clause-room g c = push_room _ _ _ _ _ _ c.loop-node.visited c.loop-node.stack c.pop.new.self c.loop-node.order c.in-Some.node c.in-Some.ensures.next c.loop-node.invariant c.if-not-visited-node.true (omega arith)

pub loop-node-smaller-then-not-visited-node : goal.loop-node-smaller-then-not-visited-node
loop-node-smaller-then-not-visited-node g c =
    let less = falls _ _ _ _ _ _ c.loop-node.visited c.loop-node.stack c.pop.new.self c.loop-node.order c.in-Some.node c.in-Some.ensures.next c.loop-node.invariant c.if-not-visited-node.true (omega arith) in
    rw c.push_next.ensures less

pub loop-node-preserved-then-not-visited-node : goal.loop-node-preserved-then-not-visited-node
loop-node-preserved-then-not-visited-node g c =
    let graph = c.args.graph.now in
    let n = c.in-Some.node in
    rw (c.push_next.ensures, c.push.ensures)
    (new_going _ _ _ _ _ _ c.loop-node.visited c.loop-node.stack c.pop.new.self c.loop-node.order n c.in-Some.ensures.next c.loop-node.invariant c.if-not-visited-node.true (omega arith)
    (λ m a. ⊎_elim (λ j. (edges_inside graph n m j).1) (λ j. (edges_inside graph m n j).0) (g.met.S.Search.joined _ n m a)))

pub returns : goal.returns
returns g c = ends_left _ _ _ _ _ _ c.loop-node.visited c.loop-node.stack c.loop-node.order c.in_default.ensures.next.0 c.loop-node.invariant
