use Rattle.std.proofs.Common.{true, length, take, ap, ◌∙◌}
use Rattle.std.proofs.lemmas.List.{take-replicate}
use Rattle.graph.proofs.raw.Sealing.new.Goals as goal

pub returns-clause-reach : goal.returns-clause-reach
returns-clause-reach c =
    let n = length c.args.order.now in
    c.truncate.ensures.items ∙ ap (take n) c.from-reach.ensures.0 ∙ take-replicate n 1024 true c.requires
