use Rattle.std.proofs.Common.{◌≡◌, ◌++◌, length, take, drop, set, ap, ◌∙◌, arith}
use Rattle.tables.proofs.Filling.{fill_step, front_filled}
use Rattle.tables.proofs.fill.fill.Goals as goal

pub loop-entry-preserved : goal.loop-entry-preserved
loop-entry-preserved g c =
    let l = c.loop-entry in
    let front = take c.args.count c.args.table.now in
    ap (λ t. set t l.entry-index c.args.value) l.invariant ∙ fill_step front l.entry-index c.args.value (omega arith)

pub returns : goal.returns
returns g c =
    let l = c.loop-entry in
    let all : l.entry-index ≡ length (take c.args.count c.args.table.now) = omega arith in
    ap (λ t. t ++ drop c.args.count c.args.table.now) l.invariant ∙ front_filled c.args.table.now c.args.count l.entry-index c.args.value c.requires all
