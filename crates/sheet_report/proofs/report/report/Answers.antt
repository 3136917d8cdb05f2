use Rattle.std.proofs.Common.{◌≡◌, IfOk, Ok, Err, string_bytes, Result, refl, ap, ◌∙◌, subst}
use Rattle.records.specs.declared.sheet_refusal.SheetRefusal.{SheetRefusal}
use Rattle.graph.specs.Model.{Model}
use Rattle.sheet.specs.Reading.{sheet_read, answered, left}
use Rattle.sheet_report.specs.Reports.{graph_text, reported}
use Rattle.sheet_report.proofs.report.report.Goals as goal

-- of a sheet that was read, the report is that on the graph
read_report : (o : Result Model SheetRefusal) → Ok tt ≡ answered o → graph_text (left o) ≡ reported o
read_report (Ok m) e = refl
read_report (Err x) e = absurd cc

pub returns-in-Ok : goal.returns-in-Ok
returns-in-Ok c =
    let o = sheet_read c.args.bytes.now in
    let said = c.in-Ok.ensures in
    let same = ap graph_text said.after ∙ read_report o said.answer in
    subst (λ t. IfOk c.graph_text.result (λ s. string_bytes s ≡ t)) same c.graph_text.ensures
