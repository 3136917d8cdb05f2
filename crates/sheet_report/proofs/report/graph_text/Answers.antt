use Rattle.std.proofs.Common.{◌≡◌, ◌++◌, length, IfOk, string_bytes, codes, ap, ◌∙◌, subst}
use Rattle.graph.specs.Model.{model}
use Rattle.sheet_report.specs.Summaries.{summary_of}
use Rattle.sheet_report.specs.Texts.{line, summary_text}
use Rattle.sheet_report.specs.Reports.{parts_text, refused_graph}
use Rattle.sheet_report.proofs.report.graph_text.Goals as goal

pub returns-in-Ok : goal.returns-in-Ok
returns-in-Ok c =
    let facts = summary_text (summary_of (model c.args.graph.now)) in
    let subgraphs = line (codes "subgraphs") c.in-Ok.parts.count in
    let said =
    ap (λ s. summary_text s ++ (subgraphs ++ line (codes "singletons") (length c.singletons.result.now))) c.of-summary.ensures
    ∙ ap (λ l. facts ++ (subgraphs ++ line (codes "singletons") (length l))) c.singletons.ensures
    ∙ ap (λ w. facts ++ parts_text w) c.in-Ok.ensures.answer in
    subst (λ t. IfOk c.format.result (λ s. string_bytes s ≡ t)) said c.format.ensures.ok

pub returns-in-Err : goal.returns-in-Err
returns-in-Err c =
    let said = ap (λ s. summary_text s ++ refused_graph c.in-Err.refusal) c.of-summary.ensures ∙ ap (λ w. summary_text (summary_of (model c.args.graph.now)) ++ parts_text w) c.in-Err.ensures.answer in
    subst (λ t. IfOk c.format-in-Err.result (λ s. string_bytes s ≡ t)) said c.format-in-Err.ensures.ok
