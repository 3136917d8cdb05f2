use Rattle.std.proofs.Common.{length, take, sym, ◌∙◌}
use Rattle.routes.specs.Graph.{children}
use Rattle.routes.specs.Reach.{reach_meaning}
use Rattle.routes.proofs.Reached.{table_tells}
use Rattle.graph.specs.Model.{model}
use Rattle.reconnect.specs.Graphs.{graph_in}
use Rattle.reconnect.proofs.Propriety.{run_says}
use Rattle.reconnect.proofs.reach.reach.Goals as goal

pub returns : goal.returns
returns g c =
    let gr = c.args.graph.now in
    let n = length (model gr).nodes in
    let table = c.topo_analysis.new.table in
    record {
      answer = c.topo_analysis.ensures.answer;
      values = c.topo_analysis.ensures.values;
      tells = λ ok.
          let says = run_says (reach_meaning g.Kind.ReachKind.wanted) (children (graph_in (model gr))) gr c.args.table.now table c.topo_analysis.auto.table (sym c.topo_analysis.ensures.answer ∙ ok) (c.topo_analysis.ensures.only ok) in
          table_tells g.Kind.ReachKind.wanted (graph_in (model gr)) says.0 (take n table) says.1 says.2;
    }
