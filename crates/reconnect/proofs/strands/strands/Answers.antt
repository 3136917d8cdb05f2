use Rattle.std.proofs.Common.{length, take, sym, ◌∙◌}
use Rattle.routes.specs.Graph.{parents}
use Rattle.routes.specs.Strands.{strand_meaning}
use Rattle.routes.proofs.Solved.{along, ranked}
use Rattle.routes.proofs.Threads.{strands_stand}
use Rattle.graph.specs.Model.{model}
use Rattle.reconnect.specs.Graphs.{graph_in}
use Rattle.reconnect.proofs.Propriety.{run_says}
use Rattle.reconnect.proofs.strands.strands.Goals as goal

pub returns : goal.returns
returns c =
    let gr = c.args.graph.now in
    let g = graph_in (model gr) in
    let n = length (model gr).nodes in
    let table = c.topo_analysis.new.table in
    record {
      answer = c.topo_analysis.ensures.answer;
      values = c.topo_analysis.ensures.values;
      stand = λ ok.
          let says = run_says (strand_meaning c.args.source c.args.live.now) (parents g) gr c.args.table.now table c.topo_analysis.auto.table (sym c.topo_analysis.ensures.answer ∙ ok) (c.topo_analysis.ensures.only ok) in
          strands_stand g (along g says.0) (ranked g says.0) c.args.live.now c.args.source (take n table) says.2;
    }
