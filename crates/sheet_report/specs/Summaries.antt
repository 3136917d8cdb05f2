-- The facts of a graph that a report names.
use Rattle.std.specs.Prelude.{ℕ, List, length, count_by, nat_eq}
use Rattle.records.specs.declared.node.Node.{Node}
use Rattle.records.specs.declared.node.NodeKind.{NodeKind}
use Rattle.records.specs.declared.node.NodeKind.TheVariants.{Instantiation, ENode, GivenEquality, TransEquality, Proof, Cdcl}
use Rattle.records.specs.declared.node.NodeState.TheVariants.{Visible}
use Rattle.records.specs.Nodes.{kind_number}
use Rattle.graph.specs.Model.{Model}
use Rattle.graph.specs.Adding.{stats_of}
use Rattle.graph.specs.Tallies.{tally}
use Rattle.sheet_report.specs.declared.summary.Summary.{Summary}

abbrev pub of_kind : NodeKind → List Node → ℕ
of_kind kind ns = count_by (λ n. nat_eq (kind_number n.kind) (kind_number kind)) ns

abbrev pub summary_of : Model → Summary
summary_of m =
    record {
      nodes = length m.nodes;
      edges = length m.edges;
      shown = tally Visible m.nodes;
      stats = stats_of m;
      instantiations = of_kind Instantiation m.nodes;
      enodes = of_kind ENode m.nodes;
      given_equalities = of_kind GivenEquality m.nodes;
      trans_equalities = of_kind TransEquality m.nodes;
      proofs = of_kind Proof m.nodes;
      cdcls = of_kind Cdcl m.nodes;
    }
