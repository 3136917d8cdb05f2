-- A graph as it is drawn, from the graph that analyses are about.
use Rattle.routes.specs.Graph.{Graph}
use Rattle.graph.specs.Model.{Model}

abbrev pub graph_in : Model → Graph
graph_in m = record { nodes = m.nodes; edges = m.edges }
