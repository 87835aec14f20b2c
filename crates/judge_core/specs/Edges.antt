-- The edges between jobs, from the tables that they are worked out from (01, The judge's rules).
use Rattle.judge_rules.specs.Order.{Edges}
use Rattle.judge_core.specs.declared.edges.Graph.{Graph}
use Rattle.judge_core.specs.Grouped.{edge_by}

-- the edges by a graph's lines
abbrev pub edges_of : Graph → Edges
edges_of g = edge_by g.kept.codes.now g.kept.jobs.now g.kept.cells.now g.lines.now g.starts.now
