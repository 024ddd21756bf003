use Rattle.std.proofs.Common.{◌≡◌, ◌++◌}
use Rattle.rx_graph.specs.Graph.{tree_in}
use Rattle.rx_cover.specs.Cover.{cover}
use Rattle.rx_walk.specs.Left.{rest}
use Rattle.rx_walk.proofs.collecting.collect_ranges.Given as goal

-- what is collected and what is left are the cover
abbrev pub invariant-cover : goal.invariant-cover
invariant-cover l = l.list ++ rest l.range-iterator ≡ cover l.fn.arena.nullable l.fn.falling (tree_in l.fn.arena l.fn.h)
