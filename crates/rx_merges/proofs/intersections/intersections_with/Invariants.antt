use Rattle.std.proofs.Common.{◌≡◌, map}
use Rattle.std.specs.List.{filter, range_with_len}
use Rattle.rx_merges.specs.Intersections.{do_meet, intersection_of}
use Rattle.rx_merges.proofs.intersections.intersections_with.Given as goal

-- the intersections of the fronts so far
abbrev pub invariant-loop-n : goal.invariant-loop-n
invariant-loop-n l = l.list ≡ map (intersection_of l.entries l.columns l.schema l.count l.ordered l.filters) (filter (do_meet l.filters) (range_with_len 0 l.n))
