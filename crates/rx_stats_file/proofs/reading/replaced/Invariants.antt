use Rattle.std.proofs.Common.{◌≡◌, length, take, map, zip}
use Rattle.serde_json.specs.View.{members_view}
use Rattle.rx_stats_file.specs.Members.{listed}
use Rattle.rx_stats_file.specs.Statistics.{numbers_for}
use Rattle.rx_stats_file.proofs.reading.replaced.Given as goal

-- the numbers of the indexes so far
abbrev pub invariant-loop-index : goal.invariant-loop-index
invariant-loop-index l =
    l.statistics ≡ map (λ pair. numbers_for (listed (members_view l.records.entries)) pair.0 pair.1) (take (length l.yielded) (zip l.indexes l.base))
