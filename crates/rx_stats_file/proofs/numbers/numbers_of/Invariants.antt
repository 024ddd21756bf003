use Rattle.std.proofs.Common.{◌≡◌, take, map, filter_map}
use Rattle.serde_json.specs.View.{view}
use Rattle.rx_stats_file.specs.Statistics.{number_of}
use Rattle.rx_stats_file.proofs.numbers.numbers_of.Given as goal

-- the numbers of the items so far
abbrev pub invariant-loop-item : goal.invariant-loop-item
invariant-loop-item l = l.numbers ≡ filter_map number_of (map view (take l.item-index l.item-items))
