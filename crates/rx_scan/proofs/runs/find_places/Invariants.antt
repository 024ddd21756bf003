use Rattle.std.proofs.Common.{◌≡◌, ◌<◌, ◌*◌, None, IfSome, take, All}
use Rattle.std.specs.List.{flat_map}
use Rattle.rx_store.specs.Tables.{Keeps}
use Rattle.rx_scan.specs.Visits.{places_held}
use Rattle.rx_estimate.specs.Estimates.{with_seeks}
use Rattle.rx_scan.specs.Runs.{extent_places}
use Rattle.rx_scan.proofs.runs.find_places.Given as goal

abbrev pub invariant-loop-range : goal.invariant-loop-range
invariant-loop-range g l =
    let table = g.T.Table.means l.initial.table in
    record {
      told : IfSome table.told (λ t. flat_map extent_places l.extents ≡ flat_map (places_held t l.index) (take l.range-index l.ranges));
      within : All (λ place. place < table.count) (flat_map extent_places l.extents);
      counts : (g.T.Table.tally l.table).counts ≡ with_seeks (2 * l.range-index) (g.T.Table.tally l.initial.table).counts;
      keeps : Keeps g.T.Table.means g.T.Table.tally g.T.Table.kept g.T.Table.spent None l.initial.table l.table;
    }
