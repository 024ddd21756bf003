use Rattle.std.proofs.Common.{◌≡◌, ◌<◌, ◌+◌, ◌++◌, [], None, IfSome, length, map, All}
use Rattle.std.specs.Prelude.{slice_index}
use Rattle.rx_index.specs.Entries.{ids_at}
use Rattle.rx_store.specs.Tables.{Keeps, add_counts}
use Rattle.rx_merge.specs.Merged.{reads_of}
use Rattle.rx_merge.proofs.gathering.read_ids.Given as goal

-- the ids so far, and the places that are left
abbrev pub invariant-loop-place : goal.invariant-loop-place
invariant-loop-place g l =
    let table = g.T.Table.means l.initial.table in
    record {
      told : IfSome table.told (λ t. l.ids ++ map (slice_index (ids_at t l.index)) l.places ≡ map (slice_index (ids_at t l.index)) l.initial.places);
      within : All (λ id. id < table.count) l.ids;
      left : All (λ place. place < table.count) l.places;
      many : length l.ids + length l.places ≡ length l.initial.places;
      counts : (g.T.Table.tally l.table).counts ≡ add_counts (reads_of [] (length l.ids)) (g.T.Table.tally l.initial.table).counts;
      keeps : Keeps g.T.Table.means g.T.Table.tally g.T.Table.kept g.T.Table.spent None l.initial.table l.table;
    }

abbrev pub decreases-loop-place : goal.decreases-loop-place
decreases-loop-place g l = length l.places
