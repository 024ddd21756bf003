-- What rows are taken from.
use Rattle.std.specs.Prelude.{ℕ, List, Some, None}
use Rattle.rx_run.specs.declared.runs.Source.{Source}
use Rattle.rx_run.specs.declared.runs.Source.TheVariants.{Scan, Merge}
use Rattle.rx_run.specs.Ways.{Way}
use Rattle.rx_run.specs.Ways.Way.{scanned, by_id, made}

-- how rows are taken: as the scan does, by the ids of the merge, or the row that is given for each of these
abbrev pub way_in : Source → Way
way_in (Scan run) = scanned run.way
way_in (Merge ids None) = by_id
way_in (Merge ids (Some row)) = made row

-- the places, or ids, that are left
abbrev pub left_in : Source → List ℕ
left_in (Scan run) = run.left
left_in (Merge ids row) = ids.left
