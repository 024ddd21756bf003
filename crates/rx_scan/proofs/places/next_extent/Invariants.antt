use Rattle.std.proofs.Common.{◌≡◌, drop}
use Rattle.std.specs.List.{flat_map}
use Rattle.rx_scan.specs.Runs.{extent_places}
use Rattle.rx_scan.proofs.places.next_extent.Given as goal

-- the extents passed have no place
abbrev pub invariant-loop-place : goal.invariant-loop-place
invariant-loop-place l = flat_map extent_places (drop l.from l.extents) ≡ flat_map extent_places (drop l.place l.extents)
