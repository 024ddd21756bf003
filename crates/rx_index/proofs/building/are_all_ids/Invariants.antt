use Rattle.std.proofs.Common.{◌≡◌, take}
use Rattle.std.specs.List.{range_with_len}
use Rattle.rx_index.proofs.building.are_all_ids.Given as goal

-- the ids so far are those of rows in turn
abbrev pub invariant-loop-place : goal.invariant-loop-place
invariant-loop-place l = take l.place l.ids ≡ range_with_len 0 l.place
