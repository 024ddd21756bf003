use Rattle.std.proofs.Common.{◌≡◌, take}
use Rattle.std.specs.Prelude.{pos, neg_ℤ, ◌+ℤ◌, ◌≤ℤ◌, ◌*◌, ◌^◌}
use Rattle.std.specs.Option.{IfSome}
use Rattle.std.specs.List.{reduce}
use Rattle.rx_group.specs.Classes.{rows_of}
use Rattle.rx_aggregate.specs.Aggregates.{integers}
use Rattle.rx_aggregate.proofs.sums.sum.Given as goal

-- the sum of the rows so far, which is no further from 0 than so many integers can lead
abbrev pub invariant-loop-row : goal.invariant-loop-row
invariant-loop-row l =
    (l.total ≡ reduce (λ a b. a +ℤ b) (integers l.column (rows_of (take l.row-index l.rows))))
    × IfSome l.total (λ t. (neg_ℤ (pos (l.row-index * 2 ^ 64)) ≤ℤ t) × (t ≤ℤ pos (l.row-index * 2 ^ 64)))
