use Rattle.std.proofs.Common.{◌≡◌}
use Rattle.std.specs.List.{filter, range_with_len}
use Rattle.rx_query.specs.Steps.{question_of}
use Rattle.rx_named.specs.Naming.{names}
use Rattle.rx_plan.proofs.naming.columns_named.Given as goal

-- those of the columns so far
abbrev pub invariant-loop-column : goal.invariant-loop-column
invariant-loop-column l = l.named ≡ filter (names (question_of l.query)) (range_with_len 0 l.column)
