use Rattle.std.proofs.Common.{refl}
use Rattle.std.proofs.lemmas.List.{map-append}
use Rattle.rx_statement.proofs.Numbers.{range_more}
use Rattle.rx_statement.proofs.numbering.all_columns.Goals as goal

pub loop-number-preserved : goal.loop-number-preserved
loop-number-preserved c = rw (c.in_ok-push.ensures.ok, c.loop-number.invariant, range_more, map-append) refl
