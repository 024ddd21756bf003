use Rattle.std.proofs.Common.{arith, drop}
use Rattle.rx_data.proofs.Numbers.{too_large}
use Rattle.rx_data.proofs.fields.number_within.Goals as goal

pub returns-then-value-from : goal.returns-then-value-from
returns-then-value-from c = too_large _ c.loop-digit.value _ (drop c.loop-digit.digit-index c.args.digits.now) (omega (arith, c.from.ensures)) c.loop-digit.invariant.value
