use Rattle.std.proofs.Common.{arith}
use Rattle.rx_level.specs.Step.{tall_of}
use Rattle.rx_level.proofs.Bits.{low_bits}
use Rattle.rx_or.proofs.covering.cover.Goals as goal

pub returns-clause-by_bits : goal.returns-clause-by_bits
returns-clause-by_bits c =
    λ bits few.
    let low = low_bits bits (tall_of c.args.levels.now c.args.root) (omega (arith, few, c.sound.ensures.low c.args.root)) in
    omega (arith, low, c.lay-made.ensures.live)
