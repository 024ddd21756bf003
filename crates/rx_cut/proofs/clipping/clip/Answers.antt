use Rattle.std.proofs.Common.{arith}
use Rattle.rx_level.specs.Step.{tall_of}
use Rattle.rx_level.proofs.Bits.{low_bits}
use Rattle.rx_cut.proofs.clipping.clip.Goals as goal

pub returns-in-Ok-clause-by_bits : goal.returns-in-Ok-clause-by_bits
returns-in-Ok-clause-by_bits c bits few =
    let low = low_bits bits (tall_of c.args.levels.now c.args.root) (omega (arith, few, c.sound.ensures.low c.args.root)) in
    omega (arith, low, c.in-Ok.ensures.live)
