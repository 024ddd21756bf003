use Rattle.std.proofs.Common.{length, ap, ◌∙◌, arith}
use Rattle.rx_estimate.proofs.Steps.{as_many, numbers_read}
use Rattle.rx_estimate.proofs.dives.numbers_at.Goals as goal

pub bounds-as_slice-index : goal.bounds-as_slice-index
bounds-as_slice-index g c = omega (arith, c.requires, ap length (c.as_slice.ensures ∙ c.stats.ensures.value), as_many _ _ c.stats.ensures.sound.statistics)

pub returns : goal.returns
returns g c =
    let same = c.as_slice.ensures ∙ c.stats.ensures.value in
    c.as_slice-2.ensures ∙ numbers_read _ _ _ _ same (omega (arith, c.requires, ap length same, as_many _ _ c.stats.ensures.sound.statistics)) c.index-as_slice-index.is
