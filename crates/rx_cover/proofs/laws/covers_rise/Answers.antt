use Rattle.rx_cover.proofs.Rising.{cover_rises}
use Rattle.rx_cover.proofs.laws.covers_rise.Goals as goal

pub returns : goal.returns
returns c parts falling t same canonical = cover_rises parts falling t canonical
