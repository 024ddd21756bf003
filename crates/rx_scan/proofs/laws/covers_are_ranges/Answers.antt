use Rattle.rx_scan.proofs.Covers.{cover_ranges}
use Rattle.rx_scan.proofs.laws.covers_are_ranges.Goals as goal

pub returns : goal.returns
returns c = cover_ranges
