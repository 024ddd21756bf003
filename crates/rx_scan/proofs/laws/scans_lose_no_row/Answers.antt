use Rattle.rx_scan.proofs.Found.{none_lost}
use Rattle.rx_scan.proofs.laws.scans_lose_no_row.Goals as goal

pub returns : goal.returns
returns c = none_lost
