use Rattle.rx_scan.proofs.Found.{each_row, each_in_ranges}
use Rattle.rx_scan.proofs.laws.scans_hand_out_each_row_once.Goals as goal

pub returns-clause-index : goal.returns-clause-index
returns-clause-index c = each_row

pub returns-clause-range : goal.returns-clause-range
returns-clause-range c = each_in_ranges
