use Rattle.rx_token.proofs.Readings.{reads_whole}
use Rattle.rx_token.proofs.scans.scan_reads.Goals as goal

pub returns : goal.returns
returns c = reads_whole
