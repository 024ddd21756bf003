use Rattle.rx_token.proofs.Rises.{whole_rises}
use Rattle.rx_token.proofs.scans.spans_rise.Goals as goal

pub returns : goal.returns
returns c = whole_rises
