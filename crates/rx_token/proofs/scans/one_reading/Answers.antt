use Rattle.rx_token.proofs.Once.{scans_once}
use Rattle.rx_token.proofs.scans.one_reading.Goals as goal

pub returns : goal.returns
returns c = λ text ts us b d s r. let same = scans_once 0 text ts us b d s r in (same.tokens, same.bad)
