use Rattle.rx_cover.proofs.Losing.{cover_keeps}
use Rattle.rx_cover.proofs.laws.covers_lose_no_key.Goals as goal

pub returns : goal.returns
returns c = cover_keeps
