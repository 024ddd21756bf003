use Rattle.rx_engine.proofs.Headline.{ranges_keep_rows}
use Rattle.rx_engine.proofs.laws.ranges_lose_no_row.Goals as goal

pub returns : goal.returns
returns c = ranges_keep_rows
