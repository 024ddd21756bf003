use Rattle.rx_token.proofs.Closes.{first_close}
use Rattle.rx_token.proofs.blanks.comment_ends.Goals as goal

pub returns : goal.returns
returns c = first_close
