use Rattle.std.proofs.Common.{rules}
use Rattle.rx_words.proofs.parse.empty_command.Goals as goal

pub returns : goal.returns
returns c = search rules
