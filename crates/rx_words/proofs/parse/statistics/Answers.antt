use Rattle.std.proofs.Common.{rules}
use Rattle.rx_words.proofs.parse.statistics.Goals as goal

pub returns-clause-rule : goal.returns-clause-rule
returns-clause-rule c = search rules
