use Rattle.rx_script.proofs.Splitting.{split, only_split}
use Rattle.rx_script.proofs.parsing.split_at_semicolons.Goals as goal

pub returns-clause-all : goal.returns-clause-all
returns-clause-all c = split

pub returns-clause-only : goal.returns-clause-only
returns-clause-only c = only_split
