use Rattle.rx_token.proofs.Names.{name_only, name_all}
use Rattle.rx_token.proofs.quotes.quoted_names.Goals as goal

pub returns-clause-only : goal.returns-clause-only
returns-clause-only c = name_only

pub returns-clause-all : goal.returns-clause-all
returns-clause-all c = name_all
