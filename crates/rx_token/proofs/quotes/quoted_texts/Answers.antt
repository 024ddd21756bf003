use Rattle.rx_token.proofs.Texts.{text_only, text_all}
use Rattle.rx_token.proofs.quotes.quoted_texts.Goals as goal

pub returns-clause-only : goal.returns-clause-only
returns-clause-only c = text_only

pub returns-clause-all : goal.returns-clause-all
returns-clause-all c = text_all
