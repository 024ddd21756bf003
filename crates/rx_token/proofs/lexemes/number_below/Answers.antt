use Rattle.rx_token.proofs.Runs.{utf8_numeral}
use Rattle.rx_token.proofs.lexemes.number_below.Goals as goal

pub returns-in_default : goal.returns-in_default
returns-in_default c = absurd (c.in_default.ensures.cases.0 (utf8_numeral c.args.digits.now c.requires))
