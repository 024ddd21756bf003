use Rattle.std.proofs.Common.{ℕ, take, sym, subst}
use Rattle.std.specs.Str.Parse.{AllDigits}
use Rattle.rx_token.proofs.Runs.{digits_all}
use Rattle.rx_token.proofs.lexemes.lexeme_at.Goals as goal

pub number_of-requires-clause-digits : goal.number_of-requires-clause-digits
number_of-requires-clause-digits c = subst (λ (n : ℕ). AllDigits 10 (take n c.args.bytes.now)) (sym c.digit_run.ensures.value) (digits_all c.args.bytes.now)
