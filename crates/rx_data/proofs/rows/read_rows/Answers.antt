use Rattle.std.proofs.Common.{sym}
use Rattle.rx_data.proofs.Steps.{same_outcome}
use Rattle.rx_data.proofs.Whole.{odd_quotes, even_quotes, fit_given, few_given}
use Rattle.rx_data.proofs.rows.read_rows.Goals as goal

pub returns-then-quotes-eq1-clause-exact : goal.returns-then-quotes-eq1-clause-exact
returns-then-quotes-eq1-clause-exact c = rw c.quotes_in-quotes.ensures (odd_quotes _ _ (rw c.quotes_in-quotes.ensures at c.if-quotes-eq1.true))

pub returns-clause-exact : goal.returns-clause-exact
returns-clause-exact c =
    same_outcome _ _ _ (sym (even_quotes _ _ (rw c.quotes_in-quotes.ensures at c.if-quotes-eq1.false))) (rw c.as_slice.ensures at c.rows_under.ensures)

pub returns-clause-fits : goal.returns-clause-fits
returns-clause-fits c = fit_given c.args.schema.now _ _ (rw c.as_slice.ensures at c.rows_under.ensures)

pub returns-clause-few : goal.returns-clause-few
returns-clause-few c = few_given c.args.schema.now _ _ (rw c.as_slice.ensures at c.rows_under.ensures)
