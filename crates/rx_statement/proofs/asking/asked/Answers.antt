use Rattle.rx_script.specs.Statements.{written_select}
use Rattle.rx_query.specs.Steps.{question_of}
use Rattle.rx_statement.proofs.AskingLaws.{asked_grouped, asked_ungrouped}
use Rattle.rx_statement.proofs.asking.asked.Goals as goal

pub returns-then-grouped : goal.returns-then-grouped
returns-then-grouped c =
    let unknown = rw c.in_default.is at c.unknown_name.ensures in
    asked_grouped c.args.schema.now (written_select c.args.select.now) (question_of c.in_ok-question.question) unknown c.as_slice.ensures c.is_mismatched.ensures c.if-is_mismatched.false c.in_ok-question.ensures c.grouped.ensures c.if-grouped.true

pub returns : goal.returns
returns c =
    let unknown = rw c.in_default.is at c.unknown_name.ensures in
    asked_ungrouped c.args.schema.now (written_select c.args.select.now) (question_of c.in_ok-question.question) unknown c.as_slice.ensures c.is_mismatched.ensures c.if-is_mismatched.false c.in_ok-question.ensures c.grouped.ensures c.if-grouped.false
