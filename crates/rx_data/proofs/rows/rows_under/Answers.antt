use Rattle.std.proofs.Common.{sym, ◌∙◌}
use Rattle.rx_data.proofs.Steps.{same_outcome}
use Rattle.rx_data.proofs.Whole.{no_header, other_header, right_header}
use Rattle.rx_data.proofs.rows.rows_under.Goals as goal

pub returns-then-not-branch : goal.returns-then-not-branch
returns-then-not-branch c =
    no_header _ _ (sym c.reader_of-reader.ensures.left ∙ (rw c.if-not-branch.true at c.in_ok-take_record.ensures.takes))

pub returns-then-not-is_header : goal.returns-then-not-is_header
returns-then-not-is_header c =
    other_header _ _ _ _ (sym c.reader_of-reader.ensures.left ∙ (rw c.if-not-branch.false at c.in_ok-take_record.ensures.takes)) (sym c.is_header.ensures ∙ c.if-not-is_header.true)

pub returns : goal.returns
returns c =
    same_outcome _ _ _ (right_header _ _ _ _ (sym c.reader_of-reader.ensures.left ∙ (rw c.if-not-branch.false at c.in_ok-take_record.ensures.takes)) (sym c.is_header.ensures ∙ c.if-not-is_header.false)) c.all_rows.ensures
