use Rattle.std.proofs.Common.{arith}
use Rattle.rx_data.proofs.Steps.{row_more, row_fault, too_many, rows_end, refused_by}
use Rattle.rx_data.proofs.rows.all_rows.Goals as goal

pub returns-then-not-branch : goal.returns-then-not-branch
returns-then-not-branch c =
    rows_end c.args.columns.now c.loop-i.i c.loop-i.rows _ _ (rw c.if-not-branch.true at c.in_ok-take_record.ensures.takes) c.loop-i.invariant.rows

pub returns-in-Err : goal.returns-in-Err
returns-in-Err c =
    refused_by _ _ c.in-Err.fault c.in-Err.ensures
    (λ e. row_fault c.args.columns.now c.loop-i.i c.loop-i.rows _ _ _ c.in-Err.fault _ (rw c.if-not-branch.false at c.in_ok-take_record.ensures.takes) (omega arith) e c.loop-i.invariant.rows)

pub loop-i-preserved : goal.loop-i-preserved
loop-i-preserved c =
    record {
      plain = c.in_ok-take_record.ensures.plain;
      rows = rw c.in_ok-push-in-Ok.ensures.ok (row_more c.args.columns.now c.loop-i.i c.loop-i.rows _ _ _ c.in-Ok.row _ (rw c.if-not-branch.false at c.in_ok-take_record.ensures.takes) (omega arith) c.in-Ok.ensures c.loop-i.invariant.rows);
    }

pub returns-then-branch : goal.returns-then-branch
returns-then-branch c =
    too_many c.args.columns.now c.loop-i.i c.loop-i.rows _ _ _ _ (rw c.if-branch.true at c.in_ok-take_record-2.ensures.takes) (omega arith) c.loop-i.invariant.rows

pub returns : goal.returns
returns c =
    rows_end c.args.columns.now c.loop-i.i c.loop-i.rows _ _ (rw c.if-branch.false at c.in_ok-take_record-2.ensures.takes) c.loop-i.invariant.rows
