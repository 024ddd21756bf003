use Rattle.std.proofs.Common.{arith, sym, ◌∙◌}
use Rattle.rx_data.proofs.Steps.{no_field, wrong_count, right_count, field_more, field_fault, fields_end, refused_by}
use Rattle.rx_data.proofs.rows.record_row.Goals as goal

pub returns-then-len-columns : goal.returns-then-len-columns
returns-then-len-columns c = wrong_count _ _ _ (λ e. c.if-len-columns.true (c.len.ensures ∙ e))

pub returns-in_default : goal.returns-in_default
returns-in_default c = let h = no_field _ _ c.in_default.ensures.value in absurd (omega arith)

pub returns-in-Err : goal.returns-in-Err
returns-in-Err c =
    refused_by _ _ c.in-Err.fault c.in-Err.ensures
    (λ e. right_count _ _ _ (sym c.len.ensures ∙ c.if-len-columns.false)
    ∙ sym (field_fault c.args.columns.now c.args.row _ c.loop-i.i c.index-columns-i.result _ c.loop-i.values c.in-Err.fault _ (omega arith) c.index-columns-i.is c.in-Some.ensures.value (sym e) c.loop-i.invariant))

pub loop-i-preserved : goal.loop-i-preserved
loop-i-preserved c =
    rw c.in_ok-push-in-Ok.ensures.ok (
    field_more c.args.columns.now c.args.row _ c.loop-i.i c.index-columns-i.result _ c.loop-i.values c.in-Ok.value _ (omega arith) c.index-columns-i.is c.in-Some.ensures.value (sym c.in-Ok.ensures) c.loop-i.invariant
    )

pub returns : goal.returns
returns c =
    right_count _ _ _ (sym c.len.ensures ∙ c.if-len-columns.false) ∙ sym (fields_end c.args.columns.now _ _ c.loop-i.i c.loop-i.values _ (omega arith) c.loop-i.invariant)
