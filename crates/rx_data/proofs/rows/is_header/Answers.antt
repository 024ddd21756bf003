use Rattle.std.proofs.Common.{arith, sym, ◌∙◌}
use Rattle.rx_data.proofs.Steps.{no_field, other_length, name_more, name_differs}
use Rattle.rx_data.proofs.rows.is_header.Goals as goal

pub returns-then-len-columns : goal.returns-then-len-columns
returns-then-len-columns c = other_length _ _ (λ e. c.if-len-columns.true (c.len.ensures ∙ e))

pub returns-in_default : goal.returns-in_default
returns-in_default c = let h = no_field _ _ c.in_default.ensures.value in absurd (omega arith)

pub returns-then-not-same_name : goal.returns-then-not-same_name
returns-then-not-same_name c =
    name_differs _ _ _ c.index-columns-i.result _ (omega arith) c.index-columns-i.is c.in-Some.ensures.value (sym (rw c.as_slice.ensures at c.if-not-same_name.ensures))
    ∙ c.loop-i.invariant

pub loop-i-preserved : goal.loop-i-preserved
loop-i-preserved c =
    name_more _ _ _ c.index-columns-i.result _ (omega arith) c.index-columns-i.is c.in-Some.ensures.value (sym (rw c.as_slice.ensures at c.if-not-same_name.ensures))
    ∙ c.loop-i.invariant
