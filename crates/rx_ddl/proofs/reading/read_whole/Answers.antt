use Rattle.std.proofs.Common.{sym, ◌∙◌}
use Rattle.rx_reading.proofs.Whole.{bad_text, good_text}
use Rattle.rx_ddl.specs.Create.{create_at, create_form}
use Rattle.rx_ddl.proofs.reading.read_whole.Goals as goal

pub returns-then-is_some-clause-refused : goal.returns-then-is_some-clause-refused
unfolding create_form
returns-then-is_some-clause-refused c = λ _. bad_text create_at _ _ _ c.in-Ok.ensures.value c.if-is_some.ensures

pub returns-in-Ok-Some-clause-exact : goal.returns-in-Ok-Some-clause-exact
unfolding create_form
returns-in-Ok-Some-clause-exact c =
    let read = rw c.in-Ok-Some.field-0-is at c.in-Ok-Some.ensures in
    good_text create_at _ _ _ c.in-Ok.ensures.value c.if-is_some.ensures ∙ rw (← c.as_slice.ensures) (sym read)

pub returns-in-Ok-None-clause-refused : goal.returns-in-Ok-None-clause-refused
unfolding create_form
returns-in-Ok-None-clause-refused c =
    let read = rw c.in-Ok-None.field-0-is at c.in-Ok-None.ensures in
    λ _. good_text create_at _ _ _ c.in-Ok.ensures.value c.if-is_some.ensures ∙ rw (← c.as_slice.ensures) (sym read)
