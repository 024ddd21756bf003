use Rattle.std.proofs.Common.{◌∷◌, [], ◌++◌, ap, sym, ◌∙◌}
use Rattle.rx_query.specs.Steps.{question_of}
use Rattle.rx_named.specs.Naming.{names}
use Rattle.rx_plan.proofs.Named.{filter_yes, filter_no}
use Rattle.rx_plan.proofs.naming.columns_named.Goals as goal
use Rattle.rx_plan.proofs.naming.columns_named.Goals.{then-names+in_ok-push, else-names}

pub loop-column-preserved : goal.loop-column-preserved
loop-column-preserved c =
    let test = names (question_of c.args.query.now) in
    let n = c.loop-column.column in
    elim c.if-names.branch [
      | then-names+in_ok-push w ↦
          w.named-is ∙ w.in_ok-push.ensures.ok ∙ ap (λ l. l ++ n ∷ []) c.loop-column.invariant ∙ sym (filter_yes test n (sym c.names.ensures ∙ w.if-names.true))
      | else-names w ↦ w.named-is ∙ c.loop-column.invariant ∙ sym (filter_no test n (sym c.names.ensures ∙ w.if-names.false))
    ]
