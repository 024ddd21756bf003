use Rattle.std.proofs.Common.{◌++◌, ap, sym, ◌∙◌, codes, append_assoc}
use Rattle.std.proofs.lemmas.Result.{IfOk-weaker}
use Rattle.rx_trace.specs.Ranges.{value_text}
use Rattle.rx_trace.proofs.texts.equation_text.Goals as goal

pub returns : goal.returns
returns c =
    IfOk-weaker c.format.result _ _
    (λ t e. e ∙ ap (λ v. c.args.name.now ++ (codes " = " ++ v)) c.in_ok-text.ensures ∙ sym (append_assoc c.args.name.now (codes " = ") (value_text c.args.value.now)))
    c.format.ensures.ok
