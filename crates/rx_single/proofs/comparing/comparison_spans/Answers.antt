use Rattle.std.proofs.Common.{IfOk, sym, subst}
use Rattle.rx_value.specs.declared.values.Value.{Value}
use Rattle.rx_regions.specs.Cans.{compares}
use Rattle.rx_single.specs.Single.{AreSpansOf}
use Rattle.rx_single.proofs.comparing.comparison_spans.Goals as goal

pub returns-in-Null : goal.returns-in-Null
returns-in-Null c =
    subst (λ (v : Value). IfOk c.spans_about_null.result (λ spans. AreSpansOf c.args.nullable spans (compares c.args.sign c.args.op v c.args.chars))) (sym c.in-Null.is) c.spans_about_null.ensures
