use Rattle.std.proofs.Common.{ap, ◌∙◌}
use Rattle.rx_cond.specs.Test.{is_null_value}
use Rattle.rx_single.proofs.Comparisons.{comparison_said, cut_some}
use Rattle.rx_single.proofs.comparing.spans_about_value.Goals as goal

pub spans_by-requires : goal.spans_by-requires
spans_by-requires c = ap is_null_value (c.in_ok-cut.ensures ∙ c.cut.ensures) ∙ cut_some c.args.chars c.args.value.now ∙ c.requires

pub returns : goal.returns
returns c =
    comparison_said c.args.nullable c.in_ok-spans.spans c.args.sign c.args.op c.args.chars c.args.value.now c.in_ok-cut.cut c.flags_of.result
    c.requires (c.in_ok-cut.ensures ∙ c.cut.ensures) c.flags_of.ensures c.in_ok-spans.ensures
