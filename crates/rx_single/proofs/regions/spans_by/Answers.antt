use Rattle.std.proofs.Common.{rules, ◌∙◌}
use Rattle.rx_single.proofs.Saying.{regions_begin, said_spans}
use Rattle.rx_single.proofs.regions.spans_by.Goals as goal

pub united-requires-clause-first : goal.united-requires-clause-first
united-requires-clause-first c =
    regions_begin c.args.nullable c.args.value.now c.args.flags c.as_slice.result.now c.requires (c.as_slice.ensures ∙ search rules)

pub returns : goal.returns
returns c =
    said_spans c.args.nullable c.args.value.now c.args.flags c.as_slice.result.now c.in_ok-spans.spans c.requires (c.as_slice.ensures ∙ search rules) c.in_ok-spans.ensures
