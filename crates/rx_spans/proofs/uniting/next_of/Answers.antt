use Rattle.rx_spans.proofs.Lists.{no_length, only_first, both_first, both_second}
use Rattle.rx_spans.proofs.uniting.next_of.Goals as goal
use Rattle.std.proofs.Common.{sym, ◌∙◌}

pub returns-in_default-split_first-2-clause-some : goal.returns-in_default-split_first-2-clause-some
returns-in_default-split_first-2-clause-some c = only_first c.args.first.now c.args.second.now c.in-Some.one.now c.in-Some.ones.now c.in-Some.ensures.cases.0 (no_length c.args.second.now c.in_default-split_first-2.ensures.cases)

pub returns-then-is_at_most-clause-some : goal.returns-then-is_at_most-clause-some
returns-then-is_at_most-clause-some c = both_first c.args.first.now c.args.second.now c.in-Some.one.now c.in-Some-split_first-2.other.now c.in-Some.ones.now c.in-Some-split_first-2.others.now c.in-Some.ensures.cases.0 c.in-Some-split_first-2.ensures.cases.0 (sym c.is_at_most.ensures ∙ c.if-is_at_most.true)

pub returns-clause-some : goal.returns-clause-some
returns-clause-some c = both_second c.args.first.now c.args.second.now c.in-Some.one.now c.in-Some-split_first-2.other.now c.in-Some.ones.now c.in-Some-split_first-2.others.now c.in-Some.ensures.cases.0 c.in-Some-split_first-2.ensures.cases.0 (sym c.is_at_most.ensures ∙ c.if-is_at_most.false)
