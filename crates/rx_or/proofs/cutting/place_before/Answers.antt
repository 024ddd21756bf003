use Rattle.rx_value.proofs.Ends.{below-at_most}
use Rattle.rx_or.proofs.Compared.{compared}
use Rattle.rx_or.proofs.cutting.place_before.Goals as goal

pub returns-in_default : goal.returns-in_default
returns-in_default c = (compared c.args.item.now.span.lo c.args.edge.now _ c.compare_ends.ensures).not_less c.in_default.not-Less

pub returns-in-Greater : goal.returns-in-Greater
returns-in-Greater c = (
  (compared c.args.item.now.span.lo c.args.edge.now _ c.compare_ends.ensures).less c.in-Less.is,
  (compared c.args.item.now.span.hi c.args.edge.now _ c.compare_ends-reach.ensures).greater c.in-Greater.is,
  (λ none. absurd (cc c.in-Some.is)),
)

pub returns-in-Less-reach : goal.returns-in-Less-reach
returns-in-Less-reach c =
    let o = compared c.args.item.now.span.hi c.args.edge.now _ c.compare_ends-reach.ensures in
    ((below-at_most c.args.item.now.span.hi c.args.edge.now (o.less c.in-Less-reach.is)), (λ same none. o.less_apart c.in-Less-reach.is same))

pub returns-in_default-reach : goal.returns-in_default-reach
returns-in_default-reach c = (
  (compared c.args.item.now.span.hi c.args.edge.now _ c.compare_ends-reach.ensures).not_greater c.in_default-reach.not-Greater,
  (λ same none. absurd (cc c.in-Some.is)),
)

pub returns-in_default-reach-2 : goal.returns-in_default-reach-2
returns-in_default-reach-2 c = (
  (compared c.args.item.now.span.lo c.args.edge.now _ c.compare_ends.ensures).less c.in-Less.is,
  (compared c.args.item.now.span.hi c.args.edge.now _ c.compare_ends-reach.ensures).not_less c.in_default-reach-2.not-Less,
  c.in-None.is,
)
