use Rattle.rx_value.proofs.Ends.{below-at_most}
use Rattle.rx_or.proofs.Compared.{compared}
use Rattle.rx_or.proofs.cutting.place_after.Goals as goal

pub returns-in_default : goal.returns-in_default
returns-in_default c = (compared c.args.edge.now c.args.item.now.span.hi _ c.compare_ends.ensures).not_less c.in_default.not-Less

pub returns-in-Less-reach : goal.returns-in-Less-reach
returns-in-Less-reach c = (
  (compared c.args.item.now.span.lo c.args.edge.now _ c.compare_ends-reach.ensures).less c.in-Less-reach.is,
  (compared c.args.edge.now c.args.item.now.span.hi _ c.compare_ends.ensures).less c.in-Less.is,
  (λ none. absurd (cc c.in-Some.is)),
)

pub returns-in_default-reach : goal.returns-in_default-reach
returns-in_default-reach c = (
  (compared c.args.item.now.span.lo c.args.edge.now _ c.compare_ends-reach.ensures).not_less c.in_default-reach.not-Less,
  (λ same none. absurd (cc c.in-Some.is)),
)

pub returns-in-Greater : goal.returns-in-Greater
returns-in-Greater c =
    let o = compared c.args.item.now.span.lo c.args.edge.now _ c.compare_ends-reach.ensures in
    ((below-at_most c.args.edge.now c.args.item.now.span.lo (o.greater c.in-Greater.is)), (λ same none. o.greater_apart c.in-Greater.is same))

pub returns-in_default-reach-2 : goal.returns-in_default-reach-2
returns-in_default-reach-2 c = (
  (compared c.args.item.now.span.lo c.args.edge.now _ c.compare_ends-reach.ensures).not_greater c.in_default-reach-2.not-Greater,
  (compared c.args.edge.now c.args.item.now.span.hi _ c.compare_ends.ensures).less c.in-Less.is,
  c.in-None.is,
)
