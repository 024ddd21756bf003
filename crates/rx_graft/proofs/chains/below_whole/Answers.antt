use Rattle.std.proofs.Common.{arith, sym, ◌∙◌}
use Rattle.rx_graft.proofs.Chained.{opened_many, opened_narrow, opened_whole}
use Rattle.rx_graft.proofs.GraftedTrees.{child_stands}
use Rattle.rx_graft.proofs.chains.below_whole.Goals as goal

pub returns-then-count-ne0-clause-none : goal.returns-then-count-ne0-clause-none
returns-then-count-ne0-clause-none c = λ parts. opened_many c.args.nullable parts _ _ c.in-Some.top.span.now _ _ c.in-Some.ensures.level (omega (arith, c.count.ensures, c.if-count-ne0.true))

pub returns-then-count-ne0-2-clause-none : goal.returns-then-count-ne0-2-clause-none
returns-then-count-ne0-2-clause-none c = λ parts. opened_many c.args.nullable parts _ _ c.in-Some.top.span.now _ _ c.in-Some.ensures.level (omega (arith, c.count-2.ensures, c.if-count-ne0-2.true))

pub returns-then-not-is_whole_span-clause-none : goal.returns-then-not-is_whole_span-clause-none
returns-then-not-is_whole_span-clause-none c = λ parts. opened_narrow c.args.nullable parts _ _ c.in-Some.top.span.now _ _ c.in-Some.ensures.level (omega (arith, c.count.ensures, c.if-count-ne0.false)) (omega (arith, c.count-2.ensures, c.if-count-ne0-2.false)) (sym c.is_whole_span.ensures ∙ c.if-not-is_whole_span.true)

pub returns-clause-some : goal.returns-clause-some
returns-clause-some c = λ parts. opened_whole c.args.nullable parts _ _ c.in-Some.top.span.now _ _ c.in-Some.ensures.level (omega (arith, c.count.ensures, c.if-count-ne0.false)) (omega (arith, c.count-2.ensures, c.if-count-ne0-2.false)) (sym c.is_whole_span.ensures ∙ c.if-not-is_whole_span.false)

pub returns-clause-stands : goal.returns-clause-stands
returns-clause-stands c = child_stands _ _ c.in-Some.ensures.fork
