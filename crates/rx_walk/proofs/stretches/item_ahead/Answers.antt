use Rattle.std.proofs.Common.{arith}
use Rattle.std.proofs.lemmas.Option.{IfSome_then}
use Rattle.rx_level.specs.Step.{level_of}
use Rattle.rx_level.proofs.Entries.{if_none_then}
use Rattle.rx_walk.proofs.Ahead.{none_ahead, item_at, entry_there, place_low}
use Rattle.rx_walk.proofs.stretches.item_ahead.Goals as goal

pub returns-then-passed-count-clause-none : goal.returns-then-passed-count-clause-none
returns-then-passed-count-clause-none c = none_ahead c.args.falls c.args.passed (level_of c.args.levels.now c.args.root) (omega (arith, c.count-count.ensures, c.if-passed-count.true))

pub returns-clause-some : goal.returns-clause-some
returns-clause-some c = IfSome_then c.find.result c.find.ensures.some (λ f h.
    item_at c.args.falls c.args.passed c.count-count.result c.place_ahead.result (level_of c.args.levels.now c.args.root) f.span.now (level_of c.args.levels.now f.child)
    c.count-count.ensures c.if-passed-count.false c.place_ahead.ensures h)

pub returns-clause-none : goal.returns-clause-none
returns-clause-none c = if_none_then c.find.result c.find.ensures.none (λ h.
    absurd (entry_there c.place_ahead.result (level_of c.args.levels.now c.args.root)
    (omega (arith, c.count-count.ensures, c.place_ahead.ensures, place_low c.args.falls c.args.passed c.count-count.result c.if-passed-count.false)) h))
