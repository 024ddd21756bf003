use Rattle.std.proofs.Common.{arith, refl}
use Rattle.rx_level.specs.Step.{level_of}
use Rattle.rx_level.proofs.Entries.{entry_smaller, entries_tell}
use Rattle.rx_level.proofs.reading.+same.Goals as goal

pub same_items-same_levels-requires : goal.same_items-same_levels-requires
same_items-same_levels-requires t c =
    (omega (arith, entry_smaller (level_of c.args.levels.now c.args.g) c.args.place _ c.in-Some.ensures.some, c.decreases), (c.in-Some.ensures.child, c.in-Some-find.ensures.child))

pub same_levels-returns : goal.same_levels-returns
same_levels-returns t c = (
  (λ yes. entries_tell (level_of c.args.levels.now c.args.g) (level_of c.args.levels.now c.args.h) (omega (arith, c.count-count.ensures, c.count.ensures, c.if-count.false))
      (λ j low. c.items.invariant j (omega (arith, low, c.count-count.ensures, c.items.auto.place-end, c.items-test.false)))),
  (λ e. refl),
)
