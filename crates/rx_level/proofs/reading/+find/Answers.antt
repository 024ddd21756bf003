use Rattle.std.proofs.Common.{◌-◌, ◌∙◌, arith, ap}
use Rattle.std.proofs.lemmas.Option.{IfSome_then}
use Rattle.rx_tree.specs.Tree.Level.{item}
use Rattle.rx_level.specs.Entries.{entry_at}
use Rattle.rx_level.specs.Step.{level_of}
use Rattle.rx_level.proofs.Entries.{if_none_then, entry_before, entry_after, entry_here, fewer_left, fewer_right}
use Rattle.rx_level.proofs.reading.+find.Goals as goal

pub find-requires : goal.find-requires
find-requires t c = (omega (arith, fewer_left (level_of c.args.levels.now c.args.root) (level_of c.args.levels.now c.in_ok-seen.seen.left) c.in_ok-seen.seen.span.now (level_of c.args.levels.now c.in_ok-seen.seen.child) (level_of c.args.levels.now c.in_ok-seen.seen.right) c.in_ok-seen.ensures.level, c.decreases), c.in_ok-seen.ensures.left)

pub returns-then-place-before-clause-some : goal.returns-then-place-before-clause-some
returns-then-place-before-clause-some t c = IfSome_then c.find.result c.find.ensures.some (λ f h. ap (entry_at c.args.place) c.in_ok-seen.ensures.level ∙ entry_before (level_of c.args.levels.now c.in_ok-seen.seen.left) (item c.in_ok-seen.seen.span.now (level_of c.args.levels.now c.in_ok-seen.seen.child) (level_of c.args.levels.now c.in_ok-seen.seen.right)) c.args.place (omega (arith, c.if-place-before.true, c.count-before.ensures)) ∙ h)

pub returns-then-place-before-clause-none : goal.returns-then-place-before-clause-none
returns-then-place-before-clause-none t c = if_none_then c.find.result c.find.ensures.none (λ h. ap (entry_at c.args.place) c.in_ok-seen.ensures.level ∙ entry_before (level_of c.args.levels.now c.in_ok-seen.seen.left) (item c.in_ok-seen.seen.span.now (level_of c.args.levels.now c.in_ok-seen.seen.child) (level_of c.args.levels.now c.in_ok-seen.seen.right)) c.args.place (omega (arith, c.if-place-before.true, c.count-before.ensures)) ∙ h)

pub find-requires-then-place-before-2 : goal.find-requires-then-place-before-2
find-requires-then-place-before-2 t c = (omega (arith, fewer_right (level_of c.args.levels.now c.args.root) (level_of c.args.levels.now c.in_ok-seen.seen.left) c.in_ok-seen.seen.span.now (level_of c.args.levels.now c.in_ok-seen.seen.child) (level_of c.args.levels.now c.in_ok-seen.seen.right) c.in_ok-seen.ensures.level, c.decreases), c.in_ok-seen.ensures.right)

pub returns-then-place-before-2-clause-some : goal.returns-then-place-before-2-clause-some
returns-then-place-before-2-clause-some t c = IfSome_then c.find-then-place-before-2.result c.find-then-place-before-2.ensures.some (λ f h. ap (entry_at c.args.place) c.in_ok-seen.ensures.level ∙ entry_after (level_of c.args.levels.now c.in_ok-seen.seen.left) c.in_ok-seen.seen.span.now (level_of c.args.levels.now c.in_ok-seen.seen.child) (level_of c.args.levels.now c.in_ok-seen.seen.right) c.args.place (c.args.place - c.count-before.result - 1) (omega (arith, c.if-place-before-2.true, c.count-before.ensures)) ∙ h)

pub returns-then-place-before-2-clause-none : goal.returns-then-place-before-2-clause-none
returns-then-place-before-2-clause-none t c = if_none_then c.find-then-place-before-2.result c.find-then-place-before-2.ensures.none (λ h. ap (entry_at c.args.place) c.in_ok-seen.ensures.level ∙ entry_after (level_of c.args.levels.now c.in_ok-seen.seen.left) c.in_ok-seen.seen.span.now (level_of c.args.levels.now c.in_ok-seen.seen.child) (level_of c.args.levels.now c.in_ok-seen.seen.right) c.args.place (c.args.place - c.count-before.result - 1) (omega (arith, c.if-place-before-2.true, c.count-before.ensures)) ∙ h)

pub returns-clause-some : goal.returns-clause-some
returns-clause-some t c = ap (entry_at c.args.place) c.in_ok-seen.ensures.level ∙ entry_here (level_of c.args.levels.now c.in_ok-seen.seen.left) c.in_ok-seen.seen.span.now (level_of c.args.levels.now c.in_ok-seen.seen.child) (level_of c.args.levels.now c.in_ok-seen.seen.right) c.args.place (omega (arith, c.if-place-before.false, c.if-place-before-2.false, c.count-before.ensures))
