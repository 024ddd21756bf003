use Rattle.std.proofs.Common.{arith, ap, sym, ◌∙◌}
use Rattle.rx_tree.specs.Tree.Level.{item, end}
use Rattle.rx_level.specs.Step.{level_of, tall_of}
use Rattle.rx_cut.specs.Clip.{clipped}
use Rattle.rx_cut.proofs.Bare.{longer}
use Rattle.rx_cut.proofs.Cuts.{from_end, seen, lower_left, lower_right}
use Rattle.rx_cut.proofs.Clipped.{alone_clipped, right_clipped, left_clipped}
use Rattle.rx_cut.proofs.clipping.+clip_from_top.Goals as goal

pub clip_from_top-requires : goal.clip_from_top-requires
clip_from_top-requires t c =
    let o = seen c.args.levels.now c.args.root c.in-Some.seen.child c.in-Some.seen.left c.in-Some.seen.right c.in-Some.seen.span.now c.requires.sound c.in-Some.ensures.fork c.in-Some.ensures.level c.requires.order in
    (omega (arith, c.decreases, lower_right _ (tall_of c.args.levels.now c.in-Some.seen.left) (tall_of c.args.levels.now c.in-Some.seen.right) o.height), (c.requires.sound, (c.in-Some.ensures.right, (o.right_order, c.requires.span))))

pub returns-then-is_at_most-clause-level : goal.returns-then-is_at_most-clause-level
returns-then-is_at_most-clause-level t c =
    let o = seen c.args.levels.now c.args.root c.in-Some.seen.child c.in-Some.seen.left c.in-Some.seen.right c.in-Some.seen.span.now c.requires.sound c.in-Some.ensures.fork c.in-Some.ensures.level c.requires.order in
    c.in_ok-whole.ensures.level
    ∙ right_clipped c.args.span.now c.in-Some.seen.span.now (level_of c.args.levels.now c.in-Some.seen.child) (level_of c.args.levels.now c.in-Some.seen.left) (level_of c.args.levels.now c.in-Some.seen.right) c.requires.span o.order (sym c.is_at_most.ensures ∙ c.if-is_at_most.true)
    ∙ ap (clipped c.args.span.now) (sym c.in-Some.ensures.level)

pub returns-then-is_at_most-clause-live : goal.returns-then-is_at_most-clause-live
returns-then-is_at_most-clause-live t c =
    let o = seen c.args.levels.now c.args.root c.in-Some.seen.child c.in-Some.seen.left c.in-Some.seen.right c.in-Some.seen.span.now c.requires.sound c.in-Some.ensures.fork c.in-Some.ensures.level c.requires.order in
    omega (arith, c.in_ok-whole.ensures.live, lower_right _ (tall_of c.args.levels.now c.in-Some.seen.left) (tall_of c.args.levels.now c.in-Some.seen.right) o.height)

pub returns-then-is_at_most-clause-one : goal.returns-then-is_at_most-clause-one
returns-then-is_at_most-clause-one t c few =
    let long = longer _ (level_of c.args.levels.now c.in-Some.seen.left) c.in-Some.seen.span.now (level_of c.args.levels.now c.in-Some.seen.child) (level_of c.args.levels.now c.in-Some.seen.right) c.in-Some.ensures.level in
    c.in_ok-whole.ensures.one (omega (arith, few, long))

pub clip_from_top-requires-then-is_at_most-2 : goal.clip_from_top-requires-then-is_at_most-2
clip_from_top-requires-then-is_at_most-2 t c =
    let o = seen c.args.levels.now c.args.root c.in-Some.seen.child c.in-Some.seen.left c.in-Some.seen.right c.in-Some.seen.span.now c.requires.sound c.in-Some.ensures.fork c.in-Some.ensures.level c.requires.order in
    (omega (arith, c.decreases, lower_left _ (tall_of c.args.levels.now c.in-Some.seen.left) (tall_of c.args.levels.now c.in-Some.seen.right) o.height), (c.requires.sound, (c.in-Some.ensures.left, (o.left_order, c.requires.span))))

pub returns-then-is_at_most-2-clause-level : goal.returns-then-is_at_most-2-clause-level
returns-then-is_at_most-2-clause-level t c =
    let o = seen c.args.levels.now c.args.root c.in-Some.seen.child c.in-Some.seen.left c.in-Some.seen.right c.in-Some.seen.span.now c.requires.sound c.in-Some.ensures.fork c.in-Some.ensures.level c.requires.order in
    c.in_ok-whole-2.ensures.level
    ∙ left_clipped c.args.span.now c.in-Some.seen.span.now (level_of c.args.levels.now c.in-Some.seen.child) (level_of c.args.levels.now c.in-Some.seen.left) (level_of c.args.levels.now c.in-Some.seen.right) o.order (sym c.is_at_most-2.ensures ∙ c.if-is_at_most-2.true)
    ∙ ap (clipped c.args.span.now) (sym c.in-Some.ensures.level)

pub returns-then-is_at_most-2-clause-live : goal.returns-then-is_at_most-2-clause-live
returns-then-is_at_most-2-clause-live t c =
    let o = seen c.args.levels.now c.args.root c.in-Some.seen.child c.in-Some.seen.left c.in-Some.seen.right c.in-Some.seen.span.now c.requires.sound c.in-Some.ensures.fork c.in-Some.ensures.level c.requires.order in
    omega (arith, c.in_ok-whole-2.ensures.live, lower_left _ (tall_of c.args.levels.now c.in-Some.seen.left) (tall_of c.args.levels.now c.in-Some.seen.right) o.height)

pub returns-then-is_at_most-2-clause-one : goal.returns-then-is_at_most-2-clause-one
returns-then-is_at_most-2-clause-one t c few =
    let long = longer _ (level_of c.args.levels.now c.in-Some.seen.left) c.in-Some.seen.span.now (level_of c.args.levels.now c.in-Some.seen.child) (level_of c.args.levels.now c.in-Some.seen.right) c.in-Some.ensures.level in
    c.in_ok-whole-2.ensures.one (omega (arith, few, long))

pub returns-then-is_alone-clause-level : goal.returns-then-is_alone-clause-level
returns-then-is_alone-clause-level t c =
    let o = seen c.args.levels.now c.args.root c.in-Some.seen.child c.in-Some.seen.left c.in-Some.seen.right c.in-Some.seen.span.now c.requires.sound c.in-Some.ensures.fork c.in-Some.ensures.level c.requires.order in
    c.in_ok-whole-3.ensures.level
    ∙ ap (λ x. item x (level_of c.args.levels.now c.in-Some.seen.child) end) (c.in_ok-both.ensures ∙ ap (from_end c.args.span.now.lo) c.in_ok-front.ensures)
    ∙ alone_clipped c.args.span.now c.in-Some.seen.span.now (level_of c.args.levels.now c.in-Some.seen.child) (level_of c.args.levels.now c.in-Some.seen.left) (level_of c.args.levels.now c.in-Some.seen.right) c.requires.span o.order
    (sym c.is_at_most.ensures ∙ c.if-is_at_most.false) (sym c.is_at_most-2.ensures ∙ c.if-is_at_most-2.false) (c.is_alone.ensures.yes c.if-is_alone.true)
    ∙ ap (clipped c.args.span.now) (sym c.in-Some.ensures.level)

pub returns-then-is_alone-clause-live : goal.returns-then-is_alone-clause-live
returns-then-is_alone-clause-live t c =
    let o = seen c.args.levels.now c.args.root c.in-Some.seen.child c.in-Some.seen.left c.in-Some.seen.right c.in-Some.seen.span.now c.requires.sound c.in-Some.ensures.fork c.in-Some.ensures.level c.requires.order in
    omega (arith, c.in_ok-whole-3.ensures.live, lower_left _ (tall_of c.args.levels.now c.in-Some.seen.left) (tall_of c.args.levels.now c.in-Some.seen.right) o.height)

pub returns-clause-one : goal.returns-clause-one
returns-clause-one t c few =
    let long = longer _ (level_of c.args.levels.now c.in-Some.seen.left) c.in-Some.seen.span.now (level_of c.args.levels.now c.in-Some.seen.child) (level_of c.args.levels.now c.in-Some.seen.right) c.in-Some.ensures.level in
    absurd (omega (arith, few, long, c.is_alone.ensures.no c.if-is_alone.false))
