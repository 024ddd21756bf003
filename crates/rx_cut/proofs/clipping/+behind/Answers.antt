use Rattle.std.proofs.Common.{arith, sym, ◌∙◌}
use Rattle.slab.specs.Slab.{slab_len}
use Rattle.rx_level.specs.Step.{tall_of}
use Rattle.rx_cut.proofs.Staying.{stays}
use Rattle.rx_cut.proofs.Cuts.{seen, sides, lower_left, lower_right, after_seen, after_beside, behind_height, behind_made}
use Rattle.rx_cut.proofs.clipping.+behind.Goals as goal

pub behind-requires : goal.behind-requires
behind-requires t c =
    let o = (seen c.args.levels.now c.args.root c.in-Some.seen.child c.in-Some.seen.left c.in-Some.seen.right c.in-Some.seen.span.now c.requires.sound c.in-Some.ensures.fork c.in-Some.ensures.level c.requires.order) in
    (omega (arith, c.decreases, lower_right _ (tall_of c.args.levels.now c.in-Some.seen.left) (tall_of c.args.levels.now c.in-Some.seen.right) o.height), (c.requires.sound, (c.in-Some.ensures.right, o.right_order)))

pub returns-then-is_at_most-clause-level : goal.returns-then-is_at_most-clause-level
returns-then-is_at_most-clause-level t c =
    let o = (seen c.args.levels.now c.args.root c.in-Some.seen.child c.in-Some.seen.left c.in-Some.seen.right c.in-Some.seen.span.now c.requires.sound c.in-Some.ensures.fork c.in-Some.ensures.level c.requires.order) in
    c.in_ok-rest.ensures.level
    ∙ after_beside c.args.levels.now c.args.root c.in-Some.seen.child c.in-Some.seen.left c.in-Some.seen.right c.in-Some.seen.span.now c.args.edge.now o c.in-Some.ensures.level (sym c.is_at_most.ensures ∙ c.if-is_at_most.true)

pub returns-then-is_at_most-clause-height : goal.returns-then-is_at_most-clause-height
returns-then-is_at_most-clause-height t c =
    let o = (seen c.args.levels.now c.args.root c.in-Some.seen.child c.in-Some.seen.left c.in-Some.seen.right c.in-Some.seen.span.now c.requires.sound c.in-Some.ensures.fork c.in-Some.ensures.level c.requires.order) in
    omega (arith, c.in_ok-rest.ensures.height, lower_right _ (tall_of c.args.levels.now c.in-Some.seen.left) (tall_of c.args.levels.now c.in-Some.seen.right) o.height)

pub returns-then-is_at_most-clause-made : goal.returns-then-is_at_most-clause-made
returns-then-is_at_most-clause-made t c =
    let o = (seen c.args.levels.now c.args.root c.in-Some.seen.child c.in-Some.seen.left c.in-Some.seen.right c.in-Some.seen.span.now c.requires.sound c.in-Some.ensures.fork c.in-Some.ensures.level c.requires.order) in
    omega (arith, c.in_ok-rest.ensures.made, lower_right _ (tall_of c.args.levels.now c.in-Some.seen.left) (tall_of c.args.levels.now c.in-Some.seen.right) o.height)

pub behind-requires-2 : goal.behind-requires-2
behind-requires-2 t c =
    let o = (seen c.args.levels.now c.args.root c.in-Some.seen.child c.in-Some.seen.left c.in-Some.seen.right c.in-Some.seen.span.now c.requires.sound c.in-Some.ensures.fork c.in-Some.ensures.level c.requires.order) in
    (omega (arith, c.decreases, lower_left _ (tall_of c.args.levels.now c.in-Some.seen.left) (tall_of c.args.levels.now c.in-Some.seen.right) o.height), (c.requires.sound, (c.in-Some.ensures.left, o.left_order)))

pub hold_both-requires-clause-one : goal.hold_both-requires-clause-one
hold_both-requires-clause-one t c = (stays c.args.levels.now c.behind-2.new.levels _ c.requires.sound c.in_ok-front.ensures.ok c.in-Some.seen.child c.in-Some.ensures.child).lent

pub hold_both-requires-clause-other : goal.hold_both-requires-clause-other
hold_both-requires-clause-other t c = (stays c.args.levels.now c.behind-2.new.levels _ c.requires.sound c.in_ok-front.ensures.ok c.in-Some.seen.right c.in-Some.ensures.right).lent

pub returns-clause-level : goal.returns-clause-level
returns-clause-level t c =
    let o = (seen c.args.levels.now c.args.root c.in-Some.seen.child c.in-Some.seen.left c.in-Some.seen.right c.in-Some.seen.span.now c.requires.sound c.in-Some.ensures.fork c.in-Some.ensures.level c.requires.order) in
    after_seen c.args.levels.now c.behind-2.new.levels c.hold_both.new.levels c.join.new.levels c.args.root c.in-Some.seen.child c.in-Some.seen.left c.in-Some.seen.right c.in_ok-front.front c.in_ok-whole.whole
    c.in-Some.seen.span.now c.in_ok-span.span c.args.edge.now c.requires.sound c.in-Some.ensures.child c.in-Some.ensures.right o c.in-Some.ensures.level (sym c.is_at_most.ensures ∙ c.if-is_at_most.false) c.in_ok-span.ensures
    c.in_ok-front.ensures.ok c.in_ok-front.ensures.level c.in-Ok.ensures.ok c.in_ok-whole.ensures.level

pub returns-clause-height : goal.returns-clause-height
returns-clause-height t c =
    let o = (seen c.args.levels.now c.args.root c.in-Some.seen.child c.in-Some.seen.left c.in-Some.seen.right c.in-Some.seen.span.now c.requires.sound c.in-Some.ensures.fork c.in-Some.ensures.level c.requires.order) in
    let s = sides c.args.levels.now c.behind-2.new.levels c.hold_both.new.levels c.in-Some.seen.child c.in-Some.seen.right c.in_ok-front.front c.requires.sound c.in-Some.ensures.right c.in_ok-front.ensures.ok c.in-Ok.ensures.ok in
    behind_height (tall_of c.args.levels.now c.args.root) (tall_of c.args.levels.now c.in-Some.seen.left) (tall_of c.args.levels.now c.in-Some.seen.right) _ _ _ _ o.height s.lent_tall s.made_tall c.in_ok-front.ensures.height c.in_ok-whole.ensures.height

pub returns-clause-made : goal.returns-clause-made
returns-clause-made t c =
    let o = (seen c.args.levels.now c.args.root c.in-Some.seen.child c.in-Some.seen.left c.in-Some.seen.right c.in-Some.seen.span.now c.requires.sound c.in-Some.ensures.fork c.in-Some.ensures.level c.requires.order) in
    let s = sides c.args.levels.now c.behind-2.new.levels c.hold_both.new.levels c.in-Some.seen.child c.in-Some.seen.right c.in_ok-front.front c.requires.sound c.in-Some.ensures.right c.in_ok-front.ensures.ok c.in-Ok.ensures.ok in
    behind_made (tall_of c.args.levels.now c.args.root) (tall_of c.args.levels.now c.in-Some.seen.left) (tall_of c.args.levels.now c.in-Some.seen.right) _ _ _ _ (slab_len c.args.levels.now) (slab_len c.behind-2.new.levels) (slab_len c.hold_both.new.levels) (slab_len c.join.new.levels)
    o.height o.near s.lent_tall s.made_tall c.in_ok-front.ensures.height c.in_ok-whole.ensures.height c.in_ok-front.ensures.made c.in-Ok.ensures.live c.in_ok-whole.ensures.live
