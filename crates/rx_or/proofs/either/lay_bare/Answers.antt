use Rattle.std.proofs.Common.{◌≡◌, ◌∙◌, true, arith, ap, sym, subst}
use Rattle.rx_tree.specs.Join.{length_of}
use Rattle.rx_level.specs.Step.{level_of, between}
use Rattle.rx_tree.specs.Cuts.{AreInOrder}
use Rattle.rx_tree.specs.Bare.{is_bare}
use Rattle.rx_or.specs.Cover.{covered}
use Rattle.rx_or.specs.Below.{covered_by}
use Rattle.rx_or.proofs.Laid.{bare_opened}
use Rattle.rx_or.proofs.Neighbours.{beside_bare}
use Rattle.rx_or.proofs.either.lay_bare.Goals as goal

pub cover-requires-clause-order : goal.cover-requires-clause-order
cover-requires-clause-order c =
    let kept = beside_bare c.args.levels.now c.open.new.self c.free-2.new.self c.free-3.new.self c.free-4.new.self c.args.g c.in-Ok.top.left c.in-Ok.top.right c.args.key c.in-Ok.top.item c.requires.owns c.in-Ok.ensures.ok c.free-2.ensures.step c.free-3.ensures.step c.free-4.ensures.step in
    subst AreInOrder (sym kept) c.requires.order

pub returns-in_err-whole-clause-by_bits : goal.returns-in_err-whole-clause-by_bits
returns-in_err-whole-clause-by_bits c =
    let kept = beside_bare c.args.levels.now c.open.new.self c.free-2.new.self c.free-3.new.self c.free-4.new.self c.args.g c.in-Ok.top.left c.in-Ok.top.right c.args.key c.in-Ok.top.item c.requires.owns c.in-Ok.ensures.ok c.free-2.ensures.step c.free-3.ensures.step c.free-4.ensures.step in
    λ bits few.
    omega (arith, c.in_err-whole.ensures.by_bits bits (omega (arith, ap length_of kept, few)), c.in-Ok.ensures.live, c.free-2.ensures.live, c.free-3.ensures.live, c.free-4.ensures.live)

pub returns-clause-by_bits : goal.returns-clause-by_bits
returns-clause-by_bits c =
    let kept = beside_bare c.args.levels.now c.open.new.self c.free-2.new.self c.free-3.new.self c.free-4.new.self c.args.g c.in-Ok.top.left c.in-Ok.top.right c.args.key c.in-Ok.top.item c.requires.owns c.in-Ok.ensures.ok c.free-2.ensures.step c.free-3.ensures.step c.free-4.ensures.step in
    λ bits few.
    omega (arith, c.in_ok-whole.ensures.by_bits bits (omega (arith, ap length_of kept, few)), c.in-Ok.ensures.live, c.free-2.ensures.live, c.free-3.ensures.live, c.free-4.ensures.live)

pub returns-clause-level : goal.returns-clause-level
returns-clause-level c =
    let kept = beside_bare c.args.levels.now c.open.new.self c.free-2.new.self c.free-3.new.self c.free-4.new.self c.args.g c.in-Ok.top.left c.in-Ok.top.right c.args.key c.in-Ok.top.item c.requires.owns c.in-Ok.ensures.ok c.free-2.ensures.step c.free-3.ensures.step c.free-4.ensures.step in
    let b = c.open.new.self in
    let g = level_of c.args.levels.now c.args.g in
    let bare : is_bare (between b c.in-Ok.top.left c.in-Ok.top.item c.in-Ok.top.right) ≡ true = sym (ap is_bare c.in-Ok.ensures.level) ∙ c.requires.bare in
    c.in_ok-whole.ensures.level
    ∙ ap (covered c.in-Ok.top.item.span) kept
    ∙ bare_opened (level_of b c.in-Ok.top.left) (level_of b c.in-Ok.top.item.child) (level_of b c.in-Ok.top.right) g c.in-Ok.top.item.span bare
    ∙ ap (λ l. covered_by l g) (sym c.in-Ok.ensures.level)
