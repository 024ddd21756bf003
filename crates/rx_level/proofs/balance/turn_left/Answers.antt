use Rattle.std.proofs.Common.{◌∙◌, arith, ap}
use Rattle.rx_level.specs.Step.{tall_of}
use Rattle.rx_level.proofs.Turning.{beside, turned_near, turned_left, turned_high}
use Rattle.rx_level.proofs.balance.turn_left.Goals as goal

pub lean_both-requires-clause-before : goal.lean_both-requires-clause-before
lean_both-requires-clause-before c =
    let k = beside c.args.levels.now c.open.new.self c.args.left c.args.item.child c.args.top.item.child c.args.top.left c.args.top.right c.in-Some.key _ c.in-Some.is c.in-Ok.ensures.ok (λ m. omega (arith, c.requires.owns.owned m)) in
    let n = turned_near _ _ _ _ _ c.requires.height (omega (arith, c.if-height.false, c.height.ensures, c.height-2.ensures)) c.requires.near (ap (tall_of c.args.levels.now) c.in-Some.is ∙ c.in-Ok.ensures.height) c.in-Ok.ensures.near in
    rw (k.low.tall) n.low

pub lean_both-requires-clause-after : goal.lean_both-requires-clause-after
lean_both-requires-clause-after c =
    let k = beside c.args.levels.now c.open.new.self c.args.left c.args.item.child c.args.top.item.child c.args.top.left c.args.top.right c.in-Some.key _ c.in-Some.is c.in-Ok.ensures.ok (λ m. omega (arith, c.requires.owns.owned m)) in
    let n = turned_near _ _ _ _ _ c.requires.height (omega (arith, c.if-height.false, c.height.ensures, c.height-2.ensures)) c.requires.near (ap (tall_of c.args.levels.now) c.in-Some.is ∙ c.in-Ok.ensures.height) c.in-Ok.ensures.near in
    rw (k.other.tall) n.other

pub lean_both-requires-clause-outer : goal.lean_both-requires-clause-outer
lean_both-requires-clause-outer c =
    let k = beside c.args.levels.now c.open.new.self c.args.left c.args.item.child c.args.top.item.child c.args.top.left c.args.top.right c.in-Some.key _ c.in-Some.is c.in-Ok.ensures.ok (λ m. omega (arith, c.requires.owns.owned m)) in
    let n = turned_near _ _ _ _ _ c.requires.height (omega (arith, c.if-height.false, c.height.ensures, c.height-2.ensures)) c.requires.near (ap (tall_of c.args.levels.now) c.in-Some.is ∙ c.in-Ok.ensures.height) c.in-Ok.ensures.near in
    rw (k.low.tall, k.other.tall) n.outer

pub returns-in_ok-whole-in-Ok-clause-level : goal.returns-in_ok-whole-in-Ok-clause-level
returns-in_ok-whole-in-Ok-clause-level c =
    let k = beside c.args.levels.now c.open.new.self c.args.left c.args.item.child c.args.top.item.child c.args.top.left c.args.top.right c.in-Some.key _ c.in-Some.is c.in-Ok.ensures.ok (λ m. omega (arith, c.requires.owns.owned m)) in
    turned_left c.args.levels.now c.open.new.self c.lean_both.new.levels c.args.left c.args.top.right c.args.top.left c.in_ok-whole-in-Ok.whole c.in-Some.key c.args.item c.args.top.item _ c.in-Some.is k c.in-Ok.ensures.level c.in_ok-whole-in-Ok.ensures.level

pub returns-in_ok-whole-in-Ok-clause-high : goal.returns-in_ok-whole-in-Ok-clause-high
returns-in_ok-whole-in-Ok-clause-high c =
    let k = beside c.args.levels.now c.open.new.self c.args.left c.args.item.child c.args.top.item.child c.args.top.left c.args.top.right c.in-Some.key _ c.in-Some.is c.in-Ok.ensures.ok (λ m. omega (arith, c.requires.owns.owned m)) in
    let n = turned_near _ _ _ _ _ c.requires.height (omega (arith, c.if-height.false, c.height.ensures, c.height-2.ensures)) c.requires.near (ap (tall_of c.args.levels.now) c.in-Some.is ∙ c.in-Ok.ensures.height) c.in-Ok.ensures.near in
    turned_high _ _ _ _ _ _ _ c.in_ok-whole-in-Ok.ensures.height k.low.tall k.other.tall n.whole
