use Rattle.std.proofs.Common.{◌+◌, ◌∙◌, arith, ap}
use Rattle.rx_level.specs.Step.{tall_of}
use Rattle.rx_level.proofs.Turning.{beside, turned_near, turned_right, max_turn, outer_turn, whole_turn, turned_high, laid_assoc}
use Rattle.rx_level.proofs.balance.turn_right.Goals as goal

pub lean_both-requires-clause-before : goal.lean_both-requires-clause-before
lean_both-requires-clause-before c =
    let k = beside c.args.levels.now c.open.new.self c.args.right c.args.item.child c.args.top.item.child c.args.top.right c.args.top.left c.in-Some.key _ c.in-Some.is c.in-Ok.ensures.ok (λ m. omega (arith, c.requires.owns.owned m)) in
    let n = turned_near _ _ _ _ _ (max_turn _ _ ∙ c.requires.height) (omega (arith, c.if-height.false, c.height.ensures, c.height-2.ensures)) (c.requires.near.1, c.requires.near.0) (ap (tall_of c.args.levels.now) c.in-Some.is ∙ c.in-Ok.ensures.height ∙ ap (λ x. 1 + x) (max_turn _ _)) (c.in-Ok.ensures.near.1, c.in-Ok.ensures.near.0) in
    rw (k.other.tall) (n.other.1, n.other.0)

pub lean_both-requires-clause-after : goal.lean_both-requires-clause-after
lean_both-requires-clause-after c =
    let k = beside c.args.levels.now c.open.new.self c.args.right c.args.item.child c.args.top.item.child c.args.top.right c.args.top.left c.in-Some.key _ c.in-Some.is c.in-Ok.ensures.ok (λ m. omega (arith, c.requires.owns.owned m)) in
    let n = turned_near _ _ _ _ _ (max_turn _ _ ∙ c.requires.height) (omega (arith, c.if-height.false, c.height.ensures, c.height-2.ensures)) (c.requires.near.1, c.requires.near.0) (ap (tall_of c.args.levels.now) c.in-Some.is ∙ c.in-Ok.ensures.height ∙ ap (λ x. 1 + x) (max_turn _ _)) (c.in-Ok.ensures.near.1, c.in-Ok.ensures.near.0) in
    rw (k.low.tall) (n.low.1, n.low.0)

pub lean_both-requires-clause-outer : goal.lean_both-requires-clause-outer
lean_both-requires-clause-outer c =
    let k = beside c.args.levels.now c.open.new.self c.args.right c.args.item.child c.args.top.item.child c.args.top.right c.args.top.left c.in-Some.key _ c.in-Some.is c.in-Ok.ensures.ok (λ m. omega (arith, c.requires.owns.owned m)) in
    let n = turned_near _ _ _ _ _ (max_turn _ _ ∙ c.requires.height) (omega (arith, c.if-height.false, c.height.ensures, c.height-2.ensures)) (c.requires.near.1, c.requires.near.0) (ap (tall_of c.args.levels.now) c.in-Some.is ∙ c.in-Ok.ensures.height ∙ ap (λ x. 1 + x) (max_turn _ _)) (c.in-Ok.ensures.near.1, c.in-Ok.ensures.near.0) in
    rw (k.low.tall, k.other.tall) (outer_turn _ _ _ _ n.outer)

pub returns-in_ok-whole-in-Ok-clause-level : goal.returns-in_ok-whole-in-Ok-clause-level
returns-in_ok-whole-in-Ok-clause-level c =
    let k = beside c.args.levels.now c.open.new.self c.args.right c.args.item.child c.args.top.item.child c.args.top.right c.args.top.left c.in-Some.key _ c.in-Some.is c.in-Ok.ensures.ok (λ m. omega (arith, c.requires.owns.owned m)) in
    turned_right c.args.levels.now c.open.new.self c.lean_both.new.levels c.args.top.left c.args.right c.args.top.right c.in_ok-whole-in-Ok.whole c.in-Some.key c.args.top.item c.args.item _ c.in-Some.is k c.in-Ok.ensures.level c.in_ok-whole-in-Ok.ensures.level

pub returns-in_ok-whole-in-Ok-clause-high : goal.returns-in_ok-whole-in-Ok-clause-high
returns-in_ok-whole-in-Ok-clause-high c =
    let k = beside c.args.levels.now c.open.new.self c.args.right c.args.item.child c.args.top.item.child c.args.top.right c.args.top.left c.in-Some.key _ c.in-Some.is c.in-Ok.ensures.ok (λ m. omega (arith, c.requires.owns.owned m)) in
    let n = turned_near _ _ _ _ _ (max_turn _ _ ∙ c.requires.height) (omega (arith, c.if-height.false, c.height.ensures, c.height-2.ensures)) (c.requires.near.1, c.requires.near.0) (ap (tall_of c.args.levels.now) c.in-Some.is ∙ c.in-Ok.ensures.height ∙ ap (λ x. 1 + x) (max_turn _ _)) (c.in-Ok.ensures.near.1, c.in-Ok.ensures.near.0) in
    turned_high _ _ _ _ _ _ _ (c.in_ok-whole-in-Ok.ensures.height ∙ whole_turn _ _ _ _) k.low.tall k.other.tall n.whole

pub returns-in_default-clause-level : goal.returns-in_default-clause-level
returns-in_default-clause-level c = laid_assoc c.args.levels.now c.lean_right.new.levels c.args.top.left c.args.top.right c.args.right c.in_ok-whole.whole c.args.top.item c.args.item c.in_ok-whole.ensures.level

pub returns-then-height-clause-level : goal.returns-then-height-clause-level
returns-then-height-clause-level c = laid_assoc c.args.levels.now c.lean_right-then-height.new.levels c.args.top.left c.args.top.right c.args.right c.in_ok-whole-2.whole c.args.top.item c.args.item c.in_ok-whole-2.ensures.level
