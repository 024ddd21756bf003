use Rattle.std.proofs.Common.{◌+◌, ◌∙◌, arith, ap}
use Rattle.rx_level.proofs.Turning.{max_turn}
use Rattle.rx_level.proofs.Sinking.{sunk_right_beside, sunk_facts, sunk_right, sunk_live_off, turn_height}
use Rattle.rx_level.proofs.joining.+sink_right.Goals as goal

pub raise_left-requires-clause-high : goal.raise_left-requires-clause-high
raise_left-requires-clause-high t c =
    let k = sunk_right_beside c.args.levels.now c.open.new.self c.sink_right.new.levels c.args.right c.args.item.child c.args.left c.in-Ok.top.right c.in-Ok.top.item.child c.in-Ok.top.left c.in-Ok-sink_right.back c.in-Some.key c.in-Some.is c.requires.owns c.in-Ok.ensures.ok c.in-Ok-sink_right.ensures.ok in
    let facts = sunk_facts c.args.levels.now c.open.new.self c.sink_right.new.levels c.args.right c.args.item.child c.args.left c.in-Ok.top.right c.in-Ok.top.item.child c.in-Ok.top.left c.in-Ok-sink_right.back c.in-Some.key c.in-Some.is k (c.in-Ok.ensures.height ∙ ap (λ x. 1 + x) (max_turn _ _)) (c.in-Ok.ensures.near.1, c.in-Ok.ensures.near.0)
    (omega (arith, c.if-saturating_sub-le1.false, c.height.ensures, c.height-2.ensures, c.saturating_sub.ensures)) (turn_height _ _ _ c.in-Ok-sink_right.ensures.height) in
    facts.raise_high

pub returns-in_err-whole-in-Ok-sink_right-clause-live : goal.returns-in_err-whole-in-Ok-sink_right-clause-live
returns-in_err-whole-in-Ok-sink_right-clause-live t c =
    let k = sunk_right_beside c.args.levels.now c.open.new.self c.sink_right.new.levels c.args.right c.args.item.child c.args.left c.in-Ok.top.right c.in-Ok.top.item.child c.in-Ok.top.left c.in-Ok-sink_right.back c.in-Some.key c.in-Some.is c.requires.owns c.in-Ok.ensures.ok c.in-Ok-sink_right.ensures.ok in
    let facts = sunk_facts c.args.levels.now c.open.new.self c.sink_right.new.levels c.args.right c.args.item.child c.args.left c.in-Ok.top.right c.in-Ok.top.item.child c.in-Ok.top.left c.in-Ok-sink_right.back c.in-Some.key c.in-Some.is k (c.in-Ok.ensures.height ∙ ap (λ x. 1 + x) (max_turn _ _)) (c.in-Ok.ensures.near.1, c.in-Ok.ensures.near.0)
    (omega (arith, c.if-saturating_sub-le1.false, c.height.ensures, c.height-2.ensures, c.saturating_sub.ensures)) (turn_height _ _ _ c.in-Ok-sink_right.ensures.height) in
    facts.live _ _ _ _ c.in-Ok.ensures.live c.in-Ok-sink_right.ensures.live c.raise_left.ensures.live

pub returns-in_ok-whole-in-Ok-sink_right-clause-level : goal.returns-in_ok-whole-in-Ok-sink_right-clause-level
returns-in_ok-whole-in-Ok-sink_right-clause-level t c =
    let k = sunk_right_beside c.args.levels.now c.open.new.self c.sink_right.new.levels c.args.right c.args.item.child c.args.left c.in-Ok.top.right c.in-Ok.top.item.child c.in-Ok.top.left c.in-Ok-sink_right.back c.in-Some.key c.in-Some.is c.requires.owns c.in-Ok.ensures.ok c.in-Ok-sink_right.ensures.ok in
    sunk_right c.args.levels.now c.open.new.self c.sink_right.new.levels c.raise_left.new.levels c.args.right c.args.left c.in-Ok.top.right c.in-Ok.top.left c.in-Ok-sink_right.back c.in_ok-whole-in-Ok-sink_right.whole c.in-Some.key c.args.item c.in-Ok.top.item
    c.in-Some.is k c.in-Ok.ensures.level c.in-Ok-sink_right.ensures.level c.in_ok-whole-in-Ok-sink_right.ensures.level

pub returns-in_ok-whole-in-Ok-sink_right-clause-height : goal.returns-in_ok-whole-in-Ok-sink_right-clause-height
returns-in_ok-whole-in-Ok-sink_right-clause-height t c =
    let k = sunk_right_beside c.args.levels.now c.open.new.self c.sink_right.new.levels c.args.right c.args.item.child c.args.left c.in-Ok.top.right c.in-Ok.top.item.child c.in-Ok.top.left c.in-Ok-sink_right.back c.in-Some.key c.in-Some.is c.requires.owns c.in-Ok.ensures.ok c.in-Ok-sink_right.ensures.ok in
    let facts = sunk_facts c.args.levels.now c.open.new.self c.sink_right.new.levels c.args.right c.args.item.child c.args.left c.in-Ok.top.right c.in-Ok.top.item.child c.in-Ok.top.left c.in-Ok-sink_right.back c.in-Some.key c.in-Some.is k (c.in-Ok.ensures.height ∙ ap (λ x. 1 + x) (max_turn _ _)) (c.in-Ok.ensures.near.1, c.in-Ok.ensures.near.0)
    (omega (arith, c.if-saturating_sub-le1.false, c.height.ensures, c.height-2.ensures, c.saturating_sub.ensures)) (turn_height _ _ _ c.in-Ok-sink_right.ensures.height) in
    turn_height _ _ _ (facts.height _ (turn_height _ _ _ c.in_ok-whole-in-Ok-sink_right.ensures.height))

pub returns-in_ok-whole-in-Ok-sink_right-clause-live : goal.returns-in_ok-whole-in-Ok-sink_right-clause-live
returns-in_ok-whole-in-Ok-sink_right-clause-live t c =
    let k = sunk_right_beside c.args.levels.now c.open.new.self c.sink_right.new.levels c.args.right c.args.item.child c.args.left c.in-Ok.top.right c.in-Ok.top.item.child c.in-Ok.top.left c.in-Ok-sink_right.back c.in-Some.key c.in-Some.is c.requires.owns c.in-Ok.ensures.ok c.in-Ok-sink_right.ensures.ok in
    let facts = sunk_facts c.args.levels.now c.open.new.self c.sink_right.new.levels c.args.right c.args.item.child c.args.left c.in-Ok.top.right c.in-Ok.top.item.child c.in-Ok.top.left c.in-Ok-sink_right.back c.in-Some.key c.in-Some.is k (c.in-Ok.ensures.height ∙ ap (λ x. 1 + x) (max_turn _ _)) (c.in-Ok.ensures.near.1, c.in-Ok.ensures.near.0)
    (omega (arith, c.if-saturating_sub-le1.false, c.height.ensures, c.height-2.ensures, c.saturating_sub.ensures)) (turn_height _ _ _ c.in-Ok-sink_right.ensures.height) in
    facts.live _ _ _ _ c.in-Ok.ensures.live c.in-Ok-sink_right.ensures.live c.raise_left.ensures.live

pub returns-in-Err-sink_right-clause-live : goal.returns-in-Err-sink_right-clause-live
returns-in-Err-sink_right-clause-live t c =
    sunk_live_off c.args.levels.now c.open.new.self c.args.right c.args.item.child c.args.left c.in-Ok.top.right c.in-Ok.top.left c.in-Some.key c.in-Some.is (λ m. omega (arith, c.requires.owns.owned m)) c.in-Ok.ensures.ok (c.in-Ok.ensures.height ∙ ap (λ x. 1 + x) (max_turn _ _)) (omega (arith, c.if-saturating_sub-le1.false, c.height.ensures, c.height-2.ensures, c.saturating_sub.ensures))
    _ _ _ _ c.in-Ok.ensures.live c.in-Err-sink_right.ensures.live (omega (arith, c.free.ensures.live, c.free-in-Err-sink_right.ensures.live))
