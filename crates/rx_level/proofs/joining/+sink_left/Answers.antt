use Rattle.std.proofs.Common.{arith}
use Rattle.rx_level.proofs.Sinking.{sunk_left_beside, sunk_facts, sunk_left, sunk_live_off}
use Rattle.rx_level.proofs.joining.+sink_left.Goals as goal

pub raise_right-requires-clause-high : goal.raise_right-requires-clause-high
raise_right-requires-clause-high t c =
    let k = sunk_left_beside c.args.levels.now c.open.new.self c.sink_left.new.levels c.args.left c.args.item.child c.args.right c.in-Ok.top.left c.in-Ok.top.item.child c.in-Ok.top.right c.in-Ok-sink_left.front c.in-Some.key c.in-Some.is c.requires.owns c.in-Ok.ensures.ok c.in-Ok-sink_left.ensures.ok in
    let facts = sunk_facts c.args.levels.now c.open.new.self c.sink_left.new.levels c.args.left c.args.item.child c.args.right c.in-Ok.top.left c.in-Ok.top.item.child c.in-Ok.top.right c.in-Ok-sink_left.front c.in-Some.key c.in-Some.is k c.in-Ok.ensures.height c.in-Ok.ensures.near
    (omega (arith, c.if-saturating_sub-le1.false, c.height.ensures, c.height-2.ensures, c.saturating_sub.ensures)) c.in-Ok-sink_left.ensures.height in
    facts.raise_high

pub returns-in_err-whole-in-Ok-sink_left-clause-live : goal.returns-in_err-whole-in-Ok-sink_left-clause-live
returns-in_err-whole-in-Ok-sink_left-clause-live t c =
    let k = sunk_left_beside c.args.levels.now c.open.new.self c.sink_left.new.levels c.args.left c.args.item.child c.args.right c.in-Ok.top.left c.in-Ok.top.item.child c.in-Ok.top.right c.in-Ok-sink_left.front c.in-Some.key c.in-Some.is c.requires.owns c.in-Ok.ensures.ok c.in-Ok-sink_left.ensures.ok in
    let facts = sunk_facts c.args.levels.now c.open.new.self c.sink_left.new.levels c.args.left c.args.item.child c.args.right c.in-Ok.top.left c.in-Ok.top.item.child c.in-Ok.top.right c.in-Ok-sink_left.front c.in-Some.key c.in-Some.is k c.in-Ok.ensures.height c.in-Ok.ensures.near
    (omega (arith, c.if-saturating_sub-le1.false, c.height.ensures, c.height-2.ensures, c.saturating_sub.ensures)) c.in-Ok-sink_left.ensures.height in
    facts.live _ _ _ _ c.in-Ok.ensures.live c.in-Ok-sink_left.ensures.live c.raise_right.ensures.live

pub returns-in_ok-whole-in-Ok-sink_left-clause-level : goal.returns-in_ok-whole-in-Ok-sink_left-clause-level
returns-in_ok-whole-in-Ok-sink_left-clause-level t c =
    let k = sunk_left_beside c.args.levels.now c.open.new.self c.sink_left.new.levels c.args.left c.args.item.child c.args.right c.in-Ok.top.left c.in-Ok.top.item.child c.in-Ok.top.right c.in-Ok-sink_left.front c.in-Some.key c.in-Some.is c.requires.owns c.in-Ok.ensures.ok c.in-Ok-sink_left.ensures.ok in
    sunk_left c.args.levels.now c.open.new.self c.sink_left.new.levels c.raise_right.new.levels c.args.left c.args.right c.in-Ok.top.left c.in-Ok.top.right c.in-Ok-sink_left.front c.in_ok-whole-in-Ok-sink_left.whole c.in-Some.key c.args.item c.in-Ok.top.item
    c.in-Some.is k c.in-Ok.ensures.level c.in-Ok-sink_left.ensures.level c.in_ok-whole-in-Ok-sink_left.ensures.level

pub returns-in_ok-whole-in-Ok-sink_left-clause-height : goal.returns-in_ok-whole-in-Ok-sink_left-clause-height
returns-in_ok-whole-in-Ok-sink_left-clause-height t c =
    let k = sunk_left_beside c.args.levels.now c.open.new.self c.sink_left.new.levels c.args.left c.args.item.child c.args.right c.in-Ok.top.left c.in-Ok.top.item.child c.in-Ok.top.right c.in-Ok-sink_left.front c.in-Some.key c.in-Some.is c.requires.owns c.in-Ok.ensures.ok c.in-Ok-sink_left.ensures.ok in
    let facts = sunk_facts c.args.levels.now c.open.new.self c.sink_left.new.levels c.args.left c.args.item.child c.args.right c.in-Ok.top.left c.in-Ok.top.item.child c.in-Ok.top.right c.in-Ok-sink_left.front c.in-Some.key c.in-Some.is k c.in-Ok.ensures.height c.in-Ok.ensures.near
    (omega (arith, c.if-saturating_sub-le1.false, c.height.ensures, c.height-2.ensures, c.saturating_sub.ensures)) c.in-Ok-sink_left.ensures.height in
    facts.height _ c.in_ok-whole-in-Ok-sink_left.ensures.height

pub returns-in_ok-whole-in-Ok-sink_left-clause-live : goal.returns-in_ok-whole-in-Ok-sink_left-clause-live
returns-in_ok-whole-in-Ok-sink_left-clause-live t c =
    let k = sunk_left_beside c.args.levels.now c.open.new.self c.sink_left.new.levels c.args.left c.args.item.child c.args.right c.in-Ok.top.left c.in-Ok.top.item.child c.in-Ok.top.right c.in-Ok-sink_left.front c.in-Some.key c.in-Some.is c.requires.owns c.in-Ok.ensures.ok c.in-Ok-sink_left.ensures.ok in
    let facts = sunk_facts c.args.levels.now c.open.new.self c.sink_left.new.levels c.args.left c.args.item.child c.args.right c.in-Ok.top.left c.in-Ok.top.item.child c.in-Ok.top.right c.in-Ok-sink_left.front c.in-Some.key c.in-Some.is k c.in-Ok.ensures.height c.in-Ok.ensures.near
    (omega (arith, c.if-saturating_sub-le1.false, c.height.ensures, c.height-2.ensures, c.saturating_sub.ensures)) c.in-Ok-sink_left.ensures.height in
    facts.live _ _ _ _ c.in-Ok.ensures.live c.in-Ok-sink_left.ensures.live c.raise_right.ensures.live

pub returns-in-Err-sink_left-clause-live : goal.returns-in-Err-sink_left-clause-live
returns-in-Err-sink_left-clause-live t c =
    sunk_live_off c.args.levels.now c.open.new.self c.args.left c.args.item.child c.args.right c.in-Ok.top.left c.in-Ok.top.right c.in-Some.key c.in-Some.is (λ m. omega (arith, c.requires.owns.owned m)) c.in-Ok.ensures.ok c.in-Ok.ensures.height (omega (arith, c.if-saturating_sub-le1.false, c.height.ensures, c.height-2.ensures, c.saturating_sub.ensures))
    _ _ _ _ c.in-Ok.ensures.live c.in-Err-sink_left.ensures.live (omega (arith, c.free.ensures.live, c.free-in-Err-sink_left.ensures.live))
