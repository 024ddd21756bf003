use Rattle.std.proofs.Common.{arith}
use Rattle.rx_level.proofs.Turning.{kept_root, leaned_both, outer_near, both_tall}
use Rattle.rx_level.proofs.balance.lean_both.Goals as goal

pub lean_right-requires-clause-inner : goal.lean_right-requires-clause-inner
lean_right-requires-clause-inner c =
    let middle = kept_root c.args.levels.now c.branch-front.new.self _ _ c.in_Ok-front.ensures.ok c.args.second.right (λ m. omega (arith, c.requires.owns.owned m)) in
    let last = kept_root c.args.levels.now c.branch-front.new.self _ _ c.in_Ok-front.ensures.ok c.args.right (λ m. omega (arith, c.requires.owns.owned m)) in
    rw (middle.tall, last.tall) c.requires.after

pub lean_right-requires-clause-outer : goal.lean_right-requires-clause-outer
lean_right-requires-clause-outer c =
    let middle = kept_root c.args.levels.now c.branch-front.new.self _ _ c.in_Ok-front.ensures.ok c.args.second.right (λ m. omega (arith, c.requires.owns.owned m)) in
    let last = kept_root c.args.levels.now c.branch-front.new.self _ _ c.in_Ok-front.ensures.ok c.args.right (λ m. omega (arith, c.requires.owns.owned m)) in
    outer_near _ _ _ _ _ _ _ c.in_Ok-front.ensures.height middle.tall last.tall c.requires.outer

pub returns-in_ok-whole-in_Ok-front-clause-level : goal.returns-in_ok-whole-in_Ok-front-clause-level
returns-in_ok-whole-in_Ok-front-clause-level c =
    leaned_both c.args.levels.now c.branch-front.new.self c.lean_right.new.levels c.args.left c.args.second.left c.args.second.right c.args.right c.in_Ok-front.front c.in_ok-whole-in_Ok-front.whole c.args.first c.args.second.item c.args.third
    c.requires.owns c.in_Ok-front.ensures.ok c.in_Ok-front.ensures.level c.in_ok-whole-in_Ok-front.ensures.level

pub returns-in_ok-whole-in_Ok-front-clause-height : goal.returns-in_ok-whole-in_Ok-front-clause-height
returns-in_ok-whole-in_Ok-front-clause-height c =
    let middle = kept_root c.args.levels.now c.branch-front.new.self _ _ c.in_Ok-front.ensures.ok c.args.second.right (λ m. omega (arith, c.requires.owns.owned m)) in
    let last = kept_root c.args.levels.now c.branch-front.new.self _ _ c.in_Ok-front.ensures.ok c.args.right (λ m. omega (arith, c.requires.owns.owned m)) in
    both_tall _ _ _ _ _ _ _ _ c.in_ok-whole-in_Ok-front.ensures.height c.in_Ok-front.ensures.height middle.tall last.tall
