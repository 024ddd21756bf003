use Rattle.std.proofs.Common.{arith}
use Rattle.rx_weld.proofs.Welded.{owned_lent, melded_two}
use Rattle.rx_weld.proofs.welding.meld.Goals as goal

pub is_one-requires-clause-a : goal.is_one-requires-clause-a
is_one-requires-clause-a c = owned_lent c.args.levels.now _ c.args.a.child c.requires (λ m. omega arith)

pub is_one-requires-clause-b : goal.is_one-requires-clause-b
is_one-requires-clause-b c = owned_lent c.args.levels.now _ c.args.b.child c.requires (λ m. omega arith)

pub returns-in_ok-whole-in-Ok-clause-level : goal.returns-in_ok-whole-in-Ok-clause-level
returns-in_ok-whole-in-Ok-clause-level c =
    melded_two c.args.levels.now c.join.new.levels c.join-in-Ok.new.levels c.args.right c.in-Ok.back c.in_ok-whole-in-Ok.whole c.args.a c.args.b c.is_one.result
    c.requires c.is_one.ensures.no c.if-is_one.false c.in-Ok.ensures.ok c.in-Ok.ensures.level c.in_ok-whole-in-Ok.ensures.level
