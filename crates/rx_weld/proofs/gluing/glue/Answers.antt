use Rattle.std.proofs.Common.{[], arith, refl, subst}
use Rattle.rx_level.specs.Step.{Lent}
use Rattle.rx_weld.proofs.Welded.{owned_lent}
use Rattle.rx_weld.proofs.Glued.{seam, glued, glued_alone, glued_joined}
use Rattle.rx_weld.proofs.gluing.glue.Goals as goal

pub returns-in_default-right-clause-level : goal.returns-in_default-right-clause-level
returns-in_default-right-clause-level c = glued_alone c.args.levels.now c.args.left c.args.right c.in-Some.front c.in-Some.is c.requires.apart c.in_default-right.is

pub returns-in_ok-whole-in-Ok-take_first-clause-level : goal.returns-in_ok-whole-in-Ok-take_first-clause-level
returns-in_ok-whole-in-Ok-take_first-clause-level c =
    glued c.args.levels.now c.take_last.new.levels c.take_first.new.levels c.join_as_one.new.levels c.args.left c.args.right c.in-Ok.last.before c.in-Ok-take_first.first.rest c.in_ok-whole-in-Ok-take_first.whole c.in-Some.front c.in-Some-right.back c.in-Ok.last.item c.in-Ok-take_first.first.item
    c.in-Some.is c.in-Some-right.is c.requires.owns c.requires.apart c.in-Ok.ensures.ok c.in-Ok-take_first.ensures.ok c.in-Ok.ensures.level c.in-Ok-take_first.ensures.level c.in_ok-whole-in-Ok-take_first.ensures.level

pub is_seam-requires-clause-left : goal.is_seam-requires-clause-left
is_seam-requires-clause-left c = subst (Lent c.args.levels.now []) c.in-Some.is (owned_lent c.args.levels.now _ c.args.left c.requires.owns (λ m. omega arith))

pub is_seam-requires-clause-right : goal.is_seam-requires-clause-right
is_seam-requires-clause-right c = subst (Lent c.args.levels.now []) c.in-Some-right.is (owned_lent c.args.levels.now _ c.args.right c.requires.owns (λ m. omega arith))

pub returns-then-not-is_seam-clause-level : goal.returns-then-not-is_seam-clause-level
returns-then-not-is_seam-clause-level c =
    glued_joined c.args.levels.now c.args.left c.args.right c.in-Some.front c.in-Some-right.back _ c.in-Some.is c.in-Some-right.is c.requires.apart (λ seam. absurd (cc (c.if-not-is_seam.ensures.1 seam))) c.in_ok-whole.ensures.level

pub join_as_one-requires-clause-touch : goal.join_as_one-requires-clause-touch
join_as_one-requires-clause-touch c =
    (seam c.args.levels.now c.take_last.new.levels c.take_first.new.levels c.args.left c.args.right c.in-Ok.last.before c.in-Ok-take_first.first.rest c.in-Some.front c.in-Some-right.back c.in-Ok.last.item c.in-Ok-take_first.first.item
    c.in-Some.is c.in-Some-right.is c.requires.owns (c.if-not-is_seam.ensures.0 refl) c.in-Ok.ensures.ok c.in-Ok-take_first.ensures.ok c.in-Ok.ensures.level c.in-Ok-take_first.ensures.level).0

pub join_as_one-requires-clause-same : goal.join_as_one-requires-clause-same
join_as_one-requires-clause-same c =
    (seam c.args.levels.now c.take_last.new.levels c.take_first.new.levels c.args.left c.args.right c.in-Ok.last.before c.in-Ok-take_first.first.rest c.in-Some.front c.in-Some-right.back c.in-Ok.last.item c.in-Ok-take_first.first.item
    c.in-Some.is c.in-Some-right.is c.requires.owns (c.if-not-is_seam.ensures.0 refl) c.in-Ok.ensures.ok c.in-Ok-take_first.ensures.ok c.in-Ok.ensures.level c.in-Ok-take_first.ensures.level).1
