use Rattle.std.proofs.Common.{◌∙◌, Some, arith, ap, sym}
use Rattle.rx_tree.proofs.Unions.{either_turn}
use Rattle.rx_level.specs.Step.{level_of}
use Rattle.rx_weld.proofs.Welded.{owned_lent}
use Rattle.rx_or.proofs.Laid.{parts_order, bare_lay}
use Rattle.rx_or.proofs.Reaching.{order_apart}
use Rattle.rx_or.proofs.Neighbours.{beside_is}
use Rattle.rx_or.proofs.United.{same_either}
use Rattle.rx_or.proofs.either.level_of_either.Goals as goal

pub returns-then-g-h-clause-level : goal.returns-then-g-h-clause-level
returns-then-g-h-clause-level c =
    c.keep_one.ensures.level ∙ same_either c.args.levels.now c.args.parts.now (Some c.args.g) (Some c.args.h) (ap Some (omega (arith, c.if-g-h.true))) c.requires.first

pub is_bare-requires : goal.is_bare-requires
is_bare-requires c = owned_lent c.args.levels.now _ (Some c.args.h) c.requires.owns (λ m. omega arith)

pub lay_bare-requires-clause-order : goal.lay_bare-requires-clause-order
lay_bare-requires-clause-order c = parts_order c.args.parts.now (level_of c.args.levels.now (Some c.args.g)) c.requires.first

pub returns-then-is_bare-clause-level : goal.returns-then-is_bare-clause-level
returns-then-is_bare-clause-level c =
    c.in-Ok.ensures.level
    ∙ bare_lay c.args.parts.now (level_of c.args.levels.now (Some c.args.g)) (level_of c.args.levels.now (Some c.args.h)) (sym c.is_bare.ensures ∙ c.if-is_bare.true) c.requires.first c.requires.second

pub is_bare-requires-2 : goal.is_bare-requires-2
is_bare-requires-2 c = owned_lent c.args.levels.now _ (Some c.args.g) c.requires.owns (λ m. omega arith)

pub lay_bare-requires-then-is_bare-2-clause-order : goal.lay_bare-requires-then-is_bare-2-clause-order
lay_bare-requires-then-is_bare-2-clause-order c = parts_order c.args.parts.now (level_of c.args.levels.now (Some c.args.h)) c.requires.second

pub returns-then-is_bare-2-clause-level : goal.returns-then-is_bare-2-clause-level
returns-then-is_bare-2-clause-level c =
    c.in-Ok-lay_bare.ensures.level
    ∙ bare_lay c.args.parts.now (level_of c.args.levels.now (Some c.args.h)) (level_of c.args.levels.now (Some c.args.g)) (sym c.is_bare-2.ensures ∙ c.if-is_bare-2.true) c.requires.second c.requires.first
    ∙ either_turn c.args.parts.now (level_of c.args.levels.now (Some c.args.h)) (level_of c.args.levels.now (Some c.args.g)) c.requires.second c.requires.first

pub lies_before-requires-clause-g : goal.lies_before-requires-clause-g
lies_before-requires-clause-g c = owned_lent c.args.levels.now _ (Some c.args.g) c.requires.owns (λ m. omega arith)

pub lies_before-requires-clause-h : goal.lies_before-requires-clause-h
lies_before-requires-clause-h c = owned_lent c.args.levels.now _ (Some c.args.h) c.requires.owns (λ m. omega arith)

pub lies_before-requires-clause-order : goal.lies_before-requires-clause-order
lies_before-requires-clause-order c = parts_order c.args.parts.now (level_of c.args.levels.now (Some c.args.g)) c.requires.first

pub glue-requires-clause-apart : goal.glue-requires-clause-apart
glue-requires-clause-apart c = order_apart (level_of c.args.levels.now (Some c.args.g)) (parts_order c.args.parts.now (level_of c.args.levels.now (Some c.args.g)) c.requires.first)

pub returns-then-lies_before-clause-level : goal.returns-then-lies_before-clause-level
returns-then-lies_before-clause-level c =
    c.in-Ok-glue.ensures.level ∙ beside_is c.args.parts.now (level_of c.args.levels.now (Some c.args.g)) (level_of c.args.levels.now (Some c.args.h)) (c.lies_before.ensures c.if-lies_before.true) c.requires.first c.requires.second

pub lies_before-requires-2-clause-g : goal.lies_before-requires-2-clause-g
lies_before-requires-2-clause-g c = owned_lent c.args.levels.now _ (Some c.args.h) c.requires.owns (λ m. omega arith)

pub lies_before-requires-2-clause-h : goal.lies_before-requires-2-clause-h
lies_before-requires-2-clause-h c = owned_lent c.args.levels.now _ (Some c.args.g) c.requires.owns (λ m. omega arith)

pub lies_before-requires-2-clause-order : goal.lies_before-requires-2-clause-order
lies_before-requires-2-clause-order c = parts_order c.args.parts.now (level_of c.args.levels.now (Some c.args.h)) c.requires.second

pub glue-requires-then-lies_before-2-clause-apart : goal.glue-requires-then-lies_before-2-clause-apart
glue-requires-then-lies_before-2-clause-apart c = order_apart (level_of c.args.levels.now (Some c.args.h)) (parts_order c.args.parts.now (level_of c.args.levels.now (Some c.args.h)) c.requires.second)

pub returns-then-lies_before-2-clause-level : goal.returns-then-lies_before-2-clause-level
returns-then-lies_before-2-clause-level c =
    c.in-Ok-glue-2.ensures.level
    ∙ beside_is c.args.parts.now (level_of c.args.levels.now (Some c.args.h)) (level_of c.args.levels.now (Some c.args.g)) (c.lies_before-2.ensures c.if-lies_before-2.true) c.requires.second c.requires.first
    ∙ either_turn c.args.parts.now (level_of c.args.levels.now (Some c.args.h)) (level_of c.args.levels.now (Some c.args.g)) c.requires.second c.requires.first
