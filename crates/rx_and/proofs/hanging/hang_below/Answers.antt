use Rattle.std.proofs.Common.{arith, length, ℕ, List, Option, Some, refl, ap, sym, ◌∙◌, subst}
use Rattle.rx_tree.specs.Tree.{level_size}
use Rattle.rx_level.specs.Step.{level_of}
use Rattle.rx_graft.specs.Made.{StandIn, levels_of}
use Rattle.rx_and.proofs.Meets.{lent_items}
use Rattle.rx_and.proofs.HungLevels.{Two, two_hung, lengths, not_end, number_moved}
use Rattle.rx_and.proofs.Turned.{chain_deep}
use Rattle.rx_and.proofs.hanging.hang_below.Goals as goal

pub returns-then-len-clause-short : goal.returns-then-len-clause-short
returns-then-len-clause-short c =
    let a = c.args.levels.now in
    let deep = chain_deep c.args.parts.now (level_of a (Some c.args.g)) c.requires.first (not_end _ (lent_items a c.requires.sound (Some c.args.g) c.args.g refl c.requires.g)) in
    omega (arith, deep, ap length c.in-Ok.ensures.levels, lengths a c.in-Ok.chain.items, ap length c.in-Ok-chain_of.ensures.levels, lengths a c.in-Ok-chain_of.own.items, c.if-len.true, c.len.ensures, c.len-2.ensures)

pub returns-in-Ok-within-clause-more : goal.returns-in-Ok-within-clause-more
returns-in-Ok-within-clause-more c =
    let a = c.args.levels.now in
    omega (arith, ap length c.in-Ok.ensures.levels, lengths a c.in-Ok.chain.items, ap length c.in-Ok-chain_of.ensures.levels, lengths a c.in-Ok-chain_of.own.items, c.if-len.false, c.len.ensures, c.len-2.ensures)

pub returns-in-Ok-within-clause-level : goal.returns-in-Ok-within-clause-level
returns-in-Ok-within-clause-level c =
    let a = c.args.levels.now in
    let two : Two a c.args.parts.now c.args.g c.args.h = record { sound = c.requires.sound; lent_g = c.requires.g; lent_h = c.requires.h; first = c.requires.first; second = c.requires.second } in
    let is = ap (levels_of a) c.as_slice.ensures.value ∙ c.in-Ok.ensures.levels in
    c.in-Ok-within.ensures.level ∙ c.in-Ok-graft.ensures.level ∙ two_hung a c.args.parts.now c.args.g c.args.h c.as_slice.result.now two is c.in-Ok-graft.ensures.deep

pub returns-in-Ok-within-clause-deep : goal.returns-in-Ok-within-clause-deep
returns-in-Ok-within-clause-deep c =
    let a = c.args.levels.now in
    let is = ap (levels_of a) c.as_slice.ensures.value ∙ c.in-Ok.ensures.levels in
    omega (arith, c.in-Ok-graft.ensures.deep, ap length is, lengths a c.as_slice.result.now)

pub returns-in-Ok-within-clause-live : goal.returns-in-Ok-within-clause-live
returns-in-Ok-within-clause-live c n number = omega (arith, c.in-Ok-graft.ensures.live n number, c.in-Ok-within.ensures.live)

pub returns-in-Ok-within-clause-items : goal.returns-in-Ok-within-clause-items
returns-in-Ok-within-clause-items c n m k first second third =
    c.in-Ok-graft.ensures.shared (Some c.args.h) (subst (λ (links : List (Option ℕ)). StandIn c.args.levels.now links (Some c.args.h)) (sym c.as_slice.ensures.value) c.in-Ok.ensures.stand)
    n m k first second (number_moved c.within.new.levels c.graft.new.levels c.in-Ok-within.kept c.in-Ok-graft.whole c.in-Ok-within.ensures.kept c.in-Ok-within.ensures.root k third)

pub returns-in-Ok-graft-clause-over : goal.returns-in-Ok-graft-clause-over
returns-in-Ok-graft-clause-over c e =
    let a = c.args.levels.now in
    let two : Two a c.args.parts.now c.args.g c.args.h = record { sound = c.requires.sound; lent_g = c.requires.g; lent_h = c.requires.h; first = c.requires.first; second = c.requires.second } in
    let is = ap (levels_of a) c.as_slice.ensures.value ∙ c.in-Ok.ensures.levels in
    let same = c.in-Ok-graft.ensures.level ∙ two_hung a c.args.parts.now c.args.g c.args.h c.as_slice.result.now two is c.in-Ok-graft.ensures.deep in
    omega (arith, c.in-Err.ensures.over, ap level_size same)

pub returns-in-Err-Short-clause-short : goal.returns-in-Err-Short-clause-short
returns-in-Err-Short-clause-short c =
    let a = c.args.levels.now in
    let is = ap (levels_of a) c.as_slice.ensures.value ∙ c.in-Ok.ensures.levels in
    let short = c.in-Err-Short.ensures.short c.in-Err-Short.field-0-is in
    omega (arith, short, ap length is, lengths a c.as_slice.result.now)

pub returns-in-Err-Short-clause-same : goal.returns-in-Err-Short-clause-same
returns-in-Err-Short-clause-same c few =
    let a = c.args.levels.now in
    absurd (omega (arith, few, ap length c.in-Ok.ensures.levels, lengths a c.in-Ok.chain.items, ap length c.in-Ok-chain_of.ensures.levels, lengths a c.in-Ok-chain_of.own.items, c.if-len.false, c.len.ensures, c.len-2.ensures))
