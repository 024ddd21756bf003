use Rattle.std.proofs.Common.{Some, arith, ap, sym, ◌∙◌, subst}
use Rattle.rx_value.specs.Spans.{IsSpan}
use Rattle.rx_tree.specs.Tree.{level_size}
use Rattle.rx_level.specs.Step.{level_of}
use Rattle.rx_cut.specs.Clip.{clipped}
use Rattle.rx_and.proofs.Narrowed.{order_of}
use Rattle.rx_and.proofs.Fellows.{bare_span_is, first_bare}
use Rattle.rx_and.proofs.choosing.meet_first.Goals as goal

pub clip_within-requires-clause-order : goal.clip_within-requires-clause-order
clip_within-requires-clause-order c = order_of c.requires.fellows.parts (level_of c.args.levels.now (Some c.args.h)) c.requires.fellows.second

pub clip_within-requires-clause-span : goal.clip_within-requires-clause-span
clip_within-requires-clause-span c =
    subst IsSpan (sym c.in-Ok-copy.ensures) (bare_span_is c.requires.fellows.parts (level_of c.args.levels.now (Some c.args.g)) c.in-Some.span.now c.in-Some.ensures.some c.requires.fellows.first)

pub returns-in-Ok-clip_within-clause-level : goal.returns-in-Ok-clip_within-clause-level
returns-in-Ok-clip_within-clause-level c =
    c.in-Ok-clip_within.ensures.level
    ∙ ap (λ s. clipped s (level_of c.args.levels.now (Some c.args.h))) c.in-Ok-copy.ensures
    ∙ first_bare (level_of c.args.levels.now (Some c.args.g)) (level_of c.args.levels.now (Some c.args.h)) c.in-Some.span.now c.requires.fellows c.in-Some.ensures.some

pub returns-clause-over : goal.returns-clause-over
returns-clause-over c e =
    let is = ap level_size (ap (λ s. clipped s (level_of c.args.levels.now (Some c.args.h))) c.in-Ok-copy.ensures
    ∙ first_bare (level_of c.args.levels.now (Some c.args.g)) (level_of c.args.levels.now (Some c.args.h)) c.in-Some.span.now c.requires.fellows c.in-Some.ensures.some) in
    omega (arith, is, c.in-Err-clip_within.ensures.over e)
