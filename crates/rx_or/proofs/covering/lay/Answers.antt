use Rattle.std.proofs.Common.{[], ◌∷◌, arith, ◌∙◌}
use Rattle.rx_level.specs.Step.{Step, level_of}
use Rattle.rx_level.proofs.Steps.{held_there}
use Rattle.rx_level.proofs.Lending.{lent_held}
use Rattle.rx_level.proofs.Turning.{kept_root}
use Rattle.rx_or.specs.Cover.{IsLaid}
use Rattle.rx_or.proofs.Inserted.{laid_covered, told_some}
use Rattle.rx_or.proofs.covering.lay.Goals as goal

pub insert-requires-clause-root : goal.insert-requires-clause-root
insert-requires-clause-root c =
    lent_held c.args.levels.now [] c.args.root (held_there c.args.levels.now c.args.root (λ m. omega (arith, c.requires.owns.owned m))) (λ m. omega (arith, c.requires.owns.owned m))

pub returns-in-Ok-Some-clause-level : goal.returns-in-Ok-Some-clause-level
returns-in-Ok-Some-clause-level c =
    let step = told_some (λ r. Step c.args.levels.now c.insert.new.levels [] (r ∷ [])) c.in-Ok-Some.field-0 c.in-Ok-Some.whole c.in-Ok-Some.field-0-is c.in-Ok-Some.ensures.ok in
    let laid = told_some (λ r. IsLaid c.args.span (level_of c.args.levels.now c.args.root) (level_of c.insert.new.levels r)) c.in-Ok-Some.field-0 c.in-Ok-Some.whole c.in-Ok-Some.field-0-is c.in-Ok-Some.ensures.laid in
    let kept = kept_root c.insert.new.levels c.free.new.self (c.args.root ∷ []) [] c.free.ensures.step c.in-Ok-Some.whole (λ m. omega (arith, step.held m, c.requires.owns.owned m)) in
    kept.level ∙ laid_covered c.args.span (level_of c.args.levels.now c.args.root) (level_of c.insert.new.levels c.in-Ok-Some.whole) laid
