use Rattle.std.proofs.Common.{[], ◌∷◌, Some, arith}
use Rattle.rx_weld.proofs.Welded.{owned_lent}
use Rattle.rx_level.specs.Step.{level_of}
use Rattle.rx_or.proofs.United.{over_one}
use Rattle.rx_or.proofs.either.level_or.Goals as goal

pub is_all-requires : goal.is_all-requires
is_all-requires c =
    let step = c.in-Ok.ensures.ok in
    owned_lent c.level_of_either.new.levels (c.in-Ok.whole ∷ []) c.in-Ok.whole (record { sound = step.sound; owned = λ m. omega (arith, step.held m, c.requires.owns.owned m) }) (λ m. omega arith)

pub returns-in-Err-clause-over : goal.returns-in-Err-clause-over
returns-in-Err-clause-over c e =
    over_one c.args.limit c.max.result c.args.parts.now (level_of c.args.levels.now (Some c.args.g)) (level_of c.args.levels.now (Some c.args.h)) c.max.ensures (c.in-Err.ensures.over e)
