use Rattle.std.proofs.Common.{arith, ◌∷◌, [], Some}
use Rattle.rx_level.proofs.Steps.{keeps_root}
use Rattle.rx_level.proofs.Turning.{kept_root}
use Rattle.rx_and.proofs.HungLevels.{number_stays, number_one}
use Rattle.rx_and.proofs.choosing.keep_one.Goals as goal

pub returns-clause-level : goal.returns-clause-level
returns-clause-level c = (kept_root c.args.levels.now c.free.new.self (Some c.args.g ∷ []) [] c.free.ensures.step (Some c.args.g) (λ m. omega (arith, c.requires.owns.owned m))).level

pub returns-clause-items : goal.returns-clause-items
returns-clause-items c n k first second =
    number_one c.args.levels.now (Some c.args.g) n k first
    (number_stays c.args.levels.now c.free.new.self (Some c.args.g)
    (keeps_root c.args.levels.now c.free.new.self (Some c.args.g ∷ []) [] c.free.ensures.step (Some c.args.g) (λ m. omega (arith, c.requires.owns.owned m)))
    c.sound.ensures.stands c.sound-2.ensures.stands k second)
