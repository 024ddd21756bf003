use Rattle.std.proofs.Common.{◌≡◌, ◌∙◌, false, get_or, replicate, ap, rules}
use Rattle.rx_level.proofs.Marks.{unmarked}
use Rattle.rx_level.proofs.levels.Levels.reached.Goals as goal

pub count_under-requires-clause-unmarked : goal.count_under-requires-clause-unmarked
count_under-requires-clause-unmarked c m =
    let none : c.as_mut_slice.result.now ≡ replicate c.capacity.result false = search rules in
    ap (λ xs. get_or xs m false) none ∙ unmarked c.capacity.result m
