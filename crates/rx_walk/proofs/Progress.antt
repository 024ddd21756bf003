-- An iterator that gives the first of what is left comes to its end.
use Rattle.std.proofs.Common.{◌≡◌, [], ◌∷◌, length, Option, Some, None, MatchOption, ap, arith}
use Rattle.std.specs.Iterator.{MakesProgress, item_count}
use Rattle.rx_value.specs.declared.ranges.KeyRange.{KeyRange}
use Rattle.rx_walk.specs.declared.ranges.Ranges.{Ranges}
use Rattle.rx_walk.specs.Left.{IsWalk, rest}

pub progress : (s t : Ranges) (r : Option KeyRange) → IsWalk t → MatchOption r ((rest s ≡ []) × (rest t ≡ [])) (λ x. rest s ≡ x ∷ rest t) → MakesProgress {A = KeyRange} IsWalk (item_count rest) s r t
progress s t None walk yields = record { on = λ f. tt; keeps = tt; rests = λ f. tt }
progress s t (Some x) walk yields = record { on = λ f. (walk, tt, omega (arith, ap length yields)); keeps = walk; rests = λ f. tt }
