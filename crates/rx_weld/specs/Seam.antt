-- Where two levels meet.
use Rattle.std.specs.Prelude.{◌≡◌}
use Rattle.rx_tree.specs.Tree.{Level}
use Rattle.rx_tree.specs.Tree.Level.{end, item}

-- the last item of a level ends where the first of another begins, and has the same child
abbrev pub IsSeam : Level → Level → Type 0
IsSeam end b = ⊥
IsSeam (item s c end) end = ⊥
IsSeam (item s c end) (item t d more) = (s.hi ≡ t.lo) × (c ≡ d)
IsSeam (item s c (item u e rest)) b = IsSeam (item u e rest) b
