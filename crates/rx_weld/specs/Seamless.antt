-- Levels whose neighbours can't be one item.
use Rattle.rx_tree.specs.Tree.{Level}
use Rattle.rx_tree.specs.Tree.Level.{end, item}
use Rattle.rx_tree.specs.Canonical.{Differs}

-- no two touching neighbours of a level have the same child
abbrev pub IsSeamless : Level → Type 0
IsSeamless end = Unit {0}
IsSeamless (item s c rest) = Differs s c rest × IsSeamless rest
