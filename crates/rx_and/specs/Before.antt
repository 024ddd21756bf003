-- Trees whose parts come before those of another.
use Rattle.std.specs.Prelude.{◌≡◌, ◌<◌, ℕ, Bool, true, List}
use Rattle.rx_tree.specs.Tree.{Tree, constrains}

-- each part that the first tree constrains comes before each that the second constrains
abbrev pub IsBefore : List Bool → Tree → Tree → Type 0
IsBefore parts t u = (j k : ℕ) → constrains parts t j ≡ true → constrains parts u k ≡ true → j < k
