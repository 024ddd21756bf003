-- The limits of a table.
use Rattle.std.specs.Prelude.{ℕ}

-- how many columns a table has at most
abbrev pub most_columns : ℕ
most_columns = 256

-- how many indexes a table has at most besides its primary key
abbrev pub most_indexes : ℕ
most_indexes = 64

-- how many parts an index has at most
abbrev pub most_parts : ℕ
most_parts = 16

-- how many rows a table has at most
abbrev pub most_rows : ℕ
most_rows = 1000000
