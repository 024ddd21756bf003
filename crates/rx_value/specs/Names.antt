-- Names, which are compared without case.
use Rattle.std.specs.Prelude.{ℕ, Bool, List}
use Rattle.std.specs.Str.{str_eq_ignore_ascii_case}

-- two names are the same but for the case of their letters
abbrev pub same_name : List ℕ → List ℕ → Bool
same_name name other = str_eq_ignore_ascii_case name other
