-- Truths of three values.
use Rattle.std.specs.Prelude.{Bool, true, false, if◌then◌else◌, List}
use Rattle.std.specs.List.{list_all, list_any}
use Rattle.rx_cond.specs.declared.conds.Tri.{Tri}
use Rattle.rx_cond.specs.declared.conds.Tri.TheVariants.{T, F, N}

-- the truth of a fact that is never unknown
abbrev pub tri_of : Bool → Tri
tri_of true = T
tri_of false = F

-- NOT swaps true and false.
abbrev pub three_not : Tri → Tri
three_not T = F
three_not F = T
three_not N = N

-- AND is false where a side is false, true where both are true, else unknown.
abbrev pub three_and : Tri → Tri → Tri
three_and F b = F
three_and T b = b
three_and N F = F
three_and N _ = N

-- OR is true where a side is true, false where both are false, else unknown.
abbrev pub three_or : Tri → Tri → Tri
three_or T b = T
three_or F b = b
three_or N T = T
three_or N _ = N

abbrev pub is_true : Tri → Bool
is_true T = true
is_true _ = false

abbrev pub is_false : Tri → Bool
is_false F = true
is_false _ = false

abbrev pub is_unknown : Tri → Bool
is_unknown N = true
is_unknown _ = false

-- AND over a list is false where an item is false, true where all are true, else unknown.
abbrev pub all_of : List Tri → Tri
all_of ts = if list_any is_false ts then F else if list_all is_true ts then T else N

-- OR over a list is true where an item is true, false where all are false, else unknown.
abbrev pub any_of : List Tri → Tri
any_of ts = if list_any is_true ts then T else if list_all is_false ts then F else N
