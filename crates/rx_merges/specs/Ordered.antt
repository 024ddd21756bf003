-- Scans that give row ids in rising order, and the scan of the primary key that filters them.
use Rattle.std.specs.Prelude.{ℕ, Bool, true, false, not, ◌&&◌, ◌||◌, nat_eq, nat_lt, List, [], ◌∷◌, length, map}
use Rattle.std.specs.List.{fold, filter, insert, position_or_len}
use Rattle.std.specs.Option.{is_none}
use Rattle.rx_value.specs.declared.ranges.KeyRange.{KeyRange}
use Rattle.rx_value.specs.declared.shapes.Schema.{Schema}
use Rattle.rx_estimate.specs.Estimates.{parts_in}
use Rattle.rx_cost.specs.declared.candidates.Role.TheVariants.{Filter}
use Rattle.rx_cost.specs.declared.candidates.Scan.{Scan}
use Rattle.rx_plan.specs.Naming.{is_primary}

-- a range is one key of an index of so many parts: it has a point for each part, and no span
abbrev pub is_key : ℕ → KeyRange → Bool
is_key count range = is_none range.last && nat_eq (length range.points) count

-- ranges of an index of so many parts hold entries of one key at most: there is none, or it is one key
abbrev pub are_one_key : ℕ → List KeyRange → Bool
are_one_key count [] = true
are_one_key count (range ∷ []) = is_key count range
are_one_key count _ = false

-- A scan gives row ids in rising order, since entries of one key stand by id: its index isn't the primary key, and its ranges hold one key at most.
abbrev pub is_row_ordered : Schema → Scan → Bool
is_row_ordered schema scan = not (is_primary schema scan.index) && are_one_key (length (parts_in schema scan.index)) scan.ranges

-- a scan goes before another: it has fewer rows, or as many and the lower index
abbrev pub goes_first : Scan → Scan → Bool
goes_first a b = nat_lt a.rows b.rows || (nat_eq a.rows b.rows && nat_lt a.index b.index)

-- a scan among others: before the first that it goes before, or at the end
abbrev pub placed : List Scan → Scan → List Scan
placed others scan = insert others (position_or_len (goes_first scan) others) scan

-- scans by their rows, and those with as many by index
abbrev pub sorted : List Scan → List Scan
sorted scans = fold placed [] scans

-- the scans that give row ids in rising order, by their rows and index
abbrev pub row_ordered : Schema → List Scan → List Scan
row_ordered schema scans = sorted (filter (is_row_ordered schema) scans)

-- a scan in the role of a filter
abbrev pub as_filter : Scan → Scan
as_filter scan = record scan { role = Filter }

-- the scan of the primary key, which filters others, where there is one
abbrev pub filters_in : Schema → List Scan → List Scan
filters_in schema scans = map as_filter (filter (λ scan. is_primary schema scan.index) scans)
