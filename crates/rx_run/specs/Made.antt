-- The row that an intersection hands out for each id where no row is read: what the points of its scans tell.
use Rattle.std.specs.Prelude.{ℕ, pos, neg_ℤ, int_le, Bool, true, ◌&&◌, nat_eq, is_none, if◌then◌else◌, List, [], ◌∷◌, map, length, slice_get, Option, Some, None}
use Rattle.std.specs.List.{filter_map, range_with_len}
use Rattle.rx_value.specs.declared.values.Value.{Value}
use Rattle.rx_value.specs.declared.values.Value.TheVariants.{Null, Int}
use Rattle.rx_value.specs.declared.ranges.KeyRange.{KeyRange}
use Rattle.rx_value.specs.declared.shapes.Part.{Part}
use Rattle.rx_value.specs.declared.shapes.Schema.{Schema}
use Rattle.rx_cost.specs.declared.candidates.Role.{Role}
use Rattle.rx_cost.specs.declared.candidates.Role.TheVariants.{Scan as InRanges}
use Rattle.rx_cost.specs.declared.candidates.Scan.{Scan}
use Rattle.rx_estimate.specs.Estimates.{parts_in}

-- a part is on a column, and has no prefix length
abbrev pub has_whole : ℕ → Part → Bool
has_whole column part = nat_eq part.column column && is_none part.chars

-- the point at the place of the first part that has the whole column
abbrev pub point_on : List Part → List Value → ℕ → Option Value
point_on (part ∷ parts) (point ∷ points) column = if has_whole column part then Some point else point_on parts points column
point_on _ _ column = None

-- the points of ranges of which there is one
abbrev pub points_of : List KeyRange → List Value
points_of (range ∷ []) = range.points
points_of _ = []

-- what ranges that are read in a role tell of a column, on an index of these parts
abbrev pub point_in_role : Role → List Part → List KeyRange → ℕ → Option Value
point_in_role InRanges parts ranges column = point_on parts (points_of ranges) column
point_in_role _ parts ranges column = None

-- what a scan tells of a column
abbrev pub scan_point : Schema → ℕ → Scan → Option Value
scan_point schema column scan = point_in_role scan.role (parts_in schema scan.index) scan.ranges column

-- what the first scan that tells something of a column tells of it
abbrev pub first_point : Schema → ℕ → List Scan → Option Value
first_point schema column scans = slice_get (filter_map (scan_point schema column) scans) 0

-- a value is no integer that no column can have
abbrev pub is_small : Value → Bool
is_small (Int n) = int_le (neg_ℤ (pos 9223372036854775808)) n && int_le n (pos 18446744073709551615)
is_small _ = true

-- a value that is told, NULL where none is, or where it is an integer that no column can have
abbrev pub small_value : Option Value → Value
small_value (Some value) = if is_small value then value else Null
small_value None = Null

-- what scans tell of a column
abbrev pub made_value : Schema → List Scan → ℕ → Value
made_value schema scans column = small_value (first_point schema column scans)

-- the row of what scans tell of each column
abbrev pub made_row : Schema → List Scan → List Value
made_row schema scans = map (made_value schema scans) (range_with_len 0 (length schema.columns))
