-- Intersections: the rows whose ids several scans have in common.
use Rattle.std.specs.Prelude.{ℕ, ◌+◌, ◌*◌, ◌/◌, max, Bool, ◌&&◌, nat_eq, nat_le, List, [], ◌∷◌, ◌++◌, length, map, take}
use Rattle.std.specs.List.{fold, filter, list_any, list_all, sum_by, range_with_len}
use Rattle.std.specs.Option.{is_none}
use Rattle.rx_value.specs.declared.shapes.Part.{Part}
use Rattle.rx_value.specs.declared.shapes.Schema.{Schema}
use Rattle.rx_estimate.specs.Estimates.{parts_in}
use Rattle.rx_cost.specs.declared.candidates.Kind.TheVariants.{Intersect}
use Rattle.rx_cost.specs.declared.candidates.Scan.{Scan}
use Rattle.rx_cost.specs.declared.candidates.Candidate.{Candidate}
use Rattle.rx_cost.specs.Costs.{ids_cost_of, intersect_cost_of}
use Rattle.rx_merges.specs.Ordered.{row_ordered, filters_in}

-- what the ids of a scan cost
abbrev pub ids_of : Scan → ℕ
ids_of scan = ids_cost_of (length scan.ranges) scan.rows

-- what the ids of scans cost
abbrev pub ids_in : List Scan → ℕ
ids_in scans = sum_by ids_of scans

-- how many ranges scans have
abbrev pub ranges_in : List Scan → ℕ
ranges_in scans = sum_by (λ scan. length scan.ranges) scans

-- of so many rows, those that a scan is taken to leave, over a table of so many
abbrev pub rows_left : ℕ → ℕ → Scan → ℕ
rows_left count rows scan = rows * scan.rows / max 1 count

-- how many rows scans are taken to have in common: those of the first, of which each further one leaves its share
abbrev pub rows_met : ℕ → List Scan → ℕ
rows_met count [] = 0
rows_met count (scan ∷ others) = fold (rows_left count) scan.rows others

-- a column is a part of an index, one without a prefix length
abbrev pub is_whole_part : List Part → ℕ → Bool
is_whole_part parts column = list_any (λ part. nat_eq part.column column && is_none part.chars) parts

-- a column is such a part of one of the indexes of scans
abbrev pub have_column : Schema → List Scan → ℕ → Bool
have_column schema scans column = list_any (λ scan. is_whole_part (parts_in schema scan.index) column) scans

-- Entries alone may be read, and scans have all of these columns, so that no row is read.
abbrev pub are_enough : Bool → List ℕ → Schema → List Scan → Bool
are_enough entries columns schema scans = entries && list_all (have_column schema scans) columns

-- the intersection of scans and filters over a table of so many rows, whether entries alone are read
abbrev pub intersection : ℕ → Bool → List Scan → List Scan → Candidate
intersection count entries scans filters = record {
  kind = Intersect;
  scans = scans ++ filters;
  cost = intersect_cost_of (ids_in scans) (ranges_in filters) (rows_met count (scans ++ filters)) entries;
  rows = rows_met count (scans ++ filters);
  index_only = entries;
}

-- so many first scans meet: there is at least one, and with the filters there are at least two
abbrev pub do_meet : List Scan → ℕ → Bool
do_meet filters n = nat_le 1 n && nat_le 2 (n + length filters)

-- the intersection of so many first scans with the filters
abbrev pub intersection_of : Bool → List ℕ → Schema → ℕ → List Scan → List Scan → ℕ → Candidate
intersection_of entries columns schema count ordered filters n = intersection count (are_enough entries columns schema (take n ordered)) (take n ordered) filters

-- the intersections of each front of scans with the filters, the shortest front first
abbrev pub intersections_with : Bool → List ℕ → Schema → ℕ → List Scan → List Scan → List Candidate
intersections_with entries columns schema count ordered filters =
    map (intersection_of entries columns schema count ordered filters) (filter (do_meet filters) (range_with_len 0 (length ordered + 1)))

-- The intersections of the scans of a condition over a table of so many rows: of those that give row ids in rising order the first by rows, with the
-- primary key's as filter. Where entries alone may be read, those that have all of these columns read no row.
abbrev pub intersections_among : Bool → List ℕ → Schema → ℕ → List Scan → List Candidate
intersections_among entries columns schema count scans = intersections_with entries columns schema count (row_ordered schema scans) (filters_in schema scans)
