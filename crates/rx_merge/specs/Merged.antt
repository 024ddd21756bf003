-- Which row ids a merge of scans hands out, and what it reads.
use Rattle.std.specs.Prelude.{ℕ, ◌<◌, ◌*◌, Bool, true, false, nat_eq, List, length, filter, Some, None, IfSome, All}
use Rattle.std.specs.List.{flat_map, list_any, list_all, range_with_len, sum_by}
use Rattle.std.specs.Ordering.{nat_cmp}
use Rattle.std.specs.BTreeMap.{BTreeMap, get}
use Rattle.rx_value.specs.declared.ranges.KeyRange.{KeyRange}
use Rattle.rx_value.specs.declared.shapes.Schema.{Schema}
use Rattle.rx_index.specs.declared.indexed.Indexed.{Indexed}
use Rattle.rx_store.specs.declared.tables.Counts.{Counts}
use Rattle.rx_store.specs.Tables.{Meaning}
use Rattle.rx_cost.specs.declared.candidates.Kind.{Kind}
use Rattle.rx_cost.specs.declared.candidates.Kind.TheVariants.{Intersect, Union, SortUnion}
use Rattle.rx_cost.specs.declared.candidates.Scan.{Scan}
use Rattle.rx_cost.specs.declared.candidates.Candidate.{Candidate}
use Rattle.rx_scan.specs.Visits.{is_primary, ids_held, places_held, count_in_ranges}
use Rattle.rx_merge.specs.Ids.{has_id, HasOfAll}

-- ---- what a merge is

-- a kind of candidate merges scans
abbrev pub IsKindOfMerge : Kind → Type 0
IsKindOfMerge Intersect = Unit {0}
IsKindOfMerge Union = Unit {0}
IsKindOfMerge SortUnion = Unit {0}
IsKindOfMerge _ = ⊥

-- a candidate merges scans of indexes that are there
pub record IsMerge (schema : Schema) (candidate : Candidate) : Type 0 where
  pub kind : IsKindOfMerge candidate.kind
  pub there : All (λ scan. scan.index < length schema.indexes) candidate.scans

-- ---- ids

-- the ids in ranges of an index: its places where it is the primary key, else those of its entries
abbrev pub ids_in : Bool → Indexed → ℕ → List KeyRange → List ℕ
ids_in true t n ranges = flat_map (places_held t n) ranges
ids_in false t n ranges = flat_map (ids_held t n) ranges

-- the ids in the ranges of a scan
abbrev pub scanned_ids : Indexed → Scan → List ℕ
scanned_ids t scan = ids_in (is_primary t.schema scan.index) t scan.index scan.ranges

-- a scan has an id in its ranges
abbrev pub is_scanned : Indexed → ℕ → Scan → Bool
is_scanned t id scan = has_id (scanned_ids t scan) id

-- the scans of a member, by its number
abbrev pub scans_of : ℕ → List Scan → List Scan
scans_of member scans = filter (λ scan. nat_eq scan.member member) scans

-- a test passes all scans of one of the members
abbrev pub passes_member : (Scan → Bool) → List Scan → Bool
passes_member test scans = list_any (λ scan. list_all test (scans_of scan.member scans)) scans

-- all scans of one of the members have an id
abbrev pub is_merged : Indexed → List Scan → ℕ → Bool
is_merged t scans id = passes_member (is_scanned t id) scans

-- the ids that a candidate hands out: of the rows by id, those that all scans of one of its members have
abbrev pub merged_ids : Candidate → Indexed → List ℕ
merged_ids candidate t = filter (is_merged t candidate.scans) (range_with_len 0 (length t.rows))

-- the ids of each member are those that all of its scans have
abbrev pub AreMembers : Indexed → List Scan → BTreeMap ℕ (List ℕ) → Type 0
AreMembers t scans members = (member : ℕ) → HasOfAll (λ scan id. is_scanned t id scan) (scans_of member scans) (get nat_cmp members member)

-- each id of a member is below a number
abbrev pub AreBelow : ℕ → BTreeMap ℕ (List ℕ) → Type 0
AreBelow count members = (member : ℕ) → IfSome (get nat_cmp members member) (λ ids. All (λ id. id < count) ids)

-- ---- what is read

-- how many ranges scans have in all
abbrev pub count_ranges : List Scan → ℕ
count_ranges scans = sum_by (λ scan. length scan.ranges) scans

-- how many entries are read of ranges of an index: none where it is the primary key, whose places are ids
abbrev pub entries_read_in : Bool → Indexed → ℕ → List KeyRange → ℕ
entries_read_in true t n ranges = 0
entries_read_in false t n ranges = count_in_ranges t n ranges

-- how many entries are read of a scan
abbrev pub entries_read : Indexed → Scan → ℕ
entries_read t scan = entries_read_in (is_primary t.schema scan.index) t scan.index scan.ranges

-- how many entries are read of scans, and none where they aren't told
abbrev pub entries_of : Meaning → List Scan → ℕ
entries_of table scans = elim table.told [ Some t ↦ sum_by (entries_read t) scans | None ↦ 0 ]

-- what is read of scans, where so many entries are: two seeks for each range, and no row
abbrev pub reads_of : List Scan → ℕ → Counts
reads_of scans entries = record { seeks = 2 * count_ranges scans; entries = entries; rows = 0 }

-- what a candidate reads before its ids are handed out, and in all
abbrev pub merge_visits : Candidate → Meaning → Counts
merge_visits candidate table = reads_of candidate.scans (entries_of table candidate.scans)
