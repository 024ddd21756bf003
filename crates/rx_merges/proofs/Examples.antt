-- Intersections and unions, by examples: a table of a thousand rows with a primary key and two indexes of one part.
use Rattle.std.proofs.Common.{◌≡◌, ℕ, pos, Bool, true, false, List, [], ◌∷◌, map, Some, None, option_map, refl}
use Rattle.rx_value.specs.declared.values.Value.TheVariants.{Int}
use Rattle.rx_value.specs.declared.ranges.KeyRange.{KeyRange}
use Rattle.rx_value.specs.declared.shapes.ColType.TheVariants.{Whole as WholeType}
use Rattle.rx_value.specs.declared.shapes.Column.{Column}
use Rattle.rx_value.specs.declared.shapes.Index.{Index}
use Rattle.rx_value.specs.declared.shapes.Schema.{Schema}
use Rattle.rx_query.specs.Settings.{default_settings}
use Rattle.rx_cost.specs.declared.candidates.Kind.{Kind}
use Rattle.rx_cost.specs.declared.candidates.Kind.TheVariants.{Intersect, Union, SortUnion}
use Rattle.rx_cost.specs.declared.candidates.Role.TheVariants.{Scan as ScanRole}
use Rattle.rx_cost.specs.declared.candidates.Scan.{Scan}
use Rattle.rx_cost.specs.declared.candidates.Candidate.{Candidate}
use Rattle.rx_merges.specs.Intersections.{intersections_among}
use Rattle.rx_merges.specs.Unions.{union_of}

abbrev column : Column
column = record { name = []; kind = WholeType 32 true; nullable = false }

abbrev index : Bool → ℕ → Index
index primary n = record { name = []; primary = primary; unique = primary; parts = record { column = n; descending = false; chars = None } ∷ [] }

abbrev schema : Schema
schema = record { table = []; columns = column ∷ column ∷ column ∷ column ∷ []; indexes = index true 0 ∷ index false 1 ∷ index false 2 ∷ [] }

abbrev point : ℕ → KeyRange
point n = record { points = Int (pos n) ∷ []; last = None }

abbrev scan : ℕ → ℕ → List KeyRange → ℕ → Scan
scan index member ranges rows = record { index = index; role = ScanRole; member = member; part = 0; ranges = ranges; dives = true; rows = rows }

abbrev line_of : Candidate → Kind × ℕ × ℕ × List ℕ
line_of candidate = (candidate.kind, candidate.cost, candidate.rows, map (λ s. s.index) candidate.scans)

-- two indexes with a point each, and a range of the primary key: the filter stands behind one and behind both, and the lower index is the first
two_and_a_filter : map line_of (intersections_among true (0 ∷ 1 ∷ 2 ∷ 3 ∷ []) schema 1000 (scan 0 1 (point 550 ∷ []) 550 ∷ scan 1 1 (point 53 ∷ []) 10 ∷ scan 2 1 (point 5 ∷ []) 10 ∷ []))
    ≡ (Intersect, 160, 5, 1 ∷ 0 ∷ []) ∷ (Intersect, 80, 0, 1 ∷ 2 ∷ 0 ∷ []) ∷ []
two_and_a_filter = refl

-- without the filter both meet; the scan with fewer rows is the first
fewer_first : map line_of (intersections_among false [] schema 1000 (scan 1 1 (point 53 ∷ []) 10 ∷ scan 2 1 (point 5 ∷ []) 9 ∷ [])) ≡ (Intersect, 59, 0, 2 ∷ 1 ∷ []) ∷ []
fewer_first = refl

-- a scan of two points gives its ids out of order, and meets none
out_of_order : map line_of (intersections_among false [] schema 1000 (scan 1 1 (point 53 ∷ point 54 ∷ []) 20 ∷ scan 2 1 (point 5 ∷ []) 10 ∷ [])) ≡ []
out_of_order = refl

-- a point for each disjunct: a union
one_union : option_map line_of (union_of default_settings schema 1000 ((scan 1 1 (point 21 ∷ []) 10 ∷ []) ∷ (scan 2 2 (point 2 ∷ []) 10 ∷ []) ∷ [])) ≡ Some (Union, 500, 20, 1 ∷ 2 ∷ [])
one_union = refl

-- a disjunct of more than one key: the ids are sorted
sorted_ids : option_map line_of (union_of default_settings schema 1000 ((scan 1 1 (point 1 ∷ point 2 ∷ []) 30 ∷ []) ∷ (scan 2 2 (point 2 ∷ []) 10 ∷ []) ∷ [])) ≡ Some (SortUnion, 1220, 40, 1 ∷ 2 ∷ [])
sorted_ids = refl

-- no union is asked for
not_asked : option_map line_of (union_of (record default_settings { union_on = false }) schema 1000 ((scan 1 1 (point 21 ∷ []) 10 ∷ []) ∷ (scan 2 2 (point 2 ∷ []) 10 ∷ []) ∷ [])) ≡ Some (SortUnion, 600, 20, 1 ∷ 2 ∷ [])
not_asked = refl

-- a disjunct without a scan
no_union : option_map line_of (union_of default_settings schema 1000 ((scan 1 1 (point 1 ∷ []) 10 ∷ []) ∷ [] ∷ [])) ≡ None
no_union = refl
