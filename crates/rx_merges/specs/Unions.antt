-- Unions: the rows whose ids one of several scans has, or one of several intersections.
use Rattle.std.specs.Prelude.{ℕ, Bool, false, if◌then◌else◌, List, [], ◌∷◌, ◌++◌, map, take, slice_get, Option, Some, None}
use Rattle.std.specs.List.{filter, flat_map, sum_by}
use Rattle.std.specs.Option.{option_or, option_map}
use Rattle.rx_value.specs.declared.shapes.Schema.{Schema}
use Rattle.rx_query.specs.declared.settings.Settings.{Settings}
use Rattle.rx_cost.specs.declared.candidates.Kind.TheVariants.{Union, SortUnion}
use Rattle.rx_cost.specs.declared.candidates.Scan.{Scan}
use Rattle.rx_cost.specs.declared.candidates.Candidate.{Candidate}
use Rattle.rx_cost.specs.Costs.{union_cost_of, sort_union_cost_of}
use Rattle.rx_cost.specs.Choice.{cost_of, least_place, chosen_place}
use Rattle.rx_plan.specs.Naming.{is_primary}
use Rattle.rx_merges.specs.Ordered.{row_ordered}
use Rattle.rx_merges.specs.Intersections.{ids_of, ids_in, intersections_among}

-- One scan as the member of a union: it costs what its ids cost, and 22 for each row.
abbrev pub single : Scan → Candidate
single scan = record { kind = Union; scans = scan ∷ []; cost = union_cost_of (ids_of scan) scan.rows; rows = scan.rows; index_only = false }

-- What may be the member of a disjunct, by the disjunct's scans: the scan of the primary key; the first of those that give row ids in rising order;
-- and their intersections, where these are asked for. Each reads rows.
abbrev pub members_among : Bool → Schema → ℕ → List Scan → List Candidate
members_among intersect schema count scans =
    map single (filter (λ scan. is_primary schema scan.index) scans)
    ++ (map single (take 1 (row_ordered schema scans))
    ++ (if intersect then intersections_among false [] schema count scans else []))

-- the member of a disjunct: the first of those that cost least, where there is one
abbrev pub member_of : Bool → Schema → ℕ → List Scan → Option Candidate
member_of intersect schema count scans =
    slice_get (members_among intersect schema count scans) (chosen_place (members_among intersect schema count scans))

-- all of these, where each is there
abbrev pub all_there : {A : Type 0} → List (Option A) → Option (List A)
all_there [] = Some []
all_there (None ∷ more) = None
all_there (Some x ∷ more) = option_map (λ xs. x ∷ xs) (all_there more)

-- the union of members: it costs what they cost, that is, their ids and 22 for each of their rows
abbrev pub union : List Candidate → Candidate
union members = record {
  kind = Union;
  scans = flat_map (λ member. member.scans) members;
  cost = sum_by cost_of members;
  rows = sum_by (λ member. member.rows) members;
  index_only = false;
}

-- the scan whose ids cost least, the first of such
abbrev pub cheapest : List Scan → Option Scan
cheapest scans = slice_get scans (least_place (map ids_of scans))

-- how many rows scans have in all
abbrev pub rows_in : List Scan → ℕ
rows_in scans = sum_by (λ scan. scan.rows) scans

-- the union of scans whose ids are sorted first
abbrev pub sort_union : List Scan → Candidate
sort_union scans = record { kind = SortUnion; scans = scans; cost = sort_union_cost_of (ids_in scans) (rows_in scans); rows = rows_in scans; index_only = false }

-- the union of disjuncts by the scans of each, where each has a member
abbrev pub union_among : Bool → Schema → ℕ → List (List Scan) → Option Candidate
union_among intersect schema count lists = option_map union (all_there (map (member_of intersect schema count) lists))

-- the same of sorted ids, where each has a scan
abbrev pub sort_union_among : List (List Scan) → Option Candidate
sort_union_among lists = option_map sort_union (all_there (map cheapest lists))

-- the union of a disjunction, by the scans of each disjunct: that of members, or else that of sorted ids, each where it is asked for
abbrev pub union_of : Settings → Schema → ℕ → List (List Scan) → Option Candidate
union_of settings schema count lists =
    option_or (if settings.union_on then union_among settings.intersection schema count lists else None)
    (if settings.sort_union then sort_union_among lists else None)
