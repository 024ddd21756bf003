-- Costs and choices, by examples.
use Rattle.std.proofs.Common.{◌≡◌, true, false, [], ◌∷◌, map, ◌+◌, refl}
use Rattle.rx_cost.specs.Choice.{least_place}
use Rattle.rx_cost.specs.Costs.{digits_of, table_cost_of, index_cost_of, group_cost_of, skip_cost_of, range_cost_of, ids_cost_of, intersect_cost_of, union_cost_of, sort_union_cost_of}

-- tables of so many rows
tables : map table_cost_of (0 ∷ 2 ∷ 4 ∷ 7 ∷ 49 ∷ 50 ∷ 100 ∷ 1000 ∷ 5000 ∷ []) ≡ 20 ∷ 24 ∷ 28 ∷ 34 ∷ 118 ∷ 140 ∷ 260 ∷ 2420 ∷ 12020 ∷ []
tables = refl

-- indexes of so many entries
indexes : map index_cost_of (2 ∷ 4 ∷ 7 ∷ 1000 ∷ []) ≡ 24 ∷ 28 ∷ 34 ∷ 2120 ∷ []
indexes = refl

-- groups by one seek and one entry each: of two columns, of one, and those of COUNT(DISTINCT ..)
groups_alone : map (λ groups. group_cost_of groups 1 1) (200 ∷ 100 ∷ 2 ∷ []) ≡ 4400 ∷ 2200 ∷ 44 ∷ []
groups_alone = refl

-- groups with MIN and MAX: three entries by four seeks
least_and_greatest : map (λ groups. group_cost_of groups 4 3) (2 ∷ 100 ∷ []) ≡ 172 ∷ 8600 ∷ []
least_and_greatest = refl

-- groups with MIN below a constant part
least_at_a_constant : group_cost_of 10 4 2 ≡ 840
least_at_a_constant = refl

-- a skip scan below two values of the first part, and one below two values of the second at a constant of the first
skips : skip_cost_of 1 2 1 250 ∷ skip_cost_of 1 2 1 125 ∷ [] ≡ 870 ∷ 475 ∷ []
skips = refl

-- one range of an index that has all columns
range_alone : map (λ rows. range_cost_of 1 rows false true) (0 ∷ 1 ∷ 2 ∷ 3 ∷ 500 ∷ []) ≡ 20 ∷ 23 ∷ 26 ∷ 29 ∷ 1560 ∷ []
range_alone = refl

-- many ranges of an index that has all columns, and none
ranges_alone : range_cost_of 0 0 false true ∷ range_cost_of 2 2 false true ∷ range_cost_of 4 3 false true ∷ range_cost_of 200 4 false true ∷ range_cost_of 40000 4 false true ∷ []
    ≡ 0 ∷ 46 ∷ 89 ∷ 4012 ∷ 800012 ∷ []
ranges_alone = refl

-- one range of the primary key
range_of_primary : range_cost_of 1 550 true false ≡ 1890
range_of_primary = refl

-- one range of an index whose rows are read
range_with_rows : map (λ rows. range_cost_of 1 rows false false) (0 ∷ 1 ∷ 3 ∷ 10 ∷ 40 ∷ []) ≡ 20 ∷ 43 ∷ 89 ∷ 250 ∷ 940 ∷ []
range_with_rows = refl

-- many ranges of an index whose rows are read: dived, and taken from statistics that tell too much
ranges_with_rows : range_cost_of 2 4 false false ∷ range_cost_of 3 6 false false ∷ range_cost_of 3 100 false false ∷ range_cost_of 2 8 false false ∷ [] ≡ 132 ∷ 198 ∷ 2360 ∷ 224 ∷ []
ranges_with_rows = refl

-- the ids of a point, of a range, and of one over more than 200 entries
ids : ids_cost_of 1 10 ∷ ids_cost_of 1 30 ∷ ids_cost_of 1 450 ∷ [] ≡ 30 ∷ 50 ∷ 510 ∷ []
ids = refl

-- one scan with a range of the primary key, then two with it
intersections : intersect_cost_of (ids_cost_of 1 10) 1 5 false ∷ intersect_cost_of (ids_cost_of 1 10 + ids_cost_of 1 10) 1 0 false ∷ [] ≡ 160 ∷ 80 ∷ []
intersections = refl

-- no row is read
intersection_alone : intersect_cost_of 60 0 10 true ≡ 80
intersection_alone = refl

-- two points of ten rows each
union : union_cost_of (ids_cost_of 1 10 + ids_cost_of 1 10) 20 ≡ 500
union = refl

-- the same sorted, a range of 30 rows and a point of 10, and a range of 19 ids of the primary key and a point of 50
sort_unions : sort_union_cost_of (ids_cost_of 1 10 + ids_cost_of 1 10) 20 ∷ sort_union_cost_of (ids_cost_of 1 30 + ids_cost_of 1 10) 40 ∷ sort_union_cost_of (ids_cost_of 1 19 + ids_cost_of 1 50) 69 ∷ []
    ≡ 600 ∷ 1200 ∷ 2110 ∷ []
sort_unions = refl

-- binary digits at and round powers of 2
digits : map digits_of (0 ∷ 1 ∷ 2 ∷ 3 ∷ 4 ∷ 7 ∷ 8 ∷ 1000000 ∷ 1048575 ∷ 1048576 ∷ []) ≡ 0 ∷ 1 ∷ 2 ∷ 2 ∷ 3 ∷ 3 ∷ 4 ∷ 20 ∷ 20 ∷ 21 ∷ []
digits = refl

-- the scan of the table on a tie, the range scan where it costs less
choices : least_place (20 ∷ 20 ∷ []) ∷ least_place (34 ∷ 34 ∷ 29 ∷ []) ∷ least_place (28 ∷ 28 ∷ 46 ∷ []) ∷ [] ≡ 0 ∷ 2 ∷ 0 ∷ []
choices = refl

-- the last of six, and without intersections the first of two that cost the same
choices_of_many : least_place (2420 ∷ 1890 ∷ 250 ∷ 250 ∷ 160 ∷ 80 ∷ []) ∷ least_place (2420 ∷ 1890 ∷ 250 ∷ 250 ∷ []) ∷ [] ≡ 5 ∷ 2 ∷ []
choices_of_many = refl
