-- What each way to read rows costs, in whole numbers.
use Rattle.std.specs.Prelude.{ℕ, zero, suc, ◌+◌, ◌*◌, ◌/◌, ◌^◌, Bool, true, false}

-- the most that a count may be where a cost is told: of rows, ranges, groups, seeks or entries
abbrev pub most_counted : ℕ
most_counted = 1000000

-- the most that a sum over scans may be
abbrev pub most_summed : ℕ
most_summed = 10 ^ 16

-- how often a number is halved until nothing is left, at most so many times
abbrev pub digits_within : ℕ → ℕ → ℕ
digits_within zero n = 0
digits_within (suc most) zero = 0
digits_within (suc most) (suc n) = 1 + digits_within most (suc n / 2)

-- how many binary digits a number has; 0 has none
abbrev pub digits_of : ℕ → ℕ
digits_of n = digits_within n n

-- the scan of a table: 20 for each 50 rows and once more, and 2 for each row
abbrev pub table_cost_of : ℕ → ℕ
table_cost_of rows = 20 * (1 + rows / 50) + 2 * rows

-- the scan of an index: 20 for each 200 entries and once more, and 2 for each entry
abbrev pub index_cost_of : ℕ → ℕ
index_cost_of rows = 20 * (1 + rows / 200) + 2 * rows

-- a loose scan: for each group 20 for each seek and 2 for each entry
abbrev pub group_cost_of : ℕ → ℕ → ℕ → ℕ
group_cost_of groups seeks entries = groups * (20 * seeks + 2 * entries)

-- a skip scan: 20 for each head, for each group 20 and 20 more for each span, and 3 for each entry and 20 for each 200
abbrev pub skip_cost_of : ℕ → ℕ → ℕ → ℕ → ℕ
skip_cost_of heads groups spans rows = 20 * heads + 20 * groups * (1 + spans) + 3 * rows + 20 * (rows / 200)

-- a range scan: 20 for each range, and 3 for each entry and 20 for each 200 where these are all, or 20 for each 50 on the primary key, or else 23 for each row
abbrev pub range_cost_of : ℕ → ℕ → Bool → Bool → ℕ
range_cost_of ranges rows primary true = 20 * ranges + 3 * rows + 20 * (rows / 200)
range_cost_of ranges rows true false = 20 * ranges + 3 * rows + 20 * (rows / 50)
range_cost_of ranges rows false false = 20 * ranges + 23 * rows

-- the ids of a scan: 20 for each range, 1 for each id, and 20 for each 200
abbrev pub ids_cost_of : ℕ → ℕ → ℕ
ids_cost_of ranges rows = 20 * ranges + rows + 20 * (rows / 200)

-- an intersection: the ids of its scans, 20 for each range of the filter, and 2 for each id where no row is read, else 22
abbrev pub intersect_cost_of : ℕ → ℕ → ℕ → Bool → ℕ
intersect_cost_of ids filters rows true = ids + 20 * filters + 2 * rows
intersect_cost_of ids filters rows false = ids + 20 * filters + 22 * rows

-- a union: the ids of its members, and 22 for each row
abbrev pub union_cost_of : ℕ → ℕ → ℕ
union_cost_of ids rows = ids + 22 * rows

-- a union whose ids are sorted: the ids of its scans, the binary digits of the number of rows for each row, and 22 for each row
abbrev pub sort_union_cost_of : ℕ → ℕ → ℕ
sort_union_cost_of ids rows = ids + rows * digits_of rows + 22 * rows
