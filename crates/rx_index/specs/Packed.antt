-- Rows with one short word, as single numbers: the word above, the id below.
use Rattle.std.specs.Prelude.{◌≡◌, ℕ, ◌+◌, ◌*◌, ◌/◌, ◌%◌, ◌<◌, List, [], map, All}
use Rattle.std.specs.Ordering.{nat_cmp}
use Rattle.std.specs.List.Sorted.{IsPermutation, IsSorted}
use Rattle.rx_value.specs.declared.values.Value.{Value}
use Rattle.rx_index.specs.declared.heads.Field.{Field}
use Rattle.rx_index.specs.declared.orders.Placed.{Placed}
use Rattle.rx_index.specs.Placed.{ArePlaced}

-- a row's first word and its id as one number
abbrev pub packed : Placed → ℕ
packed place = place.head * 4294967296 + place.id

-- the row of such a number
abbrev pub unpacked : ℕ → Placed
unpacked number = record { head = number / 4294967296; next = 0; id = number % 4294967296 }

-- a row has no second word, and its id is one of 32 bits
pub record IsBrief (place : Placed) : Type 0 where
  pub next : place.next ≡ 0
  pub id : place.id < 4294967296

-- the first rows in the order of ids, as numbers of one word each
pub record ArePackedTo (fields : List Field) (rows : List (List Value)) (count : ℕ) (numbers : List ℕ) : Type 0 where
  pub list : List Placed
  pub placed : ArePlaced fields [] rows count list
  pub are : numbers ≡ map packed list
  pub brief : All IsBrief list

-- rows are those of these numbers when they are sorted
pub record AreSorted (numbers : List ℕ) (list : List Placed) : Type 0 where
  pub sorted : List ℕ
  pub same : IsPermutation numbers sorted
  pub rising : IsSorted nat_cmp sorted
  pub are : list ≡ map unpacked sorted
