-- Rows with the two words that their keys begin with.
use Rattle.std.specs.Prelude.{◌≡◌, ℕ, ◌+◌, ◌≤◌, ◌<◌, ◌⊎◌, Bool, true, List, [], ◌++◌, length, map, drop, All}
use Rattle.std.specs.declared.cmp.Ordering.{Ordering}
use Rattle.std.specs.declared.cmp.Ordering.TheVariants.{Equal}
use Rattle.std.proofs.Common.{get_or}
use Rattle.std.specs.Ordering.{ordering_then, nat_cmp}
use Rattle.std.specs.List.{range_with_len}
use Rattle.rx_value.specs.declared.values.Value.{Value}
use Rattle.rx_value.specs.declared.shapes.Part.{Part}
use Rattle.rx_index.specs.declared.heads.Field.{Field}
use Rattle.rx_index.specs.declared.orders.Placed.{Placed}
use Rattle.rx_value.specs.Keys.{key_cmp}
use Rattle.rx_index.specs.Entries.{row_at, entry_key, IsOrder}
use Rattle.rx_index.specs.Heads.{IsHead, IsFields, AreExact}
use Rattle.rx_index.specs.Steps.{cmp_with}

-- by the words that keys begin with, and then as entries do
abbrev pub placed_cmp : List Value → List Part → List (List Value) → Placed → Placed → Ordering
placed_cmp other parts rows a b = ordering_then (nat_cmp a.head b.head) (ordering_then (nat_cmp a.next b.next) (cmp_with other parts rows a.id b.id))

-- by these words, and then by rising id
abbrev pub words_cmp : Placed → Placed → Ordering
words_cmp a b = ordering_then (nat_cmp a.head b.head) (ordering_then (nat_cmp a.next b.next) (nat_cmp a.id b.id))

-- a row's key begins with two words
pub record IsPlaced (first second : List Field) (rows : List (List Value)) (place : Placed) : Type 0 where
  pub head : IsHead 0 first (row_at rows place.id) place.head
  pub next : IsHead 0 second (row_at rows place.id) place.next

-- a row with an id, and the words of its key
pub record IsPlacedAs (first second : List Field) (row : List Value) (id : ℕ) (place : Placed) : Type 0 where
  pub head : IsHead 0 first row place.head
  pub next : IsHead 0 second row place.next
  pub id_is : place.id ≡ id

-- the ids of rows with their words
abbrev pub ids_in : List Placed → List ℕ
ids_in list = map (λ place. place.id) list

-- the first rows in the order of ids, with their words
pub record ArePlaced (first second : List Field) (rows : List (List Value)) (count : ℕ) (list : List Placed) : Type 0 where
  pub heads : All (IsPlaced first second rows) list
  pub ids : ids_in list ≡ range_with_len 0 count

-- The fields of two words: the second begins behind the first where the first tells keys apart; and whether both tell all keys apart.
pub record IsWords (parts : List Part) (first second : List Field) (whole : Bool) : Type 0 where
  pub are_first : IsFields parts first
  pub are_second : IsFields (drop (length first) parts) second
  pub apart : (AreExact first) ⊎ (second ≡ [])
  pub all : whole ≡ true → AreExact first × AreExact second × (length parts ≤ length first + length second)

-- Each row once, in the order of ids, with its words.
pub record IsNumbered (parts : List Part) (rows : List (List Value)) (list : List Placed) (whole : Bool) : Type 0 where
  pub first : List Field
  pub second : List Field
  pub words : IsWords parts first second whole
  pub placed : ArePlaced first second rows (length rows) list

-- Each row once, in the order of entries, with its words.
pub record IsOrdered (parts : List Part) (rows : List (List Value)) (list : List Placed) : Type 0 where
  pub order : IsOrder parts rows (ids_in list)
  pub first : List Field
  pub second : List Field
  pub whole : Bool
  pub words : IsWords parts first second whole
  pub placed : All (IsPlaced first second rows) list

-- rows with the same words have equal keys
abbrev pub TellApart : List Part → List (List Value) → List Placed → Type 0
TellApart parts rows list =
    (i j : ℕ) → (d : Placed) → i < length list → j < length list → (get_or list i d).head ≡ (get_or list j d).head → (get_or list i d).next ≡ (get_or list j d).next
    → key_cmp parts (entry_key parts rows (get_or list i d).id) (entry_key parts rows (get_or list j d).id) ≡ Equal

-- fields of these parts were added
pub record AddsFields (parts : List Part) (old new : List Field) : Type 0 where
  pub more : List Field
  pub new_is : new ≡ old ++ more
  pub are_fields : IsFields parts more
