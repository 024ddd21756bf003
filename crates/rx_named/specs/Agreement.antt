-- Rows that are the same at some columns, and what a scan may leave out of rows and of lists of rows.
use Rattle.std.specs.Prelude.{◌≡◌, ℕ, ◌<◌, Bool, true, if◌then◌else◌, List, [], ◌∷◌, map, length, All}
use Rattle.std.specs.List.{range_with_len}
use Rattle.rx_value.specs.declared.values.Value.{Value}
use Rattle.rx_value.specs.declared.values.Value.TheVariants.{Null}
use Rattle.rx_cond.specs.declared.conds.Tri.TheVariants.{T}
use Rattle.rx_cond.specs.Test.{column_value}
use Rattle.rx_cond.specs.Tree.{Tree, truth_at}

-- two lists have the same length, and their elements are related place by place
abbrev pub PlaceByPlace : {X : Type 0} → (X → X → Type 0) → List X → List X → Type 0
PlaceByPlace R [] [] = Unit {0}
PlaceByPlace R (x ∷ xs) (y ∷ ys) = R x y × PlaceByPlace R xs ys
PlaceByPlace R [] (y ∷ ys) = ⊥
PlaceByPlace R (x ∷ xs) [] = ⊥

-- two rows have the same value at each column that a test holds of, NULL where a row lacks the column
abbrev pub AgreeOn : (ℕ → Bool) → List Value → List Value → Type 0
AgreeOn columns row other = (column : ℕ) → columns column ≡ true → column_value column row ≡ column_value column other

-- two lists have as many rows, which agree on such columns place by place
abbrev pub AllAgreeOn : (ℕ → Bool) → List (List Value) → List (List Value) → Type 0
AllAgreeOn columns rows others = PlaceByPlace (AgreeOn columns) rows others

-- what is seen of each row has the row's values at such columns
abbrev pub KeepsColumns : (ℕ → Bool) → (List Value → List Value) → List (List Value) → Type 0
KeepsColumns columns seen rows = All (λ row. AgreeOn columns (seen row) row) rows

-- a row as it is seen at the columns that a test holds of: NULL in every other one
abbrev pub seen_at : (ℕ → Bool) → List Value → List Value
seen_at kept row = map (λ column. if kept column then column_value column row else Null) (range_with_len 0 (length row))

-- one test holds of each column of a row that another test holds of
abbrev pub HasColumns : (ℕ → Bool) → (ℕ → Bool) → List Value → Type 0
HasColumns columns kept row = (column : ℕ) → column < length row → columns column ≡ true → kept column ≡ true

-- a test keeps each row at which a condition is true
abbrev pub KeepsTrue : Tree → (List Value → Bool) → List (List Value) → Type 0
KeepsTrue cond test rows = All (λ row. truth_at cond row ≡ T → test row ≡ true) rows
