-- What is read fits the columns.
use Rattle.std.proofs.Common.{◌≡◌, ℕ, suc, ◌+◌, ◌-◌, ◌^◌, ◌≤◌, Bool, true, false, ◌&&◌, cond, leb, eqb, pos, neg_ℤ, ◌+ℤ◌, ◌≤ℤ◌, ◌<ℤ◌, List, [], ◌∷◌, length, Option, Some, None, Ok, Err, refl, subst, arith}
use Rattle.std.specs.List.{All}
use Rattle.std.specs.Str.{is_utf8, chars}
use Rattle.std.specs.Str.Parse.{digits_value}
use Rattle.std.proofs.Math.Nat.{one-le-pow}
use Rattle.std.proofs.lemmas.Str.{IsUtf8-from_is_utf8}
use Rattle.std.proofs.lemmas.Bool.{leb-true, eqb-true}
use Rattle.std.proofs.lemmas.Int.{ints}
use Rattle.std.proofs.lemmas.List.Elements.{All-nil, All-cons}
use Rattle.rx_value.specs.declared.values.Value.{Value}
use Rattle.rx_value.specs.declared.values.Value.TheVariants.{Null, Int, Text}
use Rattle.rx_value.specs.declared.shapes.ColType.{ColType}
use Rattle.rx_value.specs.declared.shapes.ColType.TheVariants.{Whole, VarChar}
use Rattle.rx_value.specs.declared.shapes.Column.{Column}
use Rattle.rx_value.specs.Limits.{most_rows}
use Rattle.rx_value.specs.Shape.{FitsType, FitsColumn, FitsColumns}
use Rattle.rx_data.specs.declared.faults.DataFault.TheVariants.{FieldCount, TooManyRows, NullNotAllowed, HeaderMismatch}
use Rattle.rx_data.specs.Outcomes.{Outcome, before, all_of}
use Rattle.rx_data.specs.Fields.{most, least, is_numeral, number_within, positive, negative, integer_of, value_of, is_null_mark, null_value, some_value, field_value}
use Rattle.rx_data.specs.Rows.{field_outcomes, row_outcome, bounded_outcome, row_outcomes, rows_under}

-- numbers

at_most : (t u : Bool) (value limit n : ℕ) → leb value limit ≡ u → cond (t && u) (Some value) None ≡ Some n → n ≤ limit
at_most false u value limit n le e = absurd cc
at_most true false value limit n le e = absurd cc
at_most true true value limit n le e = let is : value ≡ n = cc in let h = leb-true value limit le in omega arith

small : (limit : ℕ) (digits : List ℕ) (n : ℕ) → number_within limit digits ≡ Some n → n ≤ limit
unfolding number_within
small limit digits n e = at_most (is_numeral digits) (leb (digits_value 10 digits) limit) (digits_value 10 digits) limit n refl e

-- an integer fits a type of integers
abbrev Fits : ℕ → Bool → Value → Type 0
Fits bits signed v = FitsType (Whole bits signed) v

below_half : (p n : ℕ) → 1 ≤ p → n ≤ p - 1 → (pos 0 ≤ℤ (pos n +ℤ pos p)) × (pos n <ℤ pos p)
below_half p n some le = (omega (arith, ints), omega (arith, ints))

above_half : (p n : ℕ) → 1 ≤ p → n ≤ p → (pos 0 ≤ℤ (neg_ℤ (pos n) +ℤ pos p)) × (neg_ℤ (pos n) <ℤ pos p)
above_half p n some le = (omega (arith, ints), omega (arith, ints))

below_all : (p n : ℕ) → 1 ≤ p → n ≤ p - 1 → (pos 0 ≤ℤ pos n) × (pos n <ℤ pos p)
below_all p n some le = (omega (arith, ints), omega (arith, ints))

none_below : (p n : ℕ) → 1 ≤ p → n ≤ 0 → (pos 0 ≤ℤ neg_ℤ (pos n)) × (neg_ℤ (pos n) <ℤ pos p)
none_below p n some le = (omega (arith, ints), omega (arith, ints))

two_some : (n : ℕ) → 1 ≤ 2 ^ n
two_some n = one-le-pow n 2 (omega arith)

up_fits : (bits : ℕ) (signed : Bool) (n : ℕ) → n ≤ most bits signed → Fits bits signed (Int (pos n))
up_fits bits true n le = below_half (2 ^ (bits - 1)) n (two_some (bits - 1)) le
up_fits bits false n le = below_all (2 ^ bits) n (two_some bits) le

down_fits : (bits : ℕ) (signed : Bool) (n : ℕ) → n ≤ least bits signed → Fits bits signed (Int (neg_ℤ (pos n)))
down_fits bits true n le = above_half (2 ^ (bits - 1)) n (two_some (bits - 1)) le
down_fits bits false n le = none_below (2 ^ bits) n (two_some bits) le

-- a value of a type, and not NULL
record Good (kind : ColType) (v : Value) : Type 0 where
  fits : FitsType kind v
  some : v ≡ Null → ⊥

positive_good : (bits : ℕ) (signed : Bool) (o : Option ℕ) (v : Value) → ((n : ℕ) → o ≡ Some n → n ≤ most bits signed) → positive o ≡ Some v → Good (Whole bits signed) v
positive_good bits signed None v small e = absurd cc
positive_good bits signed (Some n) v small e =
    let is : Int (pos n) ≡ v = cc in
    subst (Good (Whole bits signed)) is (record { fits = up_fits bits signed n (small n refl); some = λ f. cc })

negative_good : (bits : ℕ) (signed : Bool) (o : Option ℕ) (v : Value) → ((n : ℕ) → o ≡ Some n → n ≤ least bits signed) → negative o ≡ Some v → Good (Whole bits signed) v
negative_good bits signed None v small e = absurd cc
negative_good bits signed (Some n) v small e =
    let is : Int (neg_ℤ (pos n)) ≡ v = cc in
    subst (Good (Whole bits signed)) is (record { fits = down_fits bits signed n (small n refl); some = λ f. cc })

integer_step : (bits : ℕ) (signed t : Bool) (b : ℕ) (bs : List ℕ) (v : Value) → cond t (negative (number_within (least bits signed) bs)) (positive (number_within (most bits signed) (b ∷ bs))) ≡ Some v → Good (Whole bits signed) v
integer_step bits signed true b bs v e = negative_good bits signed (number_within (least bits signed) bs) v (small (least bits signed) bs) e
integer_step bits signed false b bs v e = positive_good bits signed (number_within (most bits signed) (b ∷ bs)) v (small (most bits signed) (b ∷ bs)) e

integer_good : (bits : ℕ) (signed : Bool) (field : List ℕ) (v : Value) → integer_of bits signed field ≡ Some v → Good (Whole bits signed) v
integer_good bits signed [] v e = absurd cc
integer_good bits signed (b ∷ bs) v e = integer_step bits signed _ b bs v e

text_good : (count : ℕ) (field : List ℕ) (v : Value) (t u : Bool) → is_utf8 field ≡ t → leb (length (chars field)) count ≡ u → cond (t && u) (Some (Text field)) None ≡ Some v → Good (VarChar count) v
text_good count field v false u text le e = absurd cc
text_good count field v true false text le e = absurd cc
text_good count field v true true text le e =
    let is : Text field ≡ v = cc in
    subst (Good (VarChar count)) is (record { fits = (IsUtf8-from_is_utf8 field text, leb-true (length (chars field)) count le); some = λ f. cc })

value_good : (kind : ColType) (field : List ℕ) (v : Value) → value_of kind field ≡ Some v → Good kind v
value_good (Whole bits signed) field v e = integer_good bits signed field v e
value_good (VarChar count) field v e = text_good count field v _ _ refl refl e

-- fields

null_fits : (kind : ColType) → FitsType kind Null
null_fits (Whole bits signed) = tt
null_fits (VarChar count) = tt

null_step : (row number : ℕ) (column : Column) (v : Value) (t : Bool) → column.nullable ≡ t → cond t (Ok Null) (Err (NullNotAllowed row number)) ≡ Ok v → FitsColumn column v
null_step row number column v true may e =
    let is : Null ≡ v = cc in
    subst (FitsColumn column) is (record { kind = null_fits column.kind; null = λ _. may })
null_step row number column v false may e = absurd cc

some_step : (row number : ℕ) (column : Column) (o : Option Value) (v : Value) → ((w : Value) → o ≡ Some w → Good column.kind w) → some_value row number o ≡ Ok v → FitsColumn column v
some_step row number column None v good e = absurd cc
some_step row number column (Some w) v good e =
    let is : w ≡ v = cc in
    let g = good w refl in
    subst (FitsColumn column) is (record { kind = g.fits; null = λ f. absurd (g.some f) })

field_step : (row number : ℕ) (column : Column) (field : List ℕ) (v : Value) (t : Bool) → cond t (null_value row number column) (some_value row number (value_of column.kind field)) ≡ Ok v → FitsColumn column v
field_step row number column field v true e = null_step row number column v column.nullable refl e
field_step row number column field v false e = some_step row number column (value_of column.kind field) v (value_good column.kind field) e

field_fits : (row number : ℕ) (column : Column) (field : List ℕ) (v : Value) → field_value row number column field ≡ Ok v → FitsColumn column v
field_fits row number column field v e = field_step row number column field v (is_null_mark field) e

-- rows

row_step : (column : Column) (columns : List Column) (o : Outcome Value) (p : Outcome (List Value)) → ((v : Value) → o ≡ Ok v → FitsColumn column v) → ((vs : List Value) → p ≡ Ok vs → FitsColumns columns vs) → (row : List Value) → before o p ≡ Ok row → FitsColumns (column ∷ columns) row
row_step column columns (Err fault) p one more row e = absurd cc
row_step column columns (Ok v) (Err fault) one more row e = absurd cc
row_step column columns (Ok v) (Ok vs) one more row e =
    let is : v ∷ vs ≡ row = cc in
    subst (FitsColumns (column ∷ columns)) is (one v refl, more vs refl)

fields_fit : (row number : ℕ) (columns : List Column) (fields : List (List ℕ)) (values : List Value) → length fields ≡ length columns → all_of (field_outcomes row number columns fields) ≡ Ok values → FitsColumns columns values
fields_fit row number [] fields values same e = let is : [] ≡ values = cc in subst (FitsColumns []) is tt
fields_fit row number (column ∷ columns) [] values same e = absurd (omega arith)
fields_fit row number (column ∷ columns) (field ∷ fields) values same e =
    row_step column columns (field_value row number column field) (all_of (field_outcomes row (suc number) columns fields))
    (field_fits row number column field) (λ vs. fields_fit row (suc number) columns fields vs (omega arith)) values e

count_fits : (columns : List Column) (row : ℕ) (fields : List (List ℕ)) (values : List Value) (t : Bool) → eqb (length fields) (length columns) ≡ t → cond t (all_of (field_outcomes row 0 columns fields)) (Err (FieldCount row)) ≡ Ok values → FitsColumns columns values
count_fits columns row fields values true same e = fields_fit row 0 columns fields values (eqb-true (length fields) (length columns) same) e
count_fits columns row fields values false same e = absurd cc

row_fits : (columns : List Column) (row : ℕ) (fields : List (List ℕ)) (values : List Value) → row_outcome columns row fields ≡ Ok values → FitsColumns columns values
unfolding row_outcome
row_fits columns row fields values e = count_fits columns row fields values _ refl e

record Bounded (columns : List Column) (row : ℕ) (values : List Value) : Type 0 where
  fits : FitsColumns columns values
  early : row ≤ most_rows

bounded_step : (columns : List Column) (row : ℕ) (fields : List (List ℕ)) (values : List Value) (t : Bool) → leb row most_rows ≡ t → cond t (row_outcome columns row fields) (Err TooManyRows) ≡ Ok values → Bounded columns row values
bounded_step columns row fields values true le e = record { fits = row_fits columns row fields values e; early = leb-true row most_rows le }
bounded_step columns row fields values false le e = absurd cc

bounded_fits : (columns : List Column) (row : ℕ) (fields : List (List ℕ)) (values : List Value) → bounded_outcome columns row fields ≡ Ok values → Bounded columns row values
bounded_fits columns row fields values e = bounded_step columns row fields values _ refl e

-- rows from a number on that fit, none of them after the millionth
record From (columns : List Column) (row : ℕ) (rows : List (List Value)) : Type 0 where
  each : All (FitsColumns columns) rows
  few : row + length rows ≤ (suc most_rows)

rows_step : (columns : List Column) (row : ℕ) (o : Outcome (List Value)) (p : Outcome (List (List Value))) → ((values : List Value) → o ≡ Ok values → Bounded columns row values) → ((rows : List (List Value)) → suc row ≤ (suc most_rows) → p ≡ Ok rows → From columns (suc row) rows) → (rows : List (List Value)) → before o p ≡ Ok rows → From columns row rows
rows_step columns row (Err fault) p one more rows e = absurd cc
rows_step columns row (Ok values) (Err fault) one more rows e = absurd cc
rows_step columns row (Ok values) (Ok others) one more rows e =
    let is : values ∷ others ≡ rows = cc in
    let first = one values refl in
    let early : row ≤ most_rows = first.early in
    let rest = more others (omega arith) refl in
    let few : suc row + length others ≤ (suc most_rows) = rest.few in
    subst (From columns row) is (record { each = All-cons (FitsColumns columns) values others first.fits rest.each; few = omega arith })

rows_fit : (columns : List Column) (row : ℕ) (records : List (List (List ℕ))) (rows : List (List Value)) → row ≤ (suc most_rows) → all_of (row_outcomes columns row records) ≡ Ok rows → From columns row rows
rows_fit columns row [] rows early e =
    let is : [] ≡ rows = cc in
    subst (From columns row) is (record { each = All-nil (FitsColumns columns); few = omega arith })
rows_fit columns row (fields ∷ records) rows early e =
    rows_step columns row (bounded_outcome columns row fields) (all_of (row_outcomes columns (suc row) records))
    (bounded_fits columns row fields) (rows_fit columns (suc row) records) rows e

-- rows that fit, at most a million
pub record Fitting (columns : List Column) (rows : List (List Value)) : Type 0 where
  pub each : All (FitsColumns columns) rows
  pub few : length rows ≤ most_rows

under_step : (columns : List Column) (records : List (List (List ℕ))) (rows : List (List Value)) (t : Bool) → cond t (all_of (row_outcomes columns 1 records)) (Err HeaderMismatch) ≡ Ok rows → Fitting columns rows
under_step columns records rows true e =
    let from = rows_fit columns 1 records rows (omega arith) e in
    let few : 1 + length rows ≤ (suc most_rows) = from.few in
    record { each = from.each; few = omega arith }
under_step columns records rows false e = absurd cc

pub under_fits : (columns : List Column) (records : List (List (List ℕ))) (rows : List (List Value)) → rows_under columns records ≡ Ok rows → Fitting columns rows
under_fits columns [] rows e = absurd cc
under_fits columns (header ∷ records) rows e = under_step columns records rows _ e
