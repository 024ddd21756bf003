-- The rows of entries: what they have in each column, and that it is of the column's type.
use Rattle.std.proofs.Common.{◌≡◌, ℕ, suc, ◌+◌, Bool, true, false, List, [], ◌∷◌, map, length, slice_get, Option, Some, None, IfSome, refl, sym, ap, ap₂, ◌∙◌, subst, arith}
use Rattle.std.specs.Prelude.{nat_eq, if◌then◌else◌, slice_index}
use Rattle.std.specs.List.{range_with_len}
use Rattle.std.proofs.lemmas.Bool.{eqb-true}
use Rattle.std.proofs.lemmas.Option.{get_or_from_slice_get}
use Rattle.rx_value.specs.declared.values.Value.{Value}
use Rattle.rx_value.specs.declared.shapes.Part.{Part}
use Rattle.rx_value.specs.declared.shapes.Column.{Column}
use Rattle.rx_value.specs.declared.shapes.Schema.{Schema}
use Rattle.rx_value.specs.declared.shapes.Index.{Index}
use Rattle.rx_value.specs.Shape.{FitsType, FitsColumns, FitsRow}
use Rattle.rx_index.specs.declared.indexed.Indexed.{Indexed}
use Rattle.rx_index.specs.Entries.{parts_at, entry_key, ids_at}
use Rattle.rx_store.specs.declared.tables.Entry.{Entry}
use Rattle.rx_store.specs.Tables.{Meaning, IsMeaning, IsTold, IsEntry}
use Rattle.rx_store.specs.FittingKeys.{FitsPart, FitsParts, FitsKey}
use Rattle.rx_scan.specs.Handed.{entry_value, entry_row, AreOfTypes, IsOfTypes}
use Rattle.rx_estimate.specs.Estimates.{parts_in}
use Rattle.rx_scan.specs.Visits.{row_by_entry}

fits_types : (columns : List Column) (row : List Value) → FitsColumns columns row → AreOfTypes columns row
fits_types [] [] h = tt
fits_types [] (v ∷ vs) h = absurd h
fits_types (c ∷ cs) [] h = absurd h
fits_types (c ∷ cs) (v ∷ vs) h = (h.0.kind, fits_types cs vs h.1)

-- a row that fits has values of the columns' types
pub row_types : (schema : Schema) (row : List Value) → FitsRow schema row → IsOfTypes schema row
row_types schema row h = fits_types schema.columns row h

-- a function gives for each column, numbered from one on, a value of its type
abbrev GivesTypes : List Column → ℕ → (ℕ → Value) → Type 0
GivesTypes columns from f = (k j : ℕ) (column : Column) → from + k ≡ j → slice_get columns k ≡ Some column → FitsType column.kind (f j)

given_types : (columns : List Column) (from : ℕ) (f : ℕ → Value) → GivesTypes columns from f → AreOfTypes columns (map f (range_with_len from (length columns)))
given_types [] from f h = tt
given_types (c ∷ cs) from f h = (h 0 from c (omega arith) refl, given_types cs (from + 1) f (λ k j column e is. h (suc k) j column (omega (arith, e)) is))

value_by : (b : Bool) (columns : List Column) (part : Part) (v other : Value) (j : ℕ) (column : Column) → nat_eq part.column j ≡ b → slice_get columns j ≡ Some column
    → FitsPart columns part v → FitsType column.kind other → FitsType column.kind (if b then v else other)
value_by true columns part v other j column e is fits h =
    let same : Some fits.column ≡ Some column = sym fits.there ∙ ap (slice_get columns) (eqb-true part.column j e) ∙ is in
    let found : fits.column ≡ column = cc in
    subst (λ (c : Column). FitsType c.kind v) found fits.fits.kind
value_by false columns part v other j column e is fits h = h

value_types : (columns : List Column) (parts : List Part) (key : List Value) → FitsParts columns parts key → (j : ℕ) (column : Column) → slice_get columns j ≡ Some column
    → FitsType column.kind (entry_value parts key j)
value_types columns [] [] h j column is = tt
value_types columns [] (v ∷ vs) h j column is = tt
value_types columns (p ∷ ps) [] h j column is = tt
value_types columns (p ∷ ps) (v ∷ vs) h j column is =
    value_by (nat_eq p.column j) columns p v (entry_value ps vs j) j column refl is h.0 (value_types columns ps vs h.1 j column is)

-- the row of an entry that fits has values of the columns' types
pub entry_types : (schema : Schema) (n : ℕ) (key : List Value) → FitsKey schema n key → IsOfTypes schema (entry_row (length schema.columns) (parts_in schema n) key)
entry_types schema n key h =
    let parts : parts_in schema n ≡ h.0.parts = ap (λ (o : Option Index). elim o [ Some x ↦ x.parts | None ↦ [] ]) h.1 in
    given_types schema.columns 0 (entry_value (parts_in schema n) key) (λ k j column e is.
    let same : k ≡ j = omega (arith, e) in
    value_types schema.columns (parts_in schema n) key (subst (λ (ps : List Part). FitsParts schema.columns ps key) (sym parts) h.2) j column
    (ap (slice_get schema.columns) (sym same) ∙ is))

-- the row that is made of an entry is that of the entry at its place
pub entry_handed : (table : Meaning) (n place : ℕ) (entry : Entry) (row : List Value) → IsMeaning table → IsEntry table n place entry
    → row ≡ entry_row (length table.schema.columns) (parts_in table.schema n) entry.key
    → IfSome table.told (λ t. row ≡ row_by_entry t n (slice_index (ids_at t n) place))
entry_handed table n place entry row sound is made = by table.told sound.told is.0 is.1
  where
    by : (told : Option Indexed) → IfSome told (IsTold table) → IfSome told (λ t. slice_get (ids_at t n) place ≡ Some entry.id)
        → IfSome told (λ t. entry.key ≡ entry_key (parts_at t n) t.rows entry.id) → IfSome told (λ t. row ≡ row_by_entry t n (slice_index (ids_at t n) place))
    by None m p q = tt
    by (Some t) m p q =
        let id : entry.id ≡ slice_index (ids_at t n) place = sym (get_or_from_slice_get (ids_at t n) place entry.id 0 p) in
        made
        ∙ ap₂ (λ (s : Schema) (key : List Value). entry_row (length s.columns) (parts_in s n) key) (sym m.schema_is) q
        ∙ ap (row_by_entry t n) id
