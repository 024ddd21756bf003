-- The key of a row that fits is one whose values fit the parts of the index.
use Rattle.std.proofs.Common.{◌≡◌, ◌⊎◌, inl, inr, ap₂, get_or, ℕ, zero, suc, ◌<◌, ◌≤◌, List, [], ◌∷◌, map, length, slice_get, Option, Some, None, IfSome, All, refl, sym, ap, ◌∙◌, subst, arith}
use Rattle.std.specs.Option.{unwrap_or}
use Rattle.std.proofs.lemmas.List.Elements.{All-get_or}
use Rattle.std.proofs.lemmas.Option.{get_or_from_slice_get, slice_get_within, slice_get-get_or, slice_get_cases}
use Rattle.rx_index.specs.declared.indexed.Indexed.{Indexed}
use Rattle.rx_index.specs.Entries.{entry_key, parts_at, row_at}
use Rattle.rx_store.specs.Stored.{IsStorable}
use Rattle.rx_value.specs.declared.values.Value.{Value}
use Rattle.rx_value.specs.declared.values.Value.TheVariants.{Null, Int, Text}
use Rattle.rx_value.specs.declared.shapes.ColType.{ColType}
use Rattle.rx_value.specs.declared.shapes.ColType.TheVariants.{Whole, VarChar}
use Rattle.rx_value.specs.declared.shapes.Column.{Column}
use Rattle.rx_value.specs.declared.shapes.Part.{Part}
use Rattle.rx_value.specs.declared.shapes.Index.{Index}
use Rattle.rx_value.specs.declared.shapes.Schema.{Schema}
use Rattle.rx_value.specs.Shape.{FitsType, FitsColumn, FitsColumns, FitsRow, FitsIndex, IsSchema}
use Rattle.rx_value.specs.Keys.{cut_value, part_value, column_value, key_of}
use Rattle.rx_store.specs.FittingKeys.{IsWithin, FitsPart, FitsParts, FitsKey}
use Rattle.rx_store.proofs.CutTexts.{IsUtf8-cut, no_more, no_longer}

cut_fits : (kind : ColType) (most : Option ℕ) (v : Value) → FitsType kind v → FitsType kind (cut_value most v)
cut_fits kind None v h = h
cut_fits kind (Some n) Null h = tt
cut_fits (Whole bits signed) (Some n) (Int m) h = h
cut_fits (VarChar count) (Some n) (Int m) h = h
cut_fits (Whole bits signed) (Some n) (Text text) h = absurd h
cut_fits (VarChar count) (Some n) (Text text) h = (IsUtf8-cut n text h.0, omega (arith, no_longer n text h.0, h.1))

cut_within : (kind : ColType) (most : Option ℕ) (v : Value) → FitsType kind v → IfSome most (λ n. IsWithin n (cut_value most v))
cut_within kind None v h = tt
cut_within kind (Some n) Null h = tt
cut_within kind (Some n) (Int m) h = tt
cut_within (Whole bits signed) (Some n) (Text text) h = absurd h
cut_within (VarChar count) (Some n) (Text text) h = no_more n text h.0

cut_null : (most : Option ℕ) (v : Value) → cut_value most v ≡ Null → v ≡ Null
cut_null None v e = e
cut_null (Some n) Null e = refl
cut_null (Some n) (Int m) e = e
cut_null (Some n) (Text text) e = absurd (cc e)

-- the column with a number, and the value of a row there
record At (columns : List Column) (row : List Value) (c : ℕ) : Type 0 where
  column : Column
  there : slice_get columns c ≡ Some column
  fits : FitsColumn column (column_value c row)

at : (columns : List Column) (row : List Value) (c : ℕ) → FitsColumns columns row → c < length columns → At columns row c
at [] row c h lt = absurd (omega (arith, lt))
at (x ∷ xs) [] c h lt = absurd h
at (x ∷ xs) (v ∷ vs) zero h lt = record { column = x; there = refl; fits = h.0 }
at (x ∷ xs) (v ∷ vs) (suc c) h lt = let a = at xs vs c h.1 (omega (arith, lt)) in record { column = a.column; there = a.there; fits = a.fits }

part_fits : (columns : List Column) (row : List Value) (part : Part) → At columns row part.column → FitsPart columns part (part_value part row)
part_fits columns row part a = record {
  column = a.column;
  there = a.there;
  fits = record {
    kind = cut_fits a.column.kind part.chars (column_value part.column row) a.fits.kind;
    null = λ e. a.fits.null (cut_null part.chars (column_value part.column row) e);
  };
  within = cut_within a.column.kind part.chars (column_value part.column row) a.fits.kind;
}

parts_fit : (columns : List Column) (row : List Value) (parts : List Part) → FitsColumns columns row
    → All (λ c. c < length columns) (map (λ (p : Part). p.column) parts) → FitsParts columns parts (key_of parts row)
parts_fit columns row [] h there = tt
parts_fit columns row (part ∷ parts) h there = (
  part_fits columns row part (at columns row part.column h (there 0 0 (omega arith))),
  parts_fit columns row parts h (λ i d lt. there (suc i) d (omega (arith, lt))),
)

all_at : {X : Type 0} (P : X → Type 0) (xs : List X) (i : ℕ) (x : X) → slice_get xs i ≡ Some x → All P xs → P x
all_at P xs i x e h = subst P (get_or_from_slice_get xs i x x e) (All-get_or P xs i x (slice_get_within xs i x e) h)

-- the key of a row that fits a schema fits the index
pub key_fits : (schema : Schema) (n : ℕ) (index : Index) (row : List Value) → slice_get schema.indexes n ≡ Some index → IsSchema schema → FitsRow schema row
    → FitsKey schema n (key_of index.parts row)
key_fits schema n index row e limits fits = (index, e, parts_fit schema.columns row index.parts fits (all_at (FitsIndex schema.columns) schema.indexes n index e limits.indexes).there)

-- so is that of an entry of a table in memory
pub entry_fits : (t : Indexed) (numbers : List (List ℕ)) (n id : ℕ) (key : List Value) → IsStorable t numbers → n < length t.schema.indexes → id < length t.rows
    → key ≡ entry_key (parts_at t n) t.rows id → FitsKey t.schema n key
entry_fits t numbers n id key s there below is =
    by (slice_get_cases t.schema.indexes n).1
  where
    row : slice_get t.rows id ≡ Some (get_or t.rows id [])
    row = slice_get-get_or t.rows id [] below

    row_is : row_at t.rows id ≡ get_or t.rows id []
    row_is = ap (λ o. unwrap_or o []) row

    by : ((index : Index) × (n < length t.schema.indexes) × (slice_get t.schema.indexes n ≡ Some index) × (get_or t.schema.indexes n index ≡ index)) ⊎ ((length t.schema.indexes ≤ n) × (slice_get t.schema.indexes n ≡ None)) → FitsKey t.schema n key
    by (inl h) =
        subst (FitsKey t.schema n) (sym (is ∙ ap₂ (λ ps r. key_of ps r) (ap (λ o. elim o [ Some index ↦ index.parts | None ↦ [] ]) h.2) row_is))
        (key_fits t.schema n h.0 (get_or t.rows id []) h.2 s.limits (All-get_or (FitsRow t.schema) t.rows id [] below s.fit))
    by (inr h) = absurd (omega (arith, there, h.0))
