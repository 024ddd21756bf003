-- The integers of a row whose values are of its columns' types are those of columns.
use Rattle.std.proofs.Common.{inl, inr, ℕ, suc, Bool, true, false, List, [], ◌∷◌, All, sym, subst, arith}
use Rattle.std.specs.Prelude.{ℤ}
use Rattle.std.proofs.lemmas.Int.{ints}
use Rattle.std.proofs.lemmas.List.Elements.{All-nil, All-cons}
use Rattle.rx_value.specs.declared.values.Value.{Value}
use Rattle.rx_value.specs.declared.values.Value.TheVariants.{Null, Int, Text}
use Rattle.rx_value.specs.declared.shapes.ColType.{ColType}
use Rattle.rx_value.specs.declared.shapes.ColType.TheVariants.{Whole, VarChar}
use Rattle.rx_value.specs.declared.shapes.Column.{Column}
use Rattle.rx_value.specs.declared.shapes.Schema.{Schema}
use Rattle.rx_value.specs.Shape.{IsSchema, IsColType, HasWidth, InRange, FitsType}
use Rattle.rx_scan.specs.Handed.{AreOfTypes, IsOfTypes}
use Rattle.rx_aggregate.specs.Aggregates.{IsSmall}

by_width : (P : ℕ → Type 0) → P 8 → P 16 → P 24 → P 32 → P 64 → (bits : ℕ) → HasWidth bits → P bits
by_width P a b c d e bits (inl w) = subst P (sym w) a
by_width P a b c d e bits (inr (inl w)) = subst P (sym w) b
by_width P a b c d e bits (inr (inr (inl w))) = subst P (sym w) c
by_width P a b c d e bits (inr (inr (inr (inl w)))) = subst P (sym w) d
by_width P a b c d e bits (inr (inr (inr (inr w)))) = subst P (sym w) e

abbrev Fits : ℕ → Type 0
Fits bits = (signed : Bool) (n : ℤ) → InRange bits signed n → IsSmall (Int n)

fits-8 : Fits 8
fits-8 true n r = (omega (arith, ints, r.0), omega (arith, ints, r.1))
fits-8 false n r = (omega (arith, ints, r.0), omega (arith, ints, r.1))

fits-16 : Fits 16
fits-16 true n r = (omega (arith, ints, r.0), omega (arith, ints, r.1))
fits-16 false n r = (omega (arith, ints, r.0), omega (arith, ints, r.1))

fits-24 : Fits 24
fits-24 true n r = (omega (arith, ints, r.0), omega (arith, ints, r.1))
fits-24 false n r = (omega (arith, ints, r.0), omega (arith, ints, r.1))

fits-32 : Fits 32
fits-32 true n r = (omega (arith, ints, r.0), omega (arith, ints, r.1))
fits-32 false n r = (omega (arith, ints, r.0), omega (arith, ints, r.1))

fits-64 : Fits 64
fits-64 true n r = (omega (arith, ints, r.0), omega (arith, ints, r.1))
fits-64 false n r = (omega (arith, ints, r.0), omega (arith, ints, r.1))

in_range : (bits : ℕ) → HasWidth bits → Fits bits
in_range = by_width Fits fits-8 fits-16 fits-24 fits-32 fits-64

small_value : (kind : ColType) (v : Value) → IsColType kind → FitsType kind v → IsSmall v
small_value kind Null k h = tt
small_value (Whole bits signed) (Int n) k h = in_range bits k signed n h
small_value (VarChar count) (Int n) k h = absurd h
small_value kind (Text text) k h = tt

small_values : (columns : List Column) (row : List Value) → All (λ c. IsColType c.kind) columns → AreOfTypes columns row → All IsSmall row
small_values [] [] types fits = All-nil IsSmall
small_values [] (v ∷ vs) types fits = absurd fits
small_values (c ∷ cs) [] types fits = absurd fits
small_values (c ∷ cs) (v ∷ vs) types fits =
    All-cons IsSmall v vs (small_value c.kind v (types 0 c (omega arith)) fits.0) (small_values cs vs (λ i d lt. types (suc i) d (omega (arith, lt))) fits.1)

-- so are those of each row of such types
pub small_row : (schema : Schema) (row : List Value) → IsSchema schema → IsOfTypes schema row → All IsSmall row
small_row schema row limits fits = small_values schema.columns row limits.types fits
