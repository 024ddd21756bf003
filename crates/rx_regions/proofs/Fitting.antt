-- The texts of a row that fits a schema are UTF-8.
use Rattle.std.proofs.Common.{List, [], ◌∷◌}
use Rattle.std.proofs.lemmas.List.Elements.{All-nil, All-cons}
use Rattle.rx_value.specs.declared.values.Value.{Value}
use Rattle.rx_value.specs.declared.values.Value.TheVariants.{Null, Int, Text}
use Rattle.rx_value.specs.declared.shapes.ColType.{ColType}
use Rattle.rx_value.specs.declared.shapes.ColType.TheVariants.{Whole, VarChar}
use Rattle.rx_value.specs.declared.shapes.Column.{Column}
use Rattle.rx_value.specs.Shape.{FitsType, FitsColumns}
use Rattle.rx_regions.specs.Texts.{IsUtf8Value, AreUtf8}

value_fits : (kind : ColType) (v : Value) → FitsType kind v → IsUtf8Value v
value_fits kind Null h = tt
value_fits kind (Int n) h = tt
value_fits (Whole bits signed) (Text t) h = absurd h
value_fits (VarChar count) (Text t) h = h.0

pub fitting_utf8 : (columns : List Column) (row : List Value) → FitsColumns columns row → AreUtf8 row
fitting_utf8 [] [] h = All-nil IsUtf8Value
fitting_utf8 [] (v ∷ row) h = absurd h
fitting_utf8 (c ∷ columns) [] h = absurd h
fitting_utf8 (c ∷ columns) (v ∷ row) (f, g) = All-cons IsUtf8Value v row (value_fits c.kind v f.kind) (fitting_utf8 columns row g)
