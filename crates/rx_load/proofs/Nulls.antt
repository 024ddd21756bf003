-- No row has NULL in the key of a primary index.
use Rattle.std.proofs.Common.{◌≡◌, ℕ, zero, suc, false, ◌||◌, List, [], ◌∷◌, map, Option, Some, None, All, refl, ap, ap₂, ◌∙◌}
use Rattle.std.specs.List.{list_any}
use Rattle.std.proofs.lemmas.List.Elements.{All-head, All-tail}
use Rattle.rx_value.specs.declared.values.Value.{Value}
use Rattle.rx_value.specs.declared.values.Value.TheVariants.{Null, Int, Text}
use Rattle.rx_value.specs.declared.shapes.Column.{Column}
use Rattle.rx_value.specs.declared.shapes.Part.{Part}
use Rattle.rx_value.specs.Keys.{column_value, cut_value, part_value, key_of}
use Rattle.rx_value.specs.Shape.{FitsColumn, FitsColumns, IsNotNull}
use Rattle.rx_index.specs.Duplicates.{is_null}

cut_null : (chars : Option ℕ) (v : Value) → is_null (cut_value chars v) ≡ is_null v
cut_null None v = refl
cut_null (Some n) Null = refl
cut_null (Some n) (Int m) = refl
cut_null (Some n) (Text text) = refl

value_not_null : (column : Column) (v : Value) → FitsColumn column v → column.nullable ≡ false → is_null v ≡ false
value_not_null column Null f e = absurd (cc (f.null refl, e))
value_not_null column (Int n) f e = refl
value_not_null column (Text text) f e = refl

-- a row has a value in a column that can't be NULL
column_not_null : (columns : List Column) (row : List Value) (c : ℕ) → FitsColumns columns row → IsNotNull columns c → is_null (column_value c row) ≡ false
column_not_null [] row c f n = absurd (cc n.1)
column_not_null (column ∷ columns) [] c f n = absurd f
column_not_null (column ∷ columns) (v ∷ row) zero f n =
    let same : column ≡ n.0 = cc n.1 in
    value_not_null column v f.0 (ap (λ (x : Column). x.nullable) same ∙ n.2)
column_not_null (column ∷ columns) (v ∷ row) (suc c) f n = column_not_null columns row c f.1 n

-- a key on columns that can't be NULL has none
pub key_not_null : (columns : List Column) (row : List Value) → FitsColumns columns row → (parts : List Part) → All (IsNotNull columns) (map (λ p. p.column) parts) → list_any is_null (key_of parts row) ≡ false
key_not_null columns row f [] h = refl
key_not_null columns row f (p ∷ parts) h =
    let here : is_null (part_value p row) ≡ false = cut_null p.chars (column_value p.column row) ∙ column_not_null columns row p.column f (All-head (IsNotNull columns) p.column (map (λ q. q.column) parts) h) in
    ap₂ (λ b c. b || c) here (key_not_null columns row f parts (All-tail (IsNotNull columns) p.column (map (λ q. q.column) parts) h))
