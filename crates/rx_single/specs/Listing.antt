-- The values of a list as a part has them, and the spans of their points.
use Rattle.std.specs.Prelude.{◌≡◌, ℕ, if◌then◌else◌, List, [], ◌∷◌, map, Option}
use Rattle.std.specs.List.{list_any}
use Rattle.std.specs.List.Sorted.{IsPermutation, IsSorted}
use Rattle.rx_value.specs.declared.values.Value.{Value}
use Rattle.rx_value.specs.declared.values.Value.TheVariants.{Null}
use Rattle.rx_value.specs.declared.keys.PartValue.{PartValue}
use Rattle.rx_value.specs.declared.order.End.{End}
use Rattle.rx_value.specs.declared.order.Span.{Span}
use Rattle.rx_value.specs.Order.{value_cmp, above}
use Rattle.rx_value.specs.Keys.{cut_value, point_span}
use Rattle.rx_value.specs.Parts.{borrowed}
use Rattle.rx_tree.specs.Points.{AreApart, is_inside_any}
use Rattle.rx_cond.specs.Test.{is_null_value}
use Rattle.rx_regions.specs.Places.{is_at_some}

-- what a part has of a list's values that aren't NULL
abbrev pub cut_values : Option ℕ → List Value → List Value
cut_values chars [] = []
cut_values chars (v ∷ vs) = if is_null_value v then cut_values chars vs else cut_value chars v ∷ cut_values chars vs

-- The same values, the lowest first.
pub record IsByValue (values sorted : List PartValue) : Type 0 where
  pub same : IsPermutation values sorted
  pub rising : IsSorted (λ u v. value_cmp (borrowed u) (borrowed v)) sorted

-- borrowed values as spans
abbrev pub points_of : List PartValue → List Span
points_of values = map (λ v. point_span (borrowed v)) values

-- The points of a list's values on a part, without NULL, as spans that don't touch.
pub record ArePointsOf (chars : Option ℕ) (list : List Value) (spans : List Span) : Type 0 where
  pub apart : AreApart (above Null) spans
  pub positions : (p : End) → is_inside_any spans p ≡ list_any (λ v. is_at_some p (cut_value chars v)) list
