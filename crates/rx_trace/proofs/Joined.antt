-- Texts that are joined, and lists to which an item is added.
use Rattle.std.proofs.Common.{◌≡◌, ℕ, ◌+◌, List, [], ◌∷◌, ◌++◌, map, length, Option, ap, refl, ◌∙◌}
use Rattle.std.specs.Prelude.{option_to_list}
use Rattle.std.specs.List.{flat_map, join_by, enumerate_from}
use Rattle.std.proofs.lemmas.List.{map-append}
use Rattle.rx_value.specs.declared.values.Value.{Value}
use Rattle.rx_value.specs.declared.order.Span.{Span}
use Rattle.rx_value.specs.declared.ranges.KeyRange.{KeyRange}
use Rattle.rx_value.specs.declared.shapes.Part.{Part}
use Rattle.rx_value.specs.declared.shapes.Schema.{Schema}
use Rattle.rx_trace.specs.Ranges.{point_at, span_at, points_of, last_of}

flat_seen : {X A : Type 0} (f : X → List A) (sep : List A) (xs : List X) → flat_map (λ x. sep ++ f x) xs ≡ flat_map (λ t. sep ++ t) (map f xs)
flat_seen f sep [] = refl
flat_seen f sep (x ∷ xs) = ap (λ t. (sep ++ f x) ++ t) (flat_seen f sep xs)

-- what is joined is joined as it is seen
pub join_seen : {X A : Type 0} (f : X → List A) (sep : List A) (xs : List X) → join_by f sep xs ≡ join_by (λ t. t) sep (map f xs)
join_seen f sep [] = refl
join_seen f sep (x ∷ xs) = ap (λ t. f x ++ t) (flat_seen f sep xs)

-- an item is added, and what is seen of it
pub pushed : {X Y : Type 0} (f : X → Y) (new old : List X) (x : X) (ys : List Y) (y : Y) → new ≡ old ++ x ∷ [] → map f old ≡ ys → f x ≡ y → map f new ≡ ys ++ y ∷ []
pushed f new old x ys y e p q = ap (map f) e ∙ map-append f old (x ∷ []) ∙ ap (λ t. t ++ f x ∷ []) p ∙ ap (λ t. ys ++ t ∷ []) q

-- the texts of the points of a range, and that of its span
pub both_texts : (schema : Schema) (parts : List Part) (from : ℕ) (r : KeyRange) (points : List Value) (last : Option Span) (old all : List (List ℕ)) → points ≡ r.points → last ≡ r.last
    → old ≡ map (point_at schema parts) (enumerate_from from points) → all ≡ old ++ map (span_at schema parts (from + length points)) (option_to_list last)
    → all ≡ points_of schema parts from r ++ last_of schema parts from r
both_texts schema parts from r points last old all p l o e =
    e ∙ ap (λ t. t ++ map (span_at schema parts (from + length points)) (option_to_list last)) o
    ∙ ap (λ ps. map (point_at schema parts) (enumerate_from from ps) ++ map (span_at schema parts (from + length ps)) (option_to_list last)) p
    ∙ ap (λ s. points_of schema parts from r ++ map (span_at schema parts (from + length r.points)) (option_to_list s)) l
