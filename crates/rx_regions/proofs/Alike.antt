-- Tests can't tell positions apart that stand alike to NULL and to their constants.
use Rattle.std.proofs.Common.{◌≡◌, ℕ, ◌==◌, ◌<◌, ◌≤◌, Bool, true, false, not, ◌&&◌, ◌||◌, if◌then◌else◌, List, [], ◌∷◌, ◌++◌, length, zip, flat_map, Option, Some, None, refl, ap, ap₂, subst, arith, leb-false}
use Rattle.std.specs.Prelude.{encode_utf8_all}
use Rattle.std.specs.Fmt.{take_chars}
use Rattle.std.specs.Str.{chars, is_utf8, all_scalars}
use Rattle.std.proofs.lemmas.Str.{IsUtf8-from_is_utf8, chars-encodes, scalars-chars}
use Rattle.std.specs.List.{list_any, list_all}
use Rattle.std.specs.declared.cmp.Ordering.TheVariants.{Less, Equal, Greater}
use Rattle.std.specs.Ordering.{is_eq}
use Rattle.rx_value.specs.declared.values.Value.{Value}
use Rattle.rx_value.specs.declared.values.Value.TheVariants.{Null, Int, Text}
use Rattle.rx_value.specs.declared.order.End.{End}
use Rattle.rx_value.specs.declared.shapes.Part.{Part}
use Rattle.rx_value.specs.Keys.{cut_value}
use Rattle.rx_like.specs.Pattern.{tokens, tokens_of, escaped, literal_front, literal_prefix, is_plain}
use Rattle.rx_cond.specs.declared.conds.Op.{Op}
use Rattle.rx_cond.specs.declared.conds.Op.TheVariants.{SafeEq}
use Rattle.rx_cond.specs.declared.conds.Tri.TheVariants.{T, F, N}
use Rattle.rx_cond.specs.Tri.{tri_of}
use Rattle.rx_cond.specs.Test.{holds, is_null_value}
use Rattle.rx_regions.specs.Places.{place, is_at, is_at_some, cut_true, cut_false}
use Rattle.rx_regions.specs.Cans.{is_so, compares, lists, fills, begins, spot_of, at_spot, agrees}
use Rattle.rx_regions.specs.Constants.{constant, listed_raised, like_constants, on_column, StandAlike, AreAlike, AllAlike}
use Rattle.rx_regions.proofs.Utf8.{take_all}
use Rattle.rx_regions.proofs.Likes.{is_open}

place_same : (v : Value) (p q : End) → StandAlike p q v → place p v ≡ place q v
place_same v p q h = ap₂ (λ a b. if a then Greater else if b then Equal else Less) h.behind h.point

-- a comparison of a part with a constant
pub compares_same : (sign : Bool) (op : Op) (v : Value) (n : Option ℕ) (p q : End) → AreAlike (Null ∷ constant n v) p q → compares sign op v n p ≡ compares sign op v n q
compares_same sign SafeEq Null None p q h = ap (λ o. is_so sign (tri_of (is_eq o))) (place_same Null p q h.0)
compares_same sign op Null None p q h = ap (λ o. is_so sign (if is_eq o || true then N else tri_of (holds op o))) (place_same Null p q h.0)
compares_same sign SafeEq (Int k) None p q h = ap (λ o. is_so sign (tri_of (is_eq o))) (place_same (Int k) p q h.1.0)
compares_same sign op (Int k) None p q h = ap₂ (λ o x. is_so sign (if is_eq o || false then N else tri_of (holds op x))) (place_same Null p q h.0) (place_same (Int k) p q h.1.0)
compares_same sign SafeEq (Text t) None p q h = ap (λ o. is_so sign (tri_of (is_eq o))) (place_same (Text t) p q h.1.0)
compares_same sign op (Text t) None p q h = ap₂ (λ o x. is_so sign (if is_eq o || false then N else tri_of (holds op x))) (place_same Null p q h.0) (place_same (Text t) p q h.1.0)
compares_same true SafeEq Null (Some n) p q h = ap is_eq (place_same Null p q h.0)
compares_same false SafeEq Null (Some n) p q h = ap (λ o. not (is_eq o)) (place_same Null p q h.0)
compares_same sign op Null (Some n) p q h = refl
compares_same true SafeEq (Int k) (Some n) p q h = ap₂ (λ o x. not (is_eq o) && cut_true SafeEq x) (place_same Null p q h.0) (place_same (Int k) p q h.1.0)
compares_same true op (Int k) (Some n) p q h = ap₂ (λ o x. not (is_eq o) && cut_true op x) (place_same Null p q h.0) (place_same (Int k) p q h.1.0)
compares_same true SafeEq (Text t) (Some n) p q h = ap₂ (λ o x. not (is_eq o) && cut_true SafeEq x) (place_same Null p q h.0) (place_same (Text (take_chars n t)) p q h.1.0)
compares_same true op (Text t) (Some n) p q h = ap₂ (λ o x. not (is_eq o) && cut_true op x) (place_same Null p q h.0) (place_same (Text (take_chars n t)) p q h.1.0)
compares_same false SafeEq (Int k) (Some n) p q h = refl
compares_same false SafeEq (Text t) (Some n) p q h = refl
compares_same false op (Int k) (Some n) p q h = ap₂ (λ o x. not (is_eq o) && cut_false op x) (place_same Null p q h.0) (place_same (Int k) p q h.1.0)
compares_same false op (Text t) (Some n) p q h = ap₂ (λ o x. not (is_eq o) && cut_false op x) (place_same Null p q h.0) (place_same (Text (take_chars n t)) p q h.1.0)

-- IS NULL
pub null_same : (sign : Bool) (n : Option ℕ) (p q : End) → AreAlike (Null ∷ []) p q → compares sign SafeEq Null n p ≡ compares sign SafeEq Null n q
null_same sign n p q h = compares_same sign SafeEq Null n p q h

pub alike_parts : (vs ws : List Value) (p q : End) → AreAlike (vs ++ ws) p q → AreAlike vs p q × AreAlike ws p q
alike_parts [] ws p q h = (tt, h)
alike_parts (v ∷ vs) ws p q h = let (f, g) = alike_parts vs ws p q h.1 in ((h.0, f), g)

-- an element of a list
element_same : (n : Option ℕ) (v : Value) (p q : End) → AreAlike (constant n v) p q → is_at_some p (cut_value n v) ≡ is_at_some q (cut_value n v)
element_same None Null p q h = refl
element_same (Some n) Null p q h = refl
element_same None (Int k) p q h = ap is_eq (place_same (Int k) p q h.0)
element_same (Some n) (Int k) p q h = ap is_eq (place_same (Int k) p q h.0)
element_same None (Text t) p q h = ap is_eq (place_same (Text t) p q h.0)
element_same (Some n) (Text t) p q h = ap is_eq (place_same (Text (take_chars n t)) p q h.0)

any_same : (n : Option ℕ) (list : List Value) (p q : End) → AreAlike (flat_map (constant n) list) p q
    → list_any (λ v. is_at_some p (cut_value n v)) list ≡ list_any (λ v. is_at_some q (cut_value n v)) list
any_same n [] p q h = refl
any_same n (v ∷ list) p q h =
    let (f, g) = alike_parts (constant n v) (flat_map (constant n) list) p q h in
    ap₂ (λ a b. a || b) (element_same n v p q f) (any_same n list p q g)

-- IN
pub lists_same : (sign : Bool) (list : List Value) (n : Option ℕ) (p q : End) → AreAlike (Null ∷ flat_map (constant n) list) p q → lists sign list n p ≡ lists sign list n q
lists_same sign list None p q h =
    ap₂ (λ found o. is_so sign (if found then T else if is_eq o || list_any is_null_value list then N else F)) (any_same None list p q h.1) (place_same Null p q h.0)
lists_same true list (Some n) p q h = any_same (Some n) list p q h.1
lists_same false list (Some n) p q h = ap (λ o. not (list_any is_null_value list) && not (is_eq o)) (place_same Null p q h.0)

-- the characters before a wildcard are characters, as those of the pattern are
mutual
  front_scalars : (cs : List ℕ) → all_scalars cs ≡ true → all_scalars (literal_front (tokens_of cs)) ≡ true
  front_scalars [] fit = refl
  front_scalars (c ∷ cs) fit = grind (arith, front_scalars cs, escaped_scalars cs)

  escaped_scalars : (cs : List ℕ) → all_scalars cs ≡ true → all_scalars (literal_front (escaped cs)) ≡ true
  escaped_scalars [] fit = refl
  escaped_scalars (c ∷ cs) fit = grind (arith, front_scalars cs)

room_by : (n : ℕ) (pattern : List ℕ) (b : Bool) → is_utf8 pattern ≡ b
    → length (chars (if b then encode_utf8_all (literal_front (tokens pattern)) else [])) ≤ n
    → take_chars n (if b then encode_utf8_all (literal_front (tokens pattern)) else []) ≡ (if b then encode_utf8_all (literal_front (tokens pattern)) else [])
room_by n pattern true e few =
    let fit = front_scalars (chars pattern) (scalars-chars pattern (IsUtf8-from_is_utf8 pattern e)) in
    take_all n (literal_front (tokens pattern)) (subst (λ (cs : List ℕ). length cs ≤ n) (chars-encodes (literal_front (tokens pattern)) fit) few)
room_by n pattern false e few = take_all n [] (omega arith)

-- a prefix that the part has room for isn't cut
whole_prefix : (n : Option ℕ) (pattern : List ℕ) → fills n (literal_prefix pattern) ≡ false → cut_value n (Text (literal_prefix pattern)) ≡ Text (literal_prefix pattern)
whole_prefix None pattern away = refl
whole_prefix (Some n) pattern away =
    let few : length (chars (literal_prefix pattern)) < n = leb-false n (length (chars (literal_prefix pattern))) away in
    ap Text (room_by n pattern (is_utf8 pattern) refl (omega arith))

from_same : (prefix : List ℕ) (p q : End) → AreAlike (Text prefix ∷ listed_raised prefix) p q
    → is_open prefix p ≡ is_open prefix q
from_same [] p q h = refl
from_same (b ∷ bs) p q h = ap₂ (λ x y. x && not y) h.0.point h.1.0.point

begins_by : (n : Option ℕ) (pattern : List ℕ) (p q : End) (plain full : Bool) → fills n (literal_prefix pattern) ≡ full
    → AreAlike (cut_value n (Text (literal_prefix pattern)) ∷ (if plain || full then [] else listed_raised (literal_prefix pattern))) p q
    → (if plain || full then is_at p (cut_value n (Text (literal_prefix pattern))) else is_open (literal_prefix pattern) p)
    ≡ (if plain || full then is_at q (cut_value n (Text (literal_prefix pattern))) else is_open (literal_prefix pattern) q)
begins_by n pattern p q true full e h = ap is_eq (place_same (cut_value n (Text (literal_prefix pattern))) p q h.0)
begins_by n pattern p q false true e h = ap is_eq (place_same (cut_value n (Text (literal_prefix pattern))) p q h.0)
begins_by n pattern p q false false e h =
    from_same (literal_prefix pattern) p q (subst (λ v. StandAlike p q v) (whole_prefix n pattern e) h.0, h.1)

-- LIKE
pub begins_same : (pattern : List ℕ) (n : Option ℕ) (p q : End) → AreAlike (Null ∷ like_constants n pattern) p q → begins pattern n p ≡ begins pattern n q
begins_same pattern n p q h = begins_by n pattern p q (is_plain pattern) (fills n (literal_prefix pattern)) refl h.1

-- a test of a column that can't tell positions of its part apart
module _ (test : Option ℕ → End → Bool) (c : ℕ) (values : Option ℕ → List Value) (each : (n : Option ℕ) (p q : End) → AreAlike (Null ∷ values n) p q → test n p ≡ test n q) where
  pub spot_same : (parts : List Part) (ps qs : List End) → AllAlike (λ part. on_column c part (values part.chars)) parts ps qs → at_spot test (spot_of c parts ps) ≡ at_spot test (spot_of c parts qs)
  spot_same [] [] [] h = refl
  spot_same [] [] (q ∷ qs) h = refl
  spot_same [] (p ∷ ps) qs h = refl
  spot_same (part ∷ parts) [] [] h = absurd h
  spot_same (part ∷ parts) [] (q ∷ qs) h = absurd h
  spot_same (part ∷ parts) (p ∷ ps) [] h = absurd h
  spot_same (part ∷ parts) (p ∷ ps) (q ∷ qs) h =
      elim (part.column == c) as (λ b. AreAlike (Null ∷ (if b then values part.chars else [])) p q
      → at_spot test (if b then Some (part, p) else spot_of c parts ps) ≡ at_spot test (if b then Some (part, q) else spot_of c parts qs)) [
        | true ↦ λ here. each part.chars p q here
        | false ↦ λ here. spot_same parts ps qs h.1
      ] h.0

-- tuples alike to values are alike to those of each of two lists
pub tuples_parts : (f g : Part → List Value) (parts : List Part) (ps qs : List End) → AllAlike (λ part. f part ++ g part) parts ps qs → AllAlike f parts ps qs × AllAlike g parts ps qs
tuples_parts f g [] [] [] h = (tt, tt)
tuples_parts f g [] [] (q ∷ qs) h = absurd h
tuples_parts f g [] (p ∷ ps) qs h = absurd h
tuples_parts f g (part ∷ parts) [] [] h = absurd h
tuples_parts f g (part ∷ parts) [] (q ∷ qs) h = absurd h
tuples_parts f g (part ∷ parts) (p ∷ ps) [] h = absurd h
tuples_parts f g (part ∷ parts) (p ∷ ps) (q ∷ qs) h =
    let (x, y) = alike_parts (f part) (g part) p q h.0.1 in
    let (l, r) = tuples_parts f g parts ps qs h.1 in
    (((h.0.0, x), l), ((h.0.0, y), r))

module _ (parts : List Part) (ps qs : List End) where
  tuple_same : (pairs : List (ℕ × Value)) → AllAlike (λ part. flat_map (λ e. on_column e.0 part (constant part.chars e.1)) pairs) parts ps qs
      → list_all (λ e. agrees parts ps e.0 e.1) pairs ≡ list_all (λ e. agrees parts qs e.0 e.1) pairs
  tuple_same [] h = refl
  tuple_same ((c, v) ∷ pairs) h =
      let (f, g) = tuples_parts (λ part. on_column c part (constant part.chars v)) (λ part. flat_map (λ e. on_column e.0 part (constant part.chars e.1)) pairs) parts ps qs h in
      ap₂ (λ a b. a && b) (spot_same (λ n p. is_at_some p (cut_value n v)) c (λ n. constant n v) (λ n p q k. element_same n v p q k.1) parts ps qs f) (tuple_same pairs g)

  -- row IN
  pub tuples_same : (columns : List ℕ) (list : List (List Value))
      → AllAlike (λ part. flat_map (λ key. flat_map (λ e. on_column e.0 part (constant part.chars e.1)) (zip columns key)) list) parts ps qs
      → list_any (λ key. list_all (λ e. agrees parts ps e.0 e.1) (zip columns key)) list ≡ list_any (λ key. list_all (λ e. agrees parts qs e.0 e.1) (zip columns key)) list
  tuples_same columns [] h = refl
  tuples_same columns (key ∷ list) h =
      let (f, g) = tuples_parts (λ part. flat_map (λ e. on_column e.0 part (constant part.chars e.1)) (zip columns key))
      (λ part. flat_map (λ k. flat_map (λ e. on_column e.0 part (constant part.chars e.1)) (zip columns k)) list) parts ps qs h in
      ap₂ (λ a b. a || b) (tuple_same (zip columns key) f) (tuples_same columns list g)
