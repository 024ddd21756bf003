-- The ranges of a condition lose no row that makes it true.
use Rattle.std.proofs.Common.{◌≡◌, ◌<◌, ◌≤◌, ℕ, zero, suc, Bool, true, false, List, [], ◌∷◌, map, take, length, Option, Some, None, refl, ap, sym, ◌∙◌, subst}
use Rattle.std.specs.List.{list_any}
use Rattle.std.proofs.lemmas.List.{length-map, length-take-le}
use Rattle.rx_value.specs.declared.values.Value.{Value}
use Rattle.rx_value.specs.declared.values.Value.TheVariants.{Null, Int, Text}
use Rattle.rx_value.specs.declared.ranges.KeyRange.{KeyRange}
use Rattle.rx_value.specs.declared.shapes.Column.{Column}
use Rattle.rx_value.specs.declared.shapes.Part.{Part}
use Rattle.rx_value.specs.declared.shapes.Schema.{Schema}
use Rattle.rx_value.specs.Order.{below}
use Rattle.rx_value.specs.Shape.{FitsColumns, FitsRow}
use Rattle.rx_value.specs.Keys.{column_value, cut_value, key_of, holds}
use Rattle.rx_value.proofs.Ends.{least_end}
use Rattle.rx_tree.specs.Member.{IsPosition, IsTuple}
use Rattle.rx_cond.specs.declared.conds.Tri.TheVariants.{T}
use Rattle.rx_cond.specs.Tree.{Tree, truth_at}
use Rattle.rx_regions.specs.Cans.{is_so, can_be}
use Rattle.rx_regions.specs.Texts.{ComparesUtf8, cuts}
use Rattle.rx_regions.proofs.Fitting.{fitting_utf8}
use Rattle.rx_regions.proofs.Shown.{can_show}
use Rattle.rx_cover.specs.Cover.{are_rising}
use Rattle.rx_cover.proofs.Rising.{cover_rises}
use Rattle.rx_cover.proofs.Losing.{cover_keeps}
use Rattle.rx_ranges.specs.Answers.{may_be_null, nullables, fallings, IsUsed}
use Rattle.rx_ranges.proofs.Fronts.{any_on_all, rising_on_all, cuts_on_all}

-- what a fitting row has in a column is a value, or NULL where that may be
abbrev MayBe : Bool → Value → Type 0
MayBe nullable v = v ≡ Null → nullable ≡ true

column_may_be : (columns : List Column) (row : List Value) (c : ℕ) → FitsColumns columns row → MayBe (may_be_null columns c) (column_value c row)
column_may_be [] [] c fits = λ e. refl
column_may_be [] (v ∷ row) c fits = absurd fits
column_may_be (d ∷ columns) [] c fits = absurd fits
column_may_be (d ∷ columns) (v ∷ row) zero fits = fits.0.null
column_may_be (d ∷ columns) (v ∷ row) (suc c) fits = column_may_be columns row c fits.1

-- the point of such a value is a position of its part, also where it is cut
place_of : (nullable : Bool) (n : Option ℕ) (v : Value) → MayBe nullable v → IsPosition nullable (below (cut_value n v))
place_of true n v may = record { from = least_end (below (cut_value n v)); cut = refl }
place_of false n Null may = absurd (cc (may refl))
place_of false None (Int m) may = record { from = refl; cut = refl }
place_of false (Some n) (Int m) may = record { from = refl; cut = refl }
place_of false None (Text t) may = record { from = refl; cut = refl }
place_of false (Some n) (Text t) may = record { from = refl; cut = refl }

-- the key of a fitting row has a position of each part
key_fits : (columns : List Column) (parts : List Part) (row : List Value) → FitsColumns columns row → IsTuple (nullables columns parts) (map below (key_of parts row))
key_fits columns [] row fits = tt
key_fits columns (q ∷ parts) row fits =
    (place_of (may_be_null columns q.column) q.chars (column_value q.column row) (column_may_be columns row q.column fits), key_fits columns parts row fits)

same_length : (columns : List Column) (parts : List Part) → length (fallings parts) ≡ length (nullables columns parts)
same_length columns parts = length-map parts (λ q. q.descending) ∙ sym (length-map parts (λ q. may_be_null columns q.column))

some_parts : (columns : List Column) (parts : List Part) (p : ℕ) → 0 < p → p ≤ length parts → 0 < length (nullables columns (take p parts))
some_parts columns parts p some there =
    subst (λ (n : ℕ). 0 < n) (sym (length-map (take p parts) (λ q. may_be_null columns q.column) ∙ length-take-le p parts there)) some

-- the ranges rise
pub ranges_rise : (columns : List Column) (parts : List Part) (limit : ℕ) (t : Tree) (p : ℕ) (list : List KeyRange) → IsUsed columns parts limit t p list → are_rising (fallings parts) list ≡ true
ranges_rise columns parts limit t p list is =
    let front = take p parts in
    rising_on_all p parts list
    (ap (are_rising (fallings front)) is.cover.is
    ∙ cover_rises (nullables columns front) (fallings front) is.cover.tree is.cover.of.canonical)

-- where the condition is true its tree holds the row's key
tree_has : (columns : List Column) (parts : List Part) (t : Tree) (row : List Value) → (cuts parts ≡ true → ComparesUtf8 t) → FitsColumns columns row → truth_at t row ≡ T → can_be true t parts (map below (key_of parts row)) ≡ true
tree_has columns parts t row compares fits true_there =
    can_show parts row true t (λ some. (compares some, fitting_utf8 columns row fits)) (ap (is_so true) true_there)

-- a range holds the key of each row that fits and makes the condition true
pub ranges_keep : (schema : Schema) (parts : List Part) (limit : ℕ) (t : Tree) (p : ℕ) (list : List KeyRange) (row : List Value) → (cuts parts ≡ true → ComparesUtf8 t) → IsUsed schema.columns parts limit t p list → FitsRow schema row → truth_at t row ≡ T
    → list_any (λ r. holds r (key_of parts row)) list ≡ true
ranges_keep schema parts limit t p list row compares is fits true_there =
    let front = take p parts in
    let nulls = nullables schema.columns front in
    let tuple = key_fits schema.columns front row fits in
    any_on_all p parts row list
    (ap (list_any (λ r. holds r (key_of front row))) is.cover.is
    ∙ cover_keeps nulls (fallings front) is.cover.tree (key_of front row)
    (some_parts schema.columns parts p is.some is.used.there) (same_length schema.columns front) is.cover.of.canonical tuple
    (is.cover.of.positions (map below (key_of front row)) tuple
    ∙ tree_has schema.columns front t row (λ cut. compares (cuts_on_all p parts cut)) fits true_there))
