-- A condition's truth at a row is one that it can have at the row's key.
use Rattle.std.proofs.Common.{◌≡◌, ℕ, zero, suc, Bool, true, false, ◌&&◌, List, [], ◌∷◌, is_some, refl, ap, ap₂, sym, ◌∙◌}
use Rattle.std.proofs.lemmas.List.Elements.{All-head, All-tail}
use Rattle.std.specs.List.{list_any, list_all}
use Rattle.rx_value.specs.declared.values.Value.{Value}
use Rattle.rx_value.specs.declared.values.Value.TheVariants.{Null}
use Rattle.rx_value.specs.declared.shapes.Part.{Part}
use Rattle.rx_value.specs.Keys.{column_value}
use Rattle.rx_cond.specs.declared.conds.Op.{Op}
use Rattle.rx_cond.specs.declared.conds.Op.TheVariants.{SafeEq}
use Rattle.rx_cond.specs.declared.conds.Operand.TheVariants.{Column, Constant}
use Rattle.rx_cond.specs.declared.conds.Tri.{Tri}
use Rattle.rx_cond.specs.declared.conds.Tri.TheVariants.{T, F, N}
use Rattle.rx_cond.specs.Tri.{three_not}
use Rattle.rx_cond.specs.Test.{comparison}
use Rattle.rx_cond.specs.Tree.{Tree, Trees, truth, compare, member, row_member, is_null, like, neg, conj, disj, none, more, truth_at, truths_at}
use Rattle.rx_regions.specs.Places.{turned}
use Rattle.rx_regions.specs.Cans.{is_so, compares, lists, begins, can_be, all_can, one_can, spot_of, at_spot}
use Rattle.rx_regions.specs.Texts.{IsUtf8Value, AreUtf8, ComparesUtf8, AllCompareUtf8, cuts}
use Rattle.rx_regions.proofs.Wholes.{turned_there}
use Rattle.rx_regions.proofs.Cuts.{comparison_shows, null_shows, membership_shows}
use Rattle.rx_regions.proofs.Likes.{like_shows}
use Rattle.rx_regions.proofs.Keys.{points, at_key}
use Rattle.rx_regions.proofs.RowLists.{all_true, one_false, one_true, all_false, and_parts, either, row_shows}

-- a column's value is UTF-8 where the row's texts are
column_utf8 : (row : List Value) (c : ℕ) → AreUtf8 row → IsUtf8Value (column_value c row)
column_utf8 [] c h = tt
column_utf8 (v ∷ row) zero h = All-head IsUtf8Value v row h
column_utf8 (v ∷ row) (suc c) h = column_utf8 row c (All-tail IsUtf8Value v row h)

swapped : (sign : Bool) (t : Tri) → is_so sign (three_not t) ≡ true → is_so (elim sign [ true ↦ false | false ↦ true ]) t ≡ true
swapped true T h = h
swapped true F h = h
swapped true N h = h
swapped false T h = h
swapped false F h = h
swapped false N h = h

module _ (parts : List Part) (row : List Value) where
  -- a comparison of a column with a constant
  compare_shows : (sign : Bool) (op : Op) (c : ℕ) (v : Value) → (cuts parts ≡ true → IsUtf8Value v × AreUtf8 row) → is_so sign (comparison op (column_value c row) v) ≡ true
      → at_spot (compares sign op v) (spot_of c parts (points parts row)) ≡ true
  compare_shows sign op c v known h =
      at_key (IsUtf8Value v × AreUtf8 row) (compares sign op v) c row
      (λ n here. comparison_shows sign op n (column_value c row) v (λ k e. let (f, g) = here (ap is_some e) in (column_utf8 row c g, f)) h) parts known

  mutual
    pub can_show : (sign : Bool) (t : Tree) → (cuts parts ≡ true → ComparesUtf8 t × AreUtf8 row) → is_so sign (truth_at t row) ≡ true → can_be sign t parts (points parts row) ≡ true
    can_show sign (truth t) known h = h
    can_show sign (compare op (Column c) (Constant v)) known h = compare_shows sign op c v (λ s. let (f, g) = known s in (f.1, g)) h
    can_show sign (compare op (Constant v) (Column c)) known h =
        compare_shows sign (turned op) c v (λ s. let (f, g) = known s in (f.0, g)) (ap (is_so sign) (sym (turned_there op v (column_value c row))) ∙ h)
    can_show sign (compare op (Constant u) (Constant v)) known h = h
    can_show sign (compare op (Column c) (Column d)) known h = refl
    can_show sign (member (Column c) list) known h =
        at_key (Unit {0}) (lists sign list) c row (λ n _. membership_shows sign n (column_value c row) list h) parts (λ _. tt)
    can_show sign (member (Constant v) list) known h = h
    can_show true (row_member columns list) known h = row_shows parts row columns list h
    can_show false (row_member columns list) known h = refl
    can_show sign (is_null (Column c)) known h =
        at_key (Unit {0}) (compares sign SafeEq Null) c row (λ n _. null_shows sign n (column_value c row) h) parts (λ _. tt)
    can_show sign (is_null (Constant v)) known h = h
    can_show true (like c pattern) known h =
        at_key (Unit {0}) (begins pattern) c row (λ n _. like_shows n pattern (column_value c row) h) parts (λ _. tt)
    can_show false (like c pattern) known h = refl
    can_show true (neg t) known h = can_show false t known (swapped true (truth_at t row) h)
    can_show false (neg t) known h = can_show true t known (swapped false (truth_at t row) h)
    can_show true (conj items) known h = all_show true items known (all_true (truths_at items row) h)
    can_show false (conj items) known h = one_shows false items known (one_false (truths_at items row) h)
    can_show true (disj items) known h = one_shows true items known (one_true (truths_at items row) h)
    can_show false (disj items) known h = all_show false items known (all_false (truths_at items row) h)

    all_show : (sign : Bool) (items : Trees) → (cuts parts ≡ true → AllCompareUtf8 items × AreUtf8 row) → list_all (is_so sign) (truths_at items row) ≡ true → all_can sign items parts (points parts row) ≡ true
    all_show sign none known h = refl
    all_show sign (more t ts) known h =
        let (f, g) = and_parts (is_so sign (truth_at t row)) (list_all (is_so sign) (truths_at ts row)) h in
        ap₂ (λ a b. a && b)
        (can_show sign t (λ s. let (x, y) = known s in (x.0, y)) f)
        (all_show sign ts (λ s. let (x, y) = known s in (x.1, y)) g)

    one_shows : (sign : Bool) (items : Trees) → (cuts parts ≡ true → AllCompareUtf8 items × AreUtf8 row) → list_any (is_so sign) (truths_at items row) ≡ true → one_can sign items parts (points parts row) ≡ true
    one_shows sign none known h = h
    one_shows sign (more t ts) known h =
        either (is_so sign (truth_at t row)) (list_any (is_so sign) (truths_at ts row)) (can_be sign t parts (points parts row)) (one_can sign ts parts (points parts row))
        (can_show sign t (λ s. let (x, y) = known s in (x.0, y)))
        (one_shows sign ts (λ s. let (x, y) = known s in (x.1, y)))
        h
