-- Lists of conditions, names and values.
use Rattle.std.specs.Prelude.{◌≡◌, ℕ, List, [], ◌∷◌, ◌++◌, false, map, refl, Some, None}
use Rattle.std.specs.Option.{option_or}
use Rattle.std.proofs.lemmas.List.Folds.{find-append}
use Rattle.std.proofs.lemmas.List.{take_all}
use Rattle.std.proofs.Common.{◌+◌, ◌<◌, ◌≤◌, ◌∙◌, length, get_or, take, drop, sym, ap, add-one, drop-cons}
use Rattle.rx_value.specs.declared.values.Value.{Value}
use Rattle.rx_value.specs.declared.shapes.Column.{Column as TheColumn}
use Rattle.rx_cond.specs.Tree.{Tree, trees}
use Rattle.rx_cond.specs.Tree as over
use Rattle.rx_where.specs.declared.raw.RawCond.{RawCond}
use Rattle.rx_where.specs.Kinds.{row_differs}
use Rattle.rx_where.specs.Names.{names_of, names_of_all, first_unknown}
use Rattle.rx_where.specs.Raw.{RawTree, raw_trees, raw_tree_of}
use Rattle.rx_where.specs.Resolution.{resolved, resolved_all}

-- the first of two lists' names
pub unknown_of_both : (columns : List TheColumn) (xs ys : List (List ℕ)) → first_unknown columns (xs ++ ys) ≡ option_or (first_unknown columns xs) (first_unknown columns ys)
unknown_of_both columns xs ys = find-append _ xs ys

pub unknown_in_first : (columns : List TheColumn) (xs ys : List (List ℕ)) (name : List ℕ) → Some name ≡ first_unknown columns xs → Some name ≡ first_unknown columns (xs ++ ys)
unknown_in_first columns xs ys name e = rw (unknown_of_both columns xs ys, ← e) refl

pub unknown_in_others : (columns : List TheColumn) (xs ys : List (List ℕ)) → None ≡ first_unknown columns xs → first_unknown columns (xs ++ ys) ≡ first_unknown columns ys
unknown_in_others columns xs ys e = rw (unknown_of_both columns xs ys, ← e) refl

-- the names from a place on: those of the condition there, and of the others
pub names_from : (items : List RawCond) (i : ℕ) (item : RawCond) → i < length items → item ≡ get_or items i item → names_of_all (raw_trees (map raw_tree_of (drop i items))) ≡ names_of (raw_tree_of item) ++ names_of_all (raw_trees (map raw_tree_of (drop (i + 1) items)))
names_from items i item b is = rw (add-one, drop-cons items i item, ← is) refl

-- the condition at a place has the first unknown name
pub unknown_here : (columns : List TheColumn) (items : List RawCond) (i : ℕ) (item : RawCond) (name : List ℕ) → i < length items → item ≡ get_or items i item → Some name ≡ first_unknown columns (names_of (raw_tree_of item)) → Some name ≡ first_unknown columns (names_of_all (raw_trees (map raw_tree_of (drop i items))))
unknown_here columns items i item name b is e = rw (names_from items i item b is) (unknown_in_first columns _ _ name e)

-- the condition at a place has none
pub unknown_later : (columns : List TheColumn) (items : List RawCond) (i : ℕ) (item : RawCond) → i < length items → item ≡ get_or items i item → None ≡ first_unknown columns (names_of (raw_tree_of item)) → first_unknown columns (names_of_all (raw_trees (map raw_tree_of (drop (i + 1) items)))) ≡ first_unknown columns (names_of_all (raw_trees (map raw_tree_of (drop i items))))
unknown_later columns items i item b is e = sym (rw (names_from items i item b is) (unknown_in_others columns _ _ e))

-- no value of an empty key differs
pub no_key_differs : (columns : List TheColumn) (names : List (List ℕ)) (key : List Value) → key ≡ [] → row_differs columns names key ≡ false
no_key_differs columns [] key e = refl
no_key_differs columns (name ∷ names) key e = rw e refl

-- the conditions of a list, one by one
pub resolved_one_by_one : (columns : List TheColumn) (ts : List RawTree) → resolved_all columns (raw_trees ts) ≡ trees (map (resolved columns) ts)
resolved_one_by_one columns [] = refl
resolved_one_by_one columns (t ∷ ts) = ap (over.more (resolved columns t)) (resolved_one_by_one columns ts)

-- the conditions of a list, all of them
pub all_resolved : (columns : List TheColumn) (items : List RawCond) (n : ℕ) (conds : List Tree) → length items ≤ n → conds ≡ map (resolved columns) (map raw_tree_of (take n items)) → trees conds ≡ resolved_all columns (raw_trees (map raw_tree_of items))
all_resolved columns items n conds b e = ap trees e ∙ rw (take_all n items) (sym (resolved_one_by_one columns (map raw_tree_of items)))
