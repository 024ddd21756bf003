-- The truth of a condition at rows that agree on its columns.
use Rattle.std.proofs.Common.{◌≡◌, ℕ, Bool, true, false, ◌||◌, List, [], ◌∷◌, ◌++◌, map, refl, ap, ◌∙◌}
use Rattle.std.specs.Prelude.{nat_eq}
use Rattle.std.specs.List.{zip}
use Rattle.std.proofs.lemmas.Bool.{eq-eqb}
use Rattle.std.proofs.lemmas.List.Folds.{list_any-append}
use Rattle.rx_value.specs.declared.values.Value.{Value}
use Rattle.rx_cond.specs.declared.conds.Operand.{Operand}
use Rattle.rx_cond.specs.declared.conds.Operand.TheVariants.{Column, Constant}
use Rattle.rx_cond.specs.Columns.{operand_columns, columns_of, columns_of_all}
use Rattle.rx_cond.specs.Test.{column_value, is_null_value, comparison, membership, row_equality, likeness}
use Rattle.rx_cond.specs.declared.conds.Op.TheVariants.{Eq}
use Rattle.rx_cond.specs.Tree.{Tree, Trees, truth, compare, member, row_member, is_null, like, neg, conj, disj, none, more, operand_value, truth_at, truths_at}
use Rattle.rx_cond.specs.Tri.{tri_of, three_not, all_of, any_of}
use Rattle.rx_group.specs.Classes.{values_at}
use Rattle.rx_named.specs.Agreement.{AgreeOn}
use Rattle.rx_named.specs.Naming.{is_one_of}

-- either of two tests
either_left : (a b : Bool) → a ≡ true → (a || b) ≡ true
either_left true b e = refl
either_left false b e = absurd cc

either_right : (a b : Bool) → b ≡ true → (a || b) ≡ true
either_right true b e = refl
either_right false b e = e

-- a column of the first or the second list is one of both together
pub of_left : (xs ys : List ℕ) (column : ℕ) → is_one_of xs column ≡ true → is_one_of (xs ++ ys) column ≡ true
of_left xs ys column e = list_any-append (nat_eq column) xs ys ∙ either_left (is_one_of xs column) (is_one_of ys column) e

pub of_right : (xs ys : List ℕ) (column : ℕ) → is_one_of ys column ≡ true → is_one_of (xs ++ ys) column ≡ true
of_right xs ys column e = list_any-append (nat_eq column) xs ys ∙ either_right (is_one_of xs column) (is_one_of ys column) e

-- each of four tests is enough for one of them
pub either_names : (a b c d : Bool) → (a ≡ true → (a || (b || (c || d))) ≡ true) × (b ≡ true → (a || (b || (c || d))) ≡ true) × (c ≡ true → (a || (b || (c || d))) ≡ true) × (d ≡ true → (a || (b || (c || d))) ≡ true)
either_names a b c d = (
  either_left a (b || (c || d)),
  (λ e. either_right a (b || (c || d)) (either_left b (c || d) e)),
  (λ e. either_right a (b || (c || d)) (either_right b (c || d) (either_left c d e))),
  (λ e. either_right a (b || (c || d)) (either_right b (c || d) (either_right c d e))),
)

module _ (r s : List Value) where
  pub agree-left : (xs ys : List ℕ) → AgreeOn (is_one_of (xs ++ ys)) r s → AgreeOn (is_one_of xs) r s
  agree-left xs ys h column e = h column (of_left xs ys column e)

  pub agree-right : (xs ys : List ℕ) → AgreeOn (is_one_of (xs ++ ys)) r s → AgreeOn (is_one_of ys) r s
  agree-right xs ys h column e = h column (of_right xs ys column e)

  pub agree-first : (column : ℕ) (columns : List ℕ) → AgreeOn (is_one_of (column ∷ columns)) r s → column_value column r ≡ column_value column s
  agree-first column columns h = h column (either_left (nat_eq column column) (is_one_of columns column) (eq-eqb column column refl))

  pub agree-rest : (column : ℕ) (columns : List ℕ) → AgreeOn (is_one_of (column ∷ columns)) r s → AgreeOn (is_one_of columns) r s
  agree-rest column columns h other e = h other (either_right (nat_eq other column) (is_one_of columns other) e)

  pub values_agree : (columns : List ℕ) → AgreeOn (is_one_of columns) r s → values_at columns r ≡ values_at columns s
  values_agree [] h = refl
  values_agree (column ∷ columns) h =
      ap (λ v. v ∷ values_at columns r) (agree-first column columns h)
      ∙ ap (λ l. column_value column s ∷ l) (values_agree columns (agree-rest column columns h))

  operands_agree : (operand : Operand) → AgreeOn (is_one_of (operand_columns operand)) r s → operand_value operand r ≡ operand_value operand s
  operands_agree (Column column) h = agree-first column [] h
  operands_agree (Constant value) h = refl

  -- the tests of a key's values, place by place
  keys_agree : (columns : List ℕ) (key : List Value) → AgreeOn (is_one_of columns) r s → map (λ (p : ℕ × Value). comparison Eq (column_value p.0 r) p.1) (zip columns key) ≡ map (λ (p : ℕ × Value). comparison Eq (column_value p.0 s) p.1) (zip columns key)
  keys_agree [] key h = refl
  keys_agree (column ∷ columns) [] h = refl
  keys_agree (column ∷ columns) (value ∷ key) h =
      ap (λ v. comparison Eq v value ∷ map (λ (p : ℕ × Value). comparison Eq (column_value p.0 r) p.1) (zip columns key)) (agree-first column columns h)
      ∙ ap (λ l. comparison Eq (column_value column s) value ∷ l) (keys_agree columns key (agree-rest column columns h))

  lists_agree : (columns : List ℕ) (list : List (List Value)) → AgreeOn (is_one_of columns) r s → map (λ key. row_equality columns key r) list ≡ map (λ key. row_equality columns key s) list
  lists_agree columns [] h = refl
  lists_agree columns (key ∷ list) h =
      ap (λ l. all_of l ∷ map (λ key. row_equality columns key r) list) (keys_agree columns key h)
      ∙ ap (λ l. row_equality columns key s ∷ l) (lists_agree columns list h)

  mutual
    pub truths_agree : (t : Tree) → AgreeOn (is_one_of (columns_of t)) r s → truth_at t r ≡ truth_at t s
    truths_agree (truth t) h = refl
    truths_agree (compare op left right) h =
        ap (λ v. comparison op v (operand_value right r)) (operands_agree left (agree-left (operand_columns left) (operand_columns right) h))
        ∙ ap (comparison op (operand_value left s)) (operands_agree right (agree-right (operand_columns left) (operand_columns right) h))
    truths_agree (member left list) h = ap (λ v. membership v list) (operands_agree left h)
    truths_agree (row_member columns list) h = ap any_of (lists_agree columns list h)
    truths_agree (is_null operand) h = ap (λ v. tri_of (is_null_value v)) (operands_agree operand h)
    truths_agree (like column pattern) h = ap (likeness pattern) (agree-first column [] h)
    truths_agree (neg t) h = ap three_not (truths_agree t h)
    truths_agree (conj items) h = ap all_of (all_truths_agree items h)
    truths_agree (disj items) h = ap any_of (all_truths_agree items h)

    all_truths_agree : (ts : Trees) → AgreeOn (is_one_of (columns_of_all ts)) r s → truths_at ts r ≡ truths_at ts s
    all_truths_agree none h = refl
    all_truths_agree (more t ts) h =
        ap (λ v. v ∷ truths_at ts r) (truths_agree t (agree-left (columns_of t) (columns_of_all ts) h))
        ∙ ap (λ l. truth_at t s ∷ l) (all_truths_agree ts (agree-right (columns_of t) (columns_of_all ts) h))
