-- What a condition can be at positions is decided by how they stand to its constants.
use Rattle.std.proofs.Common.{◌≡◌, ℕ, Bool, true, false, ◌&&◌, ◌||◌, ◌==◌, if◌then◌else◌, List, [], refl, subst, ap₂, flat_map}
use mathlib.Core.Path.{fun_ext}
use Rattle.rx_value.specs.declared.values.Value.{Value}
use Rattle.rx_value.specs.declared.values.Value.TheVariants.{Null}
use Rattle.rx_value.specs.declared.order.End.{End}
use Rattle.rx_value.specs.declared.shapes.Part.{Part}
use Rattle.rx_cond.specs.declared.conds.Op.TheVariants.{SafeEq}
use Rattle.rx_cond.specs.declared.conds.Operand.TheVariants.{Column, Constant}
use Rattle.rx_cond.specs.Tree.{Tree, Trees, truth, compare, member, row_member, is_null, like, neg, conj, disj, none, more}
use Rattle.rx_regions.specs.Places.{turned}
use Rattle.rx_regions.specs.Cans.{compares, lists, begins, can_be, all_can, one_can}
use Rattle.rx_regions.specs.Constants.{constant, like_constants, on_column, constants, all_constants, AllAlike}
use Rattle.rx_regions.proofs.Alike.{compares_same, null_same, lists_same, begins_same, spot_same, tuples_same, tuples_parts}

none_if : (b : Bool) (values : List Value) → [] ≡ values → [] ≡ (if b then values else [])
none_if true values e = e
none_if false values e = refl

-- no values of a column are no values
none_on_column : (c : ℕ) (parts : List Part) (ps qs : List End) → AllAlike (λ part. []) parts ps qs → AllAlike (λ part. on_column c part []) parts ps qs
none_on_column c parts ps qs h = subst (λ (values : Part → List Value). AllAlike values parts ps qs) (fun_ext (λ part. none_if (part.column == c) [] refl)) h

module _ (parts : List Part) (ps qs : List End) where
  mutual
    pub can_same : (sign : Bool) (t : Tree) → AllAlike (constants t) parts ps qs → can_be sign t parts ps ≡ can_be sign t parts qs
    can_same sign (truth t) h = refl
    can_same sign (compare op (Column c) (Constant v)) h = spot_same (compares sign op v) c (λ n. constant n v) (compares_same sign op v) parts ps qs h
    can_same sign (compare op (Constant v) (Column c)) h = spot_same (compares sign (turned op) v) c (λ n. constant n v) (compares_same sign (turned op) v) parts ps qs h
    can_same sign (compare op (Constant u) (Constant v)) h = refl
    can_same sign (compare op (Column c) (Column d)) h = refl
    can_same sign (member (Column c) list) h = spot_same (lists sign list) c (λ n. flat_map (constant n) list) (lists_same sign list) parts ps qs h
    can_same sign (member (Constant v) list) h = refl
    can_same true (row_member columns list) h = tuples_same parts ps qs columns list h
    can_same false (row_member columns list) h = refl
    can_same sign (is_null (Column c)) h = spot_same (compares sign SafeEq Null) c (λ n. []) (null_same sign) parts ps qs (none_on_column c parts ps qs h)
    can_same sign (is_null (Constant v)) h = refl
    can_same true (like c pattern) h = spot_same (begins pattern) c (λ n. like_constants n pattern) (begins_same pattern) parts ps qs h
    can_same false (like c pattern) h = refl
    can_same true (neg t) h = can_same false t h
    can_same false (neg t) h = can_same true t h
    can_same true (conj items) h = all_same true items h
    can_same false (conj items) h = one_same false items h
    can_same true (disj items) h = one_same true items h
    can_same false (disj items) h = all_same false items h

    all_same : (sign : Bool) (items : Trees) → AllAlike (all_constants items) parts ps qs → all_can sign items parts ps ≡ all_can sign items parts qs
    all_same sign none h = refl
    all_same sign (more t ts) h =
        let (f, g) = tuples_parts (constants t) (all_constants ts) parts ps qs h in ap₂ (λ a b. a && b) (can_same sign t f) (all_same sign ts g)

    one_same : (sign : Bool) (items : Trees) → AllAlike (all_constants items) parts ps qs → one_can sign items parts ps ≡ one_can sign items parts qs
    one_same sign none h = refl
    one_same sign (more t ts) h =
        let (f, g) = tuples_parts (constants t) (all_constants ts) parts ps qs h in ap₂ (λ a b. a || b) (can_same sign t f) (one_same sign ts g)
