-- A row that a row IN holds for agrees with one of its tuples.
use Rattle.std.proofs.Common.{◌≡◌, ℕ, Bool, true, false, ◌&&◌, ◌||◌, if◌then◌else◌, List, [], ◌∷◌, map, refl, ap, ap₂, zip}
use Rattle.std.specs.List.{list_any, list_all}
use Rattle.rx_value.specs.declared.values.Value.{Value}
use Rattle.rx_value.specs.declared.shapes.Part.{Part}
use Rattle.rx_value.specs.Keys.{column_value, cut_value}
use Rattle.rx_cond.specs.declared.conds.Op.TheVariants.{Eq}
use Rattle.rx_cond.specs.declared.conds.Tri.{Tri}
use Rattle.rx_cond.specs.declared.conds.Tri.TheVariants.{T, F, N}
use Rattle.rx_cond.specs.Tri.{is_true, is_false, all_of, any_of}
use Rattle.rx_cond.specs.Test.{comparison, equals, row_equality, row_membership}
use Rattle.rx_regions.specs.Places.{is_at_some}
use Rattle.rx_regions.specs.Cans.{is_so, agrees}
use Rattle.rx_regions.proofs.Cuts.{element_shows}
use Rattle.rx_regions.proofs.Keys.{points, at_key}

all_by : (b c : Bool) → is_so true (if b then F else if c then T else N) ≡ true → c ≡ true
all_by true c h = absurd (cc h)
all_by false true h = refl
all_by false false h = absurd (cc h)

-- AND is true where each item is
pub all_true : (ts : List Tri) → is_so true (all_of ts) ≡ true → list_all (is_so true) ts ≡ true
all_true ts h = all_by (list_any is_false ts) (list_all is_true ts) h

none_by : (b c : Bool) → is_so false (if b then F else if c then T else N) ≡ true → b ≡ true
none_by true c h = refl
none_by false true h = absurd (cc h)
none_by false false h = absurd (cc h)

-- AND is false where an item is
pub one_false : (ts : List Tri) → is_so false (all_of ts) ≡ true → list_any (is_so false) ts ≡ true
one_false ts h = none_by (list_any is_false ts) (list_all is_true ts) h

one_by : (b c : Bool) → is_so true (if b then T else if c then F else N) ≡ true → b ≡ true
one_by true c h = refl
one_by false true h = absurd (cc h)
one_by false false h = absurd (cc h)

-- OR is true where an item is
pub one_true : (ts : List Tri) → is_so true (any_of ts) ≡ true → list_any (is_so true) ts ≡ true
one_true ts h = one_by (list_any is_true ts) (list_all is_false ts) h

each_by : (b c : Bool) → is_so false (if b then T else if c then F else N) ≡ true → c ≡ true
each_by true c h = absurd (cc h)
each_by false true h = refl
each_by false false h = absurd (cc h)

-- OR is false where each item is
pub all_false : (ts : List Tri) → is_so false (any_of ts) ≡ true → list_all (is_so false) ts ≡ true
all_false ts h = each_by (list_any is_true ts) (list_all is_false ts) h

pub and_parts : (a b : Bool) → (a && b) ≡ true → (a ≡ true) × (b ≡ true)
and_parts true b e = (refl, e)
and_parts false b e = absurd (cc e)

pub either : (a b x y : Bool) → (a ≡ true → x ≡ true) → (b ≡ true → y ≡ true) → (a || b) ≡ true → (x || y) ≡ true
either true b x y f g h = ap (λ z. z || y) (f refl)
either false b true y f g h = refl
either false b false y f g h = g h

module _ {X : Type 0} (truth_of : X → Tri) (test : X → Bool) (each : (x : X) → is_so true (truth_of x) ≡ true → test x ≡ true) where
  all_pass : (xs : List X) → list_all (is_so true) (map truth_of xs) ≡ true → list_all test xs ≡ true
  all_pass [] h = refl
  all_pass (x ∷ xs) h = let (f, g) = and_parts (is_so true (truth_of x)) (list_all (is_so true) (map truth_of xs)) h in ap₂ (λ a b. a && b) (each x f) (all_pass xs g)

  one_passes : (xs : List X) → list_any (is_so true) (map truth_of xs) ≡ true → list_any test xs ≡ true
  one_passes [] h = h
  one_passes (x ∷ xs) h = either (is_so true (truth_of x)) (list_any (is_so true) (map truth_of xs)) (test x) (list_any test xs) (each x) (one_passes xs) h

module _ (parts : List Part) (row : List Value) where
  value_agrees : (c : ℕ) (v : Value) → equals (column_value c row) v ≡ true → agrees parts (points parts row) c v ≡ true
  value_agrees c v h = at_key (Unit {0}) (λ n p. is_at_some p (cut_value n v)) c row (λ n _. element_shows n (column_value c row) v h) parts (λ _. tt)

  tuple_agrees : (columns : List ℕ) (key : List Value) → is_so true (row_equality columns key row) ≡ true → list_all (λ e. agrees parts (points parts row) e.0 e.1) (zip columns key) ≡ true
  tuple_agrees columns key h =
      all_pass {X = ℕ × Value} (λ e. comparison Eq (column_value e.0 row) e.1) (λ e. agrees parts (points parts row) e.0 e.1) (λ e f. value_agrees e.0 e.1 f) (zip columns key)
      (all_true (map (λ e. comparison Eq (column_value e.0 row) e.1) (zip columns key)) h)

  -- row IN
  pub row_shows : (columns : List ℕ) (list : List (List Value)) → is_so true (row_membership columns list row) ≡ true
      → list_any (λ key. list_all (λ e. agrees parts (points parts row) e.0 e.1) (zip columns key)) list ≡ true
  row_shows columns list h =
      one_passes (λ key. row_equality columns key row) (λ key. list_all (λ e. agrees parts (points parts row) e.0 e.1) (zip columns key)) (tuple_agrees columns) list
      (one_true (map (λ key. row_equality columns key row) list) h)
