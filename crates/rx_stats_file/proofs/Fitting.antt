-- The statistics that are given suit the table.
use Rattle.std.proofs.Common.{◌≡◌, ℕ, zero, suc, Bool, true, false, not, ◌&&◌, ◌||◌, cond, nat_le, ◌==◌, is_some, List, [], ◌∷◌, length, find, filter_map, All, IfOk, codes, ok_or, option_and_then, eqb-true, leb-true, Option, Some, None, option_map, unwrap_or, Ok, Err, Result, refl, ap, ◌∙◌, subst, arith}
use Rattle.std.specs.List.{list_any, list_all, cons_option}
use Rattle.serde_json.specs.Data.{Data, Items}
use Rattle.serde_json.specs.Find.{as_array, as_number, as_u64}
use Rattle.rx_value.specs.declared.shapes.Index.{Index}
use Rattle.rx_value.specs.declared.shapes.Schema.{Schema}
use Rattle.rx_stats.specs.Statistics.{most_per_key, IsNumber, SuitsIndex, SuitsIndexes, IsStatistics}
use Rattle.rx_stats_file.specs.declared.faults.StatsFault.{StatsFault}
use Rattle.rx_stats_file.specs.Outcomes.{then_of}
use Rattle.rx_stats_file.specs.Members.{Member, listed_items, json_of, records_in}
use Rattle.rx_stats_file.specs.Statistics.{within_bounds, number_of, are_numbers_for, is_list_for, numbers_of, is_named, fits, is_good, numbers_for, replaced, unless_bad, given, stats_in, stats_of}

-- ---- tests

both : (a b : Bool) → a && b ≡ true → (a ≡ true) × (b ≡ true)
both true b e = (refl, e)
both false b e = absurd (cc e)

fails_not : (a : Bool) → not a ≡ false → a ≡ true
fails_not true e = refl
fails_not false e = absurd (cc e)

named_fits : (a b : Bool) → a ≡ true → not a || b ≡ true → b ≡ true
named_fits true b h e = e
named_fits false b h e = absurd (cc h)

found_at : {X : Type 0} (test other : X → Bool) (y : X) (ys : List X) (x : X) (b : Bool) → test y ≡ b → cond b (Some y) (find test ys) ≡ Some x → list_all other (y ∷ ys) ≡ true
    → (find test ys ≡ Some x → list_all other ys ≡ true → (test x ≡ true) × (other x ≡ true)) → (test x ≡ true) × (other x ≡ true)
found_at test other y ys x true e is all later =
    let here : y ≡ x = cc is in
    (subst (λ z. test z ≡ true) here e, subst (λ z. other z ≡ true) here ((both (other y) (list_all other ys) all).0))
found_at test other y ys x false e is all later = later is ((both (other y) (list_all other ys) all).1)

-- what is found passes the test, and whatever each passes
found_by : {X : Type 0} (test other : X → Bool) (xs : List X) (x : X) → find test xs ≡ Some x → list_all other xs ≡ true → (test x ≡ true) × (other x ≡ true)
found_by test other [] x is all = absurd (cc is)
found_by test other (y ∷ ys) x is all = found_at test other y ys x (test y) refl is all (found_by test other ys x)

passes_at : {X : Type 0} (test : X → Bool) (x : X) (xs : List X) (b : Bool) → cond (not b) (Some x) (find (λ y. not (test y)) xs) ≡ None → (find (λ y. not (test y)) xs ≡ None → list_all test xs ≡ true)
    → (b && list_all test xs) ≡ true
passes_at test x xs true is later = later is
passes_at test x xs false is later = absurd (cc is)

-- none fails the test
none_fails : {X : Type 0} (test : X → Bool) (xs : List X) → find (λ x. not (test x)) xs ≡ None → list_all test xs ≡ true
none_fails test [] is = refl
none_fails test (x ∷ xs) is = passes_at test x xs (test x) is (none_fails test xs)

-- what follows of each
all_weaker : {X : Type 0} (test other : X → Bool) → ((x : X) → test x ≡ true → other x ≡ true) → (xs : List X) → list_all test xs ≡ true → list_all other xs ≡ true
all_weaker test other h [] all = refl
all_weaker test other h (x ∷ xs) all =
    let parts = both (test x) (list_all test xs) all in
    ap (λ b. b && list_all other xs) (h x parts.0) ∙ all_weaker test other h xs parts.1

-- ---- numbers

bounded_by : (n m : ℕ) (a b : Bool) → nat_le 1 n ≡ a → nat_le n most_per_key ≡ b → within_bounds n ≡ Some m → IsNumber m
bounded_by n m true true low high is =
    let same : n ≡ m = cc (is, low, high) in
    subst IsNumber same (record { least = leb-true 1 n low; most = leb-true n most_per_key high })
bounded_by n m true false low high is = absurd (cc (is, low, high))
bounded_by n m false b low high is = absurd (cc (is, low))

bounded : (value : Data) (m : ℕ) → number_of value ≡ Some m → IsNumber m
unfolding number_of
bounded value m is = go (option_and_then as_u64 (as_number value)) is where
  go : (o : Option ℕ) → option_and_then within_bounds o ≡ Some m → IsNumber m
  go None e = absurd (cc e)
  go (Some n) e = bounded_by n m (nat_le 1 n) (nat_le n most_per_key) refl refl e

pub All_first : {X : Type 0} (P : X → Type 0) (x : X) (xs : List X) → P x → All P xs → All P (x ∷ xs)
All_first P x xs here all zero d lt = here
All_first P x xs here all (suc k) d lt = all k d (omega (arith, lt))

bounded_more : (value : Data) (numbers : List ℕ) (o : Option ℕ) → number_of value ≡ o → All IsNumber numbers → All IsNumber (cons_option o numbers)
bounded_more value numbers None e all = all
bounded_more value numbers (Some n) e all = All_first IsNumber n numbers (bounded value n e) all

numbers_bounded : (values : List Data) → All IsNumber (filter_map number_of values)
numbers_bounded [] = λ k d lt. absurd (omega (arith, lt))
numbers_bounded (value ∷ values) = bounded_more value (filter_map number_of values) (number_of value) refl (numbers_bounded values)

one_more : (o : Option ℕ) (numbers : List ℕ) (n : ℕ) → is_some o ≡ true → length numbers ≡ n → length (cons_option o numbers) ≡ suc n
one_more None numbers n is e = absurd (cc is)
one_more (Some number) numbers n is e = ap suc e

as_many_numbers : (values : List Data) → list_all (λ value. is_some (number_of value)) values ≡ true → length (filter_map number_of values) ≡ length values
as_many_numbers [] all = refl
as_many_numbers (value ∷ values) all =
    let parts = both (is_some (number_of value)) (list_all (λ value. is_some (number_of value)) values) all in
    one_more (number_of value) (filter_map number_of values) (length values) parts.0 (as_many_numbers values parts.1)

list_suits : (index : Index) (value : Data) → is_list_for index value ≡ true → SuitsIndex index (numbers_of value)
list_suits index value is = go (as_array value) is where
  go : (o : Option Items) → unwrap_or (option_map (λ items. are_numbers_for index (listed_items items)) o) false ≡ true
      → SuitsIndex index (unwrap_or (option_map (λ items. filter_map number_of (listed_items items)) o) [])
  go None e = absurd (cc e)
  go (Some items) e =
      let values = listed_items items in
      let parts = both (length values == length index.parts) (list_all (λ value. is_some (number_of value)) values) e in
      record { as_many = as_many_numbers values parts.1 ∙ eqb-true (length values) (length index.parts) parts.0; each = numbers_bounded values }

-- ---- indexes

one_suits : (members : List Member) (index : Index) (others : List Index) (own : List ℕ) → SuitsIndex index own → list_all (λ m. list_all (fits m) (index ∷ others)) members ≡ true
    → SuitsIndex index (numbers_for members index own)
one_suits members index others own suits all = go (find (λ m. is_named m.0 index) members) refl where
  go : (o : Option Member) → find (λ m. is_named m.0 index) members ≡ o → SuitsIndex index (unwrap_or (option_map (λ m. numbers_of m.1) o) own)
  go None e = suits
  go (Some m) e =
      let found = found_by (λ m. is_named m.0 index) (λ m. list_all (fits m) (index ∷ others)) members m e all in
      list_suits index m.1 (named_fits (is_named m.0 index) (is_list_for index m.1) found.0 ((both (fits m index) (list_all (fits m) others) found.1).0))

all_suit : (members : List Member) (indexes : List Index) (base : List (List ℕ)) → SuitsIndexes indexes base → list_all (λ m. list_all (fits m) indexes) members ≡ true
    → SuitsIndexes indexes (replaced indexes base members)
all_suit members [] [] h all = tt
all_suit members [] (own ∷ base) h all = absurd h
all_suit members (index ∷ indexes) [] h all = absurd h
all_suit members (index ∷ indexes) (own ∷ base) h all = (
  one_suits members index indexes own h.0 all,
  all_suit members indexes base h.1 (all_weaker (λ m. list_all (fits m) (index ∷ indexes)) (λ m. list_all (fits m) indexes) (λ m e. (both (fits m index) (list_all (fits m) indexes) e).1) members all),
)

given_suit : (members : List Member) (indexes : List Index) (base statistics : List (List ℕ)) → SuitsIndexes indexes base → given indexes base members ≡ Ok statistics → SuitsIndexes indexes statistics
given_suit members indexes base statistics suits is = go (find (λ m. not (is_good indexes m)) members) refl is where
  go : (o : Option Member) → find (λ m. not (is_good indexes m)) members ≡ o → unless_bad o (replaced indexes base members) ≡ Ok statistics → SuitsIndexes indexes statistics
  go (Some m) e given_is = absurd (cc given_is)
  go None e given_is =
      let same : replaced indexes base members ≡ statistics = cc given_is in
      subst (SuitsIndexes indexes) same (all_suit members indexes base suits
      (all_weaker (is_good indexes) (λ m. list_all (fits m) indexes) (λ m good. (both (list_any (is_named m.0) indexes) (list_all (fits m) indexes) good).1) members (none_fails (is_good indexes) members e)))

-- ---- a value, a text

in_suits : (schema : Schema) (base statistics : List (List ℕ)) (value : Data) → IsStatistics schema base → stats_in schema base value ≡ Ok statistics → IsStatistics schema statistics
unfolding stats_in
in_suits schema base statistics value suits is = go (records_in value) is where
  go : (o : Option (List Member)) → then_of (ok_or o (codes "records_per_key")) (given schema.indexes base) ≡ Ok statistics → IsStatistics schema statistics
  go None e = absurd (cc e)
  go (Some members) e = given_suit members schema.indexes base statistics suits e

of_suits : (schema : Schema) (base statistics : List (List ℕ)) (text : List ℕ) → IsStatistics schema base → stats_of schema base text ≡ Ok statistics → IsStatistics schema statistics
unfolding stats_of
of_suits schema base statistics text suits is = go (json_of text) is where
  go : (o : Option Data) → then_of (ok_or o (codes "json")) (stats_in schema base) ≡ Ok statistics → IsStatistics schema statistics
  go None e = absurd (cc e)
  go (Some value) e = in_suits schema base statistics value suits e

pub statistics_suit : (schema : Schema) (base : List (List ℕ)) (text : List ℕ) (r : Result (List (List ℕ)) StatsFault) → IsStatistics schema base → IfOk r (λ statistics. stats_of schema base text ≡ Ok statistics)
    → IfOk r (IsStatistics schema)
statistics_suit schema base text (Ok statistics) suits is = of_suits schema base statistics text suits is
statistics_suit schema base text (Err fault) suits is = tt
