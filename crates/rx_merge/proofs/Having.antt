-- Whether lists of row ids have an id, after a search, a sort and where each is left once.
use Rattle.std.proofs.Common.{◌≡◌, inl, inr, ℕ, ◌<◌, ◌≤◌, Bool, true, false, nat_eq, ◌||◌, List, [], ◌∷◌, length, get_or, Result, Ok, Err, Contains, refl, sym, ap, ◌∙◌, arith, eqb}
use Rattle.std.specs.Result.{is_ok, MatchResult}
use Rattle.std.specs.Ordering.{nat_cmp}
use Rattle.std.specs.Cmp.{nat_eq_equiv}
use Rattle.std.specs.List.{list_any, flat_map, dedup}
use Rattle.std.specs.List.Sorted.{IsPermutation, IsSorted, IsBinarySearchResult}
use Rattle.std.proofs.lemmas.Bool.{cases_lt}
use Rattle.std.proofs.lemmas.List.Sorted.{searched, IsNonDecreasingBy-from_sort, list_any-IsPermutation}
use Rattle.std.proofs.lemmas.List.Kept.{Contains-dedup_nat, Contains-from_dedup}
use Rattle.std.proofs.lemmas.Map.Views.{Contains-from_any, list_any-from_Contains, exact_unsigned_eq}
use Rattle.std.proofs.lemmas.List.{get_or_default}
use Rattle.std.proofs.lemmas.List.Folds.{list_any-append, list_any_at}
use Rattle.rx_merge.specs.Ids.{has_id}

-- ---- tests

-- what isn't true is false
pub is_false : (b : Bool) → (b ≡ true → ⊥) → b ≡ false
is_false true h = absurd (h refl)
is_false false h = refl

-- two tests are one where each passes where the other does
pub same_test : (b c : Bool) → (b ≡ true → c ≡ true) → (c ≡ true → b ≡ true) → b ≡ c
same_test true c h k = sym (h refl)
same_test false c h k = sym (is_false c (λ e. cc (k e)))

-- ---- ids

pub same_number : (a b : ℕ) → a ≡ b → nat_eq a b ≡ true
same_number a b e = grind arith

pub has_from_contains : (ids : List ℕ) (id : ℕ) → Contains ids id → has_id ids id ≡ true
has_from_contains ids id h = list_any-from_Contains nat_eq_equiv id ids h

pub contains_from_has : (ids : List ℕ) (id : ℕ) → has_id ids id ≡ true → Contains ids id
contains_from_has ids id e = Contains-from_any exact_unsigned_eq id ids e

-- the first of ids is one of them
pub has_first : (id : ℕ) (ids : List ℕ) → has_id (id ∷ ids) id ≡ true
has_first id ids = ap (λ b. b || has_id ids id) (same_number id id refl)

-- what a search in sorted ids finds
pub search_finds : (ids : List ℕ) (id : ℕ) (r : Result ℕ ℕ) → IsBinarySearchResult (λ y. nat_cmp y id) ids r → IsSorted nat_cmp ids → is_ok r ≡ has_id ids id
search_finds ids id r h sorted = by r (searched ids id r h (λ i j ij jn. IsNonDecreasingBy-from_sort (λ x. x) ids sorted i j 0 ij jn))
  where
    nowhere : (i : ℕ) → (i ≤ length ids) × ((k : ℕ) → k < i → get_or ids k 0 < id) × ((k : ℕ) → i ≤ k → k < length ids → id < get_or ids k 0) → Contains ids id → ⊥
    nowhere i f at =
        let here : get_or ids at.0 0 ≡ id = get_or_default ids at.0 0 id at.1 ∙ at.2 in
        elim (cases_lt at.0 i) [ inl lo ↦ omega (arith, here, f.1 at.0 lo) | inr hi ↦ omega (arith, here, f.2 at.0 hi at.1) ]

    by : (r : Result ℕ ℕ)
        → MatchResult r (λ i. (i < length ids) × (get_or ids i 0 ≡ id)) (λ i. (i ≤ length ids) × ((k : ℕ) → k < i → get_or ids k 0 < id) × ((k : ℕ) → i ≤ k → k < length ids → id < get_or ids k 0))
        → is_ok r ≡ has_id ids id
    by (Ok i) f = sym (list_any_at (nat_eq id) ids i 0 f.0 (same_number id (get_or ids i 0) (sym f.1)))
    by (Err i) f = sym (is_false (has_id ids id) (λ e. nowhere i f (contains_from_has ids id e)))

-- an id is in a rearrangement
pub has_moved : (ids moved : List ℕ) (id : ℕ) → IsPermutation ids moved → has_id moved id ≡ has_id ids id
has_moved ids moved id p = sym (list_any-IsPermutation (nat_eq id) ids moved p)

-- an id is left where each is left once
pub has_once : (ids : List ℕ) (id : ℕ) → has_id (dedup eqb ids) id ≡ has_id ids id
has_once ids id =
    same_test (has_id (dedup eqb ids) id) (has_id ids id)
    (λ e. has_from_contains ids id (Contains-from_dedup eqb ids id (contains_from_has (dedup eqb ids) id e)))
    (λ e. has_from_contains (dedup eqb ids) id (Contains-dedup_nat ids id (contains_from_has ids id e)))

-- an id is in lists one behind the other where it is in one of them
pub has_in_any : (lists : List (List ℕ)) (id : ℕ) → has_id (flat_map (λ ids. ids) lists) id ≡ list_any (λ ids. has_id ids id) lists
has_in_any [] id = refl
has_in_any (ids ∷ lists) id = list_any-append (nat_eq id) ids (flat_map (λ xs. xs) lists) ∙ ap (λ b. has_id ids id || b) (has_in_any lists id)
