-- The ids of members, by the ids of their scans.
use Rattle.std.proofs.Common.{◌≡◌, ℕ, ◌<◌, Bool, true, false, nat_eq, ◌&&◌, ◌||◌, cond, List, [], ◌∷◌, ◌++◌, length, map, filter, get_or, Option, Some, None, IfSome, All, refl, sym, ap, ap₂, ◌∙◌, subst, arith, append-nil, length-append}
use Rattle.std.specs.Prelude.{if◌then◌else◌}
use Rattle.std.specs.Ordering.{nat_cmp, eq_by_cmp}
use Rattle.std.specs.Cmp.{nat_cmp_total}
use Rattle.std.specs.List.{list_any, list_all}
use Rattle.std.specs.BTreeMap.{BTreeMap, IsOrdered, get, keys, values}
use Rattle.std.proofs.lemmas.Bool.{eqb-true}
use Rattle.std.proofs.lemmas.Cmp.{eq_by_cmp_equiv}
use Rattle.std.proofs.lemmas.List.Elements.{All-head, All-tail, All-filter, All-contains, Contains-get_or, filter-append}
use Rattle.std.proofs.lemmas.List.Folds.{list_all-append, Any-from_list_any, list_any-from_Any}
use Rattle.std.proofs.lemmas.Map.Lookups.{exact_unsigned}
use Rattle.std.proofs.lemmas.Map.Views.{any-filter_same, btree_map_get_iff, All-values_from_lookup}
use Rattle.std.proofs.lemmas.Map.Keys.{IsDistinct-from_sorted}
use Rattle.rx_merge.specs.Ids.{has_id, met_ids, HasOfAll}
use Rattle.rx_merge.proofs.Having.{same_test, same_number, contains_from_has, has_from_contains}

-- ---- tests of elements

any_agree : {X : Type 0} (p q : X → Bool) (xs : List X) → All (λ x. p x ≡ q x) xs → list_any p xs ≡ list_any q xs
any_agree p q [] h = refl
any_agree p q (x ∷ xs) h = ap₂ (λ a b. a || b) (All-head (λ y. p y ≡ q y) x xs h) (any_agree p q xs (All-tail (λ y. p y ≡ q y) x xs h))

all_agree : {X : Type 0} (p q : X → Bool) (xs : List X) → All (λ x. p x ≡ q x) xs → list_all p xs ≡ list_all q xs
all_agree p q [] h = refl
all_agree p q (x ∷ xs) h = ap₂ (λ a b. a && b) (All-head (λ y. p y ≡ q y) x xs h) (all_agree p q xs (All-tail (λ y. p y ≡ q y) x xs h))

any_mapped : {X Y : Type 0} (p : Y → Bool) (f : X → Y) (xs : List X) → list_any p (map f xs) ≡ list_any (λ x. p (f x)) xs
any_mapped p f [] = refl
any_mapped p f (x ∷ xs) = ap (λ b. p (f x) || b) (any_mapped p f xs)

any_or_more : {X : Type 0} (b : Bool) (x : X) (kept : List X) (c : Bool) → (0 < length kept → c ≡ true) → 0 < length (cond b (x ∷ kept) kept) → (b || c) ≡ true
any_or_more true x kept c h lt = refl
any_or_more false x kept c h lt = h lt

-- one passes where some are kept
any_from_kept : {X : Type 0} (p : X → Bool) (xs : List X) → 0 < length (filter p xs) → list_any p xs ≡ true
any_from_kept p [] lt = absurd (omega (arith, lt))
any_from_kept p (x ∷ xs) lt = any_or_more (p x) x (filter p xs) (list_any p xs) (any_from_kept p xs) lt

kept_or_more : {X : Type 0} (b : Bool) (x : X) (kept : List X) (c : Bool) → (c ≡ true → 0 < length kept) → (b || c) ≡ true → 0 < length (cond b (x ∷ kept) kept)
kept_or_more true x kept c h e = omega arith
kept_or_more false x kept c h e = h e

-- some are kept where one passes
kept_from_any : {X : Type 0} (p : X → Bool) (xs : List X) → list_any p xs ≡ true → 0 < length (filter p xs)
kept_from_any p [] e = absurd (cc e)
kept_from_any p (x ∷ xs) e = kept_or_more (p x) x (filter p xs) (list_any p xs) (kept_from_any p xs) e

-- ---- ids in two lists

same_has : (found : List ℕ) (id k : ℕ) → nat_eq id k ≡ true → has_id found k ≡ has_id found id
same_has found id k e = ap (has_id found) (sym (eqb-true id k e))

-- an id is left of those that are among others where it is one of both
pub has_common : (ids found : List ℕ) (id : ℕ) → has_id (filter (has_id found) ids) id ≡ (has_id found id && has_id ids id)
has_common ids found id = any-filter_same (nat_eq id) (has_id found) (has_id found id) (λ k e. same_has found id k e) ids

swapped : (a b : Bool) → (a && b) ≡ (b && (a && true))
swapped true true = refl
swapped true false = refl
swapped false true = refl
swapped false false = refl

and_true : (a : Bool) → a ≡ (a && true)
and_true true = refl
and_true false = refl

-- ---- members

module _ {X : Type 0} (number : X → ℕ) where
  -- those with a number
  abbrev pub of : ℕ → List X → List X
  of n xs = filter (λ x. nat_eq (number x) n) xs

  -- of some number all pass
  abbrev pub some_pass : (X → Bool) → List X → Bool
  some_pass test xs = list_any (λ x. list_all test (of (number x) xs)) xs

  -- tests that agree on each element agree on the members
  pub some_agree : (p q : X → Bool) (xs : List X) → All (λ x. p x ≡ q x) xs → some_pass p xs ≡ some_pass q xs
  some_agree p q xs h = any_agree (λ x. list_all p (of (number x) xs)) (λ x. list_all q (of (number x) xs)) xs (λ k d lt.
      let n = number (get_or xs k d) in
      all_agree p q (of n xs) (All-filter (λ x. nat_eq (number x) n) (λ x. p x ≡ q x) xs h))

  module _ (passes : X → ℕ → Bool) where
    first_or_more : (these : List X) (x : X) (found : List ℕ) (old : Option (List ℕ)) → ((id : ℕ) → has_id found id ≡ passes x id) → HasOfAll passes these old
        → HasOfAll passes (these ++ x ∷ []) (Some (met_ids old found))
    first_or_more these x found None h m =
        subst (λ (l : List X). HasOfAll passes (l ++ x ∷ []) (Some found)) (sym m) (omega arith, λ id. h id ∙ and_true (passes x id))
    first_or_more these x found (Some ids) h m = (
      omega (arith, length-append these (x ∷ [])),
      λ id.
          has_common ids found id
          ∙ ap₂ (λ a b. a && b) (h id) (m.1 id)
          ∙ swapped (passes x id) (list_all (λ y. passes y id) these)
          ∙ sym (list_all-append (λ y. passes y id) these (x ∷ [])),
    )

    by_number : (b : Bool) (these : List X) (x : X) (found : List ℕ) (old here : Option (List ℕ)) → ((id : ℕ) → has_id found id ≡ passes x id)
        → HasOfAll passes these old → (b ≡ true → here ≡ old) → HasOfAll passes (these ++ cond b (x ∷ []) []) (if b then Some (met_ids here found) else old)
    by_number true these x found old here h m same =
        subst (λ (o : Option (List ℕ)). HasOfAll passes (these ++ x ∷ []) (Some (met_ids o found))) (sym (same refl)) (first_or_more these x found old h m)
    by_number false these x found old here h m same = subst (λ (l : List X). HasOfAll passes l old) (sym (append-nil these)) m

    -- the ids of a number with one element more
    pub member_more : (f : ℕ → Option (List ℕ)) (done : List X) (x : X) (found : List ℕ) → ((n : ℕ) → HasOfAll passes (of n done) (f n)) → ((id : ℕ) → has_id found id ≡ passes x id)
        → (n : ℕ) → HasOfAll passes (of n (done ++ x ∷ [])) (if nat_eq (number x) n then Some (met_ids (f (number x)) found) else f n)
    member_more f done x found m h n =
        subst (λ (l : List X). HasOfAll passes l (if nat_eq (number x) n then Some (met_ids (f (number x)) found) else f n))
        (sym (filter-append (λ y. nat_eq (number y) n) done (x ∷ [])))
        (by_number (nat_eq (number x) n) (of n done) x found (f n) (f (number x)) h (m n) (λ e. ap f (eqb-true (number x) n e)))

    module _ (xs : List X) (members : BTreeMap ℕ (List ℕ)) (ordered : IsOrdered nat_cmp members) (all : (n : ℕ) → HasOfAll passes (of n xs) (get nat_cmp members n)) (id : ℕ) where
      abbrev all_pass : ℕ → Bool
      all_pass n = list_all (λ x. passes x id) (of n xs)

      passes_by : (n : ℕ) (ids : List ℕ) → get nat_cmp members n ≡ Some ids → has_id ids id ≡ true → some_pass (λ x. passes x id) xs ≡ true
      passes_by n ids found has =
          let member : HasOfAll passes (of n xs) (Some ids) = subst (HasOfAll passes (of n xs)) found (all n) in
          let one = Any-from_list_any (λ x. nat_eq (number x) n) xs (any_from_kept (λ x. nat_eq (number x) n) xs member.0) in
          list_any-from_Any (λ x. all_pass (number x)) xs
          (one.0, one.1, one.2, one.3, ap all_pass (eqb-true (number one.1) n one.4) ∙ sym (member.1 id) ∙ has)

      held_passes : list_any (λ held. has_id held id) (values members) ≡ true → some_pass (λ x. passes x id) xs ≡ true
      held_passes e =
          let at = Any-from_list_any (λ e. has_id e.1 id) members.entries (sym (any_mapped (λ held. has_id held id) (λ e. e.1) members.entries) ∙ e) in
          passes_by at.1.0 at.1.1 ((btree_map_get_iff nat_cmp_total exact_unsigned members ordered at.1.0 at.1.1).1 (at.0, at.2, at.3)) at.4

      held_by : (x : X) → list_any (λ y. nat_eq (number y) (number x)) xs ≡ true → all_pass (number x) ≡ true → (o : Option (List ℕ)) → get nat_cmp members (number x) ≡ o → HasOfAll passes (of (number x) xs) o
          → list_any (λ e. has_id e.1 id) members.entries ≡ true
      held_by x some pass None found none = absurd (omega (arith, kept_from_any (λ y. nat_eq (number y) (number x)) xs some, ap length none))
      held_by x some pass (Some ids) found member =
          let at = (btree_map_get_iff nat_cmp_total exact_unsigned members ordered (number x) ids).0 found in
          list_any-from_Any (λ e. has_id e.1 id) members.entries (at.0, (number x, ids), at.1, at.2, member.1 id ∙ pass)

      passed_held : some_pass (λ x. passes x id) xs ≡ true → list_any (λ held. has_id held id) (values members) ≡ true
      passed_held e =
          let one = Any-from_list_any (λ x. all_pass (number x)) xs e in
          let x = one.1 in
          any_mapped (λ held. has_id held id) (λ e. e.1) members.entries
          ∙ held_by x (list_any-from_Any (λ y. nat_eq (number y) (number x)) xs (one.0, x, one.2, one.3, same_number (number x) (number x) refl)) one.4
          (get nat_cmp members (number x)) refl (all (number x))

      -- an id is held where all of some number pass it
      pub held_is : list_any (λ held. has_id held id) (values members) ≡ some_pass (λ x. passes x id) xs
      held_is = same_test (list_any (λ held. has_id held id) (values members)) (some_pass (λ x. passes x id) xs) held_passes passed_held

-- what holds of all ids of the members holds of each that is held
pub held_all : (P : ℕ → Type 0) (members : BTreeMap ℕ (List ℕ)) → IsOrdered nat_cmp members → ((n : ℕ) → IfSome (get nat_cmp members n) (All P))
    → (ids : List ℕ) → ((id : ℕ) → has_id ids id ≡ list_any (λ held. has_id held id) (values members)) → All P ids
held_all P members ordered h ids same = λ k d lt.
    let id = get_or ids k d in
    let lists : All (All P) (values members) =
    All-values_from_lookup {eq = eq_by_cmp nat_cmp} (eq_by_cmp_equiv nat_cmp_total) (All P) members.entries (IsDistinct-from_sorted nat_cmp (keys members) ordered) h in
    let at = Any-from_list_any (λ held. has_id held id) (values members) (sym (same id) ∙ has_from_contains ids id (Contains-get_or ids k d lt)) in
    All-contains P at.1 id (All-contains (All P) (values members) at.1 lists (at.0, at.2, at.3)) (contains_from_has at.1 id at.4)
