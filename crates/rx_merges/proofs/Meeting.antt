-- A union meets each test that the scans of some disjunct meet.
use Rattle.std.proofs.Common.{◌≡◌, ◌≤◌, ◌+◌, ℕ, Bool, true, false, ◌||◌, nat_eq, List, [], ◌∷◌, ◌++◌, length, map, Option, Some, None, IfSome, All, option_map, if◌then◌else◌, refl, ap, ◌∙◌, subst, arith}
use Rattle.std.specs.List.{list_any, flat_map}
use Rattle.std.specs.Option.{option_or}
use Rattle.std.proofs.lemmas.Bool.{and_parts}
use Rattle.std.proofs.lemmas.List.Elements.{All-nil, All-cons, All-append, All-head, All-tail, All-weaker}
use Rattle.std.proofs.lemmas.List.Folds.{list_any-append}
use Rattle.rx_value.specs.declared.ranges.KeyRange.{KeyRange}
use Rattle.rx_value.specs.declared.shapes.Schema.{Schema}
use Rattle.rx_query.specs.declared.settings.Settings.{Settings}
use Rattle.rx_cost.specs.declared.candidates.Scan.{Scan}
use Rattle.rx_cost.specs.declared.candidates.Candidate.{Candidate}
use Rattle.rx_merges.specs.Unions.{all_there, union, sort_union, cheapest, member_of, union_among, sort_union_among, union_of}
use Rattle.rx_merges.specs.Rules.{AreNumbered, all_meet, DoesMeet}
use Rattle.rx_merges.proofs.Ruling.{AreSome, member_some, some_at}
use Rattle.rx_merges.proofs.There.{split_there}

module _ (test : ℕ → List KeyRange → Bool) where
  -- a scan of a member, which meets the test where all scans of its disjunct do
  record IsMarked (n : ℕ) (all : Bool) (s : Scan) : Type 0 where
    number : s.member ≡ n
    meets : all ≡ true → test s.index s.ranges ≡ true

  -- some scans, each of them marked
  record AreMarked (n : ℕ) (all : Bool) (scans : List Scan) : Type 0 where
    some : 1 ≤ length scans
    each : All (IsMarked n all) scans

  marked : (n : ℕ) (list : List Scan) → All (λ s. s.member ≡ n) list → All (IsMarked n (all_meet test list)) list
  marked n [] h = All-nil (IsMarked n true)
  marked n (s ∷ ss) h =
      All-cons (IsMarked n (all_meet test (s ∷ ss))) s ss
      (record { number = All-head (λ (x : Scan). x.member ≡ n) s ss h; meets = λ e. (and_parts (test s.index s.ranges) (all_meet test ss) e).0 })
      (All-weaker (IsMarked n (all_meet test ss)) (IsMarked n (all_meet test (s ∷ ss)))
      (λ x k. record { number = k.number; meets = λ e. k.meets (and_parts (test s.index s.ranges) (all_meet test ss) e).1 }) ss
      (marked n ss (All-tail (λ (x : Scan). x.member ≡ n) s ss h)))

  first_numbered : (n : ℕ) (all : Bool) (scans : List Scan) → AreMarked n all scans → list_any (λ s. nat_eq s.member n) scans ≡ true
  first_numbered n all [] h = absurd (omega (arith, h.some))
  first_numbered n all (s ∷ ss) h =
      let here = All-head (IsMarked n all) s ss h.each in
      by_test (nat_eq s.member n) refl (grind (arith, here.number))
    where
      by_test : (b : Bool) → nat_eq s.member n ≡ b → nat_eq s.member n ≡ true → (b || list_any (λ x. nat_eq x.member n) ss) ≡ true
      by_test true e k = refl
      by_test false e k = absurd (cc (e, k))

  or_first : (b c : Bool) → b ≡ true → (b || c) ≡ true
  or_first true c e = refl
  or_first false c e = absurd (cc e)

  or_second : (b c : Bool) → c ≡ true → (b || c) ≡ true
  or_second true c e = refl
  or_second false c e = e

  -- a member with a number from n on meets the test
  record Meets (n : ℕ) (scans : List Scan) : Type 0 where
    member : ℕ
    from : n ≤ member
    does : DoesMeet test scans member

  module _ {B : Type 0} (f : List Scan → Option B) (g : B → List Scan) (so : (n : ℕ) (all : Bool) (list : List Scan) → All (IsMarked n all) list → IfSome (f list) (λ x. AreMarked n all (g x))) where
    of_first : (n : ℕ) (list : List Scan) (x : B) → All (λ s. s.member ≡ n) list → f list ≡ Some x → AreMarked n (all_meet test list) (g x)
    of_first n list x numbered e = subst (λ (o : Option B). IfSome o (λ y. AreMarked n (all_meet test list) (g y))) e (so n (all_meet test list) list (marked n list numbered))

    -- the numbers of later disjuncts are higher
    numbers_from : (n : ℕ) (lists : List (List Scan)) (xs : List B) → all_there (map f lists) ≡ Some xs → AreNumbered n lists → All (λ s. n ≤ s.member) (flat_map g xs)
    numbers_from n [] xs e numbered = let none : [] ≡ xs = cc e in subst (λ (zs : List B). All (λ s. n ≤ s.member) (flat_map g zs)) none (All-nil (λ (s : Scan). n ≤ s.member))
    numbers_from n (list ∷ lists) xs e numbered =
        let s = split_there (f list) (map f lists) xs e in
        let P : Scan → Type 0 = λ s. n ≤ s.member in
        let first = of_first n list s.0 numbered.0 s.2 in
        subst (λ (zs : List B). All P (flat_map g zs)) s.4
        (All-append P (g s.0) (flat_map g s.1)
        (All-weaker (IsMarked n (all_meet test list)) P (λ y k. omega (arith, k.number)) (g s.0) first.each)
        (All-weaker (λ (y : Scan). n + 1 ≤ y.member) P (λ y k. omega (arith, k)) (flat_map g s.1) (numbers_from (n + 1) lists s.1 s.3 numbered.1)))

    meets_first : (n : ℕ) (x : B) (ys : List B) → AreMarked n true (g x) → All (λ s. n + 1 ≤ s.member) (flat_map g ys) → Meets n (g x ++ flat_map g ys)
    meets_first n x ys first high = record {
      member = n;
      from = omega arith;
      does = record {
        some = list_any-append (λ (s : Scan). nat_eq s.member n) (g x) (flat_map g ys)
            ∙ or_first (list_any (λ (s : Scan). nat_eq s.member n) (g x)) (list_any (λ (s : Scan). nat_eq s.member n) (flat_map g ys)) (first_numbered n true (g x) first);
        all = All-append (λ (s : Scan). s.member ≡ n → test s.index s.ranges ≡ true) (g x) (flat_map g ys)
            (All-weaker (IsMarked n true) (λ (s : Scan). s.member ≡ n → test s.index s.ranges ≡ true) (λ y k e. k.meets refl) (g x) first.each)
            (All-weaker (λ (s : Scan). n + 1 ≤ s.member) (λ (s : Scan). s.member ≡ n → test s.index s.ranges ≡ true) (λ y k e. absurd (omega (arith, k, e))) (flat_map g ys) high);
      };
    }

    meets_later : (n : ℕ) (all : Bool) (x : B) (ys : List B) → AreMarked n all (g x) → Meets (n + 1) (flat_map g ys) → Meets n (g x ++ flat_map g ys)
    meets_later n all x ys first m = record {
      member = m.member;
      from = omega (arith, m.from);
      does = record {
        some = list_any-append (λ (s : Scan). nat_eq s.member m.member) (g x) (flat_map g ys)
            ∙ or_second (list_any (λ (s : Scan). nat_eq s.member m.member) (g x)) (list_any (λ (s : Scan). nat_eq s.member m.member) (flat_map g ys)) m.does.some;
        all = All-append (λ (s : Scan). s.member ≡ m.member → test s.index s.ranges ≡ true) (g x) (flat_map g ys)
            (All-weaker (IsMarked n all) (λ (s : Scan). s.member ≡ m.member → test s.index s.ranges ≡ true) (λ y k e. absurd (omega (arith, k.number, e, m.from))) (g x) first.each)
            m.does.all;
      };
    }

    meets_by : (n : ℕ) (b : Bool) (lists : List (List Scan)) (x : B) (ys : List B) → AreMarked n b (g x) → (b || list_any (all_meet test) lists) ≡ true → All (λ s. n + 1 ≤ s.member) (flat_map g ys)
        → (list_any (all_meet test) lists ≡ true → Meets (n + 1) (flat_map g ys)) → Meets n (g x ++ flat_map g ys)
    meets_by n true lists x ys first some high later = meets_first n x ys first high
    meets_by n false lists x ys first some high later = meets_later n false x ys first (later some)

    union_meets : (n : ℕ) (lists : List (List Scan)) (xs : List B) → all_there (map f lists) ≡ Some xs → AreNumbered n lists → list_any (all_meet test) lists ≡ true → Meets n (flat_map g xs)
    union_meets n [] xs e numbered some = absurd (cc some)
    union_meets n (list ∷ lists) xs e numbered some =
        let s = split_there (f list) (map f lists) xs e in
        subst (λ (zs : List B). Meets n (flat_map g zs)) s.4
        (meets_by n (all_meet test list) lists s.0 s.1 (of_first n list s.0 numbered.0 s.2) some (numbers_from (n + 1) lists s.1 s.3 numbered.1) (λ h. union_meets (n + 1) lists s.1 s.3 numbered.1 h))

  if_weaker : {A : Type 0} (P Q : A → Type 0) → ((x : A) → P x → Q x) → (o : Option A) → IfSome o P → IfSome o Q
  if_weaker P Q so None h = tt
  if_weaker P Q so (Some x) h = so x h

  member_marked : (intersect : Bool) (schema : Schema) (count : ℕ) (n : ℕ) (all : Bool) (list : List Scan) → All (IsMarked n all) list
      → IfSome (member_of intersect schema count list) (λ c. AreMarked n all c.scans)
  member_marked intersect schema count n all list h =
      if_weaker (AreSome (IsMarked n all)) (λ (c : Candidate). AreMarked n all c.scans) (λ c k. record { some = k.some; each = k.each }) (member_of intersect schema count list)
      (member_some (IsMarked n all) (λ s k. record { number = k.number; meets = k.meets }) intersect schema count list h)

  cheapest_marked : (n : ℕ) (all : Bool) (list : List Scan) → All (IsMarked n all) list → IfSome (cheapest list) (λ s. AreMarked n all (s ∷ []))
  cheapest_marked n all list h =
      if_weaker (IsMarked n all) (λ (s : Scan). AreMarked n all (s ∷ [])) (λ s k. record { some = omega arith; each = All-cons (IsMarked n all) s [] k (All-nil (IsMarked n all)) }) (cheapest list)
      (some_at (IsMarked n all) list _ h)

  ones : (xs : List Scan) → flat_map (λ s. s ∷ []) xs ≡ xs
  ones [] = refl
  ones (x ∷ xs) = ap (λ l. x ∷ l) (ones xs)

  module _ (lists : List (List Scan)) (numbered : AreNumbered 1 lists) (some : list_any (all_meet test) lists ≡ true) (c : Candidate) where
    of_union : (intersect : Bool) (schema : Schema) (count : ℕ) (o : Option (List Candidate)) → all_there (map (member_of intersect schema count) lists) ≡ o → option_map union o ≡ Some c → Meets 1 c.scans
    of_union intersect schema count None is e = absurd (cc e)
    of_union intersect schema count (Some ms) is e =
        let same : union ms ≡ c = cc e in
        subst (λ (x : Candidate). Meets 1 x.scans) same (union_meets (member_of intersect schema count) (λ m. m.scans) (member_marked intersect schema count) 1 lists ms is numbered some)

    of_sort_union : (o : Option (List Scan)) → all_there (map cheapest lists) ≡ o → option_map sort_union o ≡ Some c → Meets 1 c.scans
    of_sort_union None is e = absurd (cc e)
    of_sort_union (Some ss) is e =
        let same : sort_union ss ≡ c = cc e in
        subst (λ (x : Candidate). Meets 1 x.scans) same (subst (Meets 1) (ones ss) (union_meets cheapest (λ s. s ∷ []) cheapest_marked 1 lists ss is numbered some))

    where_asked : (b : Bool) (o : Option Candidate) → (if b then o else None) ≡ Some c → o ≡ Some c
    where_asked true o e = e
    where_asked false o e = absurd (cc e)

    of_either : (a b : Option Candidate) → option_or a b ≡ Some c → (a ≡ Some c → Meets 1 c.scans) → (b ≡ Some c → Meets 1 c.scans) → Meets 1 c.scans
    of_either None b e h k = k e
    of_either (Some x) b e h k = h e

    -- a union meets the test
    pub meets : (settings : Settings) (schema : Schema) (count : ℕ) → union_of settings schema count lists ≡ Some c → (member : ℕ) × DoesMeet test c.scans member
    meets settings schema count e =
        let m = of_either (if settings.union_on then union_among settings.intersection schema count lists else None) (if settings.sort_union then sort_union_among lists else None) e
        (λ h. of_union settings.intersection schema count _ refl (where_asked settings.union_on (union_among settings.intersection schema count lists) h))
        (λ h. of_sort_union _ refl (where_asked settings.sort_union (sort_union_among lists) h)) in
        (m.member, m.does)
