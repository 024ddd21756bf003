-- The union of a disjunction: what is found of its disjuncts, after their ranges were counted, and what a conjunct adds.
use Rattle.std.proofs.Common.{◌≡◌, ◌≤◌, ℕ, Bool, true, false, nat_le, List, [], length, map, Option, Some, None, IfSome, All, if◌then◌else◌, refl, ap, sym, ◌∙◌, subst, arith}
use Rattle.std.specs.List.{filter, filter_map, flat_map, sum_by, AllZip}
use Rattle.std.specs.Option.{option_to_list}
use Rattle.std.proofs.lemmas.Bool.{and_parts}
use Rattle.std.proofs.lemmas.List.{length-map}
use Rattle.std.proofs.lemmas.List.Elements.{All-weaker}
use Rattle.std.proofs.lemmas.Slice.Zip.{AllZip-long}
use Rattle.rx_value.specs.declared.shapes.Schema.{Schema}
use Rattle.rx_value.specs.Shape.{IsSchema}
use Rattle.rx_cond.specs.Tree.{Tree}
use Rattle.rx_cond.specs.Parts.{conjuncts_of, disjuncts_of}
use Rattle.rx_query.specs.declared.settings.Settings.{Settings}
use Rattle.rx_query.specs.Steps.{Question}
use Rattle.rx_index.specs.declared.indexed.Indexed.{Indexed}
use Rattle.rx_store.specs.declared.tables.Counts.{Counts}
use Rattle.rx_store.specs.Tables.{Meaning}
use Rattle.rx_estimate.specs.Estimates.{with_seeks}
use Rattle.rx_estimate.proofs.Steps.{with_seeks-zero}
use Rattle.rx_cost.specs.declared.candidates.Scan.{Scan}
use Rattle.rx_cost.specs.declared.candidates.Candidate.{Candidate}
use Rattle.rx_plan.specs.Known.{Ranged}
use Rattle.rx_merges.specs.Fitting.{AreScans, most_disjuncts}
use Rattle.rx_merges.specs.Unions.{union_of}
use Rattle.rx_merge_plan.specs.Disjuncts.{ranged_by, ranged_lists, is_open, is_disjunction, has_few_disjuncts, is_considered, seeks_of, asks_unions, merge_seeks}
use Rattle.rx_merge_plan.specs.Merges.{CanMerge, union_at, unions}
use Rattle.rx_merge_plan.specs.Lists.{found_lists, found_where, are_open, AreFound, AreCounted, counted_lists, scan_seeks, unions_at, seeks_at, unions_by, seeks_by}
use Rattle.rx_merge_plan.proofs.Gathered.{gathered, sum_gathered}
use Rattle.rx_merge_plan.proofs.Counted.{AreReady, lists_are, as_many, seeks_lists, lists_counted, lists_told, all_ready}
use Rattle.rx_merge_plan.proofs.Open.{too_many, not_open, considered, found_some, found_none}
use Rattle.rx_merge_plan.proofs.Running.{union_runs}

pub at_most : (a b : ℕ) → nat_le a b ≡ true → a ≤ b
at_most a b e = grind (arith, e)

if_weaker : {A : Type 0} (P Q : A → Type 0) → ((x : A) → P x → Q x) → (o : Option A) → IfSome o P → IfSome o Q
if_weaker P Q so None h = tt
if_weaker P Q so (Some x) h = so x h

if_any : {A : Type 0} (Q : A → Type 0) → ((x : A) → Q x) → (o : Option A) → IfSome o Q
if_any Q so None = tt
if_any Q so (Some x) = so x

-- ---- what is found

module _ (settings : Settings) (q : Question) (schema : Schema) (cond : Tree) {R C : Type 0}
    (now : R → C) (tree : C → Tree) (items : List R) (parts : List C) (view : map now items ≡ parts)
    (are : map tree parts ≡ disjuncts_of cond) where
  as_listed : length (ranged_lists settings q schema cond) ≡ length items
  as_listed = omega (
    arith,
    length-map items now,
    ap length view,
    length-map parts tree,
    ap length are,
    length-map (disjuncts_of cond) (ranged_by settings q schema),
  )

  pub few_parts : nat_le (length items) most_disjuncts ≡ true → length parts ≤ most_disjuncts
  few_parts e = omega (arith, at_most (length items) most_disjuncts e, length-map items now, ap length view)

  few_same : has_few_disjuncts (ranged_lists settings q schema cond) ≡ nat_le (length items) most_disjuncts
  few_same = ap (λ n. nat_le n most_disjuncts) as_listed

  pub none_many : nat_le (length items) most_disjuncts ≡ false → None ≡ found_where q schema (ranged_lists settings q schema cond)
  none_many e = too_many q schema (ranged_lists settings q schema cond) (few_same ∙ e)

  module _ (found : List (List Scan)) (is : found ≡ found_lists 1 (map (ranged_by settings q schema) (map tree parts))) where
    found_same : found ≡ found_lists 1 (ranged_lists settings q schema cond)
    found_same = is ∙ ap (λ l. found_lists 1 (map (ranged_by settings q schema) l)) are

    pub none_open : are_open q schema found ≡ false → None ≡ found_where q schema (ranged_lists settings q schema cond)
    none_open e = not_open q schema (ranged_lists settings q schema cond) (ap (are_open q schema) (sym found_same) ∙ e)

    pub some_open : nat_le (length items) most_disjuncts ≡ true → are_open q schema found ≡ true
        → Some found ≡ found_where q schema (ranged_lists settings q schema cond)
    some_open few e =
        ap Some found_same ∙ considered q schema (ranged_lists settings q schema cond) (few_same ∙ few) (ap (are_open q schema) (sym found_same) ∙ e)

-- ---- what is counted and joined

module _ (settings : Settings) (table now : Meaning) (lists counted slice : List (List Scan)) (schema : Schema) (count : ℕ) (same : now ≡ table)
    (p : schema ≡ now.schema) (n : count ≡ now.count)
    (v : slice ≡ counted) (found : All (AreFound table.schema) lists) (are : AllZip (AreCounted settings table) lists counted)
    (few : length lists ≤ most_disjuncts) where
  many_counted : length counted ≤ most_disjuncts
  many_counted = omega (arith, few, AllZip-long (AreCounted settings table) lists counted are)

  pub few_counted : length slice ≤ most_disjuncts
  few_counted = omega (arith, many_counted, ap length v)

  pub all_scans : All (AreScans schema count) slice
  all_scans =
      rw (p, n, same, v) (All-weaker (AreReady table.schema table.count) (AreScans table.schema table.count) (λ s k. k.are) counted
      (all_ready settings table lists counted found are))

  module _ (union : Option Candidate) (is : union ≡ union_of settings schema count slice) where
    union_same : union ≡ union_of settings table.schema table.count counted
    union_same = is ∙ (λ i. union_of settings ((p ∙ ap (λ (m : Meaning). m.schema) same) i) ((n ∙ ap (λ (m : Meaning). m.count) same) i) (v i))

    told_when : (o : Option Indexed) → table.told ≡ o
        → IfSome o (λ t. union ≡ union_of settings table.schema table.count (counted_lists settings table t lists))
    told_when None e = tt
    told_when (Some t) e = union_same ∙ ap (union_of settings table.schema table.count) (lists_told settings table t lists counted e are)

    pub union_told : IfSome table.told (λ t. union ≡ union_of settings table.schema table.count (counted_lists settings table t lists))
    union_told = told_when table.told refl

    pub union_can : IfSome union (CanMerge table.schema)
    union_can =
        subst (λ (o : Option Candidate). IfSome o (CanMerge table.schema)) (sym union_same)
        (union_runs table.schema table.count counted many_counted (all_ready settings table lists counted found are) settings)

-- ---- a disjunction, considered or not

module _ (settings : Settings) (q : Question) (table : Meaning) (cond : Tree) where
  abbrev ranged : List (List Ranged)
  ranged = ranged_lists settings q table.schema cond

  module _ (schema : Schema) (p : schema ≡ table.schema) (o : Option (List (List Scan))) (lists : List (List Scan))
      (f : o ≡ found_where q schema (ranged_lists settings q schema cond))
      (is : o ≡ Some lists) where
    e : o ≡ found_where q table.schema ranged
    e = f ∙ (λ i. found_where q (p i) (ranged_lists settings q (p i) cond))

    is_so : (is_considered q table.schema ranged ≡ true) × (lists ≡ found_lists 1 ranged)
    is_so = found_some q table.schema ranged o lists e is

    pub few_found : length lists ≤ most_disjuncts
    few_found =
        let few = (and_parts (has_few_disjuncts ranged) (is_open q table.schema ranged) is_so.0).0 in
        omega (arith, at_most (length ranged) most_disjuncts few, ap length is_so.1, as_many 1 ranged)

    pub all_found : IsSchema table.schema → All (AreFound table.schema) lists
    all_found limits = subst (All (AreFound table.schema)) (sym is_so.1) (lists_are table.schema settings q 1 (disjuncts_of cond) limits)

    pub joined_told : (union : Option Candidate)
        → IfSome table.told (λ t. union ≡ union_of settings table.schema table.count (counted_lists settings table t lists))
        → IfSome table.told (λ t. option_to_list union ≡ unions_at settings q table t ranged)
    joined_told union h =
        if_weaker (λ t. union ≡ union_of settings table.schema table.count (counted_lists settings table t lists))
        (λ t. option_to_list union ≡ unions_at settings q table t ranged) (λ t k.
        ap option_to_list (k ∙ ap (union_of settings table.schema table.count) (ap (counted_lists settings table t) is_so.1
        ∙ lists_counted settings table t 1 ranged))
        ∙ sym (ap (λ (b : Bool). if b then option_to_list (union_at settings table t ranged) else []) is_so.0)) table.told h

    pub joined_number : sum_by (scan_seeks settings) lists ≡ seeks_at settings q table.schema ranged
    joined_number =
        ap (sum_by (scan_seeks settings)) is_so.1 ∙ seeks_lists settings 1 ranged
        ∙ sym (ap (λ (c : Bool). if c then sum_by (seeks_of settings) ranged else 0) is_so.0)

    pub joined_seeks : (a b : Counts) → b ≡ with_seeks (sum_by (scan_seeks settings) lists) a → b ≡ with_seeks (seeks_at settings q table.schema ranged) a
    joined_seeks a b h = h ∙ ap (λ k. with_seeks k a) joined_number

  module _ (schema : Schema) (p : schema ≡ table.schema) (o : Option (List (List Scan)))
      (f : o ≡ found_where q schema (ranged_lists settings q schema cond)) (is : o ≡ None) where
    isnt : is_considered q table.schema ranged ≡ false
    isnt = found_none q table.schema ranged o (f ∙ (λ i. found_where q (p i) (ranged_lists settings q (p i) cond))) is

    pub none_told : IfSome table.told (λ t. [] ≡ unions_at settings q table t ranged)
    none_told =
        if_any (λ t. [] ≡ unions_at settings q table t ranged)
        (λ t. sym (ap (λ (b : Bool). if b then option_to_list (union_at settings table t ranged) else []) isnt)) table.told

    pub none_number : 0 ≡ seeks_at settings q table.schema ranged
    none_number = sym (ap (λ (c : Bool). if c then sum_by (seeks_of settings) ranged else 0) isnt)

    pub none_seeks : (a : Counts) → a ≡ with_seeks (seeks_at settings q table.schema ranged) a
    none_seeks a = sym (with_seeks-zero a) ∙ ap (λ k. with_seeks k a) none_number

  -- ---- a conjunct, a disjunction or not

  module _ (is : is_disjunction cond ≡ true) where
    pub conjunct_told : (list : List Candidate) → IfSome table.told (λ t. list ≡ unions_at settings q table t ranged)
        → IfSome table.told (λ t. list ≡ unions_by settings q table t cond)
    conjunct_told list h =
        if_weaker (λ t. list ≡ unions_at settings q table t ranged) (λ t. list ≡ unions_by settings q table t cond)
        (λ t k. k ∙ sym (ap (λ (b : Bool). if b then unions_at settings q table t ranged else []) is)) table.told h

    pub conjunct_number : seeks_at settings q table.schema ranged ≡ seeks_by settings q table.schema cond
    conjunct_number = sym (ap (λ (c : Bool). if c then seeks_at settings q table.schema ranged else 0) is)

    pub conjunct_seeks : (a b : Counts) → b ≡ with_seeks (seeks_at settings q table.schema ranged) a
        → b ≡ with_seeks (seeks_by settings q table.schema cond) a
    conjunct_seeks a b h = h ∙ ap (λ k. with_seeks k a) conjunct_number

  module _ (is : is_disjunction cond ≡ false) where
    pub other_told : IfSome table.told (λ t. [] ≡ unions_by settings q table t cond)
    other_told = if_any (λ t. [] ≡ unions_by settings q table t cond)
        (λ t. sym (ap (λ (b : Bool). if b then unions_at settings q table t ranged else []) is)) table.told

    pub other_number : 0 ≡ seeks_by settings q table.schema cond
    other_number = sym (ap (λ (c : Bool). if c then seeks_at settings q table.schema ranged else 0) is)

    pub other_seeks : (a : Counts) → a ≡ with_seeks (seeks_by settings q table.schema cond) a
    other_seeks a = sym (with_seeks-zero a) ∙ ap (λ k. with_seeks k a) other_number

-- ---- all conjuncts

module _ (settings : Settings) (q : Question) (table : Meaning) where
  abbrev all_open : List (List (List Ranged))
  all_open = filter (is_considered q table.schema) (map (ranged_lists settings q table.schema) (filter is_disjunction (conjuncts_of q.cond)))

  module _ (asked : asks_unions settings ≡ true) (trees : List Tree) (are : trees ≡ conjuncts_of q.cond) where
    pub all_told : (list : List Candidate) → IfSome table.told (λ t. list ≡ flat_map (unions_by settings q table t) trees)
        → IfSome table.told (λ t. list ≡ unions settings q table t)
    all_told list h =
        if_weaker (λ t. list ≡ flat_map (unions_by settings q table t) trees) (λ t. list ≡ unions settings q table t) (λ t k.
        k ∙ ap (flat_map (unions_by settings q table t)) are
        ∙ gathered is_disjunction (ranged_lists settings q table.schema) (is_considered q table.schema) (union_at settings table t) (conjuncts_of q.cond)
        ∙ sym (ap (λ (b : Bool). if b then filter_map (union_at settings table t) all_open else []) asked)) table.told h

    pub all_number : sum_by (seeks_by settings q table.schema) trees ≡ merge_seeks settings q table.schema
    all_number =
        ap (sum_by (seeks_by settings q table.schema)) are
        ∙ sum_gathered is_disjunction (ranged_lists settings q table.schema) (is_considered q table.schema) (sum_by (seeks_of settings)) (conjuncts_of q.cond)
        ∙ sym (ap (λ (c : Bool). if c then sum_by (sum_by (seeks_of settings)) all_open else 0) asked)

    pub all_seeks : (a b : Counts) → b ≡ with_seeks (sum_by (seeks_by settings q table.schema) trees) a
        → b ≡ with_seeks (merge_seeks settings q table.schema) a
    all_seeks a b h = h ∙ ap (λ k. with_seeks k a) all_number

  module _ (asked : asks_unions settings ≡ false) where
    pub unasked_told : (list : List Candidate) → list ≡ [] → IfSome table.told (λ t. list ≡ unions settings q table t)
    unasked_told list none =
        if_any (λ t. list ≡ unions settings q table t) (λ t. none
        ∙ sym (ap (λ (b : Bool). if b then filter_map (union_at settings table t) all_open else []) asked)) table.told

    pub unasked_number : 0 ≡ merge_seeks settings q table.schema
    unasked_number = sym (ap (λ (c : Bool). if c then sum_by (sum_by (seeks_of settings)) all_open else 0) asked)

    pub unasked_seeks : (a : Counts) → a ≡ with_seeks (merge_seeks settings q table.schema) a
    unasked_seeks a = sym (with_seeks-zero a) ∙ ap (λ k. with_seeks k a) unasked_number
