-- One disjunct or one conjunct more.
use Rattle.std.proofs.Common.{◌≡◌, ◌+◌, ◌<◌, ◌≤◌, ℕ, List, [], ◌∷◌, ◌++◌, length, map, take, get_or, Option, Some, None, IfSome, All, ap, ap₂, sym, ◌∙◌, subst, arith}
use Rattle.std.specs.List.{flat_map, sum_by}
use Rattle.std.specs.Option.{option_to_list}
use Rattle.std.proofs.lemmas.Grind.{flat_map-append}
use Rattle.std.proofs.lemmas.List.{append-nil, length-map, length-take, map_push, take_more, take_all}
use Rattle.std.proofs.lemmas.List.Elements.{All-nil, All-cons, All-append}
use Rattle.std.proofs.lemmas.List.Sums.{sum_by_push}
use Rattle.rx_index.specs.declared.indexed.Indexed.{Indexed}
use Rattle.rx_cost.specs.declared.candidates.Scan.{Scan}
use Rattle.rx_cost.specs.declared.candidates.Candidate.{Candidate}
use Rattle.rx_plan.specs.Known.{Ranged}
use Rattle.rx_merge_plan.specs.Disjuncts.{found_scan}
use Rattle.rx_merge_plan.specs.Lists.{found_lists}
use Rattle.rx_merge_plan.proofs.Counted.{found_push}

-- what is read of so many first items, by what each refers to
module _ {R C T : Type 0} (now : R → C) (tree : C → T) (xs : List R) (i : ℕ) where
  abbrev pub trees : List T
  trees = map tree (map now (take i xs))

  pub trees_all : length xs ≤ i → trees ≡ map tree (map now xs)
  trees_all past = ap (λ l. map tree (map now l)) (take_all i xs past)

  module _ (x : R) (within : i < length xs) (is : x ≡ get_or xs i x) where
    pub trees_more : map tree (map now (take (i + 1) xs)) ≡ trees ++ tree (now x) ∷ []
    trees_more =
        ap (λ l. map tree (map now l)) (take_more xs i x within)
        ∙ ap (map tree) (map_push now (take i xs) (get_or xs i x))
        ∙ map_push tree (map now (take i xs)) (now (get_or xs i x))
        ∙ ap (λ y. trees ++ tree (now y) ∷ []) (sym is)

    -- the scans of one disjunct more
    pub lists_more : (f : T → List Ranged) (member : ℕ) (lists new : List (List Scan)) (scans : List Scan) → member ≡ 1 + i
        → lists ≡ found_lists 1 (map f trees)
        → scans ≡ map (found_scan member) (f (tree (now x))) → new ≡ lists ++ scans ∷ [] → new ≡ found_lists 1 (map f (map tree (map now (take (i + 1) xs))))
    lists_more f member lists new scans place e g pushed =
        let many : member ≡ 1 + length (map f trees) = omega (
          arith,
          place,
          within,
          length-map trees f,
          length-map (map now (take i xs)) tree,
          length-map
              (take i xs) now,
          length-take i xs,
        ) in
        pushed
        ∙ ap₂ (λ l s. l ++ s ∷ []) e (g ∙ ap (λ m. map (found_scan m) (f (tree (now x)))) many)
        ∙ sym (found_push 1 (map f trees) (f (tree (now x))))
        ∙ ap (found_lists 1) (sym (map_push f trees (tree (now x))) ∙ ap (map f) (sym trees_more))

    -- what one conjunct more adds
    pub gives_more : {D : Type 0} (f : T → List D) (list new more : List D) → list ≡ flat_map f trees → more ≡ f (tree (now x)) → new ≡ list ++ more
        → new ≡ flat_map f (map tree (map now (take (i + 1) xs)))
    gives_more f list new more e g pushed =
        pushed
        ∙ ap₂ (λ l m. l ++ m) e (g ∙ sym (append-nil (f (tree (now x)))))
        ∙ sym (flat_map-append f trees (tree (now x) ∷ []))
        ∙ ap (flat_map f) (sym trees_more)

    pub told_more : (f : Indexed → T → List Candidate) (o : Option Indexed) (list new : List Candidate) (u : Option Candidate)
        → IfSome o (λ t. list ≡ flat_map (f t) trees)
        → IfSome o (λ t. option_to_list u ≡ f t (tree (now x))) → new ≡ list ++ option_to_list u
        → IfSome o (λ t. new ≡ flat_map (f t) (map tree (map now (take (i + 1) xs))))
    told_more f None list new u e g pushed = tt
    told_more f (Some t) list new u e g pushed = gives_more (f t) list new (option_to_list u) e g pushed

    -- and the seeks for it
    pub sum_more : (f : T → ℕ) → sum_by f (map tree (map now (take (i + 1) xs))) ≡ sum_by f trees + f (tree (now x))
    sum_more f = ap (sum_by f) trees_more ∙ sum_by_push f trees (tree (now x))

-- what holds of each so far, and of one more where it is there
pub all_more : {A : Type 0} (P : A → Type 0) (list new : List A) (u : Option A) → All P list → IfSome u P → new ≡ list ++ option_to_list u → All P new
all_more P list new None h k pushed = subst (All P) (sym pushed) (All-append P list [] h (All-nil P))
all_more P list new (Some x) h k pushed = subst (All P) (sym pushed) (All-append P list (x ∷ []) h (All-cons P x [] k (All-nil P)))
