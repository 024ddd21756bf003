-- The defined intersections and unions can be run, whatever rows a table tells.
use Rattle.std.proofs.Common.{◌≡◌, ◌+◌, ◌<◌, ℕ, Bool, true, false, List, [], ◌∷◌, ◌++◌, length, map, Option, Some, None, IfSome, All, cond, if◌then◌else◌, refl, ap, arith}
use Rattle.std.specs.List.{filter, filter_map, cons_option, AllByRecursion}
use Rattle.std.proofs.lemmas.Bool.{and_parts}
use Rattle.std.proofs.lemmas.List.{length-map}
use Rattle.std.proofs.lemmas.List.Elements.{All-nil, All-append, All-weaker, All-from_recursion}
use Rattle.rx_cond.specs.Tree.{Tree}
use Rattle.rx_cond.specs.Parts.{disjuncts_of}
use Rattle.rx_query.specs.declared.settings.Settings.{Settings}
use Rattle.rx_query.specs.Steps.{Question}
use Rattle.rx_index.specs.declared.indexed.Indexed.{Indexed}
use Rattle.rx_store.specs.Tables.{Meaning, IsMeaning}
use Rattle.rx_cost.specs.declared.candidates.Role.TheVariants.{Scan as ScanRole}
use Rattle.rx_cost.specs.declared.candidates.Scan.{Scan}
use Rattle.rx_cost.specs.declared.candidates.Candidate.{Candidate}
use Rattle.rx_plan.specs.Naming.{columns_named}
use Rattle.rx_plan.specs.Known.{Ranged, known_by}
use Rattle.rx_merges.specs.Fitting.{IsCounted, most_disjuncts}
use Rattle.rx_merges.specs.Rules.{AreOfCondition, IsIntersection}
use Rattle.rx_merges.proofs.Ruling.{intersections_are}
use Rattle.rx_merge_plan.specs.Disjuncts.{ranged_by, ranged_lists, disjunctions, is_open, has_few_disjuncts, is_considered, open_lists, scans_of, scan_lists, asks_unions, asks_intersections}
use Rattle.rx_merge_plan.specs.Merges.{intersections_at, intersections, union_at, unions, CanMeet, CanMerge}
use Rattle.rx_merge_plan.proofs.Narrowed.{IsNarrowed, all_narrowed, few_narrowed}
use Rattle.rx_merge_plan.proofs.Counted.{AreReady}
use Rattle.rx_merge_plan.proofs.Disjoined.{at_most}
use Rattle.rx_merge_plan.proofs.Primary.{one_primary}
use Rattle.rx_merge_plan.proofs.Running.{intersections_run, union_runs}

-- what holds of all that is given holds of the list of it
module _ {A B : Type 0} (P : B → Type 0) (h : A → Option B) where
  given_first : (o : Option B) (ys : List B) → IfSome o P → AllByRecursion P ys → AllByRecursion P (cons_option o ys)
  given_first None ys k later = later
  given_first (Some y) ys k later = (k, later)

  all_given : (xs : List A) → AllByRecursion (λ x. IfSome (h x) P) xs → AllByRecursion P (filter_map h xs)
  all_given [] k = tt
  all_given (x ∷ xs) k = given_first (h x) (filter_map h xs) k.0 (all_given xs k.1)

where_asked : (P : Candidate → Type 0) (b : Bool) (list : List Candidate) → All P list → All P (if b then list else [])
where_asked P true list h = h
where_asked P false list h = All-nil P

module _ (settings : Settings) (q : Question) (table : Meaning) (t : Indexed) (sound : IsMeaning table) where
  each_meets : (member : ℕ) (rs : List Ranged) → AllByRecursion (IsNarrowed table.schema) rs
      → AllByRecursion (CanMeet table.schema) (scans_of settings table t member rs)
  each_meets member [] h = tt
  each_meets member (r ∷ rs) h = (record { there = h.0.there; ranges = h.0.few; role = tt }, each_meets member rs h.1)

  each_counted : (member : ℕ) (rs : List Ranged) → AllByRecursion (IsNarrowed table.schema) rs
      → AllByRecursion (IsCounted table.count) (scans_of settings table t member rs)
  each_counted member [] h = tt
  each_counted member (r ∷ rs) h = (record { rows = omega arith; ranges = h.0.few }, each_counted member rs h.1)

  same_indexes : (member : ℕ) (rs : List Ranged) → map (λ s. s.index) (scans_of settings table t member rs) ≡ map (λ r. r.index) rs
  same_indexes member [] = refl
  same_indexes member (r ∷ rs) = ap (λ l. r.index ∷ l) (same_indexes member rs)

  roles : (member : ℕ) (rs : List Ranged) → AllByRecursion (λ s. s.role ≡ ScanRole) (scans_of settings table t member rs)
  roles member [] = tt
  roles member (r ∷ rs) = (refl, roles member rs)

  scans_ready : (member : ℕ) (tree : Tree) → AreReady table.schema table.count (scans_of settings table t member (ranged_by settings q table.schema tree))
  scans_ready member tree =
      let rs = ranged_by settings q table.schema tree in
      let scans = scans_of settings table t member rs in
      let narrowed = all_narrowed settings q table.schema tree in
      let each = All-from_recursion (CanMeet table.schema) scans (each_meets member rs narrowed) in
      record {
        are = record {
          there = All-weaker (CanMeet table.schema) (λ s. s.index < length table.schema.indexes) (λ s k. k.there) scans each;
          counted = All-from_recursion (IsCounted table.count) scans (each_counted member rs narrowed);
          few = omega (
            arith,
            few_narrowed settings q table.schema tree sound.limits,
            length-map rs (λ (r : Ranged). r.index),
            ap length
                (same_indexes member rs),
            length-map scans (λ (s : Scan). s.index),
          );
        };
        each = each;
      }

  -- ---- intersections

  pub defined_met_run : All (CanMerge table.schema) (intersections settings q table t (known_by settings q table.schema q.cond))
  defined_met_run =
      let rs = ranged_by settings q table.schema q.cond in
      let h = scans_ready 1 q.cond in
      where_asked (CanMerge table.schema) (asks_intersections settings) (intersections_at settings q table t rs)
      (intersections_run table.schema table.count (scans_of settings table t 1 rs) h.are h.each true (columns_named q table.schema))

  pub defined_met_rules : All (IsIntersection table.schema) (intersections settings q table t (known_by settings q table.schema q.cond))
  defined_met_rules =
      let rs = ranged_by settings q table.schema q.cond in
      let scans = scans_of settings table t 1 rs in
      let are : AreOfCondition table.schema scans = record {
        roles = All-from_recursion (λ s. s.role ≡ ScanRole) scans (roles 1 rs);
        primary = one_primary settings q table.schema q.cond scans sound.limits (same_indexes 1 rs);
      } in
      where_asked (IsIntersection table.schema) (asks_intersections settings) (intersections_at settings q table t rs)
      (intersections_are true (columns_named q table.schema) table.schema table.count scans are)

  -- ---- unions

  each_ready : (member : ℕ) (trees : List Tree)
      → AllByRecursion (AreReady table.schema table.count) (scan_lists settings table t member (map (ranged_by settings q table.schema) trees))
  each_ready member [] = tt
  each_ready member (tree ∷ trees) = (scans_ready member tree, each_ready (member + 1) trees)

  as_many : (member : ℕ) (lists : List (List Ranged)) → length (scan_lists settings table t member lists) ≡ length lists
  as_many member [] = refl
  as_many member (list ∷ lists) = omega (arith, as_many (member + 1) lists)

  one_runs : (tree : Tree) → is_considered q table.schema (ranged_lists settings q table.schema tree) ≡ true
      → IfSome (union_at settings table t (ranged_lists settings q table.schema tree)) (CanMerge table.schema)
  one_runs tree e =
      let lists = ranged_lists settings q table.schema tree in
      let few = at_most (length lists) most_disjuncts (and_parts (has_few_disjuncts lists) (is_open q table.schema lists) e).0 in
      union_runs table.schema table.count (scan_lists settings table t 1 lists) (omega (arith, few, as_many 1 lists))
      (All-from_recursion (AreReady table.schema table.count) (scan_lists settings table t 1 lists) (each_ready 1 (disjuncts_of tree))) settings

  abbrev Runs : List (List Ranged) → Type 0
  Runs lists = IfSome (union_at settings table t lists) (CanMerge table.schema)

  kept : (b : Bool) (lists : List (List Ranged)) (more : List (List (List Ranged))) → (b ≡ true → Runs lists) → AllByRecursion Runs more
      → AllByRecursion Runs (cond b (lists ∷ more) more)
  kept true lists more h later = (h refl, later)
  kept false lists more h later = later

  each_runs : (trees : List Tree) → AllByRecursion Runs (filter (is_considered q table.schema) (map (ranged_lists settings q table.schema) trees))
  each_runs [] = tt
  each_runs (tree ∷ trees) =
      let lists = ranged_lists settings q table.schema tree in
      kept (is_considered q table.schema lists) lists (filter (is_considered q table.schema) (map (ranged_lists settings q table.schema) trees))
      (one_runs tree) (each_runs trees)

  defined_unions_run : All (CanMerge table.schema) (unions settings q table t)
  defined_unions_run =
      let lists = open_lists settings q table.schema in
      where_asked (CanMerge table.schema) (asks_unions settings) (filter_map (union_at settings table t) lists)
      (All-from_recursion (CanMerge table.schema) (filter_map (union_at settings table t) lists)
      (all_given (CanMerge table.schema) (union_at settings table t) lists (each_runs (disjunctions q))))

  -- both
  pub defined_run : All (CanMerge table.schema) (intersections settings q table t (known_by settings q table.schema q.cond) ++ unions settings q table t)
  defined_run =
      All-append (CanMerge table.schema) (intersections settings q table t (known_by settings q table.schema q.cond)) (unions settings q table t)
      defined_met_run defined_unions_run
