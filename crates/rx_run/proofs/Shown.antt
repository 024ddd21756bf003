-- An intersection that reads no row hands out its rows as its scans show them.
use Rattle.std.proofs.Common.{◌≡◌, ℕ, suc, ◌<◌, Bool, true, false, ◌&&◌, ◌||◌, nat_eq, List, [], ◌∷◌, ◌++◌, map, filter, length, slice_get, Option, Some, None, IfSome, if◌then◌else◌, cond, All, refl, sym, ap, ap₂, ◌∙◌, subst, arith}
use Rattle.std.specs.Prelude.{◌≤ℤ◌, ℤ, pos, neg_ℤ, int_le, is_none}
use Rattle.std.specs.List.{list_any, list_all, cons_option, filter_map, range_with_len, AllByRecursion}
use Rattle.std.proofs.lemmas.Bool.{and_parts, eqb-true}
use Rattle.std.proofs.lemmas.List.{length-map, length-append}
use Rattle.std.proofs.lemmas.List.Elements.{All-get_or, recursion_from_All}
use Rattle.std.proofs.lemmas.List.FromFn.{length-range_with_len, get_or-range_with_len}
use Rattle.std.proofs.lemmas.Option.{unwrap_or-slice_get}
use Rattle.rx_value.specs.declared.values.Value.{Value}
use Rattle.rx_value.specs.declared.values.Value.TheVariants.{Null, Int, Text}
use Rattle.rx_value.specs.declared.ranges.KeyRange.{KeyRange}
use Rattle.rx_value.specs.declared.shapes.Column.{Column}
use Rattle.rx_value.specs.declared.shapes.Part.{Part}
use Rattle.rx_value.specs.declared.shapes.Schema.{Schema}
use Rattle.rx_value.specs.Shape.{FitsColumns, FitsRow}
use Rattle.rx_value.specs.Range.{behind}
use Rattle.rx_value.specs.Keys.{column_value, cut_value, part_value, key_of, goes_on, holds}
use Rattle.rx_value.specs.Order.{value_cmp}
use Rattle.rx_value.proofs.Equal.{value_cmp-equal}
use Rattle.std.specs.declared.cmp.Ordering.{Ordering}
use Rattle.std.specs.declared.cmp.Ordering.TheVariants.{Less, Equal, Greater}
use Rattle.rx_aggregate.specs.Aggregates.{IsSmall}
use Rattle.rx_index.specs.declared.indexed.Indexed.{Indexed}
use Rattle.rx_index.specs.Entries.{row_at}
use Rattle.rx_store.specs.Tables.{Meaning, IsMeaning, IsTold}
use Rattle.rx_cost.specs.declared.candidates.Role.{Role}
use Rattle.rx_cost.specs.declared.candidates.Role.TheVariants.{Scan as InRanges}
use Rattle.rx_cost.specs.declared.candidates.Scan.{Scan}
use Rattle.rx_cost.specs.declared.candidates.Candidate.{Candidate}
use Rattle.rx_estimate.specs.Estimates.{parts_in}
use Rattle.rx_scan.specs.Laws.{is_in_ranges}
use Rattle.rx_scan.proofs.Types.{row_types}
use Rattle.rx_scan.proofs.Seeks.{same_parts}
use Rattle.rx_merge.specs.Merged.{IsMerge, scans_of, merged_ids}
use Rattle.rx_merge.specs.Laws.{is_in_scan, is_in_member, merged_rows, AreByIdWhereRead}
use Rattle.rx_merge.proofs.Found.{rows_found}
use Rattle.rx_run.specs.Made.{has_whole, point_on, points_of, point_in_role, scan_point, first_point, is_small, small_value, made_value, made_row}
use Rattle.rx_run.specs.Ways.{handed}
use Rattle.rx_run.specs.Ways.Way.{by_id, made}
use Rattle.rx_run.specs.Visits.{is_merge, way_of_merge, visited_by, visited}
use Rattle.rx_run.specs.Laws.{shows_in_role, shows_column, has_column, shown_row, AreOfOneKey, IsShown}
use Rattle.rx_run.proofs.Small.{small_row}

-- ---- a point is what a row has

-- values that begin with points are these and what follows
splits : (vs ps rest : List Value) → behind vs ps ≡ Some rest → vs ≡ ps ++ rest
splits vs [] rest e = cc e
splits [] (p ∷ ps) rest e = absurd (cc e)
splits (v ∷ vs) (p ∷ ps) rest e = by (value_cmp v p) refl e (λ h. splits vs ps rest h)
  where
    by : (o : Ordering) → value_cmp v p ≡ o → elim o [ Equal ↦ behind vs ps | _ ↦ None ] ≡ Some rest → (behind vs ps ≡ Some rest → vs ≡ ps ++ rest) → v ∷ vs ≡ p ∷ (ps ++ rest)
    by Less e f later = absurd (cc f)
    by Equal e f later = ap₂ (λ x xs. x ∷ xs) (value_cmp-equal v p e) (later f)
    by Greater e f later = absurd (cc f)

-- the key of which a range has all values is its points
only_points : (key points rest : List Value) → key ≡ points ++ rest → length points ≡ length key → key ≡ points
only_points key points [] e same = e ∙ append_none points
  where
    append_none : (xs : List Value) → xs ++ [] ≡ xs
    append_none [] = refl
    append_none (x ∷ xs) = ap (λ l. x ∷ l) (append_none xs)
only_points key points (v ∷ vs) e same = absurd (omega (arith, same, ap length e, length-append points (v ∷ vs)))

all_points : (range : KeyRange) (key : List Value) → range.last ≡ None → length range.points ≡ length key → holds range key ≡ true → key ≡ range.points
all_points range key none same h = by (behind key range.points) refl h
  where
    by : (o : Option (List Value)) → behind key range.points ≡ o → goes_on range.last o ≡ true → key ≡ range.points
    by None e f = absurd (cc f)
    by (Some rest) e f = only_points key range.points rest (splits key range.points rest e) same

one_holds : (b : Bool) → b || false ≡ true → b ≡ true
one_holds true e = refl
one_holds false e = absurd (cc e)

-- ranges of one key of an index that hold the key of a row are that key
points_are : (parts : List Part) (ranges : List KeyRange) (row : List Value) → AreOfOneKey parts ranges → is_in_ranges parts ranges row ≡ true → points_of ranges ≡ key_of parts row
points_are parts [] row one h = absurd (cc h)
points_are parts (range ∷ []) row one h =
    sym (all_points range (key_of parts row) one.0 (one.1 ∙ sym (length-map parts (λ p. part_value p row))) (one_holds (holds range (key_of parts row)) h))
points_are parts (range ∷ other ∷ ranges) row one h = absurd one

whole_value : (chars : Option ℕ) (v : Value) → is_none chars ≡ true → cut_value chars v ≡ v
whole_value None v e = refl
whole_value (Some n) v e = absurd (cc e)

-- of the key of a row the part on a whole column has what the row has there
point_of_key : (parts : List Part) (row : List Value) (column : ℕ) → point_on parts (key_of parts row) column ≡ (if list_any (has_whole column) parts then Some (column_value column row) else None)
point_of_key [] row column = refl
point_of_key (part ∷ parts) row column = by (has_whole column part) refl (point_of_key parts row column)
  where
    by : (b : Bool) → has_whole column part ≡ b → point_on parts (key_of parts row) column ≡ (if list_any (has_whole column) parts then Some (column_value column row) else None)
        → (if b then Some (part_value part row) else point_on parts (key_of parts row) column) ≡ (if b || list_any (has_whole column) parts then Some (column_value column row) else None)
    by false e later = later
    by true e later =
        let whole = and_parts (nat_eq part.column column) (is_none part.chars) e in
        ap Some (whole_value part.chars (column_value part.column row) whole.1 ∙ ap (λ n. column_value n row) (eqb-true part.column column whole.0))

-- ---- what the scans tell

module _ (schema : Schema) (row : List Value) (column : ℕ) where
  abbrev told : Bool → Option Value
  told b = if b then Some (column_value column row) else None

  role_tells : (role : Role) (parts : List Part) (ranges : List KeyRange) → (role ≡ InRanges → points_of ranges ≡ key_of parts row) → point_in_role role parts ranges column ≡ told (shows_in_role role parts column)
  role_tells InRanges parts ranges h = ap (λ points. point_on parts points column) (h refl) ∙ point_of_key parts row column
  role_tells _ parts ranges h = refl

  -- the first that tells something tells what the row has
  first_tells : (scans : List Scan) → AllByRecursion (λ scan. scan.role ≡ InRanges → points_of scan.ranges ≡ key_of (parts_in schema scan.index) row) scans
      → first_point schema column scans ≡ told (has_column schema scans column)
  first_tells [] h = refl
  first_tells (scan ∷ scans) h = by (shows_column schema column scan) (scan_point schema column scan) (role_tells scan.role (parts_in schema scan.index) scan.ranges h.0) (first_tells scans h.1)
    where
      by : (b : Bool) (o : Option Value) → o ≡ told b → first_point schema column scans ≡ told (has_column schema scans column)
          → slice_get (cons_option o (filter_map (scan_point schema column) scans)) 0 ≡ told (b || has_column schema scans column)
      by true o e later = ap (λ (x : Option Value). slice_get (cons_option x (filter_map (scan_point schema column) scans)) 0) e
      by false o e later = ap (λ (x : Option Value). slice_get (cons_option x (filter_map (scan_point schema column) scans)) 0) e ∙ later

-- ---- small values stay

within_test : (a n b : ℤ) → a ≤ℤ n → n ≤ℤ b → int_le a n && int_le n b ≡ true
within_test a n b h k = grind (arith, h, k)

small_test : (v : Value) → IsSmall v → is_small v ≡ true
small_test Null h = refl
small_test (Text text) h = refl
small_test (Int n) h = within_test (neg_ℤ (pos 9223372036854775808)) n (pos 18446744073709551615) h.0 h.1

small_kept : (b : Bool) (v : Value) → IsSmall v → small_value (if b then Some v else None) ≡ (if b then v else Null)
small_kept true v h = ap (λ c. if c then v else Null) (small_test v h)
small_kept false v h = refl

-- ---- all scans hold the key of a row of the merge

true_false : (b : Bool) → b ≡ true → b ≡ false → ⊥
true_false b e f = absurd (cc (e, f))

same_number : (n : ℕ) → nat_eq n n ≡ true
same_number n = grind arith

-- where all are of one member, all are those of the member
of_one : (member : ℕ) (scans : List Scan) → AllByRecursion (λ scan. scan.member ≡ member) scans → scans_of member scans ≡ scans
of_one member [] h = refl
of_one member (scan ∷ scans) h =
    ap (λ b. cond b (scan ∷ scans_of member scans) (scans_of member scans)) (ap (λ n. nat_eq n member) h.0 ∙ same_number member)
    ∙ ap (λ l. scan ∷ l) (of_one member scans h.1)

any_true : {X : Type 0} (p : X → Bool) (goal : Bool) (xs : List X) → AllByRecursion (λ x. p x ≡ true → goal ≡ true) xs → list_any p xs ≡ true → goal ≡ true
any_true p goal [] h e = absurd (cc e)
any_true p goal (x ∷ xs) h e = by (p x) refl e (any_true p goal xs h.1)
  where
    by : (b : Bool) → p x ≡ b → b || list_any p xs ≡ true → (list_any p xs ≡ true → goal ≡ true) → goal ≡ true
    by true f g later = h.0 f
    by false f g later = later g

in_all : (test : Scan → Bool) (member : ℕ) (all scans : List Scan) → scans_of member all ≡ all → AllByRecursion (λ scan. scan.member ≡ member) scans
    → AllByRecursion (λ scan. list_all test (scans_of scan.member all) ≡ true → list_all test all ≡ true) scans
in_all test member all [] same h = tt
in_all test member all (scan ∷ scans) same h = (
  λ e. sym (ap (list_all test) same) ∙ sym (ap (λ n. list_all test (scans_of n all)) h.0) ∙ e,
  in_all test member all scans same h.1,
)

each_passes : (test : Scan → Bool) (scans : List Scan) → list_all test scans ≡ true → AllByRecursion (λ scan. test scan ≡ true) scans
each_passes test [] e = tt
each_passes test (scan ∷ scans) e = let h = and_parts (test scan) (list_all test scans) e in (h.0, each_passes test scans h.1)

module _ (c : Candidate) (table : Meaning) (t : Indexed) (sound : IsMeaning table) (is : table.told ≡ Some t) (shown : IsShown table.schema c) where
  told_so : IsTold table t
  told_so = subst (λ (o : Option Indexed). IfSome o (IsTold table)) is sound.told

  all_hold : (row : List Value) → is_in_member t c.scans row ≡ true → AllByRecursion (λ scan. is_in_scan t row scan ≡ true) c.scans
  all_hold row h =
      let members = recursion_from_All (λ (scan : Scan). scan.member ≡ shown.member) c.scans shown.members in
      each_passes (is_in_scan t row) c.scans
      (any_true (λ scan. list_all (is_in_scan t row) (scans_of scan.member c.scans)) (list_all (is_in_scan t row) c.scans) c.scans
      (in_all (is_in_scan t row) shown.member c.scans c.scans (of_one shown.member c.scans members) members) h)

  keys_of : (row : List Value) (scans : List Scan) → AllByRecursion (λ scan. is_in_scan t row scan ≡ true) scans
      → AllByRecursion (λ scan. scan.role ≡ InRanges → AreOfOneKey (parts_in table.schema scan.index) scan.ranges) scans
      → AllByRecursion (λ scan. scan.role ≡ InRanges → points_of scan.ranges ≡ key_of (parts_in table.schema scan.index) row) scans
  keys_of row [] h k = tt
  keys_of row (scan ∷ scans) h k = (
    λ role. points_are (parts_in table.schema scan.index) scan.ranges row (k.0 role)
        (subst (λ (parts : List Part). is_in_ranges parts scan.ranges row ≡ true) (same_parts table t scan.index told_so) h.0),
    keys_of row scans h.1 k.1,
  )

  wide : (columns : List Column) (row : List Value) → FitsColumns columns row → length columns ≡ length row
  wide [] [] h = refl
  wide [] (v ∷ vs) h = absurd h
  wide (x ∷ xs) [] h = absurd h
  wide (x ∷ xs) (v ∷ vs) h = ap suc (wide xs vs h.1)

  small_there : (row : List Value) → All IsSmall row → (column : ℕ) → column < length row → IsSmall (column_value column row)
  small_there row h column lt = subst IsSmall (sym (unwrap_or-slice_get row column Null)) (All-get_or IsSmall row column Null lt h)

  columns_made : (row : List Value) → All IsSmall row → AllByRecursion (λ scan. scan.role ≡ InRanges → points_of scan.ranges ≡ key_of (parts_in table.schema scan.index) row) c.scans
      → (ns : List ℕ) → AllByRecursion (λ n. n < length row) ns
      → map (made_value table.schema c.scans) ns ≡ map (λ column. if has_column table.schema c.scans column then column_value column row else Null) ns
  columns_made row small keys [] h = refl
  columns_made row small keys (n ∷ ns) h =
      ap₂ (λ v vs. v ∷ vs)
      (ap small_value (first_tells table.schema row n c.scans keys) ∙ small_kept (has_column table.schema c.scans n) (column_value n row) (small_there row small n h.0))
      (columns_made row small keys ns h.1)

  range_below : (n : ℕ) → AllByRecursion (λ i. i < n) (range_with_len 0 n)
  range_below n = recursion_from_All (λ i. i < n) (range_with_len 0 n) (λ i d lt.
      let within : i < n = omega (arith, lt, length-range_with_len 0 n) in omega (arith, within, get_or-range_with_len 0 n i d within))

  -- the row that is made is each row of the merge, as its scans show it
  made_is : (row : List Value) → FitsRow table.schema row → is_in_member t c.scans row ≡ true → made_row table.schema c.scans ≡ shown_row table.schema c.scans row
  made_is row fit h =
      let keys = keys_of row c.scans (all_hold row h) (recursion_from_All (λ (scan : Scan). scan.role ≡ InRanges → AreOfOneKey (parts_in table.schema scan.index) scan.ranges) c.scans shown.keys) in
      let small = small_row table.schema row sound.limits (row_types table.schema row fit) in
      ap (λ n. map (made_value table.schema c.scans) (range_with_len 0 n)) (wide table.schema.columns row fit)
      ∙ columns_made row small keys (range_with_len 0 (length row)) (range_below (length row))

  each_made : (ids : List ℕ) → AllByRecursion (λ row. FitsRow table.schema row × (is_in_member t c.scans row ≡ true)) (map (row_at t.rows) ids)
      → map (handed (made (made_row table.schema c.scans)) t) ids ≡ map (shown_row table.schema c.scans) (map (row_at t.rows) ids)
  each_made [] h = refl
  each_made (id ∷ ids) h = ap₂ (λ r rs. r ∷ rs) (made_is (row_at t.rows id) h.0.0 h.0.1) (each_made ids h.1)

  kept_pass : (rows : List (List Value)) → AllByRecursion (FitsRow table.schema) rows
      → AllByRecursion (λ row. FitsRow table.schema row × (is_in_member t c.scans row ≡ true)) (filter (is_in_member t c.scans) rows)
  kept_pass [] h = tt
  kept_pass (row ∷ rows) h = by (is_in_member t c.scans row) refl (kept_pass rows h.1)
    where
      by : (b : Bool) → is_in_member t c.scans row ≡ b → AllByRecursion (λ r. FitsRow table.schema r × (is_in_member t c.scans r ≡ true)) (filter (is_in_member t c.scans) rows)
          → AllByRecursion (λ r. FitsRow table.schema r × (is_in_member t c.scans r ≡ true)) (cond b (row ∷ filter (is_in_member t c.scans) rows) (filter (is_in_member t c.scans) rows))
      by true e later = ((h.0, e), later)
      by false e later = later

  pub entries_show : IsMerge table.schema c → AreByIdWhereRead c t → visited c table ≡ map (shown_row table.schema c.scans) (merged_rows c t)
  entries_show merge stand =
      let fit = recursion_from_All (FitsRow table.schema) t.rows (subst (λ (s : Schema). All (FitsRow s) t.rows) told_so.schema_is told_so.fit) in
      let rows = subst (AllByRecursion (λ row. FitsRow table.schema row × (is_in_member t c.scans row ≡ true))) (sym (rows_found c table t sound is merge stand)) (kept_pass t.rows fit) in
      ap (λ k. visited_by (is_merge k) c table) shown.kind
      ∙ ap (λ (o : Option Indexed). elim o [ Some u ↦ map (handed (way_of_merge table.schema c) u) (merged_ids c u) | None ↦ [] ]) is
      ∙ ap (λ b. map (handed (if b then made (made_row table.schema c.scans) else by_id) t) (merged_ids c t)) shown.entries
      ∙ each_made (merged_ids c t) rows
