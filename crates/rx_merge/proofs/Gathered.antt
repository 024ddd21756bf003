-- The ids that are gathered, place by place and scan by scan.
use Rattle.std.proofs.Common.{◌≡◌, ℕ, ◌+◌, ◌<◌, Bool, true, false, nat_eq, List, [], ◌∷◌, ◌++◌, map, take, length, get_or, slice_get, Option, Some, None, IfSome, All, refl, sym, ap, ◌∙◌, subst, arith, append_assoc, length-append}
use Rattle.std.specs.Prelude.{◌-◌, ◌^◌, min, if◌then◌else◌, slice_index}
use Rattle.std.specs.Ordering.{nat_cmp}
use Rattle.std.specs.List.{list_any}
use Rattle.std.specs.List.Sorted.{IsPermutation, IsStrictlyIncreasing}
use Rattle.std.specs.BTreeMap.{BTreeMap, IsOrdered, get, values}
use Rattle.std.proofs.lemmas.List.{take_more}
use Rattle.std.proofs.lemmas.List.Elements.{All-nil, All-filter, All-same}
use Rattle.std.proofs.lemmas.List.Sorted.{All-permutation}
use Rattle.std.proofs.lemmas.Option.{get_or_from_slice_get}
use Rattle.rx_index.specs.declared.indexed.Indexed.{Indexed}
use Rattle.rx_index.specs.Entries.{ids_at}
use Rattle.rx_store.specs.declared.tables.Counts.{Counts}
use Rattle.rx_store.specs.Tables.{Meaning, IsMeaning, IsTold, add_counts, with_entry}
use Rattle.rx_cost.specs.declared.candidates.Scan.{Scan}
use Rattle.rx_cost.specs.declared.candidates.Candidate.{Candidate}
use Rattle.rx_merge.specs.Ids.{has_id, met_ids, MeetsAt, HasOfAll}
use Rattle.rx_merge.specs.Merged.{entries_of, is_scanned, scanned_ids, scans_of, is_merged, merged_ids, reads_of, AreMembers, AreBelow}
use Rattle.rx_merge.specs.Runs.{IsOpened, ReadsIds, counted}
use Rattle.rx_merge.proofs.Having.{has_moved, has_first}
use Rattle.rx_merge.proofs.Members.{member_more, held_is, held_all}
use Rattle.rx_merge.proofs.Reading.{entry_more, reads_more}
use Rattle.rx_merge.proofs.Rising.{rising_is}

-- ---- entry by entry

-- the id of one entry more
pub told_more : (told : Option Indexed) (n : ℕ) (ids after places rest all : List ℕ) (place id : ℕ) → places ≡ place ∷ rest → after ≡ ids ++ id ∷ []
    → IfSome told (λ t. ids ++ map (slice_index (ids_at t n)) places ≡ map (slice_index (ids_at t n)) all) → IfSome told (λ t. slice_get (ids_at t n) place ≡ Some id)
    → IfSome told (λ t. after ++ map (slice_index (ids_at t n)) rest ≡ map (slice_index (ids_at t n)) all)
told_more None n ids after places rest all place id p a h e = tt
told_more (Some t) n ids after places rest all place id p a h e =
    let here : id ≡ slice_index (ids_at t n) place = sym (get_or_from_slice_get (ids_at t n) place id 0 e) in
    let f = slice_index (ids_at t n) in
    ap (λ xs. xs ++ map f rest) (a ∙ ap (λ x. ids ++ x ∷ []) here)
    ∙ append_assoc ids (f place ∷ []) (map f rest)
    ∙ ap (λ xs. ids ++ map f xs) (sym p) ∙ h

-- as many ids and places in all
pub many_more : (ids after places rest : List ℕ) (n place id : ℕ) → places ≡ place ∷ rest → after ≡ ids ++ id ∷ [] → length ids + length places ≡ n → length after + length rest ≡ n
many_more ids after places rest n place id p a h = omega (arith, ap length p, ap length a, length-append ids (id ∷ []), h)

-- one entry more is read
pub counts_more : (ids after : List ℕ) (id : ℕ) (old mid new : Counts) → after ≡ ids ++ id ∷ [] → mid ≡ add_counts (reads_of [] (length ids)) old → new ≡ with_entry mid
    → new ≡ add_counts (reads_of [] (length after)) old
counts_more ids after id old mid new a p q =
    let many : length ids + 1 ≡ length after = omega (arith, ap length a, length-append ids (id ∷ [])) in
    entry_more (length ids) old mid new p q ∙ ap (λ n. add_counts (reads_of [] n) old) many

-- ---- scan by scan

-- the scans so far and one more
scans_more : (scans : List Scan) (i : ℕ) (scan : Scan) → i < length scans → scan ≡ get_or scans i scan → take (i + 1) scans ≡ take i scans ++ scan ∷ []
scans_more scans i scan lt is = take_more scans i scan lt ∙ ap (λ (s : Scan). take i scans ++ s ∷ []) (sym is)

module _ (scans : List Scan) (i : ℕ) (scan : Scan) (found ids : List ℕ) (old new : BTreeMap ℕ (List ℕ)) (lt : i < length scans) (is : scan ≡ get_or scans i scan)
    (same : IsPermutation found ids) (meets : MeetsAt old new scan.member ids) where
  -- the ids of each member by one scan more
  pub members_more : (told : Option Indexed) → IfSome told (λ t. AreMembers t (take i scans) old) → IfSome told (λ t. found ≡ scanned_ids t scan)
      → IfSome told (λ t. AreMembers t (take (i + 1) scans) new)
  members_more None h f = tt
  members_more (Some t) h f =
      subst (λ (l : List Scan). AreMembers t l new) (sym (scans_more scans i scan lt is)) (λ n.
      subst (HasOfAll (λ (s : Scan) id. is_scanned t id s) (scans_of n (take i scans ++ scan ∷ []))) (sym (meets n))
      (member_more (λ (s : Scan). s.member) (λ s id. is_scanned t id s) (get nat_cmp old) (take i scans) scan ids h
      (λ id. has_moved found ids id same ∙ ap (λ (l : List ℕ). has_id l id) f) n))

  met_below : (P : ℕ → Type 0) (o : Option (List ℕ)) → All P ids → IfSome o (All P) → All P (met_ids o ids)
  met_below P None all h = all
  met_below P (Some held) all h = All-filter (has_id ids) P held h

  below_by : (P : ℕ → Type 0) (b : Bool) (o here : Option (List ℕ)) → All P ids → IfSome o (All P) → IfSome here (All P) → IfSome (if b then Some (met_ids here ids) else o) (All P)
  below_by P true o here all h k = met_below P here all k
  below_by P false o here all h k = h

  -- they are below the number of rows
  pub below_more : (count : ℕ) → AreBelow count old → All (λ id. id < count) found → AreBelow count new
  below_more count h all = λ n.
      let P : ℕ → Type 0 = λ id. id < count in
      subst (λ (o : Option (List ℕ)). IfSome o (All P)) (sym (meets n))
      (below_by P (nat_eq scan.member n) (get nat_cmp old n) (get nat_cmp old scan.member) (All-permutation P found ids same all) (h n) (h scan.member))

-- what is read of one scan more
pub read_more : (table : Meaning) (scans : List Scan) (i : ℕ) (scan : Scan) (old mid new : Counts) (a b c : ℕ) → i < length scans → scan ≡ get_or scans i scan → c ≡ min (a + b) (2 ^ 64 - 1)
    → ReadsIds table (take i scans) old mid a → ReadsIds table (scan ∷ []) mid new b → ReadsIds table (take (i + 1) scans) old new c
read_more table scans i scan old mid new a b c lt is e p q =
    subst (λ (l : List Scan). ReadsIds table l old new c) (sym (scans_more scans i scan lt is)) (reads_more table (take i scans) scan old mid new a b c e p q)

-- ---- the ids of all members

-- no scan has no ids
none_merged : (t : Indexed) (ids : List ℕ) → ((id : ℕ) → has_id ids id ≡ false) → ids ≡ []
none_merged t [] h = refl
none_merged t (id ∷ ids) h = absurd (cc (h id, has_first id ids))

within_told : (table : Meaning) (t : Indexed) (scans : List Scan) (ids : List ℕ) → (0 < length scans → IsTold table t) → ((id : ℕ) → has_id ids id ≡ is_merged t scans id)
    → All (λ id. id < table.count) ids → All (λ id. id < length t.rows) ids
within_told table t [] ids sound h within = All-same (λ id. id < length t.rows) ids [] (none_merged t ids h) (All-nil (λ id. id < length t.rows))
within_told table t (scan ∷ scans) ids sound h within =
    subst (λ n. All (λ id. id < n) ids) (sym (sound (omega arith)).count_is) within

module _ (table : Meaning) (c : Candidate) (members : BTreeMap ℕ (List ℕ)) (ids : List ℕ) (sound : 0 < length c.scans → IsMeaning table) (ordered : IsOrdered nat_cmp members)
    (each : (id : ℕ) → has_id ids id ≡ list_any (λ held. has_id held id) (values members)) (rising : IsStrictlyIncreasing ids) (below : AreBelow table.count members) where
  within : All (λ id. id < table.count) ids
  within = held_all (λ id. id < table.count) members ordered below ids each

  ids_told : (told : Option Indexed) → (0 < length c.scans → IfSome told (IsTold table)) → IfSome told (λ t. AreMembers t c.scans members) → IfSome told (λ t. ids ≡ merged_ids c t)
  ids_told None m h = tt
  ids_told (Some t) m h =
      let merged : (id : ℕ) → has_id ids id ≡ is_merged t c.scans id =
      λ id. each id ∙ held_is (λ (s : Scan). s.member) (λ s k. is_scanned t k s) c.scans members ordered h id in
      rising_is ids (length t.rows) (is_merged t c.scans) rising (within_told table t c.scans ids m merged within) (λ id lt. merged id)

  -- the ids of the members are those of the merge
  pub opened : (count : ℕ) → IfSome table.told (λ t. count ≡ counted (entries_of table c.scans)) → IfSome table.told (λ t. AreMembers t c.scans members)
      → IsOpened table c (record { left = ids; entries = count })
  opened count e h = record { ids = ids_told table.told (λ lt. (sound lt).told) h; entries = e; within = within; rising = rising }
