-- No number of a trace is a float.
use Rattle.std.proofs.Common.{◌≡◌, ℕ, ◌+◌, ◌||◌, Bool, false, List, [], ◌∷◌, map, filter, Option, Some, None, slice_get, ap, refl, ◌∙◌}
use Rattle.std.specs.List.{enumerate_from, zip}
use Rattle.serde_json.specs.Data.{Data, array}
use Rattle.serde_json.specs.View.{items_of}
use Rattle.serde_json.specs.Written.{has_float, items_have_float}
use Rattle.rx_value.specs.declared.shapes.Schema.{Schema}
use Rattle.rx_cost.specs.declared.candidates.Reason.{Reason}
use Rattle.rx_cost.specs.declared.candidates.Scan.{Scan}
use Rattle.rx_cost.specs.declared.candidates.Candidate.{Candidate}
use Rattle.rx_trace.specs.declared.listing.Listing.{Listing}
use Rattle.rx_trace.specs.declared.listing.Listing.TheVariants as list
use Rattle.rx_trace.specs.Trace.{Trace, range_data, ranges_data, parts_at, scan_data, scans_data, candidate_data, summary_data, is_in, listed, list_data, first_data, potential_data, potentials_data, analysis_data, trace_data}

-- the data has no float
abbrev Plain : Data → Type 0
Plain d = has_float d ≡ false

-- nor have lists of data without
plain_items : {X : Type 0} (f : X → Data) → ((x : X) → Plain (f x)) → (xs : List X) → Plain (array (items_of (map f xs)))
plain_items f p [] = refl
plain_items f p (x ∷ xs) = ap (λ b. b || items_have_float (items_of (map f xs))) (p x) ∙ plain_items f p xs

plain_first : {X : Type 0} (f : X → Data) → ((x : X) → Plain (f x)) → (xs : List X) → Plain (first_data (map f xs))
plain_first f p [] = refl
plain_first f p (x ∷ xs) = p x

plain_ranges : (schema : Schema) (scan : Scan) → Plain (ranges_data schema scan)
plain_ranges schema scan = plain_items (range_data schema (parts_at schema scan.index) scan.part) (λ r. refl) scan.ranges

plain_scan : (schema : Schema) (scan : Scan) → Plain (scan_data schema scan)
plain_scan schema scan = ap (λ b. b || false) (plain_ranges schema scan)

plain_scans : (schema : Schema) (scans : List Scan) → Plain (scans_data schema scans)
plain_scans schema scans = plain_items (scan_data schema) (plain_scan schema) scans

plain_candidate : (schema : Schema) (c : ℕ × Candidate) → Plain (candidate_data schema c)
plain_candidate schema c = ap (λ b. b || false) (plain_scans schema c.1.scans)

plain_list : (schema : Schema) (l : Listing) (all : List Candidate) → Plain (list_data schema l all)
plain_list schema l all = plain_items (candidate_data schema) (plain_candidate schema) (filter (λ c. is_in l c.1.kind) (enumerate_from 1 all))

plain_table : (schema : Schema) (all : List Candidate) → Plain (first_data (listed schema list.Tables all))
plain_table schema all = plain_first (candidate_data schema) (plain_candidate schema) (filter (λ c. is_in list.Tables c.1.kind) (enumerate_from 1 all))

plain_potentials : (schema : Schema) (answers : List Reason) → Plain (potentials_data schema answers)
plain_potentials schema answers = plain_items potential_data (λ p. refl) (zip schema.indexes answers)

plain_summary : (o : Option Candidate) (n : ℕ) → Plain (summary_data o n)
plain_summary None n = refl
plain_summary (Some c) n = refl

or_false : (a b : Bool) → a ≡ false → b ≡ false → (a || b) ≡ false
or_false a b p q = ap (λ x. x || b) p ∙ q

all_false : (a b c d e f g h : Bool) → a ≡ false → b ≡ false → c ≡ false → d ≡ false → e ≡ false → f ≡ false → g ≡ false → h ≡ false → (a || (b || (c || (d || (e || (f || (g || (h || false)))))))) ≡ false
all_false a b c d e f g h p q r s t u v w =
    or_false a _ p (or_false b _ q (or_false c _ r (or_false d _ s (or_false e _ t (or_false f _ u (or_false g _ v (or_false h false w refl)))))))

plain_analysis : (schema : Schema) (all : List Candidate) (answers : List Reason) → Plain (analysis_data schema all answers)
plain_analysis schema all answers =
    all_false _ _ _ _ _ _ _ _
    (plain_list schema list.Unions all) (plain_list schema list.Intersections all) (plain_list schema list.Coverings all) (plain_list schema list.Groups all)
    (plain_potentials schema answers) (plain_list schema list.Ranges all) (plain_list schema list.Skips all) (plain_table schema all)

-- nor has a trace
pub plain_trace : (schema : Schema) (t : Trace) → has_float (trace_data schema t) ≡ false
unfolding trace_data
plain_trace schema t =
    or_false _ _ (plain_summary (slice_get t.all t.chosen) (t.chosen + 1)) (or_false _ false (plain_analysis schema t.all t.answers) refl)
