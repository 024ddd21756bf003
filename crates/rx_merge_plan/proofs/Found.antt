-- The scans that a condition gives, index by index.
use Rattle.std.proofs.Common.{◌≡◌, ◌+◌, ℕ, Bool, true, false, List, [], ◌∷◌, ◌++◌, map, Some, None, if◌then◌else◌, refl, ap, sym, ◌∙◌, subst}
use Rattle.std.specs.List.{flat_map, range_with_len}
use Rattle.std.proofs.lemmas.Grind.{flat_map-append}
use Rattle.std.proofs.lemmas.List.{append-nil, map-append}
use Rattle.rx_value.specs.declared.shapes.Part.{Part}
use Rattle.rx_value.specs.declared.shapes.Schema.{Schema}
use Rattle.rx_cond.specs.Tree.{Tree}
use Rattle.rx_query.specs.declared.settings.Settings.{Settings}
use Rattle.rx_query.specs.Steps.{Question}
use Rattle.rx_ranges.specs.Answers.{Answer, IsAnswer}
use Rattle.rx_build.specs.declared.answers.Answer.{Answer as Found}
use Rattle.rx_build.specs.Building.{answer_of}
use Rattle.rx_build.specs.Given.{answer_for}
use Rattle.rx_build.proofs.Given.{answer_is_given}
use Rattle.rx_estimate.specs.Estimates.{parts_in}
use Rattle.rx_cost.specs.declared.candidates.Scan.{Scan}
use Rattle.rx_plan.specs.Naming.{is_usable}
use Rattle.rx_plan.specs.Known.{items_limit, ranged_as, ranged_in, known_at}
use Rattle.rx_plan.proofs.Named.{range_more}
use Rattle.rx_merge_plan.specs.Disjuncts.{found_scan, found_at}

module _ (settings : Settings) (q : Question) (schema : Schema) (cond : Tree) (member : ℕ) where
  abbrev answer : ℕ → Answer
  answer index = answer_for schema.columns (parts_in schema index) (items_limit settings.memory) cond

  -- of an index that a hint leaves out there is none
  pub none_found : (index : ℕ) → is_usable q index ≡ false → [] ≡ found_at settings q schema cond member index
  none_found index e = sym (ap (λ (b : Bool). map (found_scan member) (ranged_as index (if b then Some (answer index) else None))) e)

  -- of a usable one that of its answer
  pub some_found : (index : ℕ) (a : Answer) → is_usable q index ≡ true → IsAnswer schema.columns (parts_in schema index) (items_limit settings.memory) cond a
      → map (found_scan member) (ranged_as index (Some a)) ≡ found_at settings q schema cond member index
  some_found index a e is =
      ap (λ (x : Answer). map (found_scan member) (ranged_as index (Some x))) (answer_is_given schema.columns (parts_in schema index) (items_limit settings.memory) cond a is)
      ∙ sym (ap (λ (b : Bool). map (found_scan member) (ranged_as index (if b then Some (answer index) else None))) e)

  -- the same of an answer of the code
  pub of_answer : (index items : ℕ) (parts : List Part) (a : Found) → parts ≡ parts_in schema index → items ≡ items_limit settings.memory → is_usable q index ≡ true
      → IsAnswer schema.columns parts items cond (answer_of a) → map (found_scan member) (ranged_as index (Some (answer_of a))) ≡ found_at settings q schema cond member index
  of_answer index items parts a same limit usable is =
      some_found index (answer_of a) usable
      (subst (λ (n : ℕ). IsAnswer schema.columns (parts_in schema index) n cond (answer_of a)) limit (subst (λ (l : List Part). IsAnswer schema.columns l items cond (answer_of a)) same is))

  -- those of so many first indexes
  abbrev pub found_to : ℕ → List Scan
  found_to n = flat_map (found_at settings q schema cond member) (range_with_len 0 n)

  pub found_more : (n : ℕ) → found_to (n + 1) ≡ found_to n ++ found_at settings q schema cond member n
  found_more n =
      ap (flat_map (found_at settings q schema cond member)) (range_more n)
      ∙ flat_map-append (found_at settings q schema cond member) (range_with_len 0 n) (n ∷ [])
      ∙ ap (λ l. found_to n ++ l) (append-nil (found_at settings q schema cond member n))

  found_of : (numbers : List ℕ) → flat_map (found_at settings q schema cond member) numbers ≡ map (found_scan member) (ranged_in (map (known_at settings q schema cond) numbers))
  found_of [] = refl
  found_of (n ∷ ns) =
      ap (λ l. found_at settings q schema cond member n ++ l) (found_of ns)
      ∙ sym (map-append (found_scan member) (ranged_as n (known_at settings q schema cond n).answer) (ranged_in (map (known_at settings q schema cond) ns)))

  -- and of all
  pub found_all : (n : ℕ) → flat_map (found_at settings q schema cond member) (range_with_len 0 n) ≡ map (found_scan member) (ranged_in (map (known_at settings q schema cond) (range_with_len 0 n)))
  found_all n = found_of (range_with_len 0 n)
