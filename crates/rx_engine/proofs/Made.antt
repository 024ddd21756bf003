-- The block that comes of a plan.
use Rattle.std.proofs.Common.{◌≡◌, ℕ, zero, suc, ◌+◌, ◌<◌, min, Bool, true, false, List, [], ◌∷◌, ◌++◌, map, length, get_or, slice_get, Option, Some, None, IfSome, All, if◌then◌else◌, refl, ap, ap₂, sym, ◌∙◌, subst, arith}
use Rattle.std.specs.List.{AllByRecursion}
use Rattle.std.proofs.lemmas.List.{length-map}
use Rattle.std.proofs.lemmas.List.Elements.{recursion_from_All}
use Rattle.std.proofs.lemmas.Option.{slice_get-get_or}
use Rattle.rx_value.specs.declared.shapes.Schema.{Schema}
use Rattle.rx_value.specs.Counting.{rise}
use Rattle.rx_index.specs.declared.indexed.Indexed.{Indexed}
use Rattle.rx_store.specs.declared.tables.Counts.{Counts}
use Rattle.rx_store.specs.Stored.{no_counts}
use Rattle.rx_store.specs.Tables.{Meaning, IsMeaning, WhereTold, add_counts}
use Rattle.rx_query.specs.declared.settings.Settings.{Settings}
use Rattle.rx_query.specs.Steps.{Question}
use Rattle.rx_rows.specs.Finish.{answered}
use Rattle.rx_rows.specs.Lines.{block_of}
use Rattle.rx_estimate.specs.Estimates.{with_seeks}
use Rattle.rx_cost.specs.declared.candidates.Candidate.{Candidate}
use Rattle.rx_cost.specs.Choice.{cost_of, chosen_place}
use Rattle.rx_cost.proofs.Least.{place_is_first, one_first}
use Rattle.rx_plan.specs.Known.{reason_of, known_of}
use Rattle.rx_plan.specs.Candidates.{table_scan}
use Rattle.rx_scan.specs.Handing.{IsScan}
use Rattle.rx_scan.specs.Visits.{visits, visited}
use Rattle.rx_trace.specs.Trace.{Trace, trace_line}
use Rattle.rx_engine.specs.declared.plans.Plan.{Plan}
use Rattle.rx_engine.specs.declared.answering.Answer.{Answer}
use Rattle.rx_engine.specs.declared.engine.Report.{Report}
use Rattle.rx_engine.specs.declared.engine.Block.{Block}
use Rattle.rx_engine.specs.Candidates.{reasons_of, dives_of, candidates_of, chosen_of, behind_seeks, reads_of}
use Rattle.rx_engine.specs.Plan.{HasFewRanges, IsPlan}
use Rattle.rx_engine.specs.Blocks.{told_of, block_over, block_for, report_of, output_of}
use Rattle.rx_engine.specs.Answers.{AnswersBy, IsAnswerBy}
use Rattle.rx_engine.specs.Select.{IsBlock, IsBlockOf, IsReportOf, IsReportBy, IsTraced, trace_of_plan}
use Rattle.rx_engine.proofs.Planned.{many_known, dives_exact}

some_same : (a b : Candidate) → Some a ≡ Some b → a ≡ b
some_same a b e = cc e

-- what holds of each element holds of that at a place
by_place : (P : Candidate → Type 0) (xs : List Candidate) (i : ℕ) (x : Candidate) → AllByRecursion P xs → slice_get xs i ≡ Some x → P x
by_place P [] i x all is = absurd (cc is)
by_place P (y ∷ ys) zero x all is = subst P (some_same y x is) all.0
by_place P (y ∷ ys) (suc i) x all is = by_place P ys i x all.1 is

at_place : (P : Candidate → Type 0) (xs : List Candidate) (i : ℕ) (x : Candidate) → All P xs → slice_get xs i ≡ Some x → P x
at_place P xs i x all is = by_place P xs i x (recursion_from_All P xs all) is

rise-more : (n m c : ℕ) → rise m (rise n c) ≡ rise (n + m) c
rise-more n m c = grind arith

same_counts : (a b : Counts) → a.seeks ≡ b.seeks → a.entries ≡ b.entries → a.rows ≡ b.rows → a ≡ b
same_counts a b s e r = λ i. record { seeks = s i; entries = e i; rows = r i }

-- reads behind seeks
seeks_first : (seeks : ℕ) (reads a : Counts) → add_counts reads (with_seeks seeks a) ≡ add_counts (behind_seeks seeks reads) a
seeks_first seeks reads a = same_counts _ _ (rise-more seeks reads.seeks a.seeks) refl refl

module _ (settings : Settings) (q : Question) (table : Meaning) (plan : Plan) (is : IsPlan settings q table plan) where
  -- the candidate that runs is there
  pub chosen_within : plan.chosen < length plan.all
  chosen_within = omega (arith, is.place.within, length-map plan.all cost_of)

  -- there is a reason for each index
  pub reasons_many : (schema : Schema) → schema ≡ table.schema → length plan.reasons ≡ length schema.indexes
  reasons_many schema e =
      ap length is.reasons ∙ length-map (known_of settings q table.schema) reason_of ∙ many_known settings q table.schema ∙ ap (λ (s : Schema). length s.indexes) (sym e)

  module _ (candidate : Candidate) (there : slice_get plan.all plan.chosen ≡ Some candidate) where
    pub runs : IsScan table.schema candidate
    runs = at_place (IsScan table.schema) plan.all plan.chosen candidate is.can_run there

    pub few : HasFewRanges candidate
    few = at_place HasFewRanges plan.all plan.chosen candidate is.few there

    module _ (t : Indexed) (all : plan.all ≡ candidates_of settings q table t) where
      place_is : plan.chosen ≡ chosen_place (candidates_of settings q table t)
      place_is =
          one_first (map cost_of plan.all) plan.chosen (chosen_place plan.all) is.place (place_is_first (map cost_of plan.all) (omega (arith, is.place.within)))
          ∙ ap chosen_place all

      candidate_is : candidate ≡ chosen_of settings q table t
      candidate_is =
          let cs = candidates_of settings q table t in
          let within : chosen_place cs < length cs = omega (arith, place_is, chosen_within, ap length all) in
          some_same candidate (chosen_of settings q table t)
          (sym there ∙ ap₂ slice_get all place_is ∙ slice_get-get_or cs (chosen_place cs) (table_scan table.count) within)

    -- the counts of a table after the seeks of the plan and the reads of its candidate
    pub counts_made : (a b d : Counts) → b ≡ with_seeks (dives_of settings q table.schema) a → WhereTold table (d ≡ add_counts (visits candidate table) b)
        → WhereTold table (d ≡ add_counts (reads_of settings q table) a)
    counts_made a b d e h = by table.told refl is.told h
      where
        by : (told : Option Indexed) → table.told ≡ told → IfSome told (λ t. plan.all ≡ candidates_of settings q table t) → IfSome told (λ t. d ≡ add_counts (visits candidate table) b)
            → IfSome told (λ t. d ≡ add_counts (reads_of settings q table) a)
        by None e' all k = tt
        by (Some t) e' all k =
            let reads : reads_of settings q table ≡ behind_seeks (dives_of settings q table.schema) (visits (chosen_of settings q table t) table) =
            ap (λ (o : Option Indexed). elim o [ Some u ↦ behind_seeks (dives_of settings q table.schema) (visits (chosen_of settings q table u) table) | None ↦ no_counts ]) e' in
            k
            ∙ ap (add_counts (visits candidate table)) e
            ∙ seeks_first (dives_of settings q table.schema) (visits candidate table) a
            ∙ ap (λ c. add_counts (behind_seeks (dives_of settings q table.schema) (visits c table)) a) (candidate_is t all)
            ∙ ap (λ r. add_counts r a) (sym reads)

    -- its lines with the trace are the block
    pub block_made : (number : ℕ) (old new : Answer) (report : Report) → IsMeaning table → IsAnswerBy candidate q table old → IsTraced settings number table.schema plan old new
        → IsReportBy plan new.rows report → IsBlockOf settings number q table (record { text = new.text; report = report })
    block_made number old new report sound answers traced reported = by table.told is.told answers
      where
        by : (told : Option Indexed) → IfSome told (λ t. plan.all ≡ candidates_of settings q table t) → IfSome told (λ t. AnswersBy candidate q table old)
            → IfSome told (λ t. IsBlock (block_over settings number q table t) (report_of settings q table t) (record { text = new.text; report = report }))
        by None all k = tt
        by (Some t) all k =
            let same = candidate_is t all in
            let place = place_is t all in
            let lines : old.text ≡ block_of (output_of settings q table t) = k.text ∙ ap (λ c. block_of (answered q (visited c table))) same in
            let reads : old.reads ≡ visits (chosen_of settings q table t) table = k.reads ∙ ap (λ c. visits c table) same in
            let dives : plan.dives ≡ dives_of settings q table.schema = is.dives ∙ dives_exact settings q table sound in
            let trace : trace_of_plan number plan old ≡ told_of settings number q table t =
            λ i. record { statement = number; all = all i; chosen = place i; answers = is.reasons i; dive_seeks = dives i; reads = reads i } in
            let ran : reported.candidate ≡ chosen_of settings q table t = some_same reported.candidate candidate (sym reported.there ∙ there) ∙ same in
            let count = traced.rows_are ∙ k.rows ∙ ap (λ c. length (answered q (visited c table))) same in
            record {
              text_is = traced.text_is ∙ ap₂ (λ x y. x ++ (if settings.trace then trace_line table.schema y else [])) lines trace;
              report_is = reported.is ∙ (λ i. record { kind = (ran i).kind; n = place i + 1; cost = (ran i).cost; rows = count i });
            }

-- a made block is the block of its question, and has its report
pub block_told : (settings : Settings) (number : ℕ) (q : Question) (table : Meaning) (block : Block) → IsBlockOf settings number q table block → WhereTold table (block.text ≡ block_for settings number q table)
block_told settings number q table block is = by table.told refl is
  where
    by : (told : Option Indexed) → table.told ≡ told → IfSome told (λ t. IsBlock (block_over settings number q table t) (report_of settings q table t) block) → IfSome told (λ t. block.text ≡ block_for settings number q table)
    by None e k = tt
    by (Some t) e k = k.text_is ∙ sym (ap (λ (o : Option Indexed). elim o [ Some u ↦ block_over settings number q table u | None ↦ [] ]) e)

pub report_told : (settings : Settings) (number : ℕ) (q : Question) (table : Meaning) (block : Block) → IsBlockOf settings number q table block → IsReportOf settings q table block.report
report_told settings number q table block is = by table.told is
  where
    by : (told : Option Indexed) → IfSome told (λ t. IsBlock (block_over settings number q table t) (report_of settings q table t) block) → IfSome told (λ t. block.report ≡ report_of settings q table t)
    by None k = tt
    by (Some t) k = k.report_is
