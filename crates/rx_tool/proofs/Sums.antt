-- The counts of a script are sums.
use Rattle.std.proofs.Common.{◌≡◌, ℕ, ◌+◌, List, [], ◌∷◌, refl, ap, arith, ◌∙◌, sym}
use Rattle.std.specs.List.{sum_by}
use Rattle.std.proofs.lemmas.List.Sums.{sum_by-cons}
use Rattle.rx_value.specs.Counting.{rise}
use Rattle.rx_store.specs.declared.tables.Counts.{Counts}
use Rattle.rx_store.specs.Tables.{Meaning, add_counts}
use Rattle.rx_query.specs.Steps.{Step, Request}
use Rattle.rx_query.specs.Steps.Request.{select, change}
use Rattle.rx_query.specs.Settings.{settings_after}
use Rattle.rx_query.specs.declared.settings.Settings.{Settings}
use Rattle.rx_tool.specs.Blocks.{counts_after, counts_after_request, reads_of_request, reads_from, summed}

rise_zero : (c : ℕ) → c ≡ rise 0 c
rise_zero c = grind arith

rise_twice : (n m c : ℕ) → rise m (rise n c) ≡ rise (n + m) c
rise_twice n m c = grind arith

abbrev the_counts : ℕ → ℕ → ℕ → Counts
the_counts seeks entries rows = record { seeks = seeks; entries = entries; rows = rows }

-- three counts that are equal make equal counts
counts_equal : (seeks seeks' entries entries' rows rows' : ℕ) → seeks ≡ seeks' → entries ≡ entries' → rows ≡ rows' → the_counts seeks entries rows ≡ the_counts seeks' entries' rows'
counts_equal seeks seeks' entries entries' rows rows' s e r = rw (s, e, r) refl

request_adds : (settings : Settings) (request : Request) (table : Meaning) (counts : Counts) → counts_after_request settings request table counts ≡ add_counts (reads_of_request settings request table) counts
request_adds settings (select q) table counts = refl
request_adds settings (change listed) table counts = counts_equal _ _ _ _ _ _ (rise_zero counts.seeks) (rise_zero counts.entries) (rise_zero counts.rows)

-- so many more, and then a sum over the rest, is the sum over all
rise_sum : (f : Counts → ℕ) (here : Counts) (reads : List Counts) (c : ℕ) → rise (sum_by f reads) (rise (f here) c) ≡ rise (sum_by f (here ∷ reads)) c
rise_sum f here reads c = rise_twice (f here) (sum_by f reads) c ∙ ap (λ m. rise m c) (sym (sum_by-cons f here reads))

pub counts_are_sums : (settings : Settings) (steps : List Step) (table : Meaning) (counts : Counts) → counts_after settings steps table counts ≡ add_counts (summed (reads_from settings steps table)) counts
counts_are_sums settings [] table counts = counts_equal _ _ _ _ _ _ (rise_zero counts.seeks) (rise_zero counts.entries) (rise_zero counts.rows)
counts_are_sums settings (step ∷ steps) table counts =
    let here = reads_of_request settings step.request table in
    let after = settings_after settings step in
    let rest = reads_from after steps table in
    ap (counts_after after steps table) (request_adds settings step.request table counts)
    ∙ counts_are_sums after steps table (add_counts here counts)
    ∙ counts_equal _ _ _ _ _ _
    (rise_sum (λ r. r.seeks) here rest counts.seeks)
    (rise_sum (λ r. r.entries) here rest counts.entries)
    (rise_sum (λ r. r.rows) here rest counts.rows)
