use Rattle.std.proofs.Common.{arith, ◌+◌, ◌∙◌, drop, map}
use Rattle.rx_store.proofs.Chains.{Keeps-chain}
use Rattle.rx_query.specs.Steps.{step_of}
use Rattle.rx_query.specs.Settings.{settings_after}
use Rattle.rx_tool.specs.Blocks.{blocks_of, blocks_of_step, blocks_from}
use Rattle.rx_tool.proofs.Blocks.{step_there, puts-more, stops-after, counts-more}
use Rattle.rx_tool.proofs.scripts.run_script.Goals as goal

pub returns-in-Err-clause-stopped : goal.returns-in-Err-clause-stopped
returns-in-Err-clause-stopped g c =
    let here = c.loop-numbered.invariant in
    let items = c.as_slice-numbered-items.result.now in
    let step = step_of c.numbered-item.result in
    let table = g.T.Table.means c.args.table.now in
    let there = step_there step_of items c.loop-numbered.numbered-index c.numbered-item.result (omega arith) c.numbered-item.is in
    let put = rw there at here.put in
    let stopped = rw here.keeps.means_stays at c.in-Err.ensures.stopped in
    stops-after table (blocks_of (map step_of c.args.script.now) table) (blocks_of_step c.loop-numbered.settings step table)
    (blocks_from (settings_after c.loop-numbered.settings step) (map step_of (drop (c.loop-numbered.numbered-index + 1) items)) table) _ _ _ c.in-Err.fault put here.no_fault stopped

pub loop-numbered-preserved : goal.loop-numbered-preserved
loop-numbered-preserved g c =
    let here = c.loop-numbered.invariant in
    let items = c.as_slice-numbered-items.result.now in
    let step = step_of c.numbered-item.result in
    let table = g.T.Table.means c.args.table.now in
    let there = step_there step_of items c.loop-numbered.numbered-index c.numbered-item.result (omega arith) c.numbered-item.is in
    let put = rw there at here.put in
    let more = rw here.keeps.means_stays at c.in-Ok.ensures.puts in
    record {
      put = rw c.in-Ok.ensures.settings (puts-more table (blocks_of (map step_of c.args.script.now) table) (blocks_of_step c.loop-numbered.settings step table)
          (blocks_from (settings_after c.loop-numbered.settings step) (map step_of (drop (c.loop-numbered.numbered-index + 1) items)) table) _ _ _ put more);
      no_fault = more.no_fault ∙ here.no_fault;
      counts = rw c.in-Ok.ensures.settings (counts-more table _ c.loop-numbered.settings _ (map step_of (drop (c.loop-numbered.numbered-index + 1) items)) step _ _ _ there here.counts here.keeps.means_stays c.in-Ok.ensures.counts);
      keeps = Keeps-chain g.met.T.Table.kept_chained g.met.T.Table.spent_chained _ _ _ _ here.keeps c.in-Ok.ensures.keeps;
    }

pub returns-in-Err-clause-cause : goal.returns-in-Err-clause-cause
returns-in-Err-clause-cause g c = Keeps-chain g.met.T.Table.kept_chained g.met.T.Table.spent_chained _ _ _ _ c.loop-numbered.invariant.keeps c.in-Err.ensures.cause
