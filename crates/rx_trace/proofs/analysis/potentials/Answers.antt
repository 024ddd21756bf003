use Rattle.std.proofs.Common.{◌∷◌, [], ap, sym, ◌∙◌, take, get_or, map, arith}
use Rattle.std.specs.List.{zip}
use Rattle.std.proofs.lemmas.List.{take_all, map-append}
use Rattle.std.proofs.lemmas.Slice.Zip.{length-zip}
use Rattle.serde_json.specs.View.{view}
use Rattle.rx_cost.specs.declared.candidates.Reason.TheVariants.{Ranges}
use Rattle.rx_trace.specs.Trace.{potential_data}
use Rattle.rx_trace.proofs.Joined.{pushed}
use Rattle.rx_trace.proofs.Places.{pairs_more}
use Rattle.rx_trace.proofs.analysis.potentials.Goals as goal

pub loop-i-preserved : goal.loop-i-preserved
loop-i-preserved c =
    let xs = c.args.indexes.now in
    let ys = c.args.answers.now in
    let i = c.loop-i.i in
    let reason = get_or ys i Ranges in
    let made = c.in_ok-potential_value.ensures ∙ ap (λ x. potential_data (x, reason)) c.index-indexes-i.is in
    let more = pairs_more xs ys i c.index-indexes-i.result Ranges c.loop-i-test.true (omega (arith, c.loop-i-test.true, c.requires)) in
    pushed view _ _ _ _ _ c.in_ok-push.ensures.items c.loop-i.invariant made
    ∙ sym (ap (map potential_data) more ∙ map-append potential_data (take i (zip xs ys)) ((get_or xs i c.index-indexes-i.result, reason) ∷ []))

pub returns : goal.returns
returns c =
    let xs = c.args.indexes.now in
    let ys = c.args.answers.now in
    c.loop-i.invariant ∙ ap (map potential_data) (take_all c.loop-i.i (zip xs ys) (omega (arith, length-zip xs ys, c.loop-i-test.false)))
