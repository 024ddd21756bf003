use Rattle.std.proofs.Common.{ap, ◌∙◌, map, codes, string_bytes}
use Rattle.std.specs.List.{join_by}
use Rattle.std.proofs.lemmas.Result.{IfOk-weaker}
use Rattle.rx_trace.proofs.Joined.{join_seen, both_texts}
use Rattle.rx_trace.proofs.ranges.range_text.Goals as goal

pub returns : goal.returns
returns c =
    let seen = ap (map string_bytes) c.as_slice.ensures.value ∙ c.in_ok-add_last.ensures in
    let all = both_texts c.args.schema.now c.args.parts.now c.args.from c.args.range.now _ _ _ _ c.as_slice-points.ensures c.as_ref.ensures.value c.in_ok-texts.ensures seen in
    IfOk-weaker c.join.result _ _ (λ t e. e ∙ join_seen string_bytes (codes " AND ") c.as_slice.result.now ∙ ap (join_by (λ t. t) (codes " AND ")) all) c.join.ensures.ok
