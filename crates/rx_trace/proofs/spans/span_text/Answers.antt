use Rattle.std.proofs.Common.{◌≡◌, ◌++◌, List, ap, sym, ◌∙◌, append_assoc}
use Rattle.std.specs.Prelude.{ℕ}
use Rattle.std.proofs.lemmas.Result.{IfOk-weaker}
use Rattle.rx_trace.specs.Ranges.{text_before, text_behind}
use Rattle.rx_trace.proofs.spans.span_text.Goals as goal

placed : (a b c d n : List ℕ) → a ≡ c → b ≡ d → a ++ (n ++ b) ≡ (c ++ n) ++ d
placed a b c d n p q = sym (append_assoc a n b) ∙ ap (λ t. (t ++ n) ++ b) p ∙ ap (λ t. (c ++ n) ++ t) q

pub returns : goal.returns
returns c =
    let before = c.in_ok-before.ensures ∙ ap (text_before c.args.falls) c.limit_before.ensures in
    let behind = c.in_ok-behind.ensures ∙ ap (text_behind c.args.falls) c.limit_behind.ensures in
    IfOk-weaker c.format.result _ _ (λ t e. e ∙ placed _ _ _ _ c.args.name.now before behind) c.format.ensures.ok
