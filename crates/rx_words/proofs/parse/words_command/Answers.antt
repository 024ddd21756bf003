use Rattle.std.proofs.Common.{rules, ap₂, ◌∙◌}
use Rattle.clap.specs.Words.{with_rule}
use Rattle.rx_words.proofs.parse.words_command.Goals as goal

pub returns : goal.returns
returns c =
    c.in_ok-whole.ensures.shape (search rules)
    ∙ ap₂ with_rule (c.in_ok-third.ensures.shape (search rules)
    ∙ ap₂ with_rule (c.in_ok-second.ensures.shape (search rules)
    ∙ ap₂ with_rule (c.in_ok-first.ensures.shape (search rules) ∙ ap₂ with_rule c.empty_command.ensures c.operand.ensures.rule) c.operand-2.ensures.rule) c.operand-3.ensures.rule) c.statistics.ensures.rule
