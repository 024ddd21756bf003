use Rattle.std.proofs.Common.{arith, sym, ap, ◌∙◌, subst, ◌≡◌, ◌<◌, ◌-◌, ◌||◌, true, List, ℕ, length, get_or, vec_len}
use Rattle.std.specs.Str.{IsUtf8}
use Rattle.rx_regions.specs.Cans.{fills}
use Rattle.rx_single.proofs.Prefixes.{prefix_text, prefix_can_rise, first_so, second_so, neither, some_bytes, pattern_point, pattern_range}
use Rattle.rx_single.proofs.patterns.pattern_spans.Goals as goal
use Rattle.rx_single.proofs.patterns.pattern_spans.Goals.{then-is_whole-via-then-is_whole, then-is_whole-via-else-is_whole+then-fills}

pub fills-requires : goal.fills-requires
fills-requires c = subst IsUtf8 (sym (c.deref.ensures.value ∙ c.in_ok-prefix.ensures.front)) (prefix_text c.args.pattern.now)

pub text_range-requires : goal.text_range-requires
text_range-requires c =
    let prefix = c.in_ok-prefix.prefix.items in
    let same : length prefix ≡ vec_len c.in_ok-prefix.prefix = omega (arith, c.in_ok-prefix.prefix.ok.0) in
    subst (λ (n : ℕ). get_or prefix (n - 1) 0 < 255) same
    (subst (λ (bs : List ℕ). get_or bs (length bs - 1) 0 < 255) (sym c.in_ok-prefix.ensures.front) (prefix_can_rise c.args.pattern.now))

pub returns-then-is_whole : goal.returns-then-is_whole
returns-then-is_whole c =
    let prefix = c.in_ok-prefix.prefix.items in
    let all : (c.in_ok-prefix.is_whole || fills c.args.chars prefix) ≡ true = elim c.then-is_whole.branch [
      | then-is_whole-via-then-is_whole w ↦ first_so c.in_ok-prefix.is_whole (fills c.args.chars prefix) w.if-is_whole.true
      | then-is_whole-via-else-is_whole+then-fills w ↦ second_so c.in_ok-prefix.is_whole (fills c.args.chars prefix)
          (sym (w.fills.ensures ∙ ap (fills c.args.chars) w.deref.ensures.value) ∙ w.if-fills.true)
    ] in
    pattern_point c.args.nullable c.args.pattern.now c.args.chars prefix c.in_ok-point.point c.in_ok-prefix.is_whole
    c.in_ok-prefix.ensures.front c.in_ok-prefix.ensures.whole all c.in_ok-point.ensures

pub returns : goal.returns
returns c =
    let prefix = c.in_ok-prefix.prefix.items in
    let same : length prefix ≡ vec_len c.in_ok-prefix.prefix = omega (arith, c.in_ok-prefix.prefix.ok.0) in
    pattern_range c.args.nullable c.args.pattern.now c.args.chars prefix c.in_ok-range.range c.in_ok-prefix.is_whole
    c.in_ok-prefix.ensures.front c.in_ok-prefix.ensures.whole
    (neither c.in_ok-prefix.is_whole (fills c.args.chars prefix) c.if-is_whole.false (sym (c.fills.ensures ∙ ap (fills c.args.chars) c.deref.ensures.value) ∙ c.if-fills.false))
    (some_bytes prefix (vec_len c.in_ok-prefix.prefix) same (sym c.is_empty.ensures ∙ c.if-is_empty.false))
    c.in_ok-range.ensures
