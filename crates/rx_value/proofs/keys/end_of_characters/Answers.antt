use Rattle.std.proofs.Common.{◌++◌, true, false, take, drop, sym, ap, ◌∙◌, arith}
use Rattle.std.proofs.Math.Seq.{take_all, take-length}
use Rattle.std.proofs.Math.ListN.{drop_of_length-le}
use Rattle.std.proofs.lemmas.List.{append-nil}
use Rattle.std.specs.Fmt.{take_chars}
use Rattle.rx_value.proofs.Prefixes.{take_chars-nil, stops, keeps}
use Rattle.rx_value.proofs.keys.end_of_characters.Goals as goal
use Rattle.rx_value.proofs.keys.end_of_characters.Goals.{then-starts_character+else-left-eq0, else-starts_character}

pub returns-then-left-eq0-clause-value : goal.returns-then-left-eq0-clause-value
returns-then-left-eq0-clause-value c =
    let s = c.args.text.now in
    let i = c.loop-place.place in
    sym (c.loop-place.invariant ∙ ap (λ n. take i s ++ take_chars n (drop i s)) c.if-left-eq0.true
    ∙ stops s i c.loop-place-test.true (sym c.starts_character.ensures ∙ c.if-starts_character.true))

pub loop-place-preserved : goal.loop-place-preserved
loop-place-preserved c =
    let kept = keeps c.args.text.now c.loop-place.place c.loop-place.left c.if-starts_character.left in
    let test = sym c.starts_character.ensures in
    elim c.if-starts_character.branch [
      | then-starts_character+else-left-eq0 w ↦ c.loop-place.invariant ∙ sym (kept true c.loop-place-test.true (test ∙ w.if-starts_character.true) (omega arith))
      | else-starts_character w ↦ c.loop-place.invariant ∙ sym (kept false c.loop-place-test.true (test ∙ w.if-starts_character.false) (omega arith))
    ]

pub returns-clause-value : goal.returns-clause-value
returns-clause-value c =
    let s = c.args.text.now in
    let past = c.loop-place-test.false in
    sym (rw (take_all c.loop-place.place s past, drop_of_length-le s past, take_chars-nil, append-nil) at c.loop-place.invariant ∙ sym (take-length s))
