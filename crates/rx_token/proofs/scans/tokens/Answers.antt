use Rattle.std.proofs.Common.{sym, ◌∙◌, arith, false-eqb}
use Rattle.std.proofs.lemmas.Bool.{eqb-true}
use Rattle.rx_token.proofs.Places.{ends, breaks}
use Rattle.rx_token.proofs.Whole.{whole}
use Rattle.rx_token.proofs.scans.tokens.Goals as goal

pub returns-then-is_empty : goal.returns-then-is_empty
returns-then-is_empty c =
    let w = whole c.args.text.now c.places.list _ (ends _ c.places.rest.now _ c.places.list c.places.at _ c.places.invariant.1 c.gap_width-gap.ensures.all c.split_at.ensures.back (eqb-true _ _ (sym c.if-is_empty.ensures))) in
    record { scanned = w.scanned; value = w.value; rises = w.rises }

pub returns-in_default : goal.returns-in_default
returns-in_default c =
    let w = whole c.args.text.now c.places.list _ (breaks _ c.places.rest.now c.split_at.result.1.now c.places.list c.places.at _ c.places.invariant.1 c.gap_width-gap.ensures.all c.split_at.ensures.back (false-eqb _ 0 c.if-is_empty.ensures) (sym c.in_default.is ∙ c.in_ok-found.ensures.value)) in
    record { scanned = w.scanned; value = w.value; rises = w.rises }

pub split_at-requires-in-places : goal.split_at-requires-in-places
split_at-requires-in-places c =
    let fits = rw c.in-Some.is at c.in_ok-found.ensures.fits in
    omega arith

pub places-smaller : goal.places-smaller
places-smaller c =
    let fits = rw c.in-Some.is at c.in_ok-found.ensures.fits in
    omega (arith, c.split_at.ensures.back_len, c.split_at-in-places.ensures.back_len)
