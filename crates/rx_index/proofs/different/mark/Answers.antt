use Rattle.std.proofs.Common.{◌≡◌, ℕ, ◌<◌, ◌-◌, ◌+◌, map, length, get_or, sym, subst, ap₂, ◌∙◌, rules}
use Rattle.std.specs.Ordering.{is_eq}
use Rattle.std.proofs.lemmas.List.{get_or-map}
use Rattle.rx_value.specs.declared.values.Value.TheVariants.{Null}
use Rattle.rx_value.specs.declared.keys.PartValue.TheVariants.{Null as none}
use Rattle.rx_value.specs.Keys.{part_cmp}
use Rattle.rx_value.specs.Parts.{borrowed}
use Rattle.rx_index.specs.Marks.{AreMarkedTo}
use Rattle.rx_index.proofs.Marking.{left_unmarked, made_marked}
use Rattle.rx_index.proofs.different.mark.Goals as goal
use Rattle.rx_index.proofs.different.mark.Goals.{then-not-is_same, else-not-is_same}

pub loop-place-preserved : goal.loop-place-preserved
loop-place-preserved c =
    let falling = c.args.falling in
    let values = map borrowed c.args.values.now in
    let place = c.loop-place.place in
    let old = c.args.marks.now in
    let value_at : (i : ℕ) → i < length c.args.values.now → borrowed (get_or c.args.values.now i none) ≡ get_or values i Null = λ i lt. sym (get_or-map borrowed c.args.values.now i none Null lt) in
    let told : c.is_same.result ≡ is_eq (part_cmp falling (get_or values (place - 1) Null) (get_or values place Null)) =
    c.is_same.ensures ∙ ap₂ (λ u v. is_eq (part_cmp falling u v)) (value_at (place - 1) (search rules)) (value_at place (search rules)) in
    elim c.if-not-is_same.branch [
      | then-not-is_same w ↦ subst (AreMarkedTo falling values (place + 1) old) (sym w.marks-is)
          (made_marked falling values place old c.loop-place.marks (search rules) c.loop-place.invariant c.is_same.result told (search rules))
      | else-not-is_same w ↦ subst (AreMarkedTo falling values (place + 1) old) (sym w.marks-is)
          (left_unmarked falling values place old c.loop-place.marks (search rules) c.loop-place.invariant c.is_same.result told (search rules))
    ]
