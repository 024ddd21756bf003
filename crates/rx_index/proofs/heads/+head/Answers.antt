use Rattle.std.proofs.Common.{◌+◌, ◌*◌, ◌^◌, ◌<◌, sym, subst, arith, rules}
use Rattle.rx_index.specs.Heads.{HasSpace}
use Rattle.rx_index.proofs.Spaces.{size_fits, number_fits, space_on}
use Rattle.rx_index.proofs.heads.+head.Goals as goal

pub overflow_add-size : goal.overflow_add-size
overflow_add-size t c = omega (arith, c.count_of-size.ensures, size_fits c.args.before c.in-Some.field.now c.in-Some.fields.now (search rules))

pub overflow_mul-before : goal.overflow_mul-before
overflow_mul-before t c =
    let fits : c.args.before * (c.count_of-size.result + 1) + c.in_ok-number.number + 1 < 2 ^ 128 =
    subst (λ n. c.args.before * (n + 1) + c.in_ok-number.number + 1 < 2 ^ 128) (sym c.count_of-size.ensures)
    (number_fits c.args.before c.in-Some.field.now c.in-Some.fields.now c.args.row.now c.in_ok-number.number c.in_ok-number.ensures (search rules)) in
    omega (arith, fits)

pub overflow_add-before : goal.overflow_add-before
overflow_add-before t c =
    let fits : c.args.before * (c.count_of-size.result + 1) + c.in_ok-number.number + 1 < 2 ^ 128 =
    subst (λ n. c.args.before * (n + 1) + c.in_ok-number.number + 1 < 2 ^ 128) (sym c.count_of-size.ensures)
    (number_fits c.args.before c.in-Some.field.now c.in-Some.fields.now c.args.row.now c.in_ok-number.number c.in_ok-number.ensures (search rules)) in
    omega (arith, fits)

pub head-requires : goal.head-requires
head-requires t c = (
  omega (arith, c.decreases, c.in-Some.ensures),
  subst (λ n. HasSpace (c.args.before * (n + 1) + c.in_ok-number.number) c.in-Some.fields.now) (sym c.count_of-size.ensures)
      (space_on c.args.before c.in-Some.field.now c.in-Some.fields.now c.args.row.now c.in_ok-number.number c.in_ok-number.ensures (search rules)),
)
