-- Truth values.
use Rattle.std.proofs.Common.{◌≡◌, ◌&&◌, ◌||◌, Bool, true, false, not, refl, ap}
use Rattle.std.proofs.Math.Bool.{or_assoc}

-- two tests with the same answer don't differ
pub differ : (a b : Bool) → a ≡ b → a ≡ true → b ≡ false → ⊥
differ a b e f g = absurd (cc (e, f, g))

pub and_parts : (a b : Bool) → (a && b) ≡ true → (a ≡ true) × (b ≡ true)
and_parts true b e = (refl, e)
and_parts false b e = absurd (cc e)

pub and_not_parts : (a b : Bool) → (a && not b) ≡ true → (a ≡ true) × (b ≡ false)
and_not_parts true true e = absurd (cc e)
and_not_parts true false e = (refl, refl)
and_not_parts false b e = absurd (cc e)

-- from a to before b, where m is on the way
pub split_by : (a m b : Bool) → (m ≡ true → a ≡ true) → (b ≡ true → m ≡ true) → (a && not b) ≡ ((a && not m) || (m && not b))
split_by true true b f g = refl
split_by true false true f g = g refl
split_by true false false f g = refl
split_by false true b f g = absurd (cc (f refl))
split_by false false b f g = refl

-- two items with the same child
pub or_and : (a b c r : Bool) → (((a || b) && c) || r) ≡ ((a && c) || ((b && c) || r))
or_and true true true r = refl
or_and true true false r = refl
or_and true false c r = refl
or_and false b c r = refl

-- one item against another and those after it
pub spread : (i b j d m : Bool) → (((i && j) && (b && d)) || ((i && b) && m)) ≡ ((i && b) && ((j && d) || m))
spread true true j d m = refl
spread true false true d m = refl
spread true false false d m = refl
spread false b j d m = refl

-- The parts of two spans that overlap, at a position: a and b say that it isn't below the lower ends, x and y that it isn't below the upper ones.
pub spans_over : (a b x y c d r : Bool) → (x ≡ true → a ≡ true) → (x ≡ true → b ≡ true) → (y ≡ true → a ≡ true) → (y ≡ true → b ≡ true)
    → (((a && not b) && c) || (((b && not a) && d) || ((((a && b) && not (x || y)) && (c || d)) || (((x && not y) && d) || (((y && not x) && c) || r)))))
    ≡ (((a && not x) && c) || (((b && not y) && d) || r))
spans_over true true true true c d r f g h k = refl
spans_over true true true false c d r f g h k = refl
spans_over true true false true c d r f g h k = refl
spans_over true true false false c d r f g h k = or_assoc c d r
spans_over a false true y c d r f g h k = absurd (cc (g refl))
spans_over a false false true c d r f g h k = absurd (cc (k refl))
spans_over false true true y c d r f g h k = absurd (cc (f refl))
spans_over false true false true c d r f g h k = absurd (cc (h refl))
spans_over true false false false c d r f g h k = refl
spans_over false true false false c d r f g h k = refl
spans_over false false false false c d r f g h k = refl

pub or_swap : (a b c : Bool) → (a || (b || c)) ≡ (b || (a || c))
or_swap true true c = refl
or_swap true false c = refl
or_swap false b c = refl

pub no_gap : (a b : Bool) → (a ≡ true → b ≡ true) → (a && not b) ≡ false
no_gap true b f = ap not (f refl)
no_gap false b f = refl
