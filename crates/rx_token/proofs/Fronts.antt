-- One front after another.
use Rattle.std.proofs.Common.{◌≡◌, ℕ, ◌+◌, List, ◌++◌, Option, Some, None, refl, append_assoc, arith}
use Rattle.rx_token.specs.Quotes.{with_front}

pub front_after : (a b : List ℕ) (m n : ℕ) (o : Option (List ℕ × ℕ)) → with_front a m (with_front b n o) ≡ with_front (a ++ b) (m + n) o
front_after a b m n None = refl
front_after a b m n (Some x) =
    let e : (m + (n + x.1)) ≡ (m + n) + x.1 = omega arith in
    rw (append_assoc a b x.0, e) refl
