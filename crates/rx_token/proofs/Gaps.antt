-- White space and comments, one after the other.
use Rattle.std.proofs.Common.{◌≡◌, ℕ, ◌+◌, ◌<◌, List, drop, sym, ap, subst, ◌∙◌, arith, add-zero}
use Rattle.rx_token.specs.Blank.{blank_at, Blanks, none, more}

pub gaps_end : (bytes rest : List ℕ) (width next : ℕ) → next ≡ blank_at rest → next ≡ 0 → ((n : ℕ) → Blanks rest n → Blanks bytes (width + n)) → Blanks bytes width
gaps_end bytes rest width next is zero so_far = subst (Blanks bytes) (add-zero width) (so_far 0 (none (sym is ∙ zero)))

pub gaps_on : (bytes rest after : List ℕ) (width next : ℕ) → next ≡ blank_at rest → 0 < next → after ≡ drop next rest → ((n : ℕ) → Blanks rest n → Blanks bytes (width + n)) → (n : ℕ) → Blanks after n → Blanks bytes ((width + next) + n)
gaps_on bytes rest after width next is some cut so_far n tail =
    let e : after ≡ drop (blank_at rest) rest = cut ∙ ap (λ (k : ℕ). drop k rest) is in
    let positive : 0 < blank_at rest = subst (λ (k : ℕ). 0 < k) is some in
    let whole : Blanks bytes (width + (blank_at rest + n)) = so_far (blank_at rest + n) (more positive (subst (λ (xs : List ℕ). Blanks xs n) e tail)) in
    let f : width + (blank_at rest + n) ≡ (width + next) + n = omega arith in
    subst (Blanks bytes) f whole
