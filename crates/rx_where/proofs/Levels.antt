-- One level of parentheses and NOT.
use Rattle.std.proofs.Common.{◌≡◌, ℕ, zero, suc, ◌-◌, List, Option, None, refl, sym, ap, ◌∙◌, arith}
use Rattle.rx_token.specs.declared.kinds.Token.{Token}
use Rattle.std.specs.Prelude.{IfOk, Result, Ok, Err}
use Rattle.rx_reading.specs.declared.read.Read.{Read}
use Rattle.rx_reading.specs.Reading.{ReadsAs}
use Rattle.rx_where.specs.declared.raw.RawCond.{RawCond}
use Rattle.rx_where.specs.Raw.{raw_tree_of}
use Rattle.rx_where.specs.Conditions.{neg_at, nest}

pub no_level : (levels : ℕ) (ts : List Token) → levels ≡ 0 → None ≡ neg_at levels ts
unfolding neg_at
no_level levels ts is = ap (λ (n : ℕ). neg_at n ts) (sym is)

pub one_level : (levels : ℕ) (ts : List Token) → (levels ≡ 0 → ⊥) → nest (neg_at (levels - 1)) ts ≡ neg_at levels ts
unfolding neg_at
one_level zero ts some = absurd (some refl)
one_level (suc n) ts some = let e : suc n - 1 ≡ n = omega arith in ap (λ (m : ℕ). nest (neg_at m) ts) e

-- what is read one level deeper
pub level_read : {E : Type 0} (levels : ℕ) (ts : List Token) → (levels ≡ 0 → ⊥) → (result : Result (Option (Read RawCond)) E) → IfOk result (ReadsAs raw_tree_of (nest (neg_at (levels - 1))) ts) → IfOk result (ReadsAs raw_tree_of (neg_at levels) ts)
level_read levels ts some (Err e) is = tt
level_read levels ts some (Ok found) is = (is.0 ∙ one_level levels ts some, is.1)
