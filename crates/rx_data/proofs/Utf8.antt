-- The test for UTF-8 beside what a reader of texts answers.
use Rattle.std.proofs.Common.{◌≡◌, ℕ, true, false, List, refl}
use Rattle.std.specs.Str.{IsUtf8, is_utf8}
use Rattle.std.proofs.lemmas.Str.{IsUtf8-from_is_utf8, is_utf8-from_IsUtf8}

-- a text passes
pub text_passes : (bs : List ℕ) → IsUtf8 bs → is_utf8 bs ≡ true
text_passes bs text = is_utf8-from_IsUtf8 bs text

-- other bytes fail
pub no_text_fails : (bs : List ℕ) → ¬ (IsUtf8 bs) → is_utf8 bs ≡ false
no_text_fails bs none = elim (is_utf8 bs) as (λ b. (is_utf8 bs ≡ b → b ≡ false)) [ true ↦ (λ e. absurd (none (IsUtf8-from_is_utf8 bs e))) | false ↦ (λ e. refl) ] refl
