-- The bytes of a name, one by one.
use Rattle.std.proofs.Common.{◌≡◌, ℕ, List, [], ◌∷◌, ◌++◌, ◌==◌, refl, ◌∙◌, append_assoc, inl, inr}
use Rattle.std.specs.List.{flat_map}
use Rattle.std.proofs.lemmas.Bool.{cases_Bool}
use Rattle.rx_token.specs.Quotes.{doubled}
use Rattle.rx_ddl.specs.Canonical.{doubled_byte, quoted}

pub piecewise : (name : List ℕ) → flat_map doubled_byte name ≡ doubled name
piecewise [] = refl
piecewise (b ∷ bs) = elim (cases_Bool (b == 96)) [
  | inl e ↦ rw (e, piecewise bs) refl
  | inr e ↦ rw (e, piecewise bs) refl
]

-- a name between its quotes
pub quoted_by : (old opened inside new name : List ℕ) → opened ≡ old ++ 96 ∷ [] → inside ≡ opened ++ flat_map doubled_byte name → new ≡ inside ++ 96 ∷ [] → new ≡ old ++ quoted name
quoted_by old opened inside new name e f g =
    g ∙ rw (f, e, piecewise name) (append_assoc (old ++ 96 ∷ []) (doubled name) (96 ∷ []) ∙ append_assoc old (96 ∷ []) (doubled name ++ 96 ∷ []))
