-- What a key has at the column of a test.
use Rattle.std.proofs.Common.{◌≡◌, ℕ, ◌==◌, Bool, true, false, ◌||◌, if◌then◌else◌, List, [], ◌∷◌, map, Option, Some, is_some, refl, ap, ◌∙◌, eqb-true}
use Rattle.rx_value.specs.declared.values.Value.{Value}
use Rattle.rx_value.specs.declared.order.End.{End}
use Rattle.rx_value.specs.declared.shapes.Part.{Part}
use Rattle.rx_value.specs.Order.{below}
use Rattle.rx_value.specs.Keys.{column_value, cut_value, part_value, key_of}
use Rattle.rx_regions.specs.Cans.{spot_of, at_spot}
use Rattle.rx_regions.specs.Texts.{cuts}

-- the positions of a key
abbrev pub points : List Part → List Value → List End
points parts row = map below (key_of parts row)

or_left : (a b : Bool) → a ≡ true → (a || b) ≡ true
or_left true b e = refl
or_left false b e = absurd (cc e)

or_right : (a b : Bool) → b ≡ true → (a || b) ≡ true
or_right true b e = refl
or_right false b e = e

module _ (X : Type 0) (test : Option ℕ → End → Bool) (c : ℕ) (row : List Value) where
  -- a test of a column passes at a key, where it passes at the column's value however that is cut
  pub at_key : ((n : Option ℕ) → (is_some n ≡ true → X) → test n (below (cut_value n (column_value c row))) ≡ true)
      → (parts : List Part) → (cuts parts ≡ true → X) → at_spot test (spot_of c parts (points parts row)) ≡ true
  at_key each [] known = refl
  at_key each (q ∷ qs) known =
      elim (q.column == c) as (λ b. q.column == c ≡ b → at_spot test (if b then Some (q, below (part_value q row)) else spot_of c qs (points qs row)) ≡ true) [
        | true ↦ λ e. ap (λ k. test q.chars (below (cut_value q.chars (column_value k row)))) (eqb-true q.column c e)
            ∙ each q.chars (λ s. known (or_left (is_some q.chars) (cuts qs) s))
        | false ↦ λ e. at_key each qs (λ s. known (or_right (is_some q.chars) (cuts qs) s))
      ] refl
