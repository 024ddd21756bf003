-- Steps of a reader, forwards and backwards.
use Rattle.std.proofs.Common.{◌≡◌, ◌⊎◌, Option, Some, None, refl, ap, ◌∙◌, inl, inr}
use Rattle.std.specs.Option.{option_and_then, option_or}

-- what the first of two steps gave, and that the second gave the rest
pub stepped : {A B : Type 0} (f : A → Option B) (o : Option A) (y : B) → option_and_then f o ≡ Some y → (x : A) × (o ≡ Some x) × (f x ≡ Some y)
stepped f None y e = absurd cc
stepped f (Some x) y e = (x, refl, e)

pub then_gives : {A B : Type 0} (f : A → Option B) {o : Option A} {x : A} {r : Option B} → o ≡ Some x → f x ≡ r → option_and_then f o ≡ r
then_gives f e h = ap (option_and_then f) e ∙ h

pub then_none : {A B : Type 0} (f : A → Option B) {o : Option A} → o ≡ None → option_and_then f o ≡ None
then_none f e = ap (option_and_then f) e

-- one of two readers gave it
pub one_of : {A : Type 0} (a b : Option A) (x : A) → option_or a b ≡ Some x → (a ≡ Some x) ⊎ (b ≡ Some x)
one_of None b x e = inr e
one_of (Some y) b x e = inl e

pub first_gives : {A : Type 0} {a : Option A} (b : Option A) {x : A} → a ≡ Some x → option_or a b ≡ Some x
first_gives b e = ap (λ o. option_or o b) e

pub second_gives : {A : Type 0} {a b r : Option A} → a ≡ None → b ≡ r → option_or a b ≡ r
second_gives {A} {a} {b} e h = ap (λ o. option_or o b) e ∙ h

pub same_value : {A : Type 0} (x y : A) → Some x ≡ Some y → x ≡ y
same_value x y e = cc
