-- Facts of every item of a list.
use Rattle.std.proofs.Common.{◌≡◌, ℕ, suc, Bool, true, false, cond, ◌||◌, List, [], ◌∷◌, ◌++◌, map, Option, Some, None, refl, ap, arith}
use Rattle.std.specs.Prelude.{All, filter, slice_get}
use Rattle.std.specs.Option.{option_or, option_map}
use Rattle.std.specs.List.{AllByRecursion, list_any}
use Rattle.std.proofs.lemmas.Bool.{cond_both}
use Rattle.std.proofs.lemmas.List.Elements.{All-nil, All-cons}
use Rattle.rx_ddl.specs.declared.statements.ColumnDefinition.{ColumnDefinition}
use Rattle.rx_ddl.specs.declared.statements.KeyDefinition.{KeyDefinition}
use Rattle.rx_ddl.specs.declared.statements.CreateDefinition.{CreateDefinition}
use Rattle.rx_ddl.specs.declared.statements.CreateDefinition.TheVariants.{Column, Key}
use Rattle.rx_schema.specs.Given.{first_given, columns_in, keys_in}

pub every_map : {A : Type 0} (P Q : A → Type 0) → ((x : A) → P x → Q x) → (xs : List A) → AllByRecursion P xs → AllByRecursion Q xs
every_map P Q f [] h = tt
every_map P Q f (x ∷ xs) h = (f x h.0, every_map P Q f xs h.1)

pub every_both : {A : Type 0} (P Q R : A → Type 0) → ((x : A) → P x → Q x → R x) → (xs : List A) → AllByRecursion P xs → AllByRecursion Q xs → AllByRecursion R xs
every_both P Q R f [] h k = tt
every_both P Q R f (x ∷ xs) h k = (f x h.0 k.0, every_both P Q R f xs h.1 k.1)

pub every_of : {A B : Type 0} (P : B → Type 0) (f : A → B) (xs : List A) → AllByRecursion (λ x. P (f x)) xs → AllByRecursion P (map f xs)
every_of P f [] h = tt
every_of P f (x ∷ xs) h = (h.0, every_of P f xs h.1)

pub of_every : {A B : Type 0} (P : B → Type 0) (f : A → B) (xs : List A) → AllByRecursion P (map f xs) → AllByRecursion (λ x. P (f x)) xs
of_every P f [] h = tt
of_every P f (x ∷ xs) h = (h.0, of_every P f xs h.1)

pub every_append : {A : Type 0} (P : A → Type 0) (xs ys : List A) → AllByRecursion P xs → AllByRecursion P ys → AllByRecursion P (xs ++ ys)
every_append P [] ys h k = k
every_append P (x ∷ xs) ys h k = (h.0, every_append P xs ys h.1 k)

pub every_filter : {A : Type 0} (P : A → Type 0) (test : A → Bool) (xs : List A) → AllByRecursion P xs → AllByRecursion P (filter test xs)
every_filter P test [] h = tt
every_filter P test (x ∷ xs) h =
    let later = every_filter P test xs h.1 in
    cond_both (test x) (x ∷ filter test xs) (filter test xs) (AllByRecursion P) (λ e. (h.0, later)) (λ e. later)

pub every_passes : {A : Type 0} (test : A → Bool) (xs : List A) → AllByRecursion (λ x. test x ≡ true) (filter test xs)
every_passes test [] = tt
every_passes test (x ∷ xs) =
    let later = every_passes test xs in
    cond_both (test x) (x ∷ filter test xs) (filter test xs) (AllByRecursion (λ y. test y ≡ true)) (λ e. (e, later)) (λ e. later)

-- the same by places
pub to_all : {A : Type 0} (P : A → Type 0) (xs : List A) → AllByRecursion P xs → All P xs
to_all P [] h = All-nil P
to_all P (x ∷ xs) h = All-cons P x xs h.0 (to_all P xs h.1)

pub or_none : {B : Type 0} (o p : Option B) → option_or o p ≡ None → (o ≡ None) × (p ≡ None)
or_none None p e = (refl, e)
or_none (Some x) p e = absurd cc

-- nothing is given by any
pub none_given : {A B : Type 0} (f : A → Option B) (xs : List A) → first_given f xs ≡ None → AllByRecursion (λ x. f x ≡ None) xs
none_given f [] e = tt
none_given f (x ∷ xs) e = let parts = or_none (f x) (first_given f xs) e in (parts.0, none_given f xs parts.1)

pub given_none : {A B : Type 0} (f : A → Option B) (xs : List A) → AllByRecursion (λ x. f x ≡ None) xs → first_given f xs ≡ None
given_none f [] h = refl
given_none f (x ∷ xs) h = rw h.0 (given_none f xs h.1)

pub map_none : {A B : Type 0} (f : A → B) (o : Option A) → option_map f o ≡ None → o ≡ None
map_none f None e = refl
map_none f (Some x) e = absurd cc

-- the columns and the keys of items
pub every_column : (Q : CreateDefinition → Type 0) (P : ColumnDefinition → Type 0) → ((c : ColumnDefinition) → Q (Column c) → P c) → (items : List CreateDefinition) → AllByRecursion Q items → AllByRecursion P (columns_in items)
every_column Q P f [] h = tt
every_column Q P f (Column c ∷ items) h = (f c h.0, every_column Q P f items h.1)
every_column Q P f (Key k ∷ items) h = every_column Q P f items h.1

pub every_key : (Q : CreateDefinition → Type 0) (P : KeyDefinition → Type 0) → ((k : KeyDefinition) → Q (Key k) → P k) → (items : List CreateDefinition) → AllByRecursion Q items → AllByRecursion P (keys_in items)
every_key Q P f [] h = tt
every_key Q P f (Column c ∷ items) h = every_key Q P f items h.1
every_key Q P f (Key k ∷ items) h = (f k h.0, every_key Q P f items h.1)

pub or_false : (a b : Bool) → (a || b) ≡ false → (a ≡ false) × (b ≡ false)
or_false true b e = absurd cc
or_false false b e = (refl, e)

-- no item passes a test
pub none_pass : {A : Type 0} (test : A → Bool) (xs : List A) → list_any test xs ≡ false → AllByRecursion (λ x. test x ≡ false) xs
none_pass test [] e = tt
none_pass test (x ∷ xs) e = let parts = or_false (test x) (list_any test xs) e in (parts.0, none_pass test xs parts.1)

pub pass_none : {A : Type 0} (test : A → Bool) (xs : List A) → AllByRecursion (λ x. test x ≡ false) xs → list_any test xs ≡ false
pass_none test [] h = refl
pass_none test (x ∷ xs) h = rw h.0 (pass_none test xs h.1)

-- all that pass a test, and none
pub filter_all : {A : Type 0} (test : A → Bool) (xs : List A) → AllByRecursion (λ x. test x ≡ true) xs → filter test xs ≡ xs
filter_all test [] h = refl
filter_all test (x ∷ xs) h = rw h.0 (ap (λ ys. x ∷ ys) (filter_all test xs h.1))

pub filter_none : {A : Type 0} (test : A → Bool) (xs : List A) → AllByRecursion (λ x. test x ≡ false) xs → filter test xs ≡ []
filter_none test [] h = refl
filter_none test (x ∷ xs) h = rw h.0 (filter_none test xs h.1)

pub map_same : {A B : Type 0} (f g : A → B) → ((x : A) → f x ≡ g x) → (xs : List A) → map f xs ≡ map g xs
map_same f g e [] = refl
map_same f g e (x ∷ xs) = rw (e x) (ap (λ ys. g x ∷ ys) (map_same f g e xs))

pub map_both : {A B C : Type 0} (f : A → B) (g : B → C) (xs : List A) → map g (map f xs) ≡ map (λ x. g (f x)) xs
map_both f g [] = refl
map_both f g (x ∷ xs) = ap (λ ys. g (f x) ∷ ys) (map_both f g xs)

pub every_any : {A : Type 0} (P : A → Type 0) → ((x : A) → P x) → (xs : List A) → AllByRecursion P xs
every_any P f [] = tt
every_any P f (x ∷ xs) = (f x, every_any P f xs)

-- a test of what a list is taken to
pub choose : {A B : Type 0} (d : A → B) (x : A) (xs : List A) (ys : List B) (t u : Bool) → t ≡ u → ys ≡ map d xs → cond t (d x ∷ ys) ys ≡ map d (cond u (x ∷ xs) xs)
choose d x xs ys true true e f = ap (λ zs. d x ∷ zs) f
choose d x xs ys true false e f = absurd cc
choose d x xs ys false true e f = absurd cc
choose d x xs ys false false e f = f

pub filter_of : {A B : Type 0} (d : A → B) (test : B → Bool) (own : A → Bool) → ((x : A) → test (d x) ≡ own x) → (xs : List A) → filter test (map d xs) ≡ map d (filter own xs)
filter_of d test own e [] = refl
filter_of d test own e (x ∷ xs) = choose d x (filter own xs) (filter test (map d xs)) (test (d x)) (own x) (e x) (filter_of d test own e xs)

pub map_same_on : {A B : Type 0} (f g : A → B) (xs : List A) → AllByRecursion (λ x. f x ≡ g x) xs → map f xs ≡ map g xs
map_same_on f g [] h = refl
map_same_on f g (x ∷ xs) h = rw h.0 (ap (λ ys. g x ∷ ys) (map_same_on f g xs h.1))

-- a list that is taken there and back
pub map_back : {A B : Type 0} (f : A → B) (g : B → A) (xs : List A) → AllByRecursion (λ x. g (f x) ≡ x) xs → map g (map f xs) ≡ xs
map_back f g [] h = refl
map_back f g (x ∷ xs) h = rw (h.0, map_back f g xs h.1) refl

pub from_all : {A : Type 0} (P : A → Type 0) (xs : List A) → All P xs → AllByRecursion P xs
from_all P [] h = tt
from_all P (x ∷ xs) h = (h 0 x (omega arith), from_all P xs (λ k d b. h (suc k) d (omega arith)))

kept : {A : Type 0} (P : A → Type 0) (x : A) (xs : List A) (b : Bool) → AllByRecursion P (cond b (x ∷ xs) xs) → (b ≡ true → P x) × AllByRecursion P xs
kept P x xs true h = (λ e. h.0, h.1)
kept P x xs false h = (λ e. absurd cc, h)

-- facts of the items that pass a test
pub filter_every : {A : Type 0} (P : A → Type 0) (test : A → Bool) (xs : List A) → AllByRecursion P (filter test xs) → AllByRecursion (λ x. test x ≡ true → P x) xs
filter_every P test [] h = tt
filter_every P test (x ∷ xs) h = let parts = kept P x (filter test xs) (test x) h in (parts.0, filter_every P test xs parts.1)

-- facts by places
pub by_places : {A : Type 0} (P : A → Type 0) (xs : List A) → ((i : ℕ) (x : A) → slice_get xs i ≡ Some x → P x) → AllByRecursion P xs
by_places P [] h = tt
by_places P (x ∷ xs) h = (h 0 x refl, by_places P xs (λ i y e. h (suc i) y e))
