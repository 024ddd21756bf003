-- Items with separators are read as far as they are spelled, or farther.
use Rattle.std.proofs.Common.{◌≡◌, ℕ, zero, suc, ◌<◌, ◌≤◌, ◌⊎◌, Bool, true, false, List, [], ◌∷◌, length, Option, Some, None, is_some, refl, sym, ap, ◌∙◌, inl, inr, ⊎_elim, arith}
use Rattle.std.specs.Option.{option_and_then}
use Rattle.rx_token.specs.declared.kinds.Token.{Token}
use Rattle.rx_reading.specs.Reading.{Reader, more_at, next_of, items_at}

-- more is read than what comes before the rest, which begins with a token that goes on
pub record Beyond {A : Type 0} (goes_on : List Token → Bool) (read : Option (A × List Token)) (rest : List Token) : Type 0 where
  pub x : A × List Token
  pub is : read ≡ Some x
  pub shorter : length x.1 < length rest
  pub follows : goes_on rest ≡ true

abbrev pub found : {A : Type 0} → A → List Token → Option (A × List Token)
found a rest = Some (a, rest)

-- just this is read, or more
abbrev pub Reaches : {A : Type 0} → (List Token → Bool) → Option (A × List Token) → A → List Token → Type 0
Reaches goes_on read a rest = (read ≡ found a rest) ⊎ Beyond goes_on read rest

-- what is made of what is read
pub changed : {A B : Type 0} (f : A → B) (goes_on : List Token → Bool) (read : Option (A × List Token)) (a : A) (rest : List Token) → Reaches goes_on read a rest → Reaches goes_on (option_and_then (λ y. Some (f y.0, y.1)) read) (f a) rest
changed {A} f goes_on read a rest r =
    ⊎_elim
    (λ e. inl (ap (option_and_then (λ (y : A × List Token). Some (f y.0, y.1))) e))
    (λ b. inr (record { x = (f b.x.0, b.x.1); is = ap (option_and_then (λ (y : A × List Token). Some (f y.0, y.1))) b.is; shorter = b.shorter; follows = b.follows }))
    r

abbrev pub nothing_more : {A : Type 0} → List Token → List A × List Token
nothing_more ts = ([], ts)

module _ {A : Type 0} (after : List Token → Option (List Token)) (p : Reader A)
    (after_short : (ts mid : List Token) → after ts ≡ Some mid → length mid < length ts)
    (p_short : (ts : List Token) (x : A × List Token) → p ts ≡ Some x → length x.1 < length ts) where
  -- an item after a separator
  step_short : (ts : List Token) (o : Option (List Token)) → after ts ≡ o → (x : A × List Token) → option_and_then p o ≡ Some x → length x.1 < length ts
  step_short ts None is x e = absurd cc
  step_short ts (Some mid) is x e = let a = after_short ts mid is in let b = p_short mid x e in omega arith

  same_next : (f g : ℕ) → ((us : List Token) → length us ≤ f → length us ≤ g → more_at after p f us ≡ more_at after p g us) → (ts : List Token) → length ts ≤ suc f → length ts ≤ suc g → (o : Option (A × List Token)) → ((x : A × List Token) → o ≡ Some x → length x.1 < length ts) → next_of ts (more_at after p f) o ≡ next_of ts (more_at after p g) o
  same_next f g same ts le_f le_g None short = refl
  same_next f g same ts le_f le_g (Some x) short =
      let s = short x refl in
      ap (λ (m : List A × List Token). (x.0 ∷ m.0, m.1)) (same x.1 (omega arith) (omega arith))

  ended : (ts : List Token) (g : ℕ) (o : Option (A × List Token)) → ((x : A × List Token) → o ≡ Some x → length x.1 < length ts) → length ts ≤ 0 → next_of ts (more_at after p g) o ≡ nothing_more ts
  ended ts g None short le = refl
  ended ts g (Some x) short le = let s = short x refl in absurd (omega arith)

  -- enough is enough
  enough : (f g : ℕ) (ts : List Token) → length ts ≤ f → length ts ≤ g → more_at after p f ts ≡ more_at after p g ts
  unfolding more_at
  enough zero zero ts le_f le_g = refl
  enough zero (suc g) ts le_f le_g = sym (ended ts g (option_and_then p (after ts)) (step_short ts (after ts) refl) le_f)
  enough (suc f) zero ts le_f le_g = ended ts f (option_and_then p (after ts)) (step_short ts (after ts) refl) le_g
  enough (suc f) (suc g) ts le_f le_g = same_next f g (enough f g) ts le_f le_g (option_and_then p (after ts)) (step_short ts (after ts) refl)

  -- nothing more is read, or a separator comes and the rest is shorter
  abbrev Moves : List Token → List A × List Token → Type 0
  Moves ts m = (m ≡ nothing_more ts) ⊎ ((length m.1 < length ts) × (is_some (after ts) ≡ true))

  at_most : (ts : List Token) (m : List A × List Token) → Moves ts m → length m.1 ≤ length ts
  at_most ts m moves = ⊎_elim (λ e. let k : length m.1 ≡ length ts = ap (λ (y : List A × List Token). length y.1) e in omega arith) (λ (s, _). omega arith) moves

  moves_by : (f : ℕ) → ((us : List Token) → Moves us (more_at after p f us)) → (ts : List Token) (o : Option (List Token)) → after ts ≡ o → (q : Option (A × List Token)) → option_and_then p o ≡ q → Moves ts (next_of ts (more_at after p f) q)
  moves_by f later ts o is None e = inl refl
  moves_by f later ts None is (Some x) e = absurd cc
  moves_by f later ts (Some mid) is (Some x) e =
      let a = after_short ts mid is in
      let b = p_short mid x e in
      let c = at_most x.1 (more_at after p f x.1) (later x.1) in
      inr (omega arith, ap (λ (o : Option (List Token)). is_some o) is)

  moves : (f : ℕ) (ts : List Token) → Moves ts (more_at after p f ts)
  unfolding more_at
  moves zero ts = inl refl
  moves (suc f) ts = moves_by f (moves f) ts (after ts) refl (option_and_then p (after ts)) refl

  -- the items after the first
  abbrev rest_of : A × List Token → Option (List A × List Token)
  rest_of x = Some (x.0 ∷ (more_at after p (length x.1) x.1).0, (more_at after p (length x.1) x.1).1)

  read_as : (ts : List Token) (x : A × List Token) → p ts ≡ Some x → items_at after p ts ≡ rest_of x
  unfolding items_at
  read_as ts x e = ap (option_and_then rest_of) e

  next_by : (f : ℕ) (here mid : List Token) → length mid ≤ f → (q : Option (A × List Token)) → p mid ≡ q → (y : List A × List Token) → option_and_then rest_of q ≡ Some y → next_of here (more_at after p f) q ≡ y
  next_by f here mid le None is y e = absurd cc
  next_by f here mid le (Some x) is y e =
      let s = p_short mid x is in
      let same : more_at after p f x.1 ≡ more_at after p (length x.1) x.1 = enough f (length x.1) x.1 (omega arith) (omega arith) in
      let made : List A × List Token = (x.0 ∷ (more_at after p (length x.1) x.1).0, (more_at after p (length x.1) x.1).1) in
      let whole : made ≡ y = cc in
      ap (λ (m : List A × List Token). (x.0 ∷ m.0, m.1)) same ∙ whole

  -- what is read after a separator
  next_is : (f : ℕ) (here mid : List Token) → after here ≡ Some mid → length here ≤ f → (y : List A × List Token) → items_at after p mid ≡ Some y → more_at after p f here ≡ y
  unfolding more_at items_at
  next_is zero here mid is le y e = let s = after_short here mid is in absurd (omega arith)
  next_is (suc f) here mid is le y e =
      let s = after_short here mid is in
      ap (λ (o : Option (List Token)). next_of here (more_at after p f) (option_and_then p o)) is ∙ next_by f here mid (omega arith) (p mid) refl y e

  module _ (inner outer : List Token → Bool) (from_inner : (ts : List Token) → inner ts ≡ true → outer ts ≡ true) (from_after : (ts : List Token) → is_some (after ts) ≡ true → outer ts ≡ true) where
    -- the last item
    pub last_reaches : (a : A) (ts rest : List Token) → Reaches inner (p ts) a rest → Reaches outer (items_at after p ts) (a ∷ []) rest
    last_reaches a ts rest r =
        ⊎_elim
        (λ e. ⊎_elim
        (λ stays. inl (read_as ts (a, rest) e ∙ ap (λ (m : List A × List Token). Some (a ∷ m.0, m.1)) stays))
        (λ (s, f). inr (record { x = (a ∷ (more_at after p (length rest) rest).0, (more_at after p (length rest) rest).1); is = read_as ts (a, rest) e; shorter = s; follows = from_after rest f }))
        (moves (length rest) rest))
        (λ b.
        let m = at_most b.x.1 (more_at after p (length b.x.1) b.x.1) (moves (length b.x.1) b.x.1) in
        let s = b.shorter in
        inr (record { x = (b.x.0 ∷ (more_at after p (length b.x.1) b.x.1).0, (more_at after p (length b.x.1) b.x.1).1); is = read_as ts b.x b.is; shorter = omega arith; follows = from_inner rest b.follows }))
        r

    -- an item before others
    pub next_reaches : (a : A) (others_read : List A) (ts here mid rest : List Token) → inner here ≡ false → after here ≡ Some mid → Reaches inner (p ts) a here → Reaches outer (items_at after p mid) others_read rest → Reaches outer (items_at after p ts) (a ∷ others_read) rest
    next_reaches a others_read ts here mid rest stops is r others =
        ⊎_elim
        (λ e. ⊎_elim
        (λ o. inl (read_as ts (a, here) e ∙ ap (λ (m : List A × List Token). Some (a ∷ m.0, m.1)) (next_is (length here) here mid is (omega arith) (others_read, rest) o)))
        (λ b. let same = next_is (length here) here mid is (omega arith) b.x b.is in
        inr (record { x = (a ∷ b.x.0, b.x.1); is = read_as ts (a, here) e ∙ ap (λ (m : List A × List Token). Some (a ∷ m.0, m.1)) same; shorter = b.shorter; follows = b.follows }))
        others)
        (λ b. let f = b.follows in absurd cc)
        r
