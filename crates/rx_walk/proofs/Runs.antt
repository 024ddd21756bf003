-- Stretches put before and behind others.
use Rattle.std.proofs.Common.{◌≡◌, ◌⊎◌, inl, inr, Bool, true, false, if◌then◌else◌, List, [], ◌∷◌, ◌++◌, length, reverse, refl, ap, sym, ◌∙◌, arith}
use Rattle.std.proofs.lemmas.List.{reverse-append, length-reverse}
use Rattle.rx_value.specs.declared.order.Span.{Span}
use Rattle.rx_tree.specs.Tree.{Level}
use Rattle.rx_tree.specs.Tree.Level.{end, item}
use Rattle.rx_tree.specs.Join.{join_level}
use Rattle.rx_cover.specs.Cover.{Stretch, stretches, stretch_of, put_stretch}
use Rattle.rx_cover.specs.Cover.Stretch.{deep, full}
use Rattle.rx_walk.specs.Walk.{touches_in, join_in, meet_full, meet_stretch}

pub both_ways : (b : Bool) → (b ≡ true) ⊎ (b ≡ false)
both_ways true = inl refl
both_ways false = inr refl

pub meet_touch : (f : Bool) (s t : Span) (rest : List Stretch) → touches_in f s t ≡ true → meet_full f s (full t ∷ rest) ≡ full (join_in f s t) ∷ rest
meet_touch f s t rest e = ap (λ (b : Bool). if b then full (join_in f s t) ∷ rest else full s ∷ full t ∷ rest) e

pub meet_apart : (f : Bool) (s t : Span) (rest : List Stretch) → touches_in f s t ≡ false → meet_full f s (full t ∷ rest) ≡ full s ∷ full t ∷ rest
meet_apart f s t rest e = ap (λ (b : Bool). if b then full (join_in f s t) ∷ rest else full s ∷ full t ∷ rest) e

-- what two joined spans touch
touches_far : (f : Bool) (s t u : Span) → touches_in f (join_in f s t) u ≡ touches_in f t u
touches_far true s t u = refl
touches_far false s t u = refl

touches_near : (f : Bool) (s t u : Span) → touches_in f s (join_in f t u) ≡ touches_in f s t
touches_near true s t u = refl
touches_near false s t u = refl

join_three : (f : Bool) (s t u : Span) → join_in f (join_in f s t) u ≡ join_in f s (join_in f t u)
join_three true s t u = refl
join_three false s t u = refl

-- a span that touches what is met next is one with it
pub meet_joined : (f : Bool) (s t : Span) (rest : List Stretch) → touches_in f s t ≡ true → meet_full f s (meet_full f t rest) ≡ meet_full f (join_in f s t) rest
meet_joined f s t [] e = meet_touch f s t [] e
meet_joined f s t (deep v c ∷ rest) e = meet_touch f s t (deep v c ∷ rest) e
meet_joined f s t (full u ∷ rest) e = elim (both_ways (touches_in f t u)) [
  | inl d ↦
      ap (meet_full f s) (meet_touch f t u rest d)
      ∙ meet_touch f s (join_in f t u) rest (touches_near f s t u ∙ e)
      ∙ ap (λ (w : Span). full w ∷ rest) (sym (join_three f s t u))
      ∙ sym (meet_touch f (join_in f s t) u rest (touches_far f s t u ∙ d))
  | inr d ↦
      ap (meet_full f s) (meet_apart f t u rest d)
      ∙ meet_touch f s t (full u ∷ rest) e
      ∙ sym (meet_apart f (join_in f s t) u rest (touches_far f s t u ∙ d))
]

-- a span that doesn't touch what is met next stands alone
pub meet_alone : (f : Bool) (s t : Span) (rest : List Stretch) → touches_in f s t ≡ false → meet_full f s (meet_full f t rest) ≡ full s ∷ meet_full f t rest
meet_alone f s t [] e = meet_apart f s t [] e
meet_alone f s t (deep v c ∷ rest) e = meet_apart f s t (deep v c ∷ rest) e
meet_alone f s t (full u ∷ rest) e = elim (both_ways (touches_in f t u)) [
  | inl d ↦
      ap (meet_full f s) (meet_touch f t u rest d)
      ∙ meet_apart f s (join_in f t u) rest (touches_near f s t u ∙ e)
      ∙ ap (λ (l : List Stretch). full s ∷ l) (sym (meet_touch f t u rest d))
  | inr d ↦
      ap (meet_full f s) (meet_apart f t u rest d)
      ∙ meet_apart f s t (full u ∷ rest) e
      ∙ ap (λ (l : List Stretch). full s ∷ l) (sym (meet_apart f t u rest d))
]

-- a rising walk puts a stretch before others
pub meets_rising : (x : Stretch) (l : List Stretch) → meet_stretch false x l ≡ put_stretch x l
meets_rising (deep v c) l = refl
meets_rising (full s) [] = refl
meets_rising (full s) (deep v c ∷ l) = refl
meets_rising (full s) (full t ∷ l) = refl

-- a stretch behind others
abbrev pub put_last : List Stretch → Stretch → List Stretch
put_last [] x = x ∷ []
put_last (y ∷ []) x = meet_stretch false y (x ∷ [])
put_last (y ∷ z ∷ l) x = y ∷ put_last (z ∷ l) x

first_alone : (f : Bool) (x : Stretch) → meet_stretch f x [] ≡ x ∷ []
first_alone f (deep v c) = refl
first_alone f (full s) = refl

-- what stands first and what stands last are put in either order
last_of_two : (s u : Span) (x : Stretch) → meet_full false s (meet_stretch false (full u) (x ∷ [])) ≡ put_last (meet_full false s (full u ∷ [])) x
last_of_two s u (deep v c) = elim (both_ways (touches_in false s u)) [
  | inl e ↦ meet_touch false s u (deep v c ∷ []) e ∙ ap (λ (l : List Stretch). put_last l (deep v c)) (sym (meet_touch false s u [] e))
  | inr e ↦ meet_apart false s u (deep v c ∷ []) e ∙ ap (λ (l : List Stretch). put_last l (deep v c)) (sym (meet_apart false s u [] e))
]
last_of_two s u (full w) = elim (both_ways (touches_in false s u)) [
  | inl e ↦ meet_joined false s u (full w ∷ []) e ∙ ap (λ (l : List Stretch). put_last l (full w)) (sym (meet_touch false s u [] e))
  | inr e ↦ meet_alone false s u (full w ∷ []) e ∙ ap (λ (l : List Stretch). put_last l (full w)) (sym (meet_apart false s u [] e))
]

last_of_more : (s u : Span) (z : Stretch) (l : List Stretch) (x : Stretch) → meet_full false s (full u ∷ put_last (z ∷ l) x) ≡ put_last (meet_full false s (full u ∷ z ∷ l)) x
last_of_more s u z l x = elim (both_ways (touches_in false s u)) [
  | inl e ↦ meet_touch false s u (put_last (z ∷ l) x) e ∙ ap (λ (m : List Stretch). put_last m x) (sym (meet_touch false s u (z ∷ l) e))
  | inr e ↦ meet_apart false s u (put_last (z ∷ l) x) e ∙ ap (λ (m : List Stretch). put_last m x) (sym (meet_apart false s u (z ∷ l) e))
]

pub first_and_last : (t : Stretch) (l : List Stretch) (x : Stretch) → meet_stretch false t (put_last l x) ≡ put_last (meet_stretch false t l) x
first_and_last (deep v c) [] x = refl
first_and_last (deep v c) (y ∷ []) x = refl
first_and_last (deep v c) (y ∷ z ∷ l) x = refl
first_and_last (full s) [] x = refl
first_and_last (full s) (deep v c ∷ []) x = refl
first_and_last (full s) (full u ∷ []) x = last_of_two s u x
first_and_last (full s) (deep v c ∷ z ∷ l) x = refl
first_and_last (full s) (full u ∷ z ∷ l) x = last_of_more s u z l x

-- the stretches of a level with one item more at its end
pub stretches_last : (a : Level) (s : Span) (c : Level) → stretches (join_level a (item s c end)) ≡ put_last (stretches a) (stretch_of s c)
stretches_last end s c = sym (meets_rising (stretch_of s c) []) ∙ first_alone false (stretch_of s c)
stretches_last (item t d rest) s c =
    ap (put_stretch (stretch_of t d)) (stretches_last rest s c)
    ∙ sym (meets_rising (stretch_of t d) (put_last (stretches rest) (stretch_of s c)))
    ∙ first_and_last (stretch_of t d) (stretches rest) (stretch_of s c)
    ∙ ap (λ (l : List Stretch). put_last l (stretch_of s c)) (meets_rising (stretch_of t d) (stretches rest))

reversed_first : (y : Stretch) (l : List Stretch) → reverse (y ∷ l) ≡ reverse l ++ y ∷ []
reversed_first y l = reverse-append (y ∷ []) l

not_empty : (z : Stretch) (l : List Stretch) → reverse (z ∷ l) ≡ [] → ⊥
not_empty z l e = let long : length (reverse (z ∷ l)) ≡ 0 = ap length e in omega (arith, long, length-reverse (z ∷ l))

-- what stands further on is left alone
met_before : (f : Bool) (x : Stretch) (m n : List Stretch) → (m ≡ [] → ⊥) → meet_stretch f x m ++ n ≡ meet_stretch f x (m ++ n)
met_before f x [] n some = absurd (some refl)
met_before f (deep v c) (y ∷ m) n some = refl
met_before f (full s) (deep v c ∷ m) n some = refl
met_before f (full s) (full t ∷ m) n some = elim (both_ways (touches_in f s t)) [
  | inl e ↦ ap (λ (l : List Stretch). l ++ n) (meet_touch f s t m e) ∙ sym (meet_touch f s t (m ++ n) e)
  | inr e ↦ ap (λ (l : List Stretch). l ++ n) (meet_apart f s t m e) ∙ sym (meet_apart f s t (m ++ n) e)
]

turned_two : (y x : Stretch) → reverse (meet_stretch false y (x ∷ [])) ≡ meet_stretch true x (y ∷ [])
turned_two (deep v c) (deep w d) = refl
turned_two (deep v c) (full t) = refl
turned_two (full s) (deep w d) = refl
turned_two (full s) (full t) = elim (both_ways (touches_in false s t)) [
  | inl e ↦ ap reverse (meet_touch false s t [] e) ∙ sym (meet_touch true t s [] e)
  | inr e ↦ ap reverse (meet_apart false s t [] e) ∙ sym (meet_apart true t s [] e)
]

-- from the other end, what stands last is met first
pub turned_last : (l : List Stretch) (x : Stretch) → reverse (put_last l x) ≡ meet_stretch true x (reverse l)
turned_last [] x = sym (first_alone true x)
turned_last (y ∷ []) x = turned_two y x
turned_last (y ∷ z ∷ l) x =
    reversed_first y (put_last (z ∷ l) x)
    ∙ ap (λ (m : List Stretch). m ++ y ∷ []) (turned_last (z ∷ l) x)
    ∙ met_before true x (reverse (z ∷ l)) (y ∷ []) (not_empty z l)
    ∙ ap (meet_stretch true x) (sym (reversed_first y (z ∷ l)))

-- a full span and the stretch met next, where they touch and where they don't
pub widened : (f : Bool) (s t w : Span) (x : Stretch) (now later : List Stretch) → now ≡ meet_stretch f x later → full t ≡ x → touches_in f s t ≡ true → w ≡ join_in f s t
    → meet_full f s now ≡ meet_full f w later
widened f s t w x now later is met touch wide =
    ap (meet_full f s) is
    ∙ ap (λ (y : Stretch). meet_full f s (meet_stretch f y later)) (sym met)
    ∙ meet_joined f s t later touch
    ∙ ap (λ (v : Span). meet_full f v later) (sym wide)

pub ended : (f : Bool) (s t : Span) (x : Stretch) (now later : List Stretch) → now ≡ meet_stretch f x later → full t ≡ x → touches_in f s t ≡ false → meet_full f s now ≡ full s ∷ now
ended f s t x now later is met apart =
    let same : now ≡ meet_full f t later = is ∙ ap (λ (y : Stretch). meet_stretch f y later) (sym met) in
    ap (meet_full f s) same ∙ meet_alone f s t later apart ∙ ap (λ (l : List Stretch). full s ∷ l) (sym same)
