-- The numbers that keys begin with rise with the keys.
use Rattle.std.proofs.Common.{◌≡◌, ◌⊎◌, inl, inr, ℕ, zero, suc, ◌+◌, ◌-◌, ◌*◌, ◌<◌, ◌≤◌, ℤ, pos, ◌+ℤ◌, Bool, true, false, List, [], ◌∷◌, drop, length, refl, sym, ap, ap₂, ◌∙◌, subst, arith}
use Rattle.std.specs.declared.cmp.Ordering.{Ordering}
use Rattle.std.specs.declared.cmp.Ordering.TheVariants.{Less, Equal, Greater}
use Rattle.std.specs.Ordering.{ordering_then, ordering_reverse, is_gt, nat_cmp, int_cmp}
use Rattle.std.specs.Cmp.Lexicographic.{slice_cmp}
use Rattle.rx_value.specs.declared.values.Value.{Value}
use Rattle.rx_value.specs.declared.values.Value.TheVariants.{Null, Int, Text}
use Rattle.rx_value.specs.declared.shapes.Part.{Part}
use Rattle.rx_value.specs.Order.{value_cmp}
use Rattle.rx_value.proofs.Equal.{value_cmp-equal}
use Rattle.rx_value.proofs.KeyOrder.{by_key, part_cmp_total}
use Rattle.rx_value.specs.Keys.{part_value, key_of, part_cmp, key_cmp}
use Rattle.rx_index.specs.declared.heads.Shape.{Shape}
use Rattle.rx_index.specs.declared.heads.Shape.TheVariants.{Whole, Short, Front}
use Rattle.rx_index.specs.declared.heads.Field.{Field}
use Rattle.rx_index.specs.Heads.{IsFront, IsShort, IsShaped, IsDigit, IsHead, IsExact, AreExact, IsFields, Follows, count_of, turned}

-- ---- products

times_more : (a b m : ℕ) → a < b → a * m + m ≤ b * m
times_more a (suc b) m lt = go (omega (arith, lt)) where
  up : (x y k : ℕ) → x ≤ y → x * k ≤ y * k
  up x y k le = grind (arith, le)

  go : a ≤ b → a * m + m ≤ suc b * m
  go le = omega (arith, up a b m le)
times_more a zero m lt = absurd (omega (arith, lt))

-- a number behind a lesser one is less
below : (a b m x y : ℕ) → a < b → x < m → a * m + x < b * m + y
below a b m x y lt less = omega (arith, times_more a b m lt, less)

-- ---- texts

front_below : (k a b : ℕ) (s t : List ℕ) (m n : ℕ) → a < b → IsFront a k s m → IsFront b k t n → m < n
front_below zero a b s t m n lt f g = omega (arith, lt, f, g)
front_below (suc k) a b [] [] m n lt f g = front_below k (a * 256) (b * 256) [] [] m n (omega (arith, lt)) f g
front_below (suc k) a b [] (c ∷ t) m n lt f g = front_below k (a * 256) (b * 256 + c) [] t m n (omega (arith, lt)) f g.1
front_below (suc k) a b (d ∷ s) [] m n lt f g = front_below k (a * 256 + d) (b * 256) s [] m n (omega (arith, lt, f.0)) f.1 g
front_below (suc k) a b (d ∷ s) (c ∷ t) m n lt f g = front_below k (a * 256 + d) (b * 256 + c) s t m n (omega (arith, lt, f.0)) f.1 g.1

nat_less : (a b : ℕ) → nat_cmp a b ≡ Less → a < b
nat_less a b e = grind arith

nat_same : (a b : ℕ) → nat_cmp a b ≡ Equal → a ≡ b
nat_same a b e = grind arith

rises_by : (k a d c : ℕ) (s t : List ℕ) (m n : ℕ) (o : Ordering) → nat_cmp d c ≡ o → is_gt (ordering_then o (slice_cmp nat_cmp s t)) ≡ false
    → IsFront a (suc k) (d ∷ s) m → IsFront a (suc k) (c ∷ t) n
    → (is_gt (slice_cmp nat_cmp s t) ≡ false → IsFront (a * 256 + d) k s m → IsFront (a * 256 + d) k t n → m ≤ n) → m ≤ n
rises_by k a d c s t m n Less e h f g rec = (let lt : d < c = nat_less d c e in let l : m < n = front_below k (a * 256 + d) (a * 256 + c) s t m n (omega (arith, lt)) f.1 g.1 in omega (arith, l))
rises_by k a d c s t m n Equal e h f g rec = rec h f.1 (subst (λ x. IsFront (a * 256 + x) k t n) (sym (nat_same d c e)) g.1)
rises_by k a d c s t m n Greater e h f g rec = absurd (cc h)

front_rises : (k a : ℕ) (s t : List ℕ) (m n : ℕ) → is_gt (slice_cmp nat_cmp s t) ≡ false → IsFront a k s m → IsFront a k t n → m ≤ n
front_rises zero a s t m n h f g = omega (arith, f, g)
front_rises (suc k) a [] [] m n h f g = front_rises k (a * 256) [] [] m n refl f g
front_rises (suc k) a [] (zero ∷ []) m n h f g = front_rises k (a * 256) [] [] m n refl f (subst (λ x. IsFront x k [] n) (omega arith) g.1)
front_rises (suc k) a [] (zero ∷ c ∷ t) m n h f g = front_rises k (a * 256) [] (c ∷ t) m n refl f (subst (λ x. IsFront x k (c ∷ t) n) (omega arith) g.1)
front_rises (suc k) a [] (suc c ∷ t) m n h f g = (let l : m < n = front_below k (a * 256) (a * 256 + suc c) [] t m n (omega arith) f g.1 in omega (arith, l))
front_rises (suc k) a (d ∷ s) [] m n h f g = absurd (cc h)
front_rises (suc k) a (d ∷ s) (c ∷ t) m n h f g = rises_by k a d c s t m n (nat_cmp d c) refl h f g (λ i x y. front_rises k (a * 256 + d) s t m n i x y)

short_below : (k a b : ℕ) (s t : List ℕ) (m n : ℕ) → a < b → IsShort a k s m → IsShort b k t n → m < n
short_below zero a b [] [] m n lt f g = omega (arith, lt, f, g)
short_below zero a b [] (c ∷ t) m n lt f g = absurd g
short_below zero a b (d ∷ s) t m n lt f g = absurd f
short_below (suc k) a b [] [] m n lt f g = short_below k (a * 257) (b * 257) [] [] m n (omega (arith, lt)) f g
short_below (suc k) a b [] (c ∷ t) m n lt f g = short_below k (a * 257) (b * 257 + (c + 1)) [] t m n (omega (arith, lt)) f g.1
short_below (suc k) a b (d ∷ s) [] m n lt f g = short_below k (a * 257 + (d + 1)) (b * 257) s [] m n (omega (arith, lt, f.0)) f.1 g
short_below (suc k) a b (d ∷ s) (c ∷ t) m n lt f g = short_below k (a * 257 + (d + 1)) (b * 257 + (c + 1)) s t m n (omega (arith, lt, f.0)) f.1 g.1

short_by : (k a d c : ℕ) (s t : List ℕ) (m n : ℕ) (o : Ordering) → nat_cmp d c ≡ o → ordering_then o (slice_cmp nat_cmp s t) ≡ Less
    → IsShort a (suc k) (d ∷ s) m → IsShort a (suc k) (c ∷ t) n
    → (slice_cmp nat_cmp s t ≡ Less → IsShort (a * 257 + (d + 1)) k s m → IsShort (a * 257 + (d + 1)) k t n → m < n) → m < n
short_by k a d c s t m n Less e h f g rec = (let lt : d < c = nat_less d c e in short_below k (a * 257 + (d + 1)) (a * 257 + (c + 1)) s t m n (omega (arith, lt)) f.1 g.1)
short_by k a d c s t m n Equal e h f g rec = rec h f.1 (subst (λ x. IsShort (a * 257 + (x + 1)) k t n) (sym (nat_same d c e)) g.1)
short_by k a d c s t m n Greater e h f g rec = absurd (cc h)

short_less : (k a : ℕ) (s t : List ℕ) (m n : ℕ) → slice_cmp nat_cmp s t ≡ Less → IsShort a k s m → IsShort a k t n → m < n
short_less zero a [] [] m n e f g = absurd (cc e)
short_less zero a [] (c ∷ t) m n e f g = absurd g
short_less zero a (d ∷ s) t m n e f g = absurd f
short_less (suc k) a [] [] m n e f g = absurd (cc e)
short_less (suc k) a [] (c ∷ t) m n e f g = short_below k (a * 257) (a * 257 + (c + 1)) [] t m n (omega arith) f g.1
short_less (suc k) a (d ∷ s) [] m n e f g = absurd (cc e)
short_less (suc k) a (d ∷ s) (c ∷ t) m n e f g = short_by k a d c s t m n (nat_cmp d c) refl e f g (λ i x y. short_less k (a * 257 + (d + 1)) s t m n i x y)

short_same : (k a : ℕ) (s : List ℕ) (m n : ℕ) → IsShort a k s m → IsShort a k s n → m ≡ n
short_same zero a [] m n f g = f ∙ sym g
short_same zero a (d ∷ s) m n f g = absurd f
short_same (suc k) a [] m n f g = short_same k (a * 257) [] m n f g
short_same (suc k) a (d ∷ s) m n f g = short_same k (a * 257 + (d + 1)) s m n f.1 g.1

-- ---- values

int_less : (least : ℤ) (p q : ℕ) → int_cmp (least +ℤ pos p) (least +ℤ pos q) ≡ Less → p < q
int_less least p q e = grind arith

int_same : (least : ℤ) (p q : ℕ) → int_cmp (least +ℤ pos p) (least +ℤ pos q) ≡ Equal → p ≡ q
int_same least p q e = grind arith

whole_less : (least : ℤ) (count : ℕ) (u v : Value) (c d : ℕ) → IsShaped (Whole least count) u c → IsShaped (Whole least count) v d → value_cmp u v ≡ Less → c < d
whole_less least count Null Null c d x y e = absurd (cc e)
whole_less least count Null (Int n) c d x y e = omega (arith, x, y.3)
whole_less least count (Int m) Null c d x y e = absurd (cc e)
whole_less least count (Int m) (Int n) c d x y e =
    let lt : x.0 < y.0 = int_less least x.0 y.0 (ap₂ int_cmp (sym x.1) (sym y.1) ∙ e) in
    omega (arith, lt, x.3, y.3)
whole_less least count Null (Text t) c d x y e = absurd y
whole_less least count (Int m) (Text t) c d x y e = absurd y
whole_less least count (Text s) v c d x y e = absurd x

whole_same : (least : ℤ) (count : ℕ) (u v : Value) (c d : ℕ) → IsShaped (Whole least count) u c → IsShaped (Whole least count) v d → value_cmp u v ≡ Equal → c ≡ d
whole_same least count Null Null c d x y e = omega (arith, x, y)
whole_same least count Null (Int n) c d x y e = absurd (cc e)
whole_same least count (Int m) Null c d x y e = absurd (cc e)
whole_same least count (Int m) (Int n) c d x y e =
    let same : x.0 ≡ y.0 = int_same least x.0 y.0 (ap₂ int_cmp (sym x.1) (sym y.1) ∙ e) in
    omega (arith, same, x.3, y.3)
whole_same least count Null (Text t) c d x y e = absurd y
whole_same least count (Int m) (Text t) c d x y e = absurd y
whole_same least count (Text s) v c d x y e = absurd x

text_rises : (bytes count : ℕ) (u v : Value) (c d : ℕ) → IsShaped (Front bytes count) u c → IsShaped (Front bytes count) v d → is_gt (value_cmp u v) ≡ false → c ≤ d
text_rises bytes count Null v c d x y h = omega (arith, x)
text_rises bytes count (Int m) v c d x y h = absurd x
text_rises bytes count (Text s) Null c d x y h = absurd (cc h)
text_rises bytes count (Text s) (Int n) c d x y h = absurd y
text_rises bytes count (Text s) (Text t) c d x y h = omega (arith, front_rises bytes 0 s t x.0 y.0 h x.1 y.1, x.3, y.3)

text_less : (bytes count : ℕ) (u v : Value) (c d : ℕ) → IsShaped (Short bytes count) u c → IsShaped (Short bytes count) v d → value_cmp u v ≡ Less → c < d
text_less bytes count Null Null c d x y e = absurd (cc e)
text_less bytes count Null (Int n) c d x y e = absurd y
text_less bytes count Null (Text t) c d x y e = omega (arith, x, y.3)
text_less bytes count (Int m) v c d x y e = absurd x
text_less bytes count (Text s) Null c d x y e = absurd (cc e)
text_less bytes count (Text s) (Int n) c d x y e = absurd y
text_less bytes count (Text s) (Text t) c d x y e = (let l : x.0 < y.0 = short_less bytes 0 s t x.0 y.0 e x.1 y.1 in omega (arith, l, x.3, y.3))

text_alike : (bytes count : ℕ) (u : Value) (c d : ℕ) → IsShaped (Short bytes count) u c → IsShaped (Short bytes count) u d → c ≡ d
text_alike bytes count Null c d x y = x ∙ sym y
text_alike bytes count (Int m) c d x y = absurd x
text_alike bytes count (Text s) c d x y = omega (arith, short_same bytes 0 s x.0 y.0 x.1 y.1, x.3, y.3)

-- ---- digits

shape_less : (shape : Shape) → IsExact shape → (u v : Value) (c d : ℕ) → IsShaped shape u c → IsShaped shape v d → value_cmp u v ≡ Less → c < d
shape_less (Whole least count) x u v c d f g e = whole_less least count u v c d f g e
shape_less (Short bytes count) x u v c d f g e = text_less bytes count u v c d f g e
shape_less (Front bytes count) x u v c d f g e = absurd x

shape_same : (shape : Shape) → IsExact shape → (u v : Value) (c d : ℕ) → IsShaped shape u c → IsShaped shape v d → value_cmp u v ≡ Equal → c ≡ d
shape_same (Whole least count) x u v c d f g e = whole_same least count u v c d f g e
shape_same (Short bytes count) x u v c d f g e = text_alike bytes count u c d f (subst (λ w. IsShaped (Short bytes count) w d) (sym (value_cmp-equal u v e)) g)
shape_same (Front bytes count) x u v c d f g e = absurd x

by_order : (o : Ordering) → is_gt o ≡ false → (o ≡ Less) ⊎ (o ≡ Equal)
by_order Less h = inl refl
by_order Equal h = inr refl
by_order Greater h = absurd (cc h)

whole_rises : (least : ℤ) (count : ℕ) (u v : Value) (c d : ℕ) → IsShaped (Whole least count) u c → IsShaped (Whole least count) v d → is_gt (value_cmp u v) ≡ false → c ≤ d
whole_rises least count u v c d f g h = elim (by_order (value_cmp u v) h) [
  | inl e ↦ (let l : c < d = whole_less least count u v c d f g e in omega (arith, l))
  | inr e ↦ omega (arith, whole_same least count u v c d f g e)
]

short_rises : (bytes count : ℕ) (u v : Value) (c d : ℕ) → IsShaped (Short bytes count) u c → IsShaped (Short bytes count) v d → is_gt (value_cmp u v) ≡ false → c ≤ d
short_rises bytes count u v c d f g h = elim (by_order (value_cmp u v) h) [
  | inl e ↦ (let l : c < d = text_less bytes count u v c d f g e in omega (arith, l))
  | inr e ↦ omega (arith, shape_same (Short bytes count) tt u v c d f g e)
]

shape_rises : (shape : Shape) (u v : Value) (c d : ℕ) → IsShaped shape u c → IsShaped shape v d → is_gt (value_cmp u v) ≡ false → c ≤ d
shape_rises (Whole least count) u v c d f g h = whole_rises least count u v c d f g h
shape_rises (Short bytes count) u v c d f g h = short_rises bytes count u v c d f g h
shape_rises (Front bytes count) u v c d f g h = text_rises bytes count u v c d f g h

turned_less : (falls : Bool) (shape : Shape) → IsExact shape → (u v : Value) (b c d : ℕ) → IsShaped shape u c → IsShaped shape v d → c ≤ b → d ≤ b → part_cmp falls u v ≡ Less → turned falls b c < turned falls b d
turned_less false shape x u v b c d f g k l e = shape_less shape x u v c d f g e
turned_less true shape x u v b c d f g k l e = (let h : d < c = shape_less shape x v u d c g f e in omega (arith, h, k, l))

turned_same : (falls : Bool) (shape : Shape) → IsExact shape → (u v : Value) (b c d : ℕ) → IsShaped shape u c → IsShaped shape v d → part_cmp falls u v ≡ Equal → turned falls b c ≡ turned falls b d
turned_same false shape x u v b c d f g e = shape_same shape x u v c d f g e
turned_same true shape x u v b c d f g e = ap (λ n. b - n) (sym (shape_same shape x v u d c g f e))

turned_rises : (falls : Bool) (shape : Shape) (u v : Value) (b c d : ℕ) → IsShaped shape u c → IsShaped shape v d → is_gt (part_cmp falls u v) ≡ false → turned falls b c ≤ turned falls b d
turned_rises false shape u v b c d f g h = shape_rises shape u v c d f g h
turned_rises true shape u v b c d f g h = omega (arith, shape_rises shape v u d c g f h)

turned_within : (falls : Bool) (b c : ℕ) → c ≤ b → turned falls b c ≤ b
turned_within false b c h = h
turned_within true b c h = omega arith

module _ (field : Field) (r s : List Value) (d e : ℕ) (f : IsDigit field r d) (g : IsDigit field s e) where
  falls : Bool
  falls = field.part.descending

  pub digit_small : d < count_of field.shape + 1
  digit_small = omega (arith, f.digit_is, turned_within field.part.descending (count_of field.shape) f.number f.within)

  pub digit_less : IsExact field.shape → part_cmp field.part.descending (part_value field.part r) (part_value field.part s) ≡ Less → d < e
  digit_less x h = (let l : turned field.part.descending (count_of field.shape) f.number < turned field.part.descending (count_of field.shape) g.number = turned_less field.part.descending field.shape x (part_value field.part r) (part_value field.part s) (count_of field.shape) f.number g.number f.shaped g.shaped f.within g.within h in
      omega (arith, l, f.digit_is, g.digit_is))

  pub digit_same : IsExact field.shape → part_cmp field.part.descending (part_value field.part r) (part_value field.part s) ≡ Equal → d ≡ e
  digit_same x h = f.digit_is ∙ turned_same field.part.descending field.shape x (part_value field.part r) (part_value field.part s) (count_of field.shape) f.number g.number f.shaped g.shaped h ∙ sym g.digit_is

  pub digit_rises : is_gt (part_cmp field.part.descending (part_value field.part r) (part_value field.part s)) ≡ false → d ≤ e
  digit_rises h = omega (arith, f.digit_is, g.digit_is, turned_rises field.part.descending field.shape (part_value field.part r) (part_value field.part s) (count_of field.shape) f.number g.number f.shaped g.shaped h)

-- ---- heads

head_below : (fields : List Field) (a b : ℕ) (r s : List Value) (m n : ℕ) → a < b → IsHead a fields r m → IsHead b fields s n → m < n
head_below [] a b r s m n lt f g = omega (arith, lt, f, g)
head_below (field ∷ fields) a b r s m n lt f g =
    head_below fields (a * (count_of field.shape + 1) + f.0) (b * (count_of field.shape + 1) + g.0) r s m n
    (below a b (count_of field.shape + 1) f.0 g.0 lt (digit_small field r s f.0 g.0 f.1 g.1)) f.2 g.2

last_rises : (field : Field) (fields : List Field) (a : ℕ) (r s : List Value) (m n : ℕ) → fields ≡ []
    → is_gt (part_cmp field.part.descending (part_value field.part r) (part_value field.part s)) ≡ false → IsHead a (field ∷ fields) r m → IsHead a (field ∷ fields) s n → m ≤ n
last_rises field [] a r s m n e h f g = omega (arith, digit_rises field r s f.0 g.0 f.1 g.1 h, f.2, g.2)
last_rises field (other ∷ fields) a r s m n e h f g = absurd (cc e)

exact_at : (field : Field) (fields : List Field) (ps : List Part) (a : ℕ) (r s : List Value) (m n : ℕ) (o tail : Ordering) → IsExact field.shape → IsFields ps fields
    → part_cmp field.part.descending (part_value field.part r) (part_value field.part s) ≡ o → is_gt (ordering_then o tail) ≡ false
    → IsHead a (field ∷ fields) r m → IsHead a (field ∷ fields) s n
    → ((b : ℕ) → IsFields ps fields → is_gt tail ≡ false → IsHead b fields r m → IsHead b fields s n → m ≤ n) → m ≤ n
exact_at field fields ps a r s m n Less tail exact goes e h f g rec =
    let lt : f.0 < g.0 = digit_less field r s f.0 g.0 f.1 g.1 exact e in
    let l : m < n = head_below fields (a * (count_of field.shape + 1) + f.0) (a * (count_of field.shape + 1) + g.0) r s m n (omega (arith, lt)) f.2 g.2 in
    omega (arith, l)
exact_at field fields ps a r s m n Equal tail exact goes e h f g rec =
    rec (a * (count_of field.shape + 1) + f.0) goes h f.2
    (subst (λ d. IsHead (a * (count_of field.shape + 1) + d) fields s n) (sym (digit_same field r s f.0 g.0 f.1 g.1 exact e)) g.2)
exact_at field fields ps a r s m n Greater tail exact goes e h f g rec = absurd (cc h)

rises_at : (field : Field) (fields : List Field) (ps : List Part) (a : ℕ) (r s : List Value) (m n : ℕ) (o tail : Ordering) (shape : Shape) → field.shape ≡ shape → Follows shape (IsFields ps fields) fields
    → part_cmp field.part.descending (part_value field.part r) (part_value field.part s) ≡ o → is_gt (ordering_then o tail) ≡ false
    → IsHead a (field ∷ fields) r m → IsHead a (field ∷ fields) s n
    → ((b : ℕ) → IsFields ps fields → is_gt tail ≡ false → IsHead b fields r m → IsHead b fields s n → m ≤ n) → m ≤ n
rises_at field fields ps a r s m n o tail (Whole least count) is goes e h f g rec = exact_at field fields ps a r s m n o tail (subst IsExact (sym is) tt) goes e h f g rec
rises_at field fields ps a r s m n o tail (Short bytes count) is goes e h f g rec = exact_at field fields ps a r s m n o tail (subst IsExact (sym is) tt) goes e h f g rec
rises_at field fields ps a r s m n Less tail (Front bytes count) is goes e h f g rec = last_rises field fields a r s m n goes (ap is_gt e) f g
rises_at field fields ps a r s m n Equal tail (Front bytes count) is goes e h f g rec = last_rises field fields a r s m n goes (ap is_gt e) f g
rises_at field fields ps a r s m n Greater tail (Front bytes count) is goes e h f g rec = absurd (cc h)

-- where a key isn't behind another, its number isn't greater
pub head_rises : (fields : List Field) (parts : List Part) (a : ℕ) (r s : List Value) (m n : ℕ) → IsFields parts fields → is_gt (key_cmp parts (key_of parts r) (key_of parts s)) ≡ false
    → IsHead a fields r m → IsHead a fields s n → m ≤ n
head_rises [] parts a r s m n is h f g = omega (arith, f, g)
head_rises (field ∷ fields) [] a r s m n is h f g = absurd is
head_rises (field ∷ fields) (p ∷ ps) a r s m n is h f g =
    rises_at field fields ps a r s m n (part_cmp field.part.descending (part_value field.part r) (part_value field.part s)) (key_cmp ps (key_of ps r) (key_of ps s)) field.shape refl is.1 refl
    (subst (λ q. is_gt (ordering_then (part_cmp q.descending (part_value q r) (part_value q s)) (key_cmp ps (key_of ps r) (key_of ps s))) ≡ false) (sym is.0) h) f g
    (λ b i k x y. head_rises fields ps b r s m n i k x y)

-- ---- equal numbers

follows : (shape : Shape) (ps : List Part) (fields : List Field) → IsExact shape → Follows shape (IsFields ps fields) fields → IsFields ps fields
follows (Whole least count) ps fields x h = h
follows (Short bytes count) ps fields x h = h
follows (Front bytes count) ps fields x h = absurd x

turned_back : (o : Ordering) → ordering_reverse o ≡ Greater → o ≡ Less
turned_back Less e = refl
turned_back Equal e = absurd (cc e)
turned_back Greater e = absurd (cc e)

same_at : (field : Field) (fields : List Field) (a : ℕ) (r s : List Value) (n : ℕ) (o : Ordering) (tail rest : Ordering) → IsExact field.shape
    → part_cmp field.part.descending (part_value field.part r) (part_value field.part s) ≡ o → IsHead a (field ∷ fields) r n → IsHead a (field ∷ fields) s n
    → ((b : ℕ) → IsHead b fields r n → IsHead b fields s n → tail ≡ rest) → ordering_then o tail ≡ rest
same_at field fields a r s n Less tail rest x e f g rec =
    let lt : f.0 < g.0 = digit_less field r s f.0 g.0 f.1 g.1 x e in
    let l : n < n = head_below fields (a * (count_of field.shape + 1) + f.0) (a * (count_of field.shape + 1) + g.0) r s n n (omega (arith, lt)) f.2 g.2 in
    absurd (omega (arith, l))
same_at field fields a r s n Equal tail rest x e f g rec =
    rec (a * (count_of field.shape + 1) + f.0) f.2 (subst (λ d. IsHead (a * (count_of field.shape + 1) + d) fields s n) (sym (digit_same field r s f.0 g.0 f.1 g.1 x e)) g.2)
same_at field fields a r s n Greater tail rest x e f g rec =
    let back : part_cmp field.part.descending (part_value field.part s) (part_value field.part r) ≡ Less =
    turned_back _ (sym ((part_cmp_total field.part.descending).antisymm (part_value field.part r) (part_value field.part s)) ∙ e) in
    let lt : g.0 < f.0 = digit_less field s r g.0 f.0 g.1 f.1 x back in
    let l : n < n = head_below fields (a * (count_of field.shape + 1) + g.0) (a * (count_of field.shape + 1) + f.0) s r n n (omega (arith, lt)) g.2 f.2 in
    absurd (omega (arith, l))

-- where keys have equal numbers, what follows the numbered parts decides
pub same_head : (fields : List Field) (parts : List Part) (a : ℕ) (r s : List Value) (n : ℕ) → IsFields parts fields → AreExact fields → IsHead a fields r n → IsHead a fields s n
    → by_key parts r s ≡ by_key (drop (length fields) parts) r s
same_head [] parts a r s n is x f g = refl
same_head (field ∷ fields) [] a r s n is x f g = absurd is
same_head (field ∷ fields) (p ∷ ps) a r s n is x f g =
    ap (λ q. ordering_then (part_cmp q.descending (part_value q r) (part_value q s)) (by_key ps r s)) (sym is.0)
    ∙ same_at field fields a r s n (part_cmp field.part.descending (part_value field.part r) (part_value field.part s)) (by_key ps r s) (by_key (drop (length fields) ps) r s) x.0 refl f g
    (λ b i j. same_head fields ps b r s n (follows field.shape ps fields x.0 is.1) x.1 i j)
