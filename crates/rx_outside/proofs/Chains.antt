-- Calls that follow each other.
use Rattle.std.proofs.Common.{◌≡◌, ◌≤◌, ℕ, ◌+◌, Bool, List, ◌++◌, length, Option, Some, None, arith, refl, sym, ap, subst, ◌∙◌, length-append}
use Rattle.std.proofs.lemmas.List.{append_assoc}
use Rattle.rx_outside.specs.Causes.{rise, Rose}
use Rattle.rx_outside.specs.Files.{KeepsFiles, TakesUpTo}
use Rattle.rx_outside.specs.Sink.{Takes, IsFront, LeavesRoom, TakesFront}

module _ {F : Type 0} {told : F → List ℕ → Option (List ℕ)} {sure : F → List ℕ → Bool} {room : F → List ℕ → Option ℕ} where
  pub KeepsFiles-same : (a : F) → KeepsFiles told sure room a a
  KeepsFiles-same a = record { told_stays = refl; sure_stays = refl; room_stays = refl }

  pub KeepsFiles-chain : (a b c : F) → KeepsFiles told sure room a b → KeepsFiles told sure room b c → KeepsFiles told sure room a c
  KeepsFiles-chain a b c p q = record {
    told_stays = q.told_stays ∙ p.told_stays;
    sure_stays = q.sure_stays ∙ p.sure_stays;
    room_stays = q.room_stays ∙ p.room_stays;
  }

pub rise-zero : (c : ℕ) → rise 0 c ≡ c
rise-zero c = grind arith

pub rise-more : (m n c : ℕ) → rise n (rise m c) ≡ rise (m + n) c
rise-more m n c = grind arith

-- a count that rose in the later of two calls
pub Rose-since : (a b c : ℕ) → a ≤ b → Rose b c → Rose a c
Rose-since a b c p q = omega (arith, p, q)

-- a count that rose in the earlier of two calls
pub Rose-until : (a b c : ℕ) → Rose a b → b ≤ c → Rose a c
Rose-until a b c p q = omega (arith, p, q)

pub Takes-chain : (a b c : Option (List ℕ)) (xs ys : List ℕ) → Takes a b xs → Takes b c ys → Takes a c (xs ++ ys)
Takes-chain None b c xs ys h g = rw (g, h) refl
Takes-chain (Some t) b c xs ys h g = rw (g, h) (ap Some (append_assoc t xs ys))

pub LeavesRoom-chain : (a b c : Option ℕ) (m n : ℕ) → LeavesRoom a b m → LeavesRoom b c n → LeavesRoom a c (m + n)
LeavesRoom-chain None b c m n h g = let P : Option ℕ → Type 0 = λ o. LeavesRoom o c n in subst P h g
LeavesRoom-chain (Some r) b c m n (s, is, sum) g =
    let P : Option ℕ → Type 0 = λ o. LeavesRoom o c n in
    let (t, there, rest) = subst P is g in (t, there, omega arith)

pub IsFront-chain : (a b c : List ℕ) → IsFront a b → IsFront b c → IsFront a c
IsFront-chain a b c (r, is) (s, at) = (r ++ s, at ∙ ap (λ t. t ++ s) is ∙ append_assoc a r s)

pub IsFront-under : (p a b : List ℕ) → IsFront a b → IsFront (p ++ a) (p ++ b)
IsFront-under p a b (r, is) = (r, ap (λ t. p ++ t) is ∙ sym (append_assoc p a r))

-- a front of the first of two pieces
pub TakesFront-first : (t u : Option (List ℕ)) (r s : Option ℕ) (xs ys : List ℕ) → TakesFront t u r s xs → TakesFront t u r s (xs ++ ys)
TakesFront-first t u r s xs ys f = record {
  front = f.front;
  is_front = IsFront-chain f.front xs (xs ++ ys) f.is_front (ys, refl);
  short = let short = f.short in omega (arith, length-append xs ys);
  text = f.text;
  room = f.room;
}

-- a first piece that was taken whole, and then a front of the next
pub TakesFront-then : (t u v : Option (List ℕ)) (r s q : Option ℕ) (xs ys : List ℕ) → Takes t u xs → LeavesRoom r s (length xs) → TakesFront u v s q ys → TakesFront t v r q (xs ++ ys)
TakesFront-then t u v r s q xs ys h g f = record {
  front = xs ++ f.front;
  is_front = IsFront-under xs f.front ys f.is_front;
  short = let short = f.short in omega (arith, length-append xs ys, length-append xs f.front);
  text = Takes-chain t u v xs f.front h f.text;
  room = rw (length-append xs f.front) (LeavesRoom-chain r s q (length xs) (length f.front) g f.room);
}

-- the bytes that two calls take
pub TakesUpTo-chain : (m k a b c : ℕ) → TakesUpTo m a b → TakesUpTo k b c → TakesUpTo (m + k) a c
TakesUpTo-chain m k a b c (i, few, is) (j, few_more, then) = (i + j, omega (arith, few, few_more), then ∙ ap (rise j) is ∙ rise-more i j a)

-- what takes at most so many bytes takes at most more of them
pub TakesUpTo-within : (m k a b : ℕ) → m ≤ k → TakesUpTo m a b → TakesUpTo k a b
TakesUpTo-within m k a b less (i, few, is) = (i, omega (arith, few, less), is)
