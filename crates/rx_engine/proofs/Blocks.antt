-- The block of a SELECT that was put, or not.
use Rattle.std.proofs.Common.{◌≡◌, ◌≤◌, ℕ, List, [], ◌∷◌, length, Option, Some, None, IfSome, refl, ap, sym, subst, ◌∙◌, arith, ◌<◌}
use Rattle.std.specs.List.{concat}
use Rattle.std.proofs.lemmas.List.{append-nil}
use Rattle.rx_value.specs.Counting.{Rose}
use Rattle.rx_outside.specs.Sink.{Takes, IsFront, TakesFront, LeavesRoom}
use Rattle.rx_store.specs.Tables.{Meaning, WhereTold}
use Rattle.rx_store.specs.declared.tables.TableFault.{TableFault}
use Rattle.rx_store.specs.declared.tables.TableFault.TheVariants as of_table
use Rattle.rx_engine.specs.Seen.{SinkSeen}
use Rattle.rx_engine.specs.Select.{table_fault, select_fault}
use Rattle.rx_engine.specs.Running.{PutsFront, Puts, Stops, StopsWriting, StopsBetween, HasRoom, size_of}

-- what holds of any rows, and what follows from one or two facts, where rows are told
pub told : {A : Type 0} {P : Type 0} (o : Option A) → P → IfSome o (λ t. P)
told None p = tt
told (Some t) p = p

pub told_then : {A : Type 0} {P Q : Type 0} (o : Option A) → (P → Q) → IfSome o (λ t. P) → IfSome o (λ t. Q)
told_then None f p = tt
told_then (Some t) f p = f p

pub told_both : {A : Type 0} {P Q R : Type 0} (o : Option A) → (P → Q → R) → IfSome o (λ t. P) → IfSome o (λ t. Q) → IfSome o (λ t. R)
told_both None f p q = tt
told_both (Some t) f p q = f p q

pub Takes-nothing : (t : Option (List ℕ)) → Takes t t []
Takes-nothing None = refl
Takes-nothing (Some t) = ap Some (sym (append-nil t))

-- the text of a block was put
pub puts_block : (table : Meaning) (block text : List ℕ) (a b : SinkSeen) → WhereTold table (text ≡ block) → Takes a.text b.text text → LeavesRoom a.room b.room (length text) → b.faults ≡ a.faults → Puts table (block ∷ []) a b
puts_block table block text a b is taken left same = record {
  text = told_then table.told (λ e. subst (λ (t : List ℕ). Takes a.text b.text t) (e ∙ sym (append-nil block)) taken) is;
  room = told_then table.told (λ e. subst (λ (t : List ℕ). LeavesRoom a.room b.room (length t)) (e ∙ sym (append-nil block)) left) is;
  no_fault = same;
}

front_put : (block text : List ℕ) (a b : SinkSeen) → TakesFront a.text b.text a.room b.room text → text ≡ block → PutsFront (block ∷ []) a.text b.text
front_put block text a b f e =
    let same : text ≡ concat (block ∷ []) = e ∙ sym (append-nil block) in
    (f.front, subst (λ (t : List ℕ). IsFront f.front t) same f.is_front, subst (λ (t : List ℕ). length f.front < length t) same f.short, f.text)

no_room_for : (block text : List ℕ) (a : SinkSeen) → ((r : ℕ) → a.room ≡ Some r → length text ≤ r → ⊥) → text ≡ block → HasRoom a.room (size_of (block ∷ [])) → ⊥
no_room_for block text a none e (r, is, fits) = none r is (omega (arith, fits, ap length (e ∙ sym (append-nil block))))

-- a put of a block's text failed
pub cut_block : (table : Meaning) (block text : List ℕ) (a b : SinkSeen) → WhereTold table (text ≡ block) → TakesFront a.text b.text a.room b.room text → Rose a.faults b.faults → a.faults ≤ b.faults → ((r : ℕ) → a.room ≡ Some r → length text ≤ r → ⊥) → StopsWriting table (block ∷ []) a b
cut_block table block text a b is front rose later none = record {
  rose = rose;
  later = later;
  front = told_then table.told (front_put block text a b front) is;
  no_room = told_then table.told (no_room_for block text a none) is;
}

between-none : (table : Meaning) (blocks : List (List ℕ)) (s : SinkSeen) → StopsBetween table blocks s s
between-none table blocks s = record { some = told table.told (0, Takes-nothing s.text); no_fault = refl }

-- where the table has a fault nothing was put
pub stops_untouched : (table : Meaning) (blocks : List (List ℕ)) (s : SinkSeen) (fault : TableFault) → Stops table blocks s s (select_fault fault)
stops_untouched table blocks s of_table.ReadFault = between-none table blocks s
stops_untouched table blocks s (of_table.Damaged at) = between-none table blocks s
stops_untouched table blocks s of_table.NoMemory = between-none table blocks s

pub table_fault_of : (fault : TableFault) → table_fault (select_fault fault) ≡ Some fault
table_fault_of of_table.ReadFault = refl
table_fault_of (of_table.Damaged at) = refl
table_fault_of of_table.NoMemory = refl
