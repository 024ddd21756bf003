-- The rows that a run hands out, one after the other.
use Rattle.std.proofs.Common.{◌≡◌, ℕ, zero, suc, ◌+◌, ◌≤◌, Bool, true, false, List, [], ◌∷◌, ◌++◌, map, length, Option, Some, None, refl, ap, ap₂, sym, subst, ◌∙◌, arith, length-append, IfSome, cond, append-nil, All}
use Rattle.std.specs.List.{flat_map}
use Rattle.std.proofs.lemmas.List.{map-append}
use Rattle.std.proofs.lemmas.List.Elements.{filter-append, All-append, All-nil, All-cons}
use Rattle.std.proofs.lemmas.Grind.{flat_map-append}
use Rattle.rx_cond.specs.Tri.{is_true}
use Rattle.rx_cond.specs.Tree.{truth_at}
use Rattle.rx_value.specs.declared.values.Value.{Value}
use Rattle.rx_value.specs.declared.shapes.Schema.{Schema}
use Rattle.rx_value.specs.Counting.{rise}
use Rattle.rx_value.specs.Shape.{IsSchema}
use Rattle.rx_query.specs.Steps.{Question, is_plain}
use Rattle.rx_rows.specs.Answer.{projected, answer, selected}
use Rattle.rx_rows.specs.Lines.{line_of}
use Rattle.rx_rows.specs.Finish.{answered, finish}
use Rattle.rx_rows.proofs.Plain.{answered_plain}
use Rattle.rx_aggregate.specs.Aggregates.{AreSmall, IsSmall}
use Rattle.rx_index.specs.declared.indexed.Indexed.{Indexed}
use Rattle.rx_store.specs.declared.tables.Counts.{Counts}
use Rattle.rx_store.specs.Tables.{Meaning, IsMeaning, WhereTold, add_counts}
use Rattle.rx_scan.specs.Handed.{IsOfTypes}
use Rattle.rx_scan.specs.declared.ways.Way.{Way}
use Rattle.rx_scan.specs.declared.ways.Way.TheVariants.{Row, EntryAndRow, Entry}
use Rattle.rx_scan.specs.Runs.{Run, rows_left, reads_left, reads_for, handed, HandsOut}
use Rattle.rx_scan.proofs.Taking.{rows_more, rows_done, reads_more, reads_done}
use Rattle.rx_engine.proofs.Small.{small_row}
use Rattle.rx_engine.specs.declared.printing.Printed.{Printed}
use Rattle.rx_engine.specs.declared.scanning.Handed.{Handed}
use Rattle.rx_engine.specs.declared.scanning.Kept.{Kept}
use Rattle.rx_engine.specs.Printed.{Adds, IsPrinted, IsShort, PrintsAll, PrintsPlain, KeepsSelected, Selects, PrintsAnswer}

-- a run after so many rows
pub record IsAfter (table : Meaning) (first run : Run) (n : ℕ) (before now : Counts) : Type 0 where
  pub many : length run.left + n ≡ length first.left
  pub counts : add_counts (reads_left run) now ≡ add_counts (reads_left first) before

pub after-none : (table : Meaning) (run : Run) (before : Counts) → IsAfter table run run 0 before before
after-none table run before = record { many = omega arith; counts = refl }

pub after-more : (table : Meaning) (first old new : Run) (row : List Value) (n : ℕ) (before mid now : Counts)
    → IsAfter table first old n before mid → HandsOut table old new (Some row) → now ≡ add_counts (reads_for old.way 1) mid → IsAfter table first new (n + 1) before now
after-more table first old new row n before mid now a h e = record {
  many = omega (arith, a.many, ap length h.1);
  counts = reads_more table old new row mid now h e ∙ a.counts;
}

rise-zero : (c : ℕ) → rise 0 c ≡ c
rise-zero c = grind arith

same_counts : (a b : Counts) → a.seeks ≡ b.seeks → a.entries ≡ b.entries → a.rows ≡ b.rows → a ≡ b
same_counts a b s e r = λ i. record { seeks = s i; entries = e i; rows = r i }

nothing_read : (way : Way) (c : Counts) → c ≡ add_counts (reads_for way 0) c
nothing_read Row c = same_counts _ _ (sym (rise-zero c.seeks)) (sym (rise-zero c.entries)) (sym (rise-zero c.rows))
nothing_read (EntryAndRow index) c = same_counts _ _ (sym (rise-zero c.seeks)) (sym (rise-zero c.entries)) (sym (rise-zero c.rows))
nothing_read (Entry index) c = same_counts _ _ (sym (rise-zero c.seeks)) (sym (rise-zero c.entries)) (sym (rise-zero c.rows))

no_length : {X : Type 0} (xs : List X) → length xs ≡ 0 → xs ≡ []
no_length [] e = refl
no_length (x ∷ xs) e = absurd (omega (arith, e))

-- where no place is left, all was read
pub all_read : (table : Meaning) (first run : Run) (n : ℕ) (before now : Counts) → IsAfter table first run n before now → run.left ≡ [] → now ≡ add_counts (reads_left first) before
all_read table first run n before now a none =
    nothing_read run.way now ∙ ap (λ (l : List ℕ). add_counts (reads_for run.way (length l)) now) (sym none) ∙ a.counts

-- after as many rows as the table has no place is left, where the rows are told
pub none_left : (table : Meaning) (first run : Run) (n : ℕ) (before now : Counts) → IsShort table first → table.count ≡ n → IsAfter table first run n before now → WhereTold table (run.left ≡ [])
none_left table first run n before now short count a = by table.told short
  where
    by : (told : Option Indexed) → IfSome told (λ t. length first.left ≤ table.count) → IfSome told (λ t. run.left ≡ [])
    by None s = tt
    by (Some t) s = no_length run.left (omega (arith, s, count, a.many))

answer-append : (q : Question) (xs ys : List (List Value)) → answer q (xs ++ ys) ≡ answer q xs ++ answer q ys
answer-append q xs ys =
    ap (map (projected q.items)) (filter-append (λ row. is_true (truth_at q.cond row)) xs ys)
    ∙ map-append (projected q.items) (selected q.cond xs) (selected q.cond ys)

-- printed rows, and then more
prints-more : (xs ys : List (List Value)) (old new : Printed) → IsPrinted xs old → Adds ys old new → IsPrinted (xs ++ ys) new
prints-more xs ys old new p a = record {
  lines = a.lines ∙ ap (λ t. t ++ flat_map line_of ys) p.lines ∙ sym (flat_map-append line_of xs ys);
  count = a.count ∙ ap (λ n. n + length ys) p.count ∙ sym (length-append xs ys);
}

-- the lines of what a plain query answers over the rows that were handed out
pub record PrintsDone (q : Question) (first run : Run) (printed : Printed) (t : Indexed) : Type 0 where
  pub done : List (List Value)
  pub all : rows_left first t ≡ done ++ rows_left run t
  pub lines : IsPrinted (answer q done) printed

-- the rows that a query selects of those that were handed out
pub record SelectsDone (q : Question) (first run : Run) (kept : List (List Value)) (t : Indexed) : Type 0 where
  pub done : List (List Value)
  pub all : rows_left first t ≡ done ++ rows_left run t
  pub rows : kept ≡ selected q.cond done

abbrev pub PrintsSoFar : Question → Meaning → Run → Run → Printed → Type 0
PrintsSoFar q table first run printed = IfSome table.told (PrintsDone q first run printed)

abbrev pub SelectsSoFar : Question → Meaning → Run → Run → List (List Value) → Type 0
SelectsSoFar q table first run kept = IfSome table.told (SelectsDone q first run kept)

cons_append : (done rest : List (List Value)) (row : List Value) → done ++ row ∷ rest ≡ (done ++ row ∷ []) ++ rest
cons_append [] rest row = refl
cons_append (x ∷ xs) rest row = ap (λ l. x ∷ l) (cons_append xs rest row)

-- nothing was handed out yet
pub printed-none : (table : Meaning) (q : Question) (run : Run) (printed : Printed) → printed.text ≡ [] → printed.rows ≡ 0 → PrintsSoFar q table run run printed
printed-none table q run printed text rows = by table.told
  where
    by : (told : Option Indexed) → IfSome told (PrintsDone q run run printed)
    by None = tt
    by (Some t) = record { done = []; all = refl; lines = record { lines = text; count = rows } }

pub selected-none : (table : Meaning) (q : Question) (run : Run) (kept : List (List Value)) → kept ≡ [] → SelectsSoFar q table run run kept
selected-none table q run kept e = by table.told
  where
    by : (told : Option Indexed) → IfSome told (SelectsDone q run run kept)
    by None = tt
    by (Some t) = record { done = []; all = refl; rows = e }

-- one row more was handed out, and printed where it is accepted
pub printed-more : (table : Meaning) (q : Question) (first old new : Run) (row : List Value) (p r : Printed)
    → PrintsSoFar q table first old p → HandsOut table old new (Some row) → Adds (answer q (row ∷ [])) p r → PrintsSoFar q table first new r
printed-more table q first old new row p r so h a = by table.told so (rows_more table old new row h)
  where
    by : (told : Option Indexed) → IfSome told (PrintsDone q first old p) → IfSome told (λ t. rows_left old t ≡ row ∷ rows_left new t) → IfSome told (PrintsDone q first new r)
    by None s m = tt
    by (Some t) s m = record {
      done = s.done ++ row ∷ [];
      all = s.all ∙ ap (λ l. s.done ++ l) m ∙ cons_append s.done (rows_left new t) row;
      lines = subst (λ (xs : List (List Value)). IsPrinted xs r) (sym (answer-append q s.done (row ∷ []))) (prints-more (answer q s.done) (answer q (row ∷ [])) p r s.lines a);
    }

-- one row more was handed out, and kept where it is accepted
pub selected-more : (table : Meaning) (q : Question) (first old new : Run) (row : List Value) (p r : List (List Value))
    → SelectsSoFar q table first old p → HandsOut table old new (Some row) → r ≡ p ++ selected q.cond (row ∷ []) → SelectsSoFar q table first new r
selected-more table q first old new row p r so h a = by table.told so (rows_more table old new row h)
  where
    by : (told : Option Indexed) → IfSome told (SelectsDone q first old p) → IfSome told (λ t. rows_left old t ≡ row ∷ rows_left new t) → IfSome told (SelectsDone q first new r)
    by None s m = tt
    by (Some t) s m = record {
      done = s.done ++ row ∷ [];
      all = s.all ∙ ap (λ l. s.done ++ l) m ∙ cons_append s.done (rows_left new t) row;
      rows = a ∙ ap (λ xs. xs ++ selected q.cond (row ∷ [])) s.rows ∙ sym (filter-append (λ x. is_true (truth_at q.cond x)) s.done (row ∷ []));
    }

all_done : (first run : Run) (done : List (List Value)) (t : Indexed) → rows_left first t ≡ done ++ rows_left run t → run.left ≡ [] → done ≡ rows_left first t
all_done first run done t e none = sym (e ∙ ap (λ (l : List ℕ). done ++ map (handed run.way t) l) none ∙ append-nil done)

-- all rows were handed out
pub printed-all : (table : Meaning) (q : Question) (first run : Run) (n : ℕ) (before now : Counts) (printed : Printed)
    → PrintsSoFar q table first run printed → IsAfter table first run n before now → WhereTold table (run.left ≡ []) → PrintsPlain q table first (record { printed = printed; count = n })
printed-all table q first run n before now printed so a none = by table.told so none
  where
    by : (told : Option Indexed) → IfSome told (PrintsDone q first run printed) → IfSome told (λ t. run.left ≡ [])
        → IfSome told (λ t. PrintsAll (answer q (rows_left first t)) first (record { printed = printed; count = n }))
    by None s e = tt
    by (Some t) s e = record {
      printed = subst (λ (xs : List (List Value)). IsPrinted (answer q xs) printed) (all_done first run s.done t s.all e) s.lines;
      all = omega (arith, a.many, ap length e);
    }

pub selected-all : (table : Meaning) (q : Question) (first run : Run) (n : ℕ) (before now : Counts) (kept : List (List Value))
    → SelectsSoFar q table first run kept → IsAfter table first run n before now → WhereTold table (run.left ≡ []) → Selects q table first (record { rows = kept; count = n })
selected-all table q first run n before now kept so a none = by table.told so none
  where
    by : (told : Option Indexed) → IfSome told (SelectsDone q first run kept) → IfSome told (λ t. run.left ≡ [])
        → IfSome told (λ t. KeepsSelected (selected q.cond (rows_left first t)) first (record { rows = kept; count = n }))
    by None s e = tt
    by (Some t) s e = record {
      selected = s.rows ∙ ap (selected q.cond) (all_done first run s.done t s.all e);
      all = omega (arith, a.many, ap length e);
    }

pub told : {A : Type 0} {P : Type 0} (o : Option A) → P → IfSome o (λ t. P)
told None p = tt
told (Some t) p = p

pub counts-all : (table : Meaning) (first run : Run) (n : ℕ) (before now : Counts) → IsAfter table first run n before now → WhereTold table (run.left ≡ []) → WhereTold table (now ≡ add_counts (reads_left first) before)
counts-all table first run n before now a none = by table.told none
  where
    by : (told : Option Indexed) → IfSome told (λ t. run.left ≡ []) → IfSome told (λ t. now ≡ add_counts (reads_left first) before)
    by None e = tt
    by (Some t) e = all_read table first run n before now a e

-- a row that a query answers over one row
pub one_at_most : (q : Question) (row : List Value) (old new : Printed) → Adds (answer q (row ∷ [])) old new → new.rows ≤ old.rows + 1
one_at_most q row old new a = at_most (is_true (truth_at q.cond row)) a.count
  where
    at_most : (b : Bool) → new.rows ≡ old.rows + length (map (projected q.items) (cond b (row ∷ []) [])) → new.rows ≤ old.rows + 1
    at_most true e = omega arith
    at_most false e = omega arith

-- rows that were kept so far: no more than were read, their integers those of columns
pub record KeptSoFar (n : ℕ) (kept : List (List Value)) : Type 0 where
  pub few : length kept ≤ n
  pub small : All (All IsSmall) kept

pub kept-none : (kept : List (List Value)) → kept ≡ [] → KeptSoFar 0 kept
kept-none kept e = subst (KeptSoFar 0) (sym e) (record { few = omega arith; small = All-nil (All IsSmall) })

pub kept-more : (schema : Schema) (q : Question) (n : ℕ) (row : List Value) (old new : List (List Value)) → IsSchema schema → IsOfTypes schema row → KeptSoFar n old → new ≡ old ++ selected q.cond (row ∷ []) → KeptSoFar (n + 1) new
kept-more schema q n row old new limits fits k e = by (is_true (truth_at q.cond row)) e
  where
    by : (b : Bool) → new ≡ old ++ cond b (row ∷ []) [] → KeptSoFar (n + 1) new
    by true e = subst (KeptSoFar (n + 1)) (sym e) (record {
      few = omega (arith, k.few, length-append old (row ∷ []));
      small = All-append (All IsSmall) old (row ∷ []) k.small (All-cons (All IsSmall) row [] (small_row schema row limits fits) (All-nil (All IsSmall)));
    })
    by false e = subst (KeptSoFar (n + 1)) (sym (e ∙ append-nil old)) (record { few = omega (arith, k.few); small = k.small })

pub kept-all : (table : Meaning) (n most : ℕ) (kept : List (List Value)) → IsMeaning table → table.count ≡ most → n ≤ most → KeptSoFar n kept → AreSmall kept
kept-all table n most kept sound all below k = record { few = omega (arith, sound.few, all, below, k.few); small = k.small }

-- what a plain query answers is what any query answers
pub plain_answers : (table : Meaning) (q : Question) (run : Run) (h : Handed) → is_plain q ≡ true → PrintsPlain q table run h → PrintsAnswer q table run h
plain_answers table q run h plain p = by table.told p
  where
    by : (told : Option Indexed) → IfSome told (λ t. PrintsAll (answer q (rows_left run t)) run h) → IfSome told (λ t. PrintsAll (answered q (rows_left run t)) run h)
    by None p = tt
    by (Some t) p = subst (λ (xs : List (List Value)). PrintsAll xs run h) (sym (answered_plain q (rows_left run t) plain)) p

-- what is made of the rows that a query selects is what it answers
pub finish_answers : (table : Meaning) (q : Question) (run : Run) (kept : Kept) (printed : Printed) → Selects q table run kept → IsPrinted (finish q kept.rows) printed
    → PrintsAnswer q table run (record { printed = printed; count = kept.count })
finish_answers table q run kept printed s p = by table.told s
  where
    by : (told : Option Indexed) → IfSome told (λ t. KeepsSelected (selected q.cond (rows_left run t)) run kept) → IfSome told (λ t. PrintsAll (answered q (rows_left run t)) run (record { printed = printed; count = kept.count }))
    by None s = tt
    by (Some t) s = record { printed = subst (λ (xs : List (List Value)). IsPrinted (finish q xs) printed) s.selected p; all = s.all }
