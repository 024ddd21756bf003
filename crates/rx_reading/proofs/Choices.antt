-- Words of which one stands: what is read is spelled, and what is spelled is read.
use Rattle.std.proofs.Common.{◌≡◌, Bool, false, List, Option, Some, None, refl, sym, ap, subst, ◌∙◌, ⊎_elim, codes}
use Rattle.rx_token.specs.declared.kinds.Token.{Token}
use Rattle.rx_reading.specs.Reading.{after_word, after_key, direction_of, direction_at}
use Rattle.rx_reading.specs.Forms.{Word, DirectionForm, unsaid, ascending, descending, SpellsDirection, is_descending, IndexWord, key, index, SpellsIndexWord}
use Rattle.rx_reading.proofs.Steps.{one_of, first_gives, second_gives}
use Rattle.rx_reading.proofs.Spelled.{word_spelled, word_read, Read}
use Rattle.rx_reading.proofs.Each.{Shrinks, Within, shrinks_within, no_token_within}
use Rattle.rx_reading.proofs.FirstTokens.{word_shrinks, word_no_word}

-- ASC and DESC
abbrev pub DirectionRead : List Token → Bool × List Token → Type 0
DirectionRead ts x = Read SpellsDirection is_descending ts x

direction_by : (ts : List Token) (o p : Option (List Token)) → after_word (codes "ASC") ts ≡ o → after_word (codes "DESC") ts ≡ p → DirectionRead ts (direction_of ts o p)
direction_by ts None None asc desc = record { form = unsaid; spelled = refl; stands = refl }
direction_by ts (Some rest) p asc desc = record { form = ascending; spelled = word_spelled (codes "ASC") ts rest asc; stands = refl }
direction_by ts None (Some rest) asc desc = record { form = descending; spelled = word_spelled (codes "DESC") ts rest desc; stands = refl }

pub direction_spelled : (ts : List Token) → DirectionRead ts (direction_at ts)
direction_spelled ts = direction_by ts (after_word (codes "ASC") ts) (after_word (codes "DESC") ts) refl refl

pub direction_read : (d : DirectionForm) (ts rest : List Token) → SpellsDirection d ts rest → after_word (codes "ASC") rest ≡ None → after_word (codes "DESC") rest ≡ None → direction_at ts ≡ (is_descending d, rest)
direction_read unsaid ts rest s no_asc no_desc =
    subst (λ (us : List Token). direction_at us ≡ (false, rest)) (sym s) (ap (λ (o : Option (List Token)). direction_of rest o (after_word (codes "DESC") rest)) no_asc ∙ ap (direction_of rest None) no_desc)
direction_read ascending ts rest s no_asc no_desc = ap (λ (o : Option (List Token)). direction_of ts o (after_word (codes "DESC") ts)) (word_read (codes "ASC") ts rest s)
direction_read descending ts rest s no_asc no_desc =
    ap (λ (o : Option (List Token)). direction_of ts o (after_word (codes "DESC") ts)) (word_no_word (codes "DESC") (codes "ASC") refl ts rest s) ∙ ap (direction_of ts None) (word_read (codes "DESC") ts rest s)

pub direction_within : (d : DirectionForm) → Within (SpellsDirection d)
direction_within unsaid = no_token_within
direction_within ascending = shrinks_within (Word (codes "ASC")) (word_shrinks (codes "ASC"))
direction_within descending = shrinks_within (Word (codes "DESC")) (word_shrinks (codes "DESC"))

-- KEY and INDEX
abbrev pub IndexWordRead : List Token → List Token → Type 0
IndexWordRead ts rest = (w : IndexWord) × SpellsIndexWord w ts rest

pub index_word_spelled : (ts rest : List Token) → after_key ts ≡ Some rest → IndexWordRead ts rest
index_word_spelled ts rest e =
    ⊎_elim (λ f. (key, word_spelled (codes "KEY") ts rest f)) (λ f. (index, word_spelled (codes "INDEX") ts rest f)) (one_of (after_word (codes "KEY") ts) (after_word (codes "INDEX") ts) rest e)

pub index_word_read : (w : IndexWord) (ts rest : List Token) → SpellsIndexWord w ts rest → after_key ts ≡ Some rest
index_word_read key ts rest s = first_gives (after_word (codes "INDEX") ts) (word_read (codes "KEY") ts rest s)
index_word_read index ts rest s = second_gives (word_no_word (codes "INDEX") (codes "KEY") refl ts rest s) (word_read (codes "INDEX") ts rest s)

pub index_word_shrinks : (w : IndexWord) → Shrinks (SpellsIndexWord w)
index_word_shrinks key = word_shrinks (codes "KEY")
index_word_shrinks index = word_shrinks (codes "INDEX")
