-- What is answered when one more document is.
use Rattle.std.proofs.Common.{◌≡◌, ◌≤◌, ◌+◌, ◌==◌, ◌∙◌, ◌⊎◌, inl, inr, ℕ, max, List, [], ◌∷◌, ◌++◌, Bool, true, false, cond, take, refl, sym, ap, subst, append_assoc, flat_map, arith, length-append}
use Rattle.std.specs.List.{sum_by}
use Rattle.std.specs.declared.option.Option.{Option}
use Rattle.std.specs.declared.option.Option.TheVariants.{Some, None}
use Rattle.std.specs.Option.{option_map}
use Rattle.std.specs.Io.KnownBytes.{Appends}
use Rattle.std.proofs.KnownBytes.{Appends-nil, Appends-trans}
use Rattle.std.proofs.lemmas.List.{append-nil}
use Rattle.std.proofs.lemmas.List.Sums.{count_by-le-length, sum_by-append}
use Rattle.yv_batch.specs.AskedDocument.{AskedDocument, asked_of}
use Rattle.yv_batch.specs.Answers.{Answers, all, last}
use Rattle.yv_batch.specs.Batch.{IsTally, batch_level, documents_text, total_text, valid_count}
use Rattle.yv_batch.specs.Supply.{AreAll, IsLost, IsSplit, LosesOne, Split, Takes, is_end}
use Rattle.yv_batch.specs.InnerBatch.{IsAnswer, IsAnswered, IsSeen, BeginsAnswer, without_room}
use Rattle.yv_batch.specs.Level.{level_number}
use Rattle.yv_batch.specs.declared.batch.BatchEnd.TheVariants as ended
use Rattle.yv_batch.specs.declared.batch.Tally.{Tally}
use Rattle.yv_batch.specs.declared.documents.Fetched.{Fetched}
use Rattle.yv_batch.specs.declared.level.Level.{Level}

-- ---- the documents that were fetched

lost_before : (xs asked more : List AskedDocument) → LosesOne xs asked → LosesOne xs (asked ++ more)
lost_before xs asked more h = record {
  before = h.before;
  unseen = h.unseen;
  lost = h.lost;
  others = h.others ++ more;
  first = h.first;
  parts = ap (λ (l : List AskedDocument). l ++ more) h.parts ∙ append_assoc h.before (h.lost ∷ h.others) more;
  is_lost = h.is_lost;
}

lost_last : (xs asked ys : List AskedDocument) (a : AskedDocument) → xs ≡ asked ++ ys → IsLost a.fetched → LosesOne xs (asked ++ a ∷ [])
lost_last xs asked ys a e h = record { before = asked; unseen = ys; lost = a; others = []; first = e; parts = refl; is_lost = h }

-- one more
one_more : (xs : List AskedDocument) (mid rest : Option (List AskedDocument)) (asked : List AskedDocument) (a : AskedDocument) → IsSplit xs mid asked → Takes mid rest (Some a) → LosesOne xs (asked ++ a ∷ []) ⊎ IsSplit xs rest (asked ++ a ∷ [])
one_more xs None rest asked a s t = absurd s
one_more xs (Some ys) None asked a s t = inl (lost_last xs asked ys a s t)
one_more xs (Some ys) (Some zs) asked a s t = inr (s ∙ ap (λ (l : List AskedDocument). asked ++ l) t ∙ sym (append_assoc asked (a ∷ []) zs))

split_next : (unread mid rest : Option (List AskedDocument)) (asked : List AskedDocument) (a : AskedDocument) → Split unread mid asked → Takes mid rest (Some a) → Split unread rest (asked ++ a ∷ [])
split_next None mid rest asked a s t = tt
split_next (Some xs) mid rest asked a (inl lost) t = inl (lost_before xs asked (a ∷ []) lost)
split_next (Some xs) mid rest asked a (inr s) t = one_more xs mid rest asked a s t

-- one more, for which memory was refused
split_lost : (unread mid rest : Option (List AskedDocument)) (asked : List AskedDocument) (a : AskedDocument) → Split unread mid asked → IsLost a.fetched → Split unread rest (asked ++ a ∷ [])
split_lost None mid rest asked a s h = tt
split_lost (Some xs) mid rest asked a (inl lost) h = inl (lost_before xs asked (a ∷ []) lost)
split_lost (Some xs) None rest asked a (inr s) h = absurd s
split_lost (Some xs) (Some ys) rest asked a (inr s) h = inl (lost_last xs asked ys a s h)

-- one more, or in place of it that memory was refused
pub split_seen : (unread mid rest : Option (List AskedDocument)) (asked : List AskedDocument) (a b : AskedDocument) → Split unread mid asked → Takes mid rest (Some a) → IsSeen a b → Split unread rest (asked ++ b ∷ [])
split_seen unread mid rest asked a b s t (inl e) = subst (λ (d : AskedDocument). Split unread rest (asked ++ d ∷ [])) (sym e) (split_next unread mid rest asked a s t)
split_seen unread mid rest asked a b s t (inr e) = subst (λ (d : AskedDocument). Split unread rest (asked ++ d ∷ [])) (sym e) (split_lost unread mid rest asked (without_room a) s tt)

-- none more
no_more : (xs : List AskedDocument) (mid rest : Option (List AskedDocument)) (asked : List AskedDocument) → IsSplit xs mid asked → Takes mid rest None → xs ≡ asked
no_more xs None rest asked s t = absurd s
no_more xs (Some ys) None asked s t = absurd t
no_more xs (Some ys) (Some zs) asked s t = s ∙ ap (λ (l : List AskedDocument). asked ++ l) t.0 ∙ append-nil asked

pub split_end : (unread mid rest : Option (List AskedDocument)) (asked : List AskedDocument) → Split unread mid asked → Takes mid rest None → AreAll unread asked
split_end None mid rest asked s t = tt
split_end (Some xs) mid rest asked (inl lost) t = inl lost
split_end (Some xs) mid rest asked (inr s) t = inr (no_more xs mid rest asked s t)

split_none : (unread : Option (List AskedDocument)) → Split unread unread []
split_none None = tt
split_none (Some xs) = inr refl

-- ---- what was written

flat_snoc : (f : AskedDocument → List ℕ) (xs : List AskedDocument) (a : AskedDocument) → flat_map f (xs ++ a ∷ []) ≡ flat_map f xs ++ f a
flat_snoc f [] a = append-nil (f a)
flat_snoc f (x ∷ xs) a = ap (λ (l : List ℕ). f x ++ l) (flat_snoc f xs a) ∙ sym (append_assoc (f x) (flat_map f xs) (f a))

-- the answers with one more
written_next : (f : AskedDocument → List ℕ) (old mid new : Option (List ℕ)) (asked : List AskedDocument) (a : AskedDocument) → Appends old mid (flat_map f asked) → Appends mid new (f a) → Appends old new (flat_map f (asked ++ a ∷ []))
written_next f old mid new asked a h more = subst (λ (l : List ℕ). Appends old new l) (sym (flat_snoc f asked a)) (Appends-trans old mid new (flat_map f asked) (f a) h more)

-- ---- how many, and how good

level_snoc : (level : AskedDocument → ℕ) (xs : List AskedDocument) (a : AskedDocument) → batch_level level (xs ++ a ∷ []) ≡ max (batch_level level xs) (level a)
level_snoc level [] a = omega arith
level_snoc level (x ∷ xs) a = omega (arith, level_snoc level xs a)

abbrev valid_one : ℕ → ℕ
valid_one n = cond (n == 0) 1 0

one_valid : (level : AskedDocument → ℕ) (a : AskedDocument) (n : ℕ) → n ≡ level a → valid_one n ≡ sum_by (λ (d : AskedDocument). valid_one (level d)) (a ∷ [])
one_valid level a n e = let same : valid_one n ≡ valid_one (level a) = ap valid_one e in omega (arith, same)

tally_next : (level : AskedDocument → ℕ) (asked : List AskedDocument) (a : AskedDocument) (n : ℕ) (old new : Tally) → IsTally level asked old → n ≡ level a → new.count ≡ old.count + 1 → new.valid ≡ old.valid + valid_one n
    → level_number new.level ≡ max (level_number old.level) n → IsTally level (asked ++ a ∷ []) new
tally_next level asked a n old new h e count valid worst = record {
  count = omega (arith, h.count, count, length-append asked (a ∷ []));
  valid = valid ∙ ap (λ (m : ℕ). m + valid_one n) h.valid ∙ ap (λ (m : ℕ). valid_count level asked + m) (one_valid level a n e) ∙ sym (sum_by-append (λ (d : AskedDocument). valid_one (level d)) asked (a ∷ []));
  worst = worst ∙ ap (λ (m : ℕ). max m n) h.worst ∙ ap (λ (m : ℕ). max (batch_level level asked) m) e ∙ sym (level_snoc level asked a);
}

-- there are at most as many valid ones as there are
pub valid_within : (level : AskedDocument → ℕ) (asked : List AskedDocument) (t : Tally) → IsTally level asked t → t.valid ≤ t.count
valid_within level asked t h = omega (arith, h.count, h.valid, count_by-le-length (λ (d : AskedDocument). level d == 0) asked)

-- ---- the loop

-- the start
pub none_yet : (text : AskedDocument → List ℕ) (level : AskedDocument → ℕ) (has_failed : Bool) (t : Tally) (unread : Option (List AskedDocument)) (old : Option (List ℕ)) → has_failed ≡ false → t.count ≡ 0 → t.valid ≡ 0 → level_number t.level ≡ 0
    → IsAnswered text level has_failed t unread unread old old
none_yet text level has_failed t unread old works count valid worst =
    record { asked = []; works = works; split = split_none unread; written = Appends-nil old; counts = record { count = count; valid = valid; worst = worst } }

-- one more was answered
pub answered_next : (text : AskedDocument → List ℕ) (level : AskedDocument → ℕ) (had has : Bool) (t next : Tally) (unread mid rest : Option (List AskedDocument)) (start old new : Option (List ℕ)) (a : AskedDocument) (l : Level)
    → IsAnswered text level had t unread mid start old → Takes mid rest (Some a) → IsAnswer text level a old new l → has ≡ false → next.count ≡ t.count + 1 → next.valid ≡ t.valid + valid_one (level_number l)
    → level_number next.level ≡ max (level_number t.level) (level_number l) → IsAnswered text level has next unread rest start new
answered_next text level had has t next unread mid rest start old new a l h takes answer works count valid worst = record {
  asked = h.asked ++ answer.seen ∷ [];
  works = works;
  split = split_seen unread mid rest h.asked a answer.seen h.split takes answer.is;
  written = written_next text start old new h.asked answer.seen h.written answer.written;
  counts = tally_next level h.asked answer.seen (level_number l) t next h.counts answer.good count valid worst;
}

-- by another answer that says the same
pub answer_as : (text other : AskedDocument → List ℕ) (level grade : AskedDocument → ℕ) (a : AskedDocument) (old new : Option (List ℕ)) (l : Level) → other ≡ text → grade ≡ level → IsAnswer other grade a old new l → IsAnswer text level a old new l
answer_as text other level grade a old new l e f h =
    subst (λ (v : AskedDocument → ℕ). IsAnswer text v a old new l) f (subst (λ (t : AskedDocument → List ℕ). IsAnswer t grade a old new l) e h)

pub begins_as : (text other : AskedDocument → List ℕ) (a : AskedDocument) (old new : Option (List ℕ)) → other ≡ text → BeginsAnswer other a old new → BeginsAnswer text a old new
begins_as text other a old new e h = subst (λ (t : AskedDocument → List ℕ). BeginsAnswer t a old new) e h

-- ---- what was fetched

-- what was fetched is the document
takes_one : (mid rest : Option (List AskedDocument)) (name : List ℕ) (o : Option Fetched) (d : Fetched) → o ≡ Some d → Takes mid rest (option_map (asked_of name) o) → Takes mid rest (Some (asked_of name d))
takes_one mid rest name o d e t = subst (λ (x : Option Fetched). Takes mid rest (option_map (asked_of name) x)) e t

pub takes_none : (mid rest : Option (List AskedDocument)) (name : List ℕ) (o : Option Fetched) → o ≡ None → Takes mid rest (option_map (asked_of name) o) → Takes mid rest None
takes_none mid rest name o e t = subst (λ (x : Option Fetched). Takes mid rest (option_map (asked_of name) x)) e t

pub none_of : (o : Option Fetched) → ((d : Fetched) → o ≡ Some d → ⊥) → o ≡ None
none_of None h = refl
none_of (Some d) h = absurd (h d refl)

pub over_of : (is_over : Bool) (o : Option Fetched) → o ≡ None → is_over ≡ is_end o → is_over ≡ true
over_of is_over o e h = h ∙ ap is_end e

-- by the name that the supply tells
pub takes_named : (mid rest : Option (List AskedDocument)) (name other : List ℕ) (o : Option Fetched) (d : Fetched) → o ≡ Some d → other ≡ name → Takes mid rest (option_map (asked_of name) o) → Takes mid rest (Some (asked_of other d))
takes_named mid rest name other o d e same t = subst (λ (n : List ℕ). Takes mid rest (Some (asked_of n d))) (sym same) (takes_one mid rest name o d e t)

-- ---- what follows them

same_total : (total : (valid count : ℕ) → List ℕ) (level : AskedDocument → ℕ) (asked : List AskedDocument) (t : Tally) → IsTally level asked t → total t.valid t.count ≡ total_text total level asked
same_total total level asked t h = ap (λ (n : ℕ). total n t.count) h.valid ∙ ap (λ (n : ℕ). total (valid_count level asked) n) h.count

-- what is written at the end, by an answer that writes the same there
total_as : (total other : (valid count : ℕ) → List ℕ) (level : AskedDocument → ℕ) (asked : List AskedDocument) (t : Tally) → other ≡ total → IsTally level asked t → other t.valid t.count ≡ total_text total level asked
total_as total other level asked t same h = ap (λ (f : (valid count : ℕ) → List ℕ). f t.valid t.count) same ∙ same_total total level asked t h

-- all were answered, and it was written
pub with_total : (text : AskedDocument → List ℕ) (total other : (valid count : ℕ) → List ℕ) (level : AskedDocument → ℕ) (unread rest : Option (List AskedDocument)) (old mid new : Option (List ℕ)) (asked : List AskedDocument) (t : Tally) → other ≡ total → AreAll unread asked
    → Appends old mid (documents_text text asked) → IsTally level asked t → Appends mid new (other t.valid t.count) → Answers text total level (ended.All t) unread rest old new
with_total text total other level unread rest old mid new asked t same are written counts more =
    all asked t are (Appends-trans old mid new (documents_text text asked) (total_text total level asked) written (subst (λ (l : List ℕ). Appends mid new l) (total_as total other level asked t same counts) more)) counts refl

-- all were answered, and its first bytes were written
pub with_front : (text : AskedDocument → List ℕ) (total other : (valid count : ℕ) → List ℕ) (level : AskedDocument → ℕ) (unread rest : Option (List AskedDocument)) (old mid new : Option (List ℕ)) (asked : List AskedDocument) (t : Tally) (n : ℕ) → other ≡ total → AreAll unread asked
    → Appends old mid (documents_text text asked) → IsTally level asked t → Appends mid new (take n (other t.valid t.count)) → Answers text total level ended.WriteFault unread rest old new
with_front text total other level unread rest old mid new asked t n same are written counts more =
    last asked n are (Appends-trans old mid new (documents_text text asked) (take n (total_text total level asked)) written (subst (λ (l : List ℕ). Appends mid new (take n l)) (total_as total other level asked t same counts) more)) refl
