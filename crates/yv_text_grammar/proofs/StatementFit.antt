-- A statement fits exactly where nothing is wrong with it.
use Rattle.std.proofs.Common.{◌≡◌, ◌≢◌, ℕ, ◌<◌, inl, inr, ⊎_elim, ◌+◌, Bool, true, false, cond, not, ◌&&◌, IfNone, List, Option, Some, None, length, take, sym, ◌∙◌, subst, refl, arith}
use Rattle.std.specs.List.{slice_get}
use Rattle.std.proofs.lemmas.Bool.{and_from, and_parts, cases_lt, false_from_ne_true, false≢true, not-true, not_from_false}
use Rattle.std.proofs.lemmas.Option.{slice_get_within}
use Rattle.yv_text_statement.specs.Keywords.{same}
use Rattle.yv_text_statement.specs.Order.{IsLeast, IsLesser, refusal_at}
use Rattle.yv_text_grammar.specs.Table.{occurs_in, rows_of}
use Rattle.yv_text_grammar.specs.Refusals.{Faulty, own, number, below, CountsBadly, OwnRefusal, IsMisplaced, has, keyword_at, is_excess}
use Rattle.yv_text_grammar.specs.Fits.{FitsIn, extension, plain, OwnFits, IsCounted, IsAllowed, occurrences}
use Rattle.yv_text_statement.specs.declared.keyword.Keyword.{Keyword}
use Rattle.yv_text_statement.specs.declared.keyword.Keyword.TheVariants as word
use Rattle.yv_text_statement.specs.Tree.{Tree, trees}
use Rattle.yv_text_grammar.specs.declared.xpath.Xpath.{Xpath}
use Rattle.yv_text_statement.specs.declared.refusal.Refusal.{Refusal}
use Rattle.yv_text_statement.specs.declared.refusal.Code.TheVariants as code
use Rattle.yv_text_grammar.proofs.Keywords.{one, other, is_same}
use Rattle.yv_text_grammar.proofs.KeywordCounts.{allowed, not_excess, uncounted}
use Rattle.yv_text_grammar.proofs.Tables.{table_is_sound, present, lacking}

own_clash : (x : Xpath) (parent : Keyword) (s : Tree) (f : Refusal) → OwnFits x parent s → OwnRefusal x parent s f → ⊥
own_clash x parent s f o = ⊎_elim (λ h. false≢true (sym o.supported ∙ h.0)) (⊎_elim (λ h. o.known h.0) (λ h. h.0 o.argument))

counted_clash : (s : Tree) (f : Refusal) → IsCounted s → CountsBadly s f → ⊥
counted_clash s f c = ⊎_elim
    (λ h.
    let wrong : (not (same (keyword_at h.2) word.Extended) && is_excess (occurs_in (rows_of (keyword_at s)) (keyword_at h.2)) (has (keyword_at h.2) (take h.0 (trees s.children)))) ≡ true = h.4.0 in
    let ordinary : keyword_at h.2 ≢ word.Extended = other _ _ (not-true _ (and_parts _ _ wrong).0) in
    false≢true (sym (not_excess (keyword_at h.2) (occurs_in (rows_of (keyword_at s)) (keyword_at h.2)) (trees s.children) h.0 h.2 (c (keyword_at h.2) ordinary) h.3 (is_same _ _ refl)) ∙ (and_parts _ _ wrong).1))
    (λ h.
    let q = lacking (trees s.children) (rows_of (keyword_at s)) (table_is_sound (keyword_at s)) h.0 in
    let n : ℕ = occurrences q.0 (trees s.children) in
    let one_stands : n ≡ 1 = subst (λ o. IsAllowed o n) q.2 (c q.0 q.1) in
    absurd (omega (arith, one_stands, uncounted q.0 (trees s.children) q.3)))

pub no_fault : {x : Xpath} {parent : Keyword} {s : Tree} {f : Refusal} → FitsIn x parent s → Faulty x parent s f → ⊥
no_fault (extension e) (own ordinary h) = ordinary e
no_fault (extension e) (number ordinary h) = ordinary e
no_fault (extension e) (below k c ordinary at_k h) = ordinary e
no_fault {x} {parent} {s} {f} (plain o c each) (own ordinary h) = own_clash x parent s f o h
no_fault {x} {parent} {s} {f} (plain o c each) (number ordinary h) = counted_clash s f c h
no_fault (plain o c each) (below k d ordinary at_k h) = no_fault (each k d at_k) h

pub is_counted : (s : Tree) → ((f : Refusal) → CountsBadly s f → ⊥) → IsCounted s
is_counted s clear = λ k ordinary.
    allowed k (occurs_in (rows_of (keyword_at s)) k) (trees s.children)
    (λ n c at_n is. false_from_ne_true _ (λ e.
    let kind : keyword_at c ≡ k = one _ _ is in
    let P : Keyword → Type 0 = λ x. (not (same x word.Extended) && is_excess (occurs_in (rows_of (keyword_at s)) x) (has x (take n (trees s.children)))) ≡ true in
    let misplaced : IsMisplaced s n c = subst P (sym kind) (and_from _ _ (not_from_false _ (false_from_ne_true _ (λ h. ordinary (one _ _ h)))) e) in
    clear (refusal_at code.Cardinality 0 c.head) (inl (n, slice_get_within (trees s.children) n c at_n, c, at_n, (misplaced, refl)))))
    (λ e. present (trees s.children) (rows_of (keyword_at s)) k (false_from_ne_true _ (λ h. clear (refusal_at code.Cardinality 0 s.head) (inr (h, refl)))) e)

-- what holds where nothing was found, told by what was found
held : (o : Option Refusal) (P : Type 0) → o ≡ None → IfNone o P → P
held None P e h = h
held (Some x) P e h = cc

pub told : {P : Type 0} (o : Option Refusal) → (o ≡ None → P) → IfNone o P
told None h = h refl
told (Some x) h = tt

-- a refusal that isn't made
pub spared : (b : Bool) (r : Refusal) → cond b (Some r) None ≡ None → b ≡ false
spared true r h = cc
spared false r h = refl

-- a refusal is none where both of two are
pub neither : (a b c : Option Refusal) → IsLesser a b c → c ≡ None → (a ≡ None) × (b ≡ None)
neither None b c l h = (refl, sym l ∙ h)
neither (Some a) None c l h = absurd (cc)
neither (Some a) (Some b) c l h = absurd (⊎_elim (λ p. let e : c ≡ Some a = p.0 in cc) (λ p. let e : c ≡ Some b = p.0 in cc) l)

-- the children that were looked at fit, if nothing was found
abbrev pub FitBelow : Xpath → Tree → ℕ → Option Refusal → Type 0
FitBelow x s n best = best ≡ None → (k : ℕ) (c : Tree) → k < n → slice_get (trees s.children) k ≡ Some c → FitsIn x (keyword_at s) c

pub fit_more : (x : Xpath) (s : Tree) (n : ℕ) (c : Tree) (best here next : Option Refusal) → slice_get (trees s.children) n ≡ Some c → IsLesser best here next → FitBelow x s n best → IfNone here (FitsIn x (keyword_at s) c) → FitBelow x s (n + 1) next
fit_more x s n c best here next at_n joined before fits none k d within at_k =
    let both_none = neither best here next joined none in
    ⊎_elim
    (λ lt. before both_none.0 k d lt at_k)
    (λ ge.
    let place : k ≡ n = omega (arith, within, ge) in
    let same_one : c ≡ d = found (trees s.children) n k c d place at_n at_k in
    subst (FitsIn x (keyword_at s)) same_one (held here _ both_none.1 fits))
    (cases_lt k n)
  where
    found : (cs : List Tree) (n k : ℕ) (c d : Tree) → k ≡ n → slice_get cs n ≡ Some c → slice_get cs k ≡ Some d → c ≡ d
    found cs n k c d e at_n at_k = cc

pub all_fit : (x : Xpath) (parent : Keyword) (s : Tree) (a b o d r : Option Refusal) → IsLesser a b o → IsLesser o d r → IfNone a (OwnFits x parent s) → IsLeast (CountsBadly s) b → FitBelow x s (length (trees s.children)) d → IfNone r (FitsIn x parent s)
all_fit x parent s a b o d r l m first second third =
    told r (λ none.
    let outer = neither o d r m none in
    let inner = neither a b o l outer.0 in
    plain (held a (OwnFits x parent s) inner.0 first) (is_counted s (clear (CountsBadly s) b inner.1 second))
    (λ k c at_k. third outer.1 k c (slice_get_within (trees s.children) k c at_k) at_k))
  where
    clear : (P : Refusal → Type 0) (o : Option Refusal) → o ≡ None → IsLeast P o → (f : Refusal) → P f → ⊥
    clear P None e h = h
    clear P (Some r) e h = cc
