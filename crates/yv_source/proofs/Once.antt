-- What a file is refused for, and what its text spells, are one.
use Rattle.std.proofs.Common.{◌≡◌, ℕ, List, ◌∷◌, ◌++◌, [], inl, inr, sym, ◌∙◌, ap, subst, arith}
use Rattle.std.specs.Prelude.{IsTrue}
use Rattle.std.specs.List.{list_all}
use Rattle.yv_text_statement.specs.Tree.{Tree}
use Rattle.yv_text_statement.specs.declared.refusal.Code.TheVariants as code
use Rattle.yv_text_statement.specs.declared.refusal.Refusal.{Refusal}
use Rattle.yv_source.specs.Answer.{refusal_in, IsBadFile, IsRefusalOf, IsSpelled, IsRefused}
use Rattle.yv_source.specs.Legal.{is_legal, IsLegalFile}
use Rattle.yv_source.specs.Outcome.{Outcome, Statement}
use Rattle.yv_source.proofs.Keyword.{false_true, and_first, and_second}
use Rattle.yv_source.proofs.Legality.{one_illegal}
use Rattle.yv_source.proofs.Unique.{one_outcome, one_refusal, spelled_same}

pub one_bad : (bytes : List ℕ) (r s : Refusal) → IsBadFile bytes r → IsBadFile bytes s → r ≡ s
one_bad bytes r s (inl a) (inl b) = a.1 ∙ sym b.1
one_bad bytes r s (inl a) (inr (inl b)) = absurd (let x = a.0 in let y = b.0.0 in omega arith)
one_bad bytes r s (inl a) (inr (inr b)) = absurd (let x = a.0 in let y = b.0.0 in omega arith)
one_bad bytes r s (inr (inl a)) (inl b) = absurd (let x = b.0 in let y = a.0.0 in omega arith)
one_bad bytes r s (inr (inl a)) (inr (inl b)) = a.1 ∙ sym b.1
one_bad bytes r s (inr (inl a)) (inr (inr b)) = absurd (a.0.1 b.0.1)
one_bad bytes r s (inr (inr a)) (inl b) = absurd (let x = b.0 in let y = a.0.0 in omega arith)
one_bad bytes r s (inr (inr a)) (inr (inl b)) = absurd (b.0.1 a.0.1)
one_bad bytes r s (inr (inr a)) (inr (inr b)) =
    a.3 ∙ ap (λ n. refusal_in bytes code.BadCharacter n) (one_illegal bytes a.1 b.1 a.2 b.2) ∙ sym b.3

legal_inside : (f r : List ℕ) (c : ℕ) → IsTrue (list_all is_legal (f ++ c ∷ r)) → IsTrue (is_legal c)
legal_inside [] r c h = and_first (is_legal c) (list_all is_legal r) h
legal_inside (x ∷ f) r c h = legal_inside f r c (and_second (is_legal x) (list_all is_legal (f ++ c ∷ r)) h)

pub bad_or_legal : (bytes : List ℕ) (r : Refusal) → IsBadFile bytes r → IsLegalFile bytes → ⊥
bad_or_legal bytes r (inl a) l = let x = a.0 in let y = l.1.0 in omega arith
bad_or_legal bytes r (inr (inl a)) l = a.0.1 l.0
bad_or_legal bytes r (inr (inr (t, at, (f, c, rest, e, h, i, p), is))) l =
    false_true (sym i ∙ legal_inside f rest c (subst (λ cs. IsTrue (list_all is_legal cs)) e l.1.1))

pub one_spelled : (text : List ℕ) (t u : Tree) → IsSpelled text t → IsSpelled text u → t ≡ u
one_spelled text t u a b = spelled_same t u (one_outcome _ _ (Statement t) (Statement u) a b)

pub one_refused : (text : List ℕ) (r s : Refusal) → IsRefused text r → IsRefused text s → r ≡ s
one_refused text r s a b =
    let P : Outcome → Type 0 = λ x. IsRefusalOf text x r in
    one_refusal text b.0 r s (subst P (one_outcome _ _ a.0 b.0 a.1 b.1) a.2) b.2

pub spelled_or_refused : (text : List ℕ) (t : Tree) (r : Refusal) → IsSpelled text t → IsRefused text r → ⊥
spelled_or_refused text t r a b =
    let P : Outcome → Type 0 = λ x. IsRefusalOf text x r in
    subst P (one_outcome _ _ b.0 (Statement t) b.1 a) b.2
