-- A text comes to one outcome at most.
use Rattle.std.proofs.Common.{◌≡◌, ℕ, ◌+◌, ◌-◌, List, [], ◌∷◌, ◌++◌, length, Some, None, refl, sym, ◌∙◌, ap, subst, inl, inr, ◌⊎◌, arith, append_assoc, length-append}
use Rattle.yv_text_statement.specs.Tree.{Tree}
use Rattle.yv_source.specs.Pieces.{Piece, slice, Before, Apart, past, MayStand, Cuts, behind, Token, tokens}
use Rattle.yv_source.specs.Grammar.{SpellsOne, Goes, GoesWithin}
use Rattle.yv_source.specs.Escapes.{IsNewer}
use Rattle.yv_source.specs.Outcome.{Outcome, Statement, BadToken, BadSyntax, TooDeep, BadEscape, ComesTo, Why, StandsAt}
use Rattle.yv_source.specs.Inner.Scan.{First, first}
use Rattle.yv_source.proofs.Pairs.{one_escape, not_both}
use Rattle.yv_source.proofs.FirstPiece.{complete}
use Rattle.yv_source.proofs.ReadProgress.{tokens-append}
use Rattle.yv_source.proofs.Verdict.{one_statement}
use Rattle.yv_source.proofs.Loop.{not_empty}
use Rattle.yv_source.specs.Answer.{IsSpelled, IsRefused, IsRefusalOf}
use Rattle.yv_source.specs.Inner.End.{Comes}
use Rattle.yv_text_statement.specs.declared.refusal.Refusal.{Refusal}
use Rattle.yv_text_statement.specs.declared.refusal.Stop.{Stop}
use Rattle.yv_text_statement.specs.declared.refusal.Stop.TheVariants.{Fault, PatternBuild, NoMemory}
use Rattle.std.proofs.Common.{Result, Ok, Err}

-- the first piece and what is left are one
piece_of : Piece × List ℕ → First → Piece × List ℕ
piece_of d None = d
piece_of d (Some x) = x

some_same : (x y : Piece × List ℕ) → Some x ≡ Some y → x ≡ y
unfolding piece_of
some_same x y e = ap (piece_of x) e

abbrev pub pair : Piece → List ℕ → Piece × List ℕ
pair p more = (p, more)

pub one_piece : (before : Before) (text : List ℕ) (p q : Piece) (more left : List ℕ) → text ≡ slice p ++ more → MayStand before p more → text ≡ slice q ++ left → MayStand before q left → pair p more ≡ pair q left
one_piece before text p q more left e m f n =
    some_same (p, more) (q, left) (sym (complete before p more m) ∙ ap (first before) (sym e ∙ f) ∙ complete before q left n)

-- one cut goes on where the other ends, or they are one
pub record GoesOn (before : Before) (ps rs : List Piece) (rest : List ℕ) : Type 0 where
  pub piece : Piece
  pub more : List ℕ
  pub others : List Piece
  pub all : rs ≡ ps ++ piece ∷ others
  pub is : rest ≡ slice piece ++ more
  pub may : MayStand (behind before ps) piece more

abbrev Meet : Before → List Piece → List ℕ → List Piece → List ℕ → Type 0
Meet b ps rest rs left = ((ps ≡ rs) × (rest ≡ left)) ⊎ (GoesOn b ps rs rest ⊎ GoesOn b rs ps left)

cuts_meet : (b : Before) (text : List ℕ) (ps rs : List Piece) (rest left : List ℕ) → Cuts b text ps rest → Cuts b text rs left → Meet b ps rest rs left
cuts_meet b text [] [] rest left c d = inl (refl, sym c ∙ d)
cuts_meet b text [] (r ∷ rs) rest left c (more, is, may, others) =
    inr (inl (record { piece = r; more = more; others = rs; all = refl; is = sym c ∙ is; may = may }))
cuts_meet b text (p ∷ ps) [] rest left (more, is, may, others) d =
    inr (inr (record { piece = p; more = more; others = ps; all = refl; is = sym d ∙ is; may = may }))
cuts_meet b text (p ∷ ps) (r ∷ rs) rest left (more, is, may, others) (more', is', may', others') =
    let e = one_piece b text p r more more' is may is' may' in
    let C : Piece × List ℕ → Type 0 = λ x. Cuts (past b x.0) x.1 rs left in
    let m = cuts_meet (past b p) more ps rs rest left others (subst C (sym e) others') in
    let q : p ≡ r = λ i. (e i).0 in
    elim m [
      | inl x ↦ inl ((λ i. q i ∷ x.0 i), x.1)
      | inr y ↦
          elim y [
            | inl g ↦ inr (inl (record { piece = g.piece; more = g.more; others = g.others; all = (λ i. sym q i ∷ rs) ∙ ap (λ l. p ∷ l) g.all; is = g.is; may = g.may }))
            | inr g ↦
                let M : Piece → Type 0 = λ x. MayStand (behind (past b x) rs) g.piece g.more in
                inr (inr (record { piece = g.piece; more = g.more; others = g.others; all = (λ i. q i ∷ ps) ∙ ap (λ l. r ∷ l) g.all; is = g.is; may = subst M q g.may }))
          ]
    ]

no_rest : (b : Before) (p : Piece) (more : List ℕ) → MayStand b p more → [] ≡ slice p ++ more → ⊥
no_rest b p more m e =
    let n = not_empty b p more m in
    let l = ap length e in
    omega (arith, n, l, length-append (slice p) more)

-- the front of tokens that go goes
goes_front : (ts us : List Token) → GoesWithin 64 (ts ++ us) → GoesWithin 64 ts
goes_front ts us (t, more, spells, d) = let P : List Token → Type 0 = λ l. SpellsOne t l in (t, us ++ more, subst P (append_assoc ts us more) spells, d)

reason : (front : List ℕ) (ps : List Piece) (rest : List ℕ) (o : Outcome) → Why front ps (behind Apart ps) rest o → (q : Piece) (left : List ℕ) → rest ≡ slice q ++ left → MayStand (behind Apart ps) q left → GoesWithin 64 (tokens front (ps ++ q ∷ [])) → ⊥
reason front ps rest (Statement t) (none, spells, d, kept) q left is may go = no_rest (behind Apart ps) q left may (sym none ∙ is)
reason front ps rest (BadToken at) (some, uncut) q left is may go = uncut q (left, is, may)
reason front ps rest (BadSyntax at) (inl (none, spells)) q left is may go = no_rest (behind Apart ps) q left may (sym none ∙ is)
reason front ps rest (BadSyntax at) (inr (p, (more, is', may'), not)) q left is may (t, others, spells, d) =
    let e = one_piece (behind Apart ps) rest p q more left is' may' is may in
    let G : Piece × List ℕ → Type 0 = λ x. Goes (tokens front (ps ++ x.0 ∷ [])) in
    not (subst G (sym e) (t, others, spells))
reason front ps rest (TooDeep at) (p, (more, is', may'), goes, not) q left is may go =
    let e = one_piece (behind Apart ps) rest p q more left is' may' is may in
    let G : Piece × List ℕ → Type 0 = λ x. GoesWithin 64 (tokens front (ps ++ x.0 ∷ [])) in
    not (subst G (sym e) go)
reason front ps rest (BadEscape at) (none, t, spells, d, new, bad) q left is may go = no_rest (behind Apart ps) q left may (sym none ∙ is)

-- two reasons at one place are one
abbrev Both : List ℕ → List Piece → List ℕ → ℕ → Outcome → Outcome → Type 0
Both front ps rest at o u = Why front ps (behind Apart ps) rest o → StandsAt at o → Why front ps (behind Apart ps) rest u → StandsAt at u → o ≡ u

one_reason : (front : List ℕ) (ps : List Piece) (rest : List ℕ) (at : ℕ) (o u : Outcome) → Both front ps rest at o u
one_reason front ps rest at (Statement t) (Statement v) w a x b = ap Statement (one_statement (tokens front ps) t v w.1 x.1)
one_reason front ps rest at (Statement t) (BadToken k) w a x b = absurd (x.0 w.0)
one_reason front ps rest at (Statement t) (BadSyntax k) w a (inl x) b = absurd (x.1 t w.1)
one_reason front ps rest at (Statement t) (BadSyntax k) w a (inr x) b = absurd (no_rest (behind Apart ps) x.0 x.1.0 x.1.2 (sym w.0 ∙ x.1.1))
one_reason front ps rest at (Statement t) (TooDeep k) w a x b = absurd (no_rest (behind Apart ps) x.0 x.1.0 x.1.2 (sym w.0 ∙ x.1.1))
one_reason front ps rest at (BadToken k) (Statement t) w a x b = absurd (w.0 x.0)
one_reason front ps rest at (BadToken k) (BadToken j) w a x b = ap BadToken (a ∙ sym b)
one_reason front ps rest at (BadToken k) (BadSyntax j) w a (inl x) b = absurd (w.0 x.0)
one_reason front ps rest at (BadToken k) (BadSyntax j) w a (inr x) b = absurd (w.1 x.0 x.1)
one_reason front ps rest at (BadToken k) (TooDeep j) w a x b = absurd (w.1 x.0 x.1)
one_reason front ps rest at (BadSyntax k) (Statement t) (inl w) a x b = absurd (w.1 t x.1)
one_reason front ps rest at (BadSyntax k) (Statement t) (inr w) a x b = absurd (no_rest (behind Apart ps) w.0 w.1.0 w.1.2 (sym x.0 ∙ w.1.1))
one_reason front ps rest at (BadSyntax k) (BadToken j) (inl w) a x b = absurd (x.0 w.0)
one_reason front ps rest at (BadSyntax k) (BadToken j) (inr w) a x b = absurd (x.1 w.0 w.1)
one_reason front ps rest at (BadSyntax k) (BadSyntax j) w a x b = ap BadSyntax (a ∙ sym b)
one_reason front ps rest at (BadSyntax k) (TooDeep j) (inl w) a x b = absurd (no_rest (behind Apart ps) x.0 x.1.0 x.1.2 (sym w.0 ∙ x.1.1))
one_reason front ps rest at (BadSyntax k) (TooDeep j) (inr w) a x b =
    let e = one_piece (behind Apart ps) rest w.0 x.0 w.1.0 x.1.0 w.1.1 w.1.2 x.1.1 x.1.2 in
    let G : Piece × List ℕ → Type 0 = λ y. Goes (tokens front (ps ++ y.0 ∷ [])) in
    absurd (w.2 (subst G (sym e) x.2))
one_reason front ps rest at (TooDeep k) (Statement t) w a x b = absurd (no_rest (behind Apart ps) w.0 w.1.0 w.1.2 (sym x.0 ∙ w.1.1))
one_reason front ps rest at (TooDeep k) (BadToken j) w a x b = absurd (x.1 w.0 w.1)
one_reason front ps rest at (TooDeep k) (BadSyntax j) w a (inl x) b = absurd (no_rest (behind Apart ps) w.0 w.1.0 w.1.2 (sym x.0 ∙ w.1.1))
one_reason front ps rest at (TooDeep k) (BadSyntax j) w a (inr x) b =
    let e = one_piece (behind Apart ps) rest w.0 x.0 w.1.0 x.1.0 w.1.1 w.1.2 x.1.1 x.1.2 in
    let G : Piece × List ℕ → Type 0 = λ y. Goes (tokens front (ps ++ y.0 ∷ [])) in
    absurd (x.2 (subst G e w.2))
one_reason front ps rest at (TooDeep k) (TooDeep j) w a x b = ap TooDeep (a ∙ sym b)
one_reason front ps rest at (Statement t) (BadEscape k) w a x b =
    let N : Tree → Type 0 = λ v. IsNewer v.children in
    absurd (not_both (tokens front ps) k x.5 (w.3 (subst N (one_statement (tokens front ps) x.1 t x.2 w.1) x.4)))
one_reason front ps rest at (BadEscape k) (Statement t) w a x b =
    let N : Tree → Type 0 = λ v. IsNewer v.children in
    absurd (not_both (tokens front ps) k w.5 (x.3 (subst N (one_statement (tokens front ps) w.1 t w.2 x.1) w.4)))
one_reason front ps rest at (BadToken k) (BadEscape j) w a x b = absurd (w.0 x.0)
one_reason front ps rest at (BadEscape k) (BadToken j) w a x b = absurd (x.0 w.0)
one_reason front ps rest at (BadSyntax k) (BadEscape j) (inl w) a x b = absurd (w.1 x.1 x.2)
one_reason front ps rest at (BadSyntax k) (BadEscape j) (inr w) a x b = absurd (no_rest (behind Apart ps) w.0 w.1.0 w.1.2 (sym x.0 ∙ w.1.1))
one_reason front ps rest at (BadEscape k) (BadSyntax j) w a (inl x) b = absurd (x.1 w.1 w.2)
one_reason front ps rest at (BadEscape k) (BadSyntax j) w a (inr x) b = absurd (no_rest (behind Apart ps) x.0 x.1.0 x.1.2 (sym w.0 ∙ x.1.1))
one_reason front ps rest at (TooDeep k) (BadEscape j) w a x b = absurd (no_rest (behind Apart ps) w.0 w.1.0 w.1.2 (sym x.0 ∙ w.1.1))
one_reason front ps rest at (BadEscape k) (TooDeep j) w a x b = absurd (no_rest (behind Apart ps) x.0 x.1.0 x.1.2 (sym w.0 ∙ x.1.1))
one_reason front ps rest at (BadEscape k) (BadEscape j) w a x b = ap BadEscape (one_escape (tokens front ps) k j w.5 x.5)

-- where there is a reason to stop, no cut goes on whose tokens go
stops : (front : List ℕ) (ps rs : List Piece) (rest : List ℕ) (o : Outcome) → Why front ps (behind Apart ps) rest o → (g : GoesOn Apart ps rs rest) → GoesWithin 64 (tokens front rs) → ⊥
stops front ps rs rest o why g go =
    let W : List Token → Type 0 = λ l. GoesWithin 64 l in
    let regroup : ps ++ g.piece ∷ g.others ≡ (ps ++ g.piece ∷ []) ++ g.others = sym (append_assoc ps (g.piece ∷ []) g.others) in
    let here : GoesWithin 64 (tokens front (ps ++ g.piece ∷ [])) =
    goes_front (tokens front (ps ++ g.piece ∷ [])) _ (subst W (ap (tokens front) (g.all ∙ regroup) ∙ tokens-append front (ps ++ g.piece ∷ []) g.others) go)
    in
    reason front ps rest o why g.piece g.more g.is g.may here

-- A text comes to one outcome at most.
pub one_outcome : (front text : List ℕ) (o u : Outcome) → ComesTo front text o → ComesTo front text u → o ≡ u
one_outcome front text o u c d =
    elim (cuts_meet Apart text c.pieces d.pieces c.rest d.rest c.cut d.cut) [
      | inl same ↦
          let W : List Piece × List ℕ → Type 0 = λ x. Why front x.0 (behind Apart x.0) x.1 u in
          let S : List ℕ → Type 0 = λ l. StandsAt (length front + (length text - length l)) u in
          one_reason front c.pieces c.rest (length front + (length text - length c.rest)) o u c.why c.place
          (subst W (λ i. (sym same.0 i, sym same.1 i)) d.why) (subst S (sym same.1) d.place)
      | inr other ↦
          elim other [
            | inl g ↦ absurd (stops front c.pieces d.pieces c.rest o c.why g d.goes)
            | inr g ↦ absurd (stops front d.pieces c.pieces d.rest u d.why g c.goes)
          ]
    ]

pub spelled_same : (s t : Tree) → Statement s ≡ Statement t → s ≡ t
spelled_same s t e = cc

-- an outcome has one refusal at most
pub one_refusal : (text : List ℕ) (o : Outcome) (q r : Refusal) → IsRefusalOf text o q → IsRefusalOf text o r → q ≡ r
one_refusal text (Statement t) q r e f = absurd e
one_refusal text (BadToken at) q r e f = e ∙ sym f
one_refusal text (BadSyntax at) q r e f = e ∙ sym f
one_refusal text (TooDeep at) q r e f = e ∙ sym f
one_refusal text (BadEscape at) q r e f = e ∙ sym f

-- what a text comes to is answered
pub only_spelled : (text : List ℕ) (answer : Result Tree Stop) → Comes text answer → (t : Tree) → IsSpelled text t → (answer ≡ Ok t) ⊎ (answer ≡ Err NoMemory)
only_spelled text (Ok s) c t d = inl (ap Ok (spelled_same s t (one_outcome _ _ (Statement s) (Statement t) c d)))
only_spelled text (Err (Fault r)) c t d =
    let P : Outcome → Type 0 = λ x. IsRefusalOf text x r in
    absurd (subst P (one_outcome _ _ c.0 (Statement t) c.1 d) c.2)
only_spelled text (Err PatternBuild) c t d = absurd c
only_spelled text (Err NoMemory) c t d = inr refl

pub only_refused : (text : List ℕ) (answer : Result Tree Stop) → Comes text answer → (r : Refusal) → IsRefused text r → (answer ≡ Err (Fault r)) ⊎ (answer ≡ Err NoMemory)
only_refused text (Ok s) c r d =
    let P : Outcome → Type 0 = λ x. IsRefusalOf text x r in
    absurd (subst P (one_outcome _ _ d.0 (Statement s) d.1 c) d.2)
only_refused text (Err (Fault q)) c r d =
    let P : Outcome → Type 0 = λ x. IsRefusalOf text x q in
    inl (ap (λ (x : Refusal). Err (Fault x)) (one_refusal text d.0 q r (subst P (one_outcome _ _ c.0 d.0 c.1 d.1) c.2) d.2))
only_refused text (Err PatternBuild) c r d = absurd c
only_refused text (Err NoMemory) c r d = inr refl
