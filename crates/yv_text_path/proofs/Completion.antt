-- What is read to its end is a path.
use Rattle.std.proofs.Common.{◌≡◌, ℕ, Bool, true, false, ◌⊎◌, inl, inr, List, [], ◌∷◌, ◌++◌, append_assoc, append-nil, sym, ◌∙◌, ap, subst, refl}
use Rattle.std.specs.Prelude.{if◌then◌else◌, codes}
use Rattle.std.specs.Bool.{MatchBool}
use Rattle.std.specs.Str.{bytes_eq}
use Rattle.std.proofs.lemmas.Bool.{false≢true}
use Rattle.std.proofs.lemmas.Slice.Eq.{bytes_eq-Decides}
use Rattle.yv_text_if_feature.specs.Bytes.{is_blank}
use Rattle.yv_text_if_feature.specs.Names.{is_name}
use Rattle.yv_text_path.specs.Pieces.{Piece, pieces}
use Rattle.yv_text_path.specs.Pieces as piece
use Rattle.yv_text_path.specs.SpacedTokens.{AreSpaced}
use Rattle.yv_text_path.specs.SpacedTokens as spaced
use Rattle.yv_text_path.specs.Predicates.{IsPredicate, ArePredicates}
use Rattle.yv_text_path.specs.Predicates as made
use Rattle.yv_text_path.specs.Paths.{Descends, IsRelativePath, IsPath}
use Rattle.yv_text_path.specs.Paths as path
use Rattle.yv_text_path.specs.InnerStates.{completes}
use Rattle.yv_text_path.specs.declared.state.State.{State}
use Rattle.yv_text_path.specs.declared.state.State.TheVariants.{Start, Dots, UpOrStep, Step, AfterStep, Key, AfterKey, Function, Opening, Closing, FirstSlash, FirstDots, InnerDots, InnerUpOrName, InnerName, AfterInnerName, Wrong}
use Rattle.yv_text_path.proofs.Cuts.{Cut, cut}
use Rattle.yv_text_path.proofs.Cuts as cuts
use Rattle.yv_text_path.proofs.PathsRead.{path_completes}
use Rattle.yv_text_path.proofs.Tokens.{Left, key_from}
use Rattle.yv_text_path.proofs.Tokens as left

-- ### what may be left, by how far a path is read

-- nothing, or a slash and what descends
data Rest : List ℕ → Type 0 where
  finished : Rest []
  deeper : {text bare : List ℕ} {names : List (List ℕ)} → Descends text bare names → Rest (47 ∷ text)

-- predicates, and then nothing, or a slash and what descends
data AfterName : List ℕ → Type 0 where
  after_name : {predicates rest text : List ℕ} {names : List (List ℕ)} → ArePredicates predicates names → Rest rest → text ≡ predicates ++ rest → AfterName text

-- the tokens of a predicate that are left, a `]`, and what may follow it
data Inside : State → List ℕ → Type 0 where
  inside : {q : State} {ts ns : List (List ℕ)} {front rest text : List ℕ} → Left q ts ns → AreSpaced ts front → AfterName rest → text ≡ front ++ 93 ∷ rest → Inside q text

-- `..` or a name
data Climbs : List ℕ → Type 0 where
  stepping : {text bare : List ℕ} {names : List (List ℕ)} → Descends text bare names → Climbs text
  climbing : {text bare : List ℕ} {names : List (List ℕ)} → IsRelativePath text bare names → Climbs text

data AfterDots : List ℕ → Type 0 where
  after_dots : {text : List ℕ} → Climbs text → AfterDots (47 ∷ text)

abbrev Remaining : State → List ℕ → Type 0
Remaining Start text = (bare : List ℕ) × (names : List (List ℕ)) × IsPath text bare names
Remaining Dots text = AfterDots text
Remaining UpOrStep text = Climbs text
Remaining Step text = (bare : List ℕ) × (names : List (List ℕ)) × Descends text bare names
Remaining AfterStep text = AfterName text
Remaining Wrong text = ⊥
Remaining q text = Inside q text

-- ### tests of words

passes : (t : Bool) (q : State) (ps : List Piece) → completes (if t then q else Wrong) ps ≡ true → (completes Wrong ps ≡ true → ⊥) → (t ≡ true) × (completes q ps ≡ true)
passes true q ps h stuck = (refl, h)
passes false q ps h stuck = absurd (stuck h)

passes_one : (t u : Bool) (q r : State) (ps : List Piece) → completes (if t then q else (if u then r else Wrong)) ps ≡ true → (completes Wrong ps ≡ true → ⊥) → ((t ≡ true) × (completes q ps ≡ true)) ⊎ ((u ≡ true) × (completes r ps ≡ true))
passes_one true u q r ps h stuck = inl (refl, h)
passes_one false true q r ps h stuck = inr (refl, h)
passes_one false false q r ps h stuck = absurd (stuck h)

stuck : (ps : List Piece) → completes Wrong ps ≡ true → ⊥
stuck [] h = false≢true h
stuck (piece.Word w ∷ ps) h = stuck ps h
stuck (piece.Blank ∷ ps) h = stuck ps h
stuck (piece.Slash ∷ ps) h = stuck ps h
stuck (piece.OpeningBracket ∷ ps) h = stuck ps h
stuck (piece.ClosingBracket ∷ ps) h = stuck ps h
stuck (piece.EqualsSign ∷ ps) h = stuck ps h
stuck (piece.OpeningParenthesis ∷ ps) h = stuck ps h
stuck (piece.ClosingParenthesis ∷ ps) h = stuck ps h
stuck (piece.SingleQuote ∷ ps) h = stuck ps h
stuck (piece.DoubleQuote ∷ ps) h = stuck ps h
stuck (piece.Other ∷ ps) h = stuck ps h

-- all pieces but the first
abbrev later : List Piece → List Piece
later [] = []
later (p ∷ ps) = ps

same_bytes : (w v : List ℕ) → bytes_eq w v ≡ true → w ≡ v
same_bytes w v h = (bytes_eq-Decides w v).0 h

-- ### one step back

blank_back : {q : State} {b : ℕ} {text : List ℕ} → is_blank b ≡ true → Inside q text → Inside q (b ∷ text)
blank_back {q} {b} {text} e (inside l s a same) = inside l (spaced.blank e s) a (ap (λ (x : List ℕ). b ∷ x) same)

token_back : {q r : State} {text : List ℕ} (w rest : List ℕ) → ((ts ns : List (List ℕ)) → Left r ts ns → (ms : List (List ℕ)) × Left q (w ∷ ts) ms) → Inside r rest → text ≡ w ++ rest → Inside q text
token_back w rest before (inside {front} {rest = tail} l s a same) whole =
    inside (before _ _ l).1 (spaced.token s refl) a (whole ∙ ap (λ (x : List ℕ). w ++ x) same ∙ sym (append_assoc w front (93 ∷ tail)))

end_back : {text : List ℕ} → AfterName text → Inside AfterInnerName (93 ∷ text)
end_back a = inside left.end spaced.nothing a refl

predicate_back : {text : List ℕ} → Inside Key text → AfterName (91 ∷ text)
predicate_back (inside {front} {rest} l s (after_name {predicates} {rest = tail} ps r same) whole) =
    after_name (made.more (made.predicate (key_from l) s refl) ps refl) r
    (ap (λ (x : List ℕ). 91 ∷ x) (whole ∙ ap (λ (x : List ℕ). front ++ 93 ∷ x) same) ∙ ap (λ (x : List ℕ). 91 ∷ x) (sym (append_assoc front (93 ∷ []) (predicates ++ tail))) ∙ sym (append_assoc (91 ∷ front ++ 93 ∷ []) predicates tail))

step_back : {text : List ℕ} (w rest : List ℕ) → is_name w ≡ true → AfterName rest → text ≡ w ++ rest → (bare : List ℕ) × (names : List (List ℕ)) × Descends text bare names
step_back w rest is (after_name {predicates} ps finished same) whole =
    (w, _, path.last is ps (whole ∙ ap (λ (x : List ℕ). w ++ x) (same ∙ append-nil predicates)))
step_back w rest is (after_name ps (deeper d) same) whole =
    (_, _, path.more w is ps d (whole ∙ ap (λ (x : List ℕ). w ++ x) same))

climb_back : {text : List ℕ} (w rest : List ℕ) → bytes_eq w (codes "..") ≡ true → AfterDots rest → text ≡ w ++ rest → (bare : List ℕ) × (names : List (List ℕ)) × IsRelativePath text bare names
climb_back w rest e (after_dots {text} c) whole = at c (whole ∙ ap (λ (x : List ℕ). x ++ 47 ∷ text) (same_bytes w (codes "..") e))
  where
    at : {text whole : List ℕ} → Climbs text → whole ≡ 46 ∷ 46 ∷ 47 ∷ text → (bare : List ℕ) × (names : List (List ℕ)) × IsRelativePath whole bare names
    at {text} {whole} (stepping d) same = let P : List ℕ → Type 0 = λ t. (bare : List ℕ) × (names : List (List ℕ)) × IsRelativePath t bare names in subst P (sym same) (_, _, path.once d)
    at {text} {whole} (climbing r) same = let P : List ℕ → Type 0 = λ t. (bare : List ℕ) × (names : List (List ℕ)) × IsRelativePath t bare names in subst P (sym same) (_, _, path.again r)

climbed : {text : List ℕ} → ((bare : List ℕ) × (names : List (List ℕ)) × IsRelativePath text bare names) → Climbs text
climbed r = climbing r.2

stepped : {text : List ℕ} → ((bare : List ℕ) × (names : List (List ℕ)) × Descends text bare names) → Climbs text
stepped d = stepping d.2

-- ### all states

remaining : (q : State) {ps : List Piece} {text : List ℕ} → Cut ps text → completes q ps ≡ true → Remaining q text
remaining Start (cuts.word {w} {rest} {text} {ps} e c same) h =
    let t = passes (bytes_eq w (codes "..")) Dots ps h (stuck ps) in
    let r = climb_back w rest t.0 (remaining Dots c t.1) same in
    (r.0, r.1, path.relative r.2)
remaining Start (cuts.slash c) h = let d = remaining Step c h in (_, d.1, path.absolute d.2)
remaining Dots (cuts.slash c) h = after_dots (remaining UpOrStep c h)
remaining UpOrStep (cuts.word {w} {rest} {text} {ps} e c same) h =
    elim (passes_one (is_name w) (bytes_eq w (codes "..")) AfterStep Dots ps h (stuck ps)) [
      | inl t ↦ stepped (step_back w rest t.0 (remaining AfterStep c t.1) same)
      | inr t ↦ climbed (climb_back w rest t.0 (remaining Dots c t.1) same)
    ]
remaining Step (cuts.word {w} {rest} {text} {ps} e c same) h =
    let t = passes (is_name w) AfterStep ps h (stuck ps) in
    step_back w rest t.0 (remaining AfterStep c t.1) same
remaining AfterStep cuts.nothing h = after_name made.none finished refl
remaining AfterStep (cuts.slash c) h = after_name made.none (deeper (remaining Step c h).2) refl
remaining AfterStep (cuts.opening_bracket c) h = predicate_back (remaining Key c h)
remaining Key (cuts.blank e c) h = blank_back e (remaining Key c h)
remaining Key (cuts.word {w} {rest} {text} {ps} e c same) h =
    let t = passes (is_name w) AfterKey ps h (stuck ps) in
    token_back w rest (λ ts ns l. (_, left.key t.0 l)) (remaining AfterKey c t.1) same
remaining AfterKey (cuts.blank e c) h = blank_back e (remaining AfterKey c h)
remaining AfterKey (cuts.equals_sign {rest} c) h = token_back (codes "=") rest (λ ts ns l. (_, left.equals l)) (remaining Function c h) refl
remaining Function (cuts.blank e c) h = blank_back e (remaining Function c h)
remaining Function (cuts.word {w} {rest} {text} {ps} e c same) h =
    let t = passes (bytes_eq w (codes "current")) Opening ps h (stuck ps) in
    token_back (codes "current") rest (λ ts ns l. (_, left.function l)) (remaining Opening c t.1) (same ∙ ap (λ (x : List ℕ). x ++ rest) (same_bytes w (codes "current") t.0))
remaining Opening (cuts.blank e c) h = blank_back e (remaining Opening c h)
remaining Opening (cuts.opening_parenthesis {rest} c) h = token_back (codes "(") rest (λ ts ns l. (_, left.opening l)) (remaining Closing c h) refl
remaining Closing (cuts.blank e c) h = blank_back e (remaining Closing c h)
remaining Closing (cuts.closing_parenthesis {rest} c) h = token_back (codes ")") rest (λ ts ns l. (_, left.closing l)) (remaining FirstSlash c h) refl
remaining FirstSlash (cuts.blank e c) h = blank_back e (remaining FirstSlash c h)
remaining FirstSlash (cuts.slash {rest} c) h = token_back (codes "/") rest (λ ts ns l. (_, left.first_slash l)) (remaining FirstDots c h) refl
remaining FirstDots (cuts.blank e c) h = blank_back e (remaining FirstDots c h)
remaining FirstDots (cuts.word {w} {rest} {text} {ps} e c same) h =
    let t = passes (bytes_eq w (codes "..")) InnerDots ps h (stuck ps) in
    token_back (codes "..") rest (λ ts ns l. (_, left.first_dots l)) (remaining InnerDots c t.1) (same ∙ ap (λ (x : List ℕ). x ++ rest) (same_bytes w (codes "..") t.0))
remaining InnerDots (cuts.blank e c) h = blank_back e (remaining InnerDots c h)
remaining InnerDots (cuts.slash {rest} c) h = token_back (codes "/") rest (λ ts ns l. (_, left.up l)) (remaining InnerUpOrName c h) refl
remaining InnerUpOrName (cuts.blank e c) h = blank_back e (remaining InnerUpOrName c h)
remaining InnerUpOrName (cuts.word {w} {rest} {text} {ps} e c same) h =
    elim (passes_one (is_name w) (bytes_eq w (codes "..")) AfterInnerName InnerDots ps h (stuck ps)) [
      | inl t ↦ token_back w rest (λ ts ns l. (_, left.first_name t.0 l)) (remaining AfterInnerName c t.1) same
      | inr t ↦ token_back (codes "..") rest (λ ts ns l. (_, left.dots l)) (remaining InnerDots c t.1) (same ∙ ap (λ (x : List ℕ). x ++ rest) (same_bytes w (codes "..") t.0))
    ]
remaining InnerName (cuts.blank e c) h = blank_back e (remaining InnerName c h)
remaining InnerName (cuts.word {w} {rest} {text} {ps} e c same) h =
    let t = passes (is_name w) AfterInnerName ps h (stuck ps) in
    token_back w rest (λ ts ns l. (_, left.name t.0 l)) (remaining AfterInnerName c t.1) same
remaining AfterInnerName (cuts.blank e c) h = blank_back e (remaining AfterInnerName c h)
remaining AfterInnerName (cuts.slash {rest} c) h = token_back (codes "/") rest (λ ts ns l. (_, left.slash l)) (remaining InnerName c h) refl
remaining AfterInnerName (cuts.closing_bracket c) h = end_back (remaining AfterStep c h)
remaining q cuts.nothing h = absurd (false≢true h)
remaining q {ps} c h = absurd (stuck (later ps) h)

-- a text is a path, or none
pub decided : (text : List ℕ) (b : Bool) → b ≡ completes Start (pieces text)
    → MatchBool b ((bare : List ℕ) × (names : List (List ℕ)) × IsPath text bare names) ((bare : List ℕ) (names : List (List ℕ)) → IsPath text bare names → ⊥)
decided text true e = remaining Start (cut text) (sym e)
decided text false e = λ bare names p. false≢true (e ∙ path_completes p)
