-- What is read to its end is an instance-identifier.
use Rattle.std.proofs.Common.{◌≡◌, ◌↔◌, ◌==◌, ℕ, Bool, true, false, ◌||◌, ◌⊎◌, inl, inr, List, [], ◌∷◌, ◌++◌, append_assoc, sym, ◌∙◌, ap, refl, arith}
use Rattle.std.specs.Prelude.{if◌then◌else◌, codes, IsTrue}
use Rattle.std.specs.Str.{bytes_eq}
use Rattle.std.proofs.lemmas.Bool.{false≢true}
use Rattle.std.proofs.lemmas.Bool.Decides.{nat_tests}
use Rattle.std.proofs.lemmas.Slice.Eq.{bytes_eq-Decides}
use Rattle.yv_text_if_feature.specs.Bytes.{is_blank}
use Rattle.yv_text_if_feature.specs.Names.{is_name}
use Rattle.yv_text_path.specs.Pieces.{Piece, pieces}
use Rattle.yv_text_path.specs.Pieces as piece
use Rattle.yv_text_path.specs.SpacedTokens.{AreSpaced}
use Rattle.yv_text_path.specs.SpacedTokens as spaced
use Rattle.yv_text_path.proofs.Cuts.{Cut, cut}
use Rattle.yv_text_path.proofs.Cuts as cuts
use Rattle.yv_text_instance.specs.QualifiedNames.{IsQualifiedName}
use Rattle.yv_text_instance.specs.Predicates.{is_position, IsQuoted, IsPredicate, ArePredicates}
use Rattle.yv_text_instance.specs.Predicates as made
use Rattle.yv_text_instance.specs.Instances.{AreSteps, IsInstance}
use Rattle.yv_text_instance.specs.Instances as steps
use Rattle.yv_text_instance.specs.InnerStates.{completes, is_key, is_qualified_name}
use Rattle.yv_text_instance.specs.declared.state.State.{State}
use Rattle.yv_text_instance.specs.declared.state.State.TheVariants.{Start, FirstName, Name, AfterName, Predicate, AfterKey, Value, SingleQuotes, DoubleQuotes, Closing, Wrong}
use Rattle.yv_text_instance.proofs.InstancesRead.{instance_completes}
use Rattle.yv_text_instance.proofs.Quotes.{Lacks, none_lacks, more_lacks, joined_lacks, differs, word_lacks}
use Rattle.yv_text_instance.proofs.Tokens.{Left, all_from}
use Rattle.yv_text_instance.proofs.Tokens as left
use Rattle.yv_text_instance.proofs.Words.{word_qualified}

-- ### what may be left, by how far an instance-identifier is read

-- predicates, and then steps
data Rest : List ℕ → Type 0 where
  rest_of : {predicates rest text : List ℕ} → ArePredicates predicates → AreSteps rest → text ≡ predicates ++ rest → Rest text

-- a name, and what may follow it
data Step : List ℕ → Type 0 where
  step : (name : List ℕ) {rest text : List ℕ} → is_name name ≡ true → Rest rest → text ≡ name ++ rest → Step text

-- a name with its module, and what may follow it
data FirstStep : List ℕ → Type 0 where
  first_step : {name rest text : List ℕ} → IsQualifiedName name → Rest rest → text ≡ name ++ rest → FirstStep text

-- the tokens of a predicate that are left, a `]`, and what may follow it
data Inside : State → List ℕ → Type 0 where
  inside : {q : State} {ts : List (List ℕ)} {front rest text : List ℕ} → Left q ts → AreSpaced ts front → Rest rest → text ≡ front ++ 93 ∷ rest → Inside q text

-- a text without such a quote, the quote, and what may follow it
data Quoting (quote : ℕ) : List ℕ → Type 0 where
  quoting : (front : List ℕ) {rest text : List ℕ} → Lacks front quote → Inside Closing rest → text ≡ front ++ quote ∷ rest → Quoting quote text

abbrev Remaining : State → List ℕ → Type 0
Remaining Start text = IsInstance text
Remaining FirstName text = FirstStep text
Remaining Name text = Step text
Remaining AfterName text = Rest text
Remaining SingleQuotes text = Quoting 39 text
Remaining DoubleQuotes text = Quoting 34 text
Remaining Wrong text = ⊥
Remaining q text = Inside q text

-- ### tests of words

passes : (t : Bool) (q : State) (ps : List Piece) → completes (if t then q else Wrong) ps ≡ true → (completes Wrong ps ≡ true → ⊥) → (t ≡ true) × (completes q ps ≡ true)
passes true q ps h stuck = (refl, h)
passes false q ps h stuck = absurd (stuck h)

passes_one : (t u : Bool) (q r : State) (ps : List Piece) → completes (if t then q else (if u then r else Wrong)) ps ≡ true → (completes Wrong ps ≡ true → ⊥) → ((t ≡ true) × (completes q ps ≡ true)) ⊎ ((u ≡ true) × (completes r ps ≡ true))
passes_one true u q r ps h stuck = inl (refl, h)
passes_one false true q r ps h stuck = inr (refl, h)
passes_one false false q r ps h stuck = absurd (stuck h)

stuck : (ps : List Piece) → completes Wrong ps ≡ true → ⊥
stuck [] h = false≢true h
stuck (piece.Word w ∷ ps) h = stuck ps h
stuck (piece.Blank ∷ ps) h = stuck ps h
stuck (piece.Slash ∷ ps) h = stuck ps h
stuck (piece.OpeningBracket ∷ ps) h = stuck ps h
stuck (piece.ClosingBracket ∷ ps) h = stuck ps h
stuck (piece.EqualsSign ∷ ps) h = stuck ps h
stuck (piece.OpeningParenthesis ∷ ps) h = stuck ps h
stuck (piece.ClosingParenthesis ∷ ps) h = stuck ps h
stuck (piece.SingleQuote ∷ ps) h = stuck ps h
stuck (piece.DoubleQuote ∷ ps) h = stuck ps h
stuck (piece.Other ∷ ps) h = stuck ps h

-- all pieces but the first
abbrev later : List Piece → List Piece
later [] = []
later (p ∷ ps) = ps

-- `.` or a name
key_is : (w : List ℕ) → is_key w ≡ true → (w ≡ codes ".") ⊎ (is_name w ≡ true)
key_is w h = at (bytes_eq w (codes ".")) refl h
  where
    at : (t : Bool) → bytes_eq w (codes ".") ≡ t → (t || is_name w) ≡ true → (w ≡ codes ".") ⊎ (is_name w ≡ true)
    at true e k = inl ((bytes_eq-Decides w (codes ".")).0 e)
    at false e k = inr k

-- ### one step back

blank_back : {q : State} {b : ℕ} {text : List ℕ} → is_blank b ≡ true → Inside q text → Inside q (b ∷ text)
blank_back {q} {b} {text} e (inside l s r same) = inside l (spaced.blank e s) r (ap (λ (x : List ℕ). b ∷ x) same)

token_back : {q r : State} {text : List ℕ} (w rest : List ℕ) → ((ts : List (List ℕ)) → Left r ts → Left q (w ∷ ts)) → Inside r rest → text ≡ w ++ rest → Inside q text
token_back w rest before (inside {ts = ts} {front} {rest = tail} l s a same) whole =
    inside (before ts l) (spaced.token s refl) a (whole ∙ ap (λ (x : List ℕ). w ++ x) same ∙ sym (append_assoc w front (93 ∷ tail)))

end_back : {text : List ℕ} → Rest text → Inside Closing (93 ∷ text)
end_back r = inside left.end spaced.nothing r refl

predicate_back : {text : List ℕ} → Inside Predicate text → Rest (91 ∷ text)
predicate_back (inside {front} {rest} l s (rest_of {predicates} {rest = tail} ps r same) whole) =
    rest_of (made.more (made.predicate (all_from l) s refl) ps refl) r
    (ap (λ (x : List ℕ). 91 ∷ x) (whole ∙ ap (λ (x : List ℕ). front ++ 93 ∷ x) same) ∙ ap (λ (x : List ℕ). 91 ∷ x) (sym (append_assoc front (93 ∷ []) (predicates ++ tail))) ∙ sym (append_assoc (91 ∷ front ++ 93 ∷ []) predicates tail))

slash_back : {text : List ℕ} → Step text → Rest (47 ∷ text)
slash_back (step name is (rest_of ps others same) whole) =
    rest_of made.none (steps.more name is ps others (ap (λ (x : List ℕ). 47 ∷ x) (whole ∙ ap (λ (x : List ℕ). name ++ x) same))) refl

start_back : {text : List ℕ} → FirstStep text → IsInstance (47 ∷ text)
start_back (first_step {name} is (rest_of ps others same) whole) =
    steps.instance is ps others (ap (λ (x : List ℕ). 47 ∷ x) (whole ∙ ap (λ (x : List ℕ). name ++ x) same))

-- ### in quotes

module _ (quote : ℕ) where
  byte_back : {b : ℕ} {text : List ℕ} → (b == quote) ≡ false → Quoting quote text → Quoting quote (b ∷ text)
  byte_back {b} e (quoting front lacks i same) = quoting (b ∷ front) (more_lacks b quote front (differs b quote e) lacks) i (ap (λ (x : List ℕ). b ∷ x) same)

  word_back : (w : List ℕ) {rest text : List ℕ} → Lacks w quote → Quoting quote rest → text ≡ w ++ rest → Quoting quote text
  word_back w h (quoting front {rest = tail} lacks i same) whole =
      quoting (w ++ front) (joined_lacks w front quote h lacks) i (whole ∙ ap (λ (x : List ℕ). w ++ x) same ∙ sym (append_assoc w front (quote ∷ tail)))

  quote_back : {text : List ℕ} → Inside Closing text → Quoting quote (quote ∷ text)
  quote_back i = quoting [] (none_lacks quote) i refl

  value_back : {text : List ℕ} → ((front : List ℕ) → Lacks front quote → IsQuoted (quote ∷ front ++ quote ∷ [])) → Quoting quote text → Inside Value (quote ∷ text)
  value_back quoted (quoting front {rest} lacks i same) =
      token_back (quote ∷ front ++ quote ∷ []) rest (λ ts l. left.value (quoted front lacks) l) i
      (ap (λ (x : List ℕ). quote ∷ x) (same ∙ sym (append_assoc front (quote ∷ []) rest)))

blank_single : (b : ℕ) → is_blank b ≡ true → (b == 39) ≡ false
blank_single b h = grind (arith, nat_tests)

blank_double : (b : ℕ) → is_blank b ≡ true → (b == 34) ≡ false
blank_double b h = grind (arith, nat_tests)

-- ### all states

remaining : (q : State) {ps : List Piece} {text : List ℕ} → Cut ps text → completes q ps ≡ true → Remaining q text
remaining Start (cuts.slash c) h = start_back (remaining FirstName c h)
remaining FirstName (cuts.word {w} {rest} {text} {ps} e c same) h =
    let t = passes (is_qualified_name w) AfterName ps h (stuck ps) in
    first_step (word_qualified w t.0) (remaining AfterName c t.1) same
remaining Name (cuts.word {w} {rest} {text} {ps} e c same) h =
    let t = passes (is_name w) AfterName ps h (stuck ps) in
    step w t.0 (remaining AfterName c t.1) same
remaining AfterName cuts.nothing h = rest_of made.none steps.none refl
remaining AfterName (cuts.slash c) h = slash_back (remaining Name c h)
remaining AfterName (cuts.opening_bracket c) h = predicate_back (remaining Predicate c h)
remaining Predicate (cuts.blank e c) h = blank_back e (remaining Predicate c h)
remaining Predicate (cuts.word {w} {rest} {text} {ps} e c same) h =
    elim (passes_one (is_position w) (is_key w) Closing AfterKey ps h (stuck ps)) [
      | inl t ↦ token_back w rest (λ ts l. left.position t.0 l) (remaining Closing c t.1) same
      | inr t ↦ elim (key_is w t.0) [
        | inl k ↦ token_back (codes ".") rest (λ ts l. left.itself l) (remaining AfterKey c t.1) (same ∙ ap (λ (x : List ℕ). x ++ rest) k)
        | inr k ↦ token_back w rest (λ ts l. left.key k l) (remaining AfterKey c t.1) same
      ]
    ]
remaining AfterKey (cuts.blank e c) h = blank_back e (remaining AfterKey c h)
remaining AfterKey (cuts.equals_sign {rest} c) h = token_back (codes "=") rest (λ ts l. left.equals l) (remaining Value c h) refl
remaining Value (cuts.blank e c) h = blank_back e (remaining Value c h)
remaining Value (cuts.single_quote c) h = value_back 39 (λ front lacks. made.single front lacks) (remaining SingleQuotes c h)
remaining Value (cuts.double_quote c) h = value_back 34 (λ front lacks. made.double front lacks) (remaining DoubleQuotes c h)
remaining SingleQuotes (cuts.word {w} e c same) h = word_back 39 w (word_lacks w 39 refl e) (remaining SingleQuotes c h) same
remaining SingleQuotes (cuts.blank {b} e c) h = byte_back 39 (blank_single b e) (remaining SingleQuotes c h)
remaining SingleQuotes (cuts.slash c) h = byte_back 39 refl (remaining SingleQuotes c h)
remaining SingleQuotes (cuts.opening_bracket c) h = byte_back 39 refl (remaining SingleQuotes c h)
remaining SingleQuotes (cuts.closing_bracket c) h = byte_back 39 refl (remaining SingleQuotes c h)
remaining SingleQuotes (cuts.equals_sign c) h = byte_back 39 refl (remaining SingleQuotes c h)
remaining SingleQuotes (cuts.opening_parenthesis c) h = byte_back 39 refl (remaining SingleQuotes c h)
remaining SingleQuotes (cuts.closing_parenthesis c) h = byte_back 39 refl (remaining SingleQuotes c h)
remaining SingleQuotes (cuts.single_quote c) h = quote_back 39 (remaining Closing c h)
remaining SingleQuotes (cuts.double_quote c) h = byte_back 39 refl (remaining SingleQuotes c h)
remaining SingleQuotes (cuts.other e f c) h = byte_back 39 e (remaining SingleQuotes c h)
remaining DoubleQuotes (cuts.word {w} e c same) h = word_back 34 w (word_lacks w 34 refl e) (remaining DoubleQuotes c h) same
remaining DoubleQuotes (cuts.blank {b} e c) h = byte_back 34 (blank_double b e) (remaining DoubleQuotes c h)
remaining DoubleQuotes (cuts.slash c) h = byte_back 34 refl (remaining DoubleQuotes c h)
remaining DoubleQuotes (cuts.opening_bracket c) h = byte_back 34 refl (remaining DoubleQuotes c h)
remaining DoubleQuotes (cuts.closing_bracket c) h = byte_back 34 refl (remaining DoubleQuotes c h)
remaining DoubleQuotes (cuts.equals_sign c) h = byte_back 34 refl (remaining DoubleQuotes c h)
remaining DoubleQuotes (cuts.opening_parenthesis c) h = byte_back 34 refl (remaining DoubleQuotes c h)
remaining DoubleQuotes (cuts.closing_parenthesis c) h = byte_back 34 refl (remaining DoubleQuotes c h)
remaining DoubleQuotes (cuts.single_quote c) h = byte_back 34 refl (remaining DoubleQuotes c h)
remaining DoubleQuotes (cuts.double_quote c) h = quote_back 34 (remaining Closing c h)
remaining DoubleQuotes (cuts.other e f c) h = byte_back 34 f (remaining DoubleQuotes c h)
remaining Closing (cuts.blank e c) h = blank_back e (remaining Closing c h)
remaining Closing (cuts.closing_bracket c) h = end_back (remaining AfterName c h)
remaining q cuts.nothing h = absurd (false≢true h)
remaining q {ps} c h = absurd (stuck (later ps) h)

-- a text is an instance-identifier exactly if its pieces complete one
pub decided : (text : List ℕ) → IsTrue (completes Start (pieces text)) ↔ IsInstance text
decided text = (λ h. remaining Start (cut text) h, λ p. instance_completes p)
