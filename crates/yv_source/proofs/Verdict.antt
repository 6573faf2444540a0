-- What a state of the machine says of the tokens that it has read.
use Rattle.std.proofs.Common.{◌≡◌, ℕ, ◌+◌, ◌≤◌, true, cond, List, [], ◌∷◌, ◌++◌, length, nat_lt, refl, sym, ◌∙◌, ap, subst, inl, inr, ◌⊎◌, arith}
use Rattle.std.proofs.lemmas.Bool.{cases_Bool}
use Rattle.yv_text_statement.specs.Tree.{Tree}
use Rattle.yv_source.specs.Pieces.{Piece, Blank, LineComment, BlockComment, Word, Single, Double, Semicolon, Open, Close, Plus, Token}
use Rattle.yv_source.specs.Grammar.{SpellsOne, depth, Goes, GoesWithin}
use Rattle.yv_source.specs.Inner.Machine.{is_keyword, Step, Next, Wrong, Deep, leaf, finish, start, close, between, give_word, give_quoted, after_argument, after_quoted, after_plus, after_keyword, step, run_tokens}
use Rattle.yv_text_statement.specs.Builder.{push_child}
use Rattle.yv_source.specs.Place.{column_of}
use Rattle.yv_source.specs.Quotes.{quoted_value}
use Rattle.yv_source.specs.declared.machine.Phase.{Phase}
use Rattle.yv_source.specs.declared.machine.Phase.TheVariants.{Between, Named, Argued, Said, Joined, Done}
use Rattle.yv_source.proofs.Accepts.{accepts}
use Rattle.yv_source.proofs.Means.{Behind, BehindStep, run_keeps}
use Rattle.yv_source.proofs.Depth.{Fits, FitsStep, run_fits, begins_statement, run-append, run_wrong, run_deep}

abbrev pub fresh : Step
fresh = Next [] Between

-- the machine stands so behind these tokens
pub record Stands (ts : List Token) (stack : List Tree) (phase : Phase) : Type 0 where
  pub runs : run_tokens 64 fresh ts ≡ Next stack phase

pub behind_all : (limit : ℕ) (ts : List Token) (stack : List Tree) (phase : Phase) → run_tokens limit fresh ts ≡ Next stack phase → Behind phase stack ts
behind_all limit ts stack phase e =
    let P : Step → Type 0 = λ s. BehindStep s ts in
    subst P e (run_keeps limit fresh [] ts refl)

fits_all : (limit : ℕ) (ts : List Token) (stack : List Tree) (phase : Phase) → run_tokens limit fresh ts ≡ Next stack phase → Fits limit stack
fits_all limit ts stack phase e =
    let P : Step → Type 0 = λ s. FitsStep limit s in
    subst P e (run_fits limit fresh ts tt)

pub goes_so_far : (ts : List Token) (stack : List Tree) (phase : Phase) → Stands ts stack phase → GoesWithin 64 ts
goes_so_far ts stack phase s =
    begins_statement 64 stack phase ts (omega arith) (behind_all 64 ts stack phase s.runs) (fits_all 64 ts stack phase s.runs)

-- A larger limit changes nothing but that less is too deep.
abbrev Agree : ℕ → ℕ → Step → Step → Type 0
Agree l m s u = (s ≡ u) ⊎ (s ≡ Deep)

start_agrees : (l m : ℕ) (stack : List Tree) (front : List ℕ) (w : List ℕ) → l ≤ m → (start l stack front w ≡ start m stack front w) ⊎ (start l stack front w ≡ Deep)
start_agrees l m stack front w le =
    elim (cases_Bool (is_keyword w)) [
      | inr e ↦ inl (ap (λ v. cond v (cond (nat_lt (length stack) l) (Next (leaf front w ∷ stack) Named) Deep) Wrong) e ∙ sym (ap (λ v. cond v (cond (nat_lt (length stack) m) (Next (leaf front w ∷ stack) Named) Deep) Wrong) e))
      | inl e ↦
          let at : (k : ℕ) → start k stack front w ≡ cond (nat_lt (length stack) k) (Next (leaf front w ∷ stack) Named) Deep =
          λ k. ap (λ v. cond v (cond (nat_lt (length stack) k) (Next (leaf front w ∷ stack) Named) Deep) Wrong) e
          in
          elim (cases_Bool (nat_lt (length stack) l)) [
            | inr n ↦ inr (at l ∙ ap (λ v. cond v (Next (leaf front w ∷ stack) Named) Deep) n)
            | inl n ↦
                let n' : nat_lt (length stack) m ≡ true = grind arith in
                inl (at l ∙ ap (λ v. cond v (Next (leaf front w ∷ stack) Named) Deep) n ∙ sym (at m ∙ ap (λ v. cond v (Next (leaf front w ∷ stack) Named) Deep) n'))
          ]
    ]

between_agrees : (l m : ℕ) (stack : List Tree) (front : List ℕ) (p : Piece) → l ≤ m → (between l stack front p ≡ between m stack front p) ⊎ (between l stack front p ≡ Deep)
between_agrees l m stack front (Word w) le = start_agrees l m stack front w le
between_agrees l m stack front Close le = inl refl
between_agrees l m stack front (Blank b) le = inl refl
between_agrees l m stack front (LineComment b) le = inl refl
between_agrees l m stack front (BlockComment b) le = inl refl
between_agrees l m stack front (Single b) le = inl refl
between_agrees l m stack front (Double b) le = inl refl
between_agrees l m stack front Semicolon le = inl refl
between_agrees l m stack front Open le = inl refl
between_agrees l m stack front Plus le = inl refl

step_agrees : (l m : ℕ) (stack : List Tree) (phase : Phase) (t : Token) → l ≤ m → (step l stack phase t ≡ step m stack phase t) ⊎ (step l stack phase t ≡ Deep)
step_agrees l m stack Between t le = between_agrees l m stack t.front t.piece le
step_agrees l m stack Named t le = inl refl
step_agrees l m stack Argued t le = inl refl
step_agrees l m stack Said t le = inl refl
step_agrees l m stack Joined t le = inl refl
step_agrees l m stack Done t le = inl refl

runs_agree : (l m : ℕ) (s : Step) (ts : List Token) → l ≤ m → (run_tokens l s ts ≡ run_tokens m s ts) ⊎ (run_tokens l s ts ≡ Deep)
runs_agree l m s [] le = inl refl
runs_agree l m (Next stack phase) (t ∷ ts) le =
    elim (step_agrees l m stack phase t le) [
      | inl e ↦
          elim (runs_agree l m (step l stack phase t) ts le) [
            | inl f ↦ inl (f ∙ ap (λ s. run_tokens m s ts) e)
            | inr f ↦ inr f
          ]
      | inr e ↦ inr (ap (λ s. run_tokens l s ts) e ∙ run_deep l ts)
    ]
runs_agree l m Wrong (t ∷ ts) le = inl refl
runs_agree l m Deep (t ∷ ts) le = inl refl

wrong_next : (stack : List Tree) (phase : Phase) → Wrong ≡ Next stack phase → ⊥
wrong_next stack phase e = cc

deep_next : (stack : List Tree) (phase : Phase) → Deep ≡ Next stack phase → ⊥
deep_next stack phase e = cc

wrong_deep : Wrong ≡ Deep → ⊥
wrong_deep e = cc

-- the run over one more token, and more
run_on : (l : ℕ) (ts : List Token) (stack : List Tree) (phase : Phase) (t : Token) (more : List Token) → run_tokens l fresh ts ≡ Next stack phase → run_tokens l fresh ((ts ++ t ∷ []) ++ more) ≡ run_tokens l (step l stack phase t) more
run_on l ts stack phase t more e =
    run-append l fresh (ts ++ t ∷ []) more
    ∙ ap (λ s. run_tokens l s more) (run-append l fresh ts (t ∷ []) ∙ ap (λ s. run_tokens l s (t ∷ [])) e)

pub goes_no_further : (ts : List Token) (stack : List Tree) (phase : Phase) (t : Token) → Stands ts stack phase → step 64 stack phase t ≡ Wrong → Goes (ts ++ t ∷ []) → ⊥
goes_no_further ts stack phase t s e (u, more, spells) =
    let m : ℕ = 64 + (depth u.children + 1) in
    let whole = accepts m u ((ts ++ t ∷ []) ++ more) spells (omega arith) in
    let here : run_tokens 64 fresh ((ts ++ t ∷ []) ++ more) ≡ Wrong = run_on 64 ts stack phase t more s.runs ∙ ap (λ x. run_tokens 64 x more) e ∙ run_wrong 64 more in
    elim (runs_agree 64 m fresh ((ts ++ t ∷ []) ++ more) (omega arith)) [
      | inl f ↦ wrong_next (u ∷ []) Done (sym here ∙ f ∙ whole)
      | inr f ↦ wrong_deep (sym here ∙ f)
    ]

pub goes_too_deep : (ts : List Token) (stack : List Tree) (phase : Phase) (t : Token) → Stands ts stack phase → step 64 stack phase t ≡ Deep → GoesWithin 64 (ts ++ t ∷ []) → ⊥
goes_too_deep ts stack phase t s e (u, more, spells, d) =
    let whole = accepts 64 u ((ts ++ t ∷ []) ++ more) spells d in
    let here : run_tokens 64 fresh ((ts ++ t ∷ []) ++ more) ≡ Deep = run_on 64 ts stack phase t more s.runs ∙ ap (λ x. run_tokens 64 x more) e ∙ run_deep 64 more in
    deep_next (u ∷ []) Done (sym here ∙ whole)

-- where only the limit refuses
abbrev OneMore : ℕ → Step → Step → Type 0
OneMore l s u = s ≡ Deep → (stack : List Tree) × (phase : Phase) × (u ≡ Next stack phase)

finish_not_deep : (t : Tree) (below : List Tree) → finish t below ≡ Deep → ⊥
finish_not_deep t [] e = deep_next (t ∷ []) Done (sym e)
finish_not_deep t (p ∷ below) e = deep_next (push_child p t ∷ below) Between (sym e)

close_not_deep : (stack : List Tree) → close stack ≡ Deep → ⊥
close_not_deep [] e = wrong_deep e
close_not_deep (t ∷ below) e = finish_not_deep t below e

give_not_deep : (text : List ℕ) (stack : List Tree) → give_word text stack ≡ Deep → ⊥
give_not_deep text [] e = wrong_deep e
give_not_deep text (t ∷ below) e = deep_next _ Argued (sym e)

argued_not_deep : (stack : List Tree) (p : Piece) → after_argument stack p ≡ Deep → ⊥
argued_not_deep stack Semicolon e = close_not_deep stack e
argued_not_deep stack Open e = deep_next stack Between (sym e)
argued_not_deep stack Close e = wrong_deep e
argued_not_deep stack Plus e = wrong_deep e
argued_not_deep stack (Word b) e = wrong_deep e
argued_not_deep stack (Blank b) e = wrong_deep e
argued_not_deep stack (LineComment b) e = wrong_deep e
argued_not_deep stack (BlockComment b) e = wrong_deep e
argued_not_deep stack (Single b) e = wrong_deep e
argued_not_deep stack (Double b) e = wrong_deep e

quote_not_deep : (text : List ℕ) (stack : List Tree) → give_quoted text stack ≡ Deep → ⊥
quote_not_deep text [] e = wrong_deep e
quote_not_deep text (t ∷ below) e = deep_next _ Said (sym e)

named_not_deep : (column : ℕ) (stack : List Tree) (p : Piece) → after_keyword column stack p ≡ Deep → ⊥
named_not_deep column stack Semicolon e = close_not_deep stack e
named_not_deep column stack Open e = deep_next stack Between (sym e)
named_not_deep column stack Close e = wrong_deep e
named_not_deep column stack Plus e = wrong_deep e
named_not_deep column stack (Word w) e = give_not_deep w stack e
named_not_deep column stack (Single w) e = quote_not_deep w stack e
named_not_deep column stack (Double w) e = quote_not_deep (quoted_value column w) stack e
named_not_deep column stack (Blank b) e = wrong_deep e
named_not_deep column stack (LineComment b) e = wrong_deep e
named_not_deep column stack (BlockComment b) e = wrong_deep e

said_not_deep : (stack : List Tree) (p : Piece) → after_quoted stack p ≡ Deep → ⊥
said_not_deep stack Semicolon e = close_not_deep stack e
said_not_deep stack Open e = deep_next stack Between (sym e)
said_not_deep stack Close e = wrong_deep e
said_not_deep stack Plus e = deep_next stack Joined (sym e)
said_not_deep stack (Word w) e = wrong_deep e
said_not_deep stack (Single w) e = wrong_deep e
said_not_deep stack (Double w) e = wrong_deep e
said_not_deep stack (Blank b) e = wrong_deep e
said_not_deep stack (LineComment b) e = wrong_deep e
said_not_deep stack (BlockComment b) e = wrong_deep e

joined_not_deep : (column : ℕ) (stack : List Tree) (p : Piece) → after_plus column stack p ≡ Deep → ⊥
joined_not_deep column stack Semicolon e = wrong_deep e
joined_not_deep column stack Open e = wrong_deep e
joined_not_deep column stack Close e = wrong_deep e
joined_not_deep column stack Plus e = wrong_deep e
joined_not_deep column stack (Word w) e = wrong_deep e
joined_not_deep column stack (Single w) e = quote_not_deep w stack e
joined_not_deep column stack (Double w) e = quote_not_deep (quoted_value column w) stack e
joined_not_deep column stack (Blank b) e = wrong_deep e
joined_not_deep column stack (LineComment b) e = wrong_deep e
joined_not_deep column stack (BlockComment b) e = wrong_deep e

start_one_more : (l : ℕ) (stack : List Tree) (front w : List ℕ) → length stack ≤ l → OneMore l (start l stack front w) (start (l + 1) stack front w)
start_one_more l stack front w le e =
    elim (cases_Bool (is_keyword w)) [
      | inr n ↦ absurd (wrong_deep (sym (ap (λ v. cond v (cond (nat_lt (length stack) l) (Next (leaf front w ∷ stack) Named) Deep) Wrong) n) ∙ e))
      | inl y ↦
          let room : nat_lt (length stack) (l + 1) ≡ true = grind arith in (
            leaf front w ∷ stack,
            Named,
            ap (λ v. cond v (cond (nat_lt (length stack) (l + 1)) (Next (leaf front w ∷ stack) Named) Deep) Wrong) y
                ∙ ap (λ v. cond v (Next (leaf front w ∷ stack) Named) Deep) room,
          )
    ]

between_one_more : (l : ℕ) (stack : List Tree) (front : List ℕ) (p : Piece) → length stack ≤ l → OneMore l (between l stack front p) (between (l + 1) stack front p)
between_one_more l stack front (Word w) le e = start_one_more l stack front w le e
between_one_more l stack front Close le e = absurd (close_not_deep stack e)
between_one_more l stack front (Blank b) le e = absurd (wrong_deep e)
between_one_more l stack front (LineComment b) le e = absurd (wrong_deep e)
between_one_more l stack front (BlockComment b) le e = absurd (wrong_deep e)
between_one_more l stack front (Single b) le e = absurd (wrong_deep e)
between_one_more l stack front (Double b) le e = absurd (wrong_deep e)
between_one_more l stack front Semicolon le e = absurd (wrong_deep e)
between_one_more l stack front Open le e = absurd (wrong_deep e)
between_one_more l stack front Plus le e = absurd (wrong_deep e)

step_one_more : (l : ℕ) (stack : List Tree) (phase : Phase) (t : Token) → length stack ≤ l → OneMore l (step l stack phase t) (step (l + 1) stack phase t)
step_one_more l stack Between t le e = between_one_more l stack t.front t.piece le e
step_one_more l stack Named t le e = absurd (named_not_deep (column_of t.front) stack t.piece e)
step_one_more l stack Argued t le e = absurd (argued_not_deep stack t.piece e)
step_one_more l stack Said t le e = absurd (said_not_deep stack t.piece e)
step_one_more l stack Joined t le e = absurd (joined_not_deep (column_of t.front) stack t.piece e)
step_one_more l stack Done t le e = absurd (wrong_deep e)

fits_length : (l : ℕ) (stack : List Tree) → Fits l stack → length stack ≤ l
fits_length l [] h = omega arith
fits_length l (t ∷ below) (d, rest) = omega (arith, d)

pub deep_goes : (ts : List Token) (stack : List Tree) (phase : Phase) (t : Token) → Stands ts stack phase → step 64 stack phase t ≡ Deep → Goes (ts ++ t ∷ [])
deep_goes ts stack phase t s e =
    let long : run_tokens 65 fresh ts ≡ Next stack phase =
    elim (runs_agree 64 65 fresh ts (omega arith)) [
      | inl f ↦ sym f ∙ s.runs
      | inr f ↦ absurd (deep_next stack phase (sym f ∙ s.runs))
    ]
    in
    let one = step_one_more 64 stack phase t (fits_length 64 stack (fits_all 64 ts stack phase s.runs)) e in
    let all : run_tokens 65 fresh (ts ++ t ∷ []) ≡ Next one.0 one.1 =
    run-append 65 fresh ts (t ∷ []) ∙ ap (λ x. run_tokens 65 x (t ∷ [])) long ∙ one.2
    in
    let g = begins_statement 65 one.0 one.1 (ts ++ t ∷ []) (omega arith) (behind_all 65 (ts ++ t ∷ []) one.0 one.1 all) (fits_all 65 (ts ++ t ∷ []) one.0 one.1 all) in
    (g.0, g.1, g.2)

-- at the end
pub spelled_end : (ts : List Token) (stack : List Tree) (phase : Phase) (u : Tree) → Stands ts stack phase → SpellsOne u ts → Next stack phase ≡ Next (u ∷ []) Done
spelled_end ts stack phase u s spells =
    let m : ℕ = 64 + (depth u.children + 1) in
    let whole = accepts m u ts spells (omega arith) in
    elim (runs_agree 64 m fresh ts (omega arith)) [
      | inl f ↦ sym s.runs ∙ f ∙ whole
      | inr f ↦ absurd (deep_next stack phase (sym f ∙ s.runs))
    ]

pub done_end : (ts : List Token) (u : Tree) → Stands ts (u ∷ []) Done → SpellsOne u ts × (depth u.children + 1 ≤ 64)
done_end ts u s =
    let d : depth u.children + (1 + 0) ≤ 64 = (fits_all 64 ts (u ∷ []) Done s.runs).0 in
    (behind_all 64 ts (u ∷ []) Done s.runs, omega (arith, d))

first_tree : Tree → Step → Tree
first_tree d (Next [] phase) = d
first_tree d (Next (t ∷ below) phase) = t
first_tree d Wrong = d
first_tree d Deep = d

top : (t u : Tree) → Next (t ∷ []) Done ≡ Next (u ∷ []) Done → t ≡ u
unfolding first_tree
top t u e = ap (first_tree t) e

-- one statement at most
pub one_statement : (ts : List Token) (t u : Tree) → SpellsOne t ts → SpellsOne u ts → t ≡ u
one_statement ts t u s r =
    let m : ℕ = (depth t.children + 1) + (depth u.children + 1) in
    top t u (sym (accepts m t ts s (omega arith)) ∙ accepts m u ts r (omega arith))
