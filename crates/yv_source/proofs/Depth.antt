-- The limit keeps, and any state is that of the front of a statement.
use Rattle.std.proofs.Common.{◌≡◌, ℕ, ◌+◌, ◌<◌, ◌≤◌, max, Bool, true, false, cond, List, [], ◌∷◌, ◌++◌, length, nat_lt, refl, sym, ap, subst, arith}
use Rattle.yv_text_statement.specs.Tree.{Forest, End, Then, Tree}
use Rattle.yv_source.specs.Pieces.{Piece, Blank, LineComment, BlockComment, Word, Single, Double, Semicolon, Open, Close, Plus, Token}
use Rattle.yv_source.specs.Grammar.{depth, GoesWithin}
use Rattle.yv_source.specs.Inner.Machine.{is_keyword, Step, Next, Wrong, Deep, leaf, finish, close, between, give_word, give_quoted, after_argument, after_quoted, after_plus, after_keyword, step, run_tokens}
use Rattle.yv_text_statement.specs.Builder.{join_forests, push_child, with_more}
use Rattle.yv_source.specs.Place.{column_of}
use Rattle.yv_source.specs.Quotes.{quoted_value}
use Rattle.yv_source.specs.declared.machine.Phase.{Phase}
use Rattle.yv_source.specs.declared.machine.Phase.TheVariants.{Between, Named, Argued, Said, Joined, Done}
use Rattle.yv_source.proofs.Means.{Behind, BehindStep, run_keeps}

abbrev pub Fits : ℕ → List Tree → Type 0
Fits limit [] = Unit {0}
Fits limit (t ∷ below) = (depth t.children + (1 + length below) ≤ limit) × Fits limit below

abbrev pub FitsStep : ℕ → Step → Type 0
FitsStep limit (Next stack phase) = Fits limit stack
FitsStep limit Wrong = Unit {0}
FitsStep limit Deep = Unit {0}

depth-join : (f g : Forest) → depth (join_forests f g) ≡ max (depth f) (depth g)
depth-join End g = grind arith
depth-join (Then h c o) g = grind (arith, depth-join o g)

finish_fits : (limit : ℕ) (t : Tree) (below : List Tree) → Fits limit (t ∷ below) → FitsStep limit (finish t below)
finish_fits limit t [] (d, rest) = (d, tt)
finish_fits limit t (p ∷ below) (d, (e, rest)) = (grind (arith, depth-join p.children (Then t.head t.children End)), rest)

close_fits : (limit : ℕ) (stack : List Tree) → Fits limit stack → FitsStep limit (close stack)
close_fits limit [] h = tt
close_fits limit (t ∷ below) h = finish_fits limit t below h

cond_fits : (limit : ℕ) (b : Bool) (x y : Step) → (b ≡ true → FitsStep limit x) → FitsStep limit y → FitsStep limit (cond b x y)
cond_fits limit true x y f h = f refl
cond_fits limit false x y f h = h

give_fits : (limit : ℕ) (text : List ℕ) (stack : List Tree) → Fits limit stack → FitsStep limit (give_word text stack)
give_fits limit text [] h = tt
give_fits limit text (t ∷ below) h = h

between_fits : (limit : ℕ) (stack : List Tree) (front : List ℕ) (p : Piece) → Fits limit stack → FitsStep limit (between limit stack front p)
between_fits limit stack front (Word w) h =
    cond_fits limit (is_keyword w) _ Wrong
    (λ key. cond_fits limit (nat_lt (length stack) limit) _ Deep (λ room. (grind arith, h)) tt) tt
between_fits limit stack front Close h = close_fits limit stack h
between_fits limit stack front (Blank b) h = tt
between_fits limit stack front (LineComment b) h = tt
between_fits limit stack front (BlockComment b) h = tt
between_fits limit stack front (Single b) h = tt
between_fits limit stack front (Double b) h = tt
between_fits limit stack front Semicolon h = tt
between_fits limit stack front Open h = tt
between_fits limit stack front Plus h = tt

argued_fits : (limit : ℕ) (stack : List Tree) (p : Piece) → Fits limit stack → FitsStep limit (after_argument stack p)
argued_fits limit stack Semicolon h = close_fits limit stack h
argued_fits limit stack Open h = h
argued_fits limit stack Close h = tt
argued_fits limit stack Plus h = tt
argued_fits limit stack (Word b) h = tt
argued_fits limit stack (Blank b) h = tt
argued_fits limit stack (LineComment b) h = tt
argued_fits limit stack (BlockComment b) h = tt
argued_fits limit stack (Single b) h = tt
argued_fits limit stack (Double b) h = tt

quote_fits : (limit : ℕ) (text : List ℕ) (stack : List Tree) → Fits limit stack → FitsStep limit (give_quoted text stack)
quote_fits limit text [] h = tt
quote_fits limit text (t ∷ below) h = h

named_fits : (limit column : ℕ) (stack : List Tree) (p : Piece) → Fits limit stack → FitsStep limit (after_keyword column stack p)
named_fits limit column stack Semicolon h = close_fits limit stack h
named_fits limit column stack Open h = h
named_fits limit column stack Close h = tt
named_fits limit column stack Plus h = tt
named_fits limit column stack (Word w) h = give_fits limit w stack h
named_fits limit column stack (Single w) h = quote_fits limit w stack h
named_fits limit column stack (Double w) h = quote_fits limit (quoted_value column w) stack h
named_fits limit column stack (Blank b) h = tt
named_fits limit column stack (LineComment b) h = tt
named_fits limit column stack (BlockComment b) h = tt

said_fits : (limit : ℕ) (stack : List Tree) (p : Piece) → Fits limit stack → FitsStep limit (after_quoted stack p)
said_fits limit stack Semicolon h = close_fits limit stack h
said_fits limit stack Open h = h
said_fits limit stack Close h = tt
said_fits limit stack Plus h = h
said_fits limit stack (Word w) h = tt
said_fits limit stack (Single w) h = tt
said_fits limit stack (Double w) h = tt
said_fits limit stack (Blank b) h = tt
said_fits limit stack (LineComment b) h = tt
said_fits limit stack (BlockComment b) h = tt

joined_fits : (limit column : ℕ) (stack : List Tree) (p : Piece) → Fits limit stack → FitsStep limit (after_plus column stack p)
joined_fits limit column stack Semicolon h = tt
joined_fits limit column stack Open h = tt
joined_fits limit column stack Close h = tt
joined_fits limit column stack Plus h = tt
joined_fits limit column stack (Word w) h = tt
joined_fits limit column stack (Single w) h = quote_fits limit w stack h
joined_fits limit column stack (Double w) h = quote_fits limit (quoted_value column w) stack h
joined_fits limit column stack (Blank b) h = tt
joined_fits limit column stack (LineComment b) h = tt
joined_fits limit column stack (BlockComment b) h = tt

pub step_fits : (limit : ℕ) (stack : List Tree) (phase : Phase) (t : Token) → Fits limit stack → FitsStep limit (step limit stack phase t)
step_fits limit stack Between t h = between_fits limit stack t.front t.piece h
step_fits limit stack Named t h = named_fits limit (column_of t.front) stack t.piece h
step_fits limit stack Argued t h = argued_fits limit stack t.piece h
step_fits limit stack Said t h = said_fits limit stack t.piece h
step_fits limit stack Joined t h = joined_fits limit (column_of t.front) stack t.piece h
step_fits limit stack Done t h = tt

pub run_fits : (limit : ℕ) (s : Step) (ts : List Token) → FitsStep limit s → FitsStep limit (run_tokens limit s ts)
run_fits limit s [] h = h
run_fits limit (Next stack phase) (t ∷ ts) h = run_fits limit (step limit stack phase t) ts (step_fits limit stack phase t h)
run_fits limit Wrong (t ∷ ts) h = tt
run_fits limit Deep (t ∷ ts) h = tt

-- A state that can be led to the end of a statement.
abbrev Ends : ℕ → Step → Type 0
Ends limit s = (more : List Token) × (u : Tree) × (run_tokens limit s more ≡ Next (u ∷ []) Done)

abbrev mark : Piece → Token
mark p = record { front = []; piece = p }

ends_finish : (limit : ℕ) (t : Tree) (below : List Tree) → Ends limit (finish t below)
ends_finish limit t [] = ([], t, refl)
ends_finish limit t (p ∷ below) =
    let r = ends_finish limit (push_child p t) below in
    (mark Close ∷ r.0, r.1, r.2)

pub ends : (limit : ℕ) (stack : List Tree) (phase : Phase) (ts : List Token) → 0 < limit → Behind phase stack ts → Ends limit (Next stack phase)
ends limit [] Between ts l h =
    let e : nat_lt 0 limit ≡ true = grind arith in (
      mark (Word (97 ∷ [])) ∷ mark Semicolon ∷ [],
      leaf [] (97 ∷ []),
      ap (λ (b : Bool). run_tokens limit (cond b (Next (leaf [] (97 ∷ []) ∷ []) Named) Deep) (mark Semicolon ∷ [])) e,
    )
ends limit (t ∷ below) Between ts l h = let r = ends_finish limit t below in (mark Close ∷ r.0, r.1, r.2)
ends limit [] Named ts l h = absurd h
ends limit (t ∷ below) Named ts l h = let r = ends_finish limit t below in (mark Semicolon ∷ r.0, r.1, r.2)
ends limit [] Argued ts l h = absurd h
ends limit (t ∷ below) Argued ts l h = let r = ends_finish limit t below in (mark Semicolon ∷ r.0, r.1, r.2)
ends limit [] Said ts l h = absurd h
ends limit (t ∷ below) Said ts l h = let r = ends_finish limit t below in (mark Semicolon ∷ r.0, r.1, r.2)
ends limit [] Joined ts l h = absurd h
ends limit (t ∷ below) Joined ts l h = let r = ends_finish limit (with_more [] t) below in (mark (Single []) ∷ mark Semicolon ∷ r.0, r.1, r.2)
ends limit [] Done ts l h = absurd h
ends limit (t ∷ []) Done ts l h = ([], t, refl)
ends limit (t ∷ u ∷ below) Done ts l h = absurd h

-- what was read so far begins a statement of at most that depth
pub begins_statement : (limit : ℕ) (stack : List Tree) (phase : Phase) (ts : List Token) → 0 < limit → Behind phase stack ts → Fits limit stack → GoesWithin limit ts
begins_statement limit stack phase ts l h f =
    let r = ends limit stack phase ts l h in
    let S : Step → Type 0 = λ s. BehindStep s (ts ++ r.0) in
    let D : Step → Type 0 = λ s. FitsStep limit s in
    let spells = subst S r.2 (run_keeps limit (Next stack phase) ts r.0 h) in
    let fits = subst D r.2 (run_fits limit (Next stack phase) r.0 f) in
    let d : depth r.1.children + (1 + 0) ≤ limit = fits.0 in
    (r.1, r.0, spells, omega (arith, d))

pub run_wrong : (limit : ℕ) (us : List Token) → run_tokens limit Wrong us ≡ Wrong
run_wrong limit [] = refl
run_wrong limit (u ∷ us) = refl

pub run_deep : (limit : ℕ) (us : List Token) → run_tokens limit Deep us ≡ Deep
run_deep limit [] = refl
run_deep limit (u ∷ us) = refl

pub run-append : (limit : ℕ) (s : Step) (ts us : List Token) → run_tokens limit s (ts ++ us) ≡ run_tokens limit (run_tokens limit s ts) us
run-append limit s [] us = refl
run-append limit (Next stack phase) (t ∷ ts) us = run-append limit (step limit stack phase t) ts us
run-append limit Wrong (t ∷ ts) us = sym (run_wrong limit us)
run-append limit Deep (t ∷ ts) us = sym (run_deep limit us)
