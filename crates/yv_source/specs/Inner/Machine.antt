-- The machine that the reader follows, one token at a time; cited by private clauses only. What
-- tokens spell is Grammar's.
use Rattle.std.specs.Prelude.{ℕ, Bool, ◌==◌, ◌&&◌, ◌||◌, cond, List, [], ◌∷◌, length, nat_lt}
use Rattle.yv_text_statement.specs.Tree.{Tree}
use Rattle.yv_text_statement.specs.Builder.{bare, push_child, with_argument, with_more}
use Rattle.yv_source.specs.Characters.{colon}
use Rattle.yv_source.specs.Place.{line_of}
use Rattle.yv_source.specs.Pieces.{Piece, Word, Single, Double, Semicolon, Open, Close, Plus, until, begins, Token}
use Rattle.yv_source.specs.Quotes.{quoted_value}
use Rattle.yv_text_if_feature.specs.Names.{is_identifier}
use Rattle.yv_source.specs.Inner.Place.{Place, place_of}
use Rattle.yv_source.specs.declared.machine.Phase.{Phase}
use Rattle.yv_source.specs.declared.machine.Phase.TheVariants.{Between, Named, Argued, Said, Joined, Done}

-- what comes after the first colon
abbrev pub behind_colon : List ℕ → List ℕ
behind_colon [] = []
behind_colon (b ∷ rest) = cond (b == colon) rest (behind_colon rest)

abbrev pub is_keyword : List ℕ → Bool
is_keyword w =
    is_identifier w || (is_identifier (until (begins colon) w) && is_identifier (behind_colon w))

-- the open statements, the innermost first, with what was read of that one; or why a token isn't
-- taken
pub data Step : Type 0 where
  Next : (stack : List Tree) → Phase → Step
  Wrong : Step
  Deep : Step

-- a keyword only, after this text
abbrev pub leaf : List ℕ → List ℕ → Tree
leaf front w = bare (line_of front) (length front) w

-- a whole statement goes to the one around it
abbrev pub finish : Tree → List Tree → Step
finish t [] = Next (t ∷ []) Done
finish t (p ∷ below) = Next (push_child p t ∷ below) Between

-- the innermost statement ends
abbrev pub close : List Tree → Step
close [] = Wrong
close (t ∷ below) = finish t below

-- a statement begins at a place
abbrev pub start_at : ℕ → List Tree → Place → List ℕ → Step
start_at limit stack place w =
    cond (is_keyword w) (cond (nat_lt (length stack) limit)
    (Next (bare place.line place.at w ∷ stack) Named) Deep) Wrong

abbrev pub start : ℕ → List Tree → List ℕ → List ℕ → Step
start limit stack front w = start_at limit stack (place_of front) w

-- the innermost statement gets an unquoted argument
abbrev pub give_word : List ℕ → List Tree → Step
give_word text [] = Wrong
give_word text (t ∷ below) = Next (with_argument text t ∷ below) Argued

-- it gets more of a quoted one
abbrev pub give_quoted : List ℕ → List Tree → Step
give_quoted text [] = Wrong
give_quoted text (t ∷ below) = Next (with_more text t ∷ below) Said

-- a token between statements
abbrev pub between_at : ℕ → List Tree → Place → Piece → Step
between_at limit stack place (Word w) = start_at limit stack place w
between_at limit stack place Close = close stack
between_at limit stack place _ = Wrong

abbrev pub between : ℕ → List Tree → List ℕ → Piece → Step
between limit stack front p = between_at limit stack (place_of front) p

-- a token after a keyword
abbrev pub after_keyword : ℕ → List Tree → Piece → Step
after_keyword column stack (Word w) = give_word w stack
after_keyword column stack (Single w) = give_quoted w stack
after_keyword column stack (Double w) = give_quoted (quoted_value column w) stack
after_keyword column stack Semicolon = close stack
after_keyword column stack Open = Next stack Between
after_keyword column stack _ = Wrong

-- a token after an unquoted argument
abbrev pub after_argument : List Tree → Piece → Step
after_argument stack Semicolon = close stack
after_argument stack Open = Next stack Between
after_argument stack _ = Wrong

-- a token after quoted texts
abbrev pub after_quoted : List Tree → Piece → Step
after_quoted stack Semicolon = close stack
after_quoted stack Open = Next stack Between
after_quoted stack Plus = Next stack Joined
after_quoted stack _ = Wrong

-- a token after a sign that joins
abbrev pub after_plus : ℕ → List Tree → Piece → Step
after_plus column stack (Single w) = give_quoted w stack
after_plus column stack (Double w) = give_quoted (quoted_value column w) stack
after_plus column stack _ = Wrong

-- a token at a place
abbrev pub step_at : ℕ → List Tree → Phase → Place → Piece → Step
step_at limit stack Between place p = between_at limit stack place p
step_at limit stack Named place p = after_keyword place.column stack p
step_at limit stack Argued place p = after_argument stack p
step_at limit stack Said place p = after_quoted stack p
step_at limit stack Joined place p = after_plus place.column stack p
step_at limit stack Done place p = Wrong

-- a token after the text before it
abbrev pub step : ℕ → List Tree → Phase → Token → Step
step limit stack phase t = step_at limit stack phase (place_of t.front) t.piece

-- tokens in order
abbrev pub run_tokens : ℕ → Step → List Token → Step
run_tokens limit s [] = s
run_tokens limit (Next stack phase) (t ∷ ts) = run_tokens limit (step limit stack phase t) ts
run_tokens limit Wrong (t ∷ ts) = Wrong
run_tokens limit Deep (t ∷ ts) = Deep
