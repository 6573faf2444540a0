-- Only private clauses cite this: how far a path is read.
use Rattle.std.specs.Prelude.{ℕ, Bool, true, false, List, [], ◌∷◌, ◌++◌, codes, if◌then◌else◌}
use Rattle.std.specs.Str.{bytes_eq}
use Rattle.yv_text_if_feature.specs.Names.{is_name}
use Rattle.yv_text_path.specs.Pieces.{Piece, Word, Blank, Slash, OpeningBracket, ClosingBracket, EqualsSign, OpeningParenthesis, ClosingParenthesis, SingleQuote, DoubleQuote, Other}
use Rattle.yv_text_path.specs.declared.state.State.{State}
use Rattle.yv_text_path.specs.declared.state.State.TheVariants.{Start, Dots, UpOrStep, Step, AfterStep, Key, AfterKey, Function, Opening, Closing, FirstSlash, FirstDots, InnerDots, InnerUpOrName, InnerName, AfterInnerName, Wrong}

abbrev pub after_word : State → List ℕ → State
after_word Start w = if bytes_eq w (codes "..") then Dots else Wrong
after_word UpOrStep w =
    if is_name w then AfterStep else (if bytes_eq w (codes "..") then Dots else Wrong)
after_word Step w = if is_name w then AfterStep else Wrong
after_word Key w = if is_name w then AfterKey else Wrong
after_word Function w = if bytes_eq w (codes "current") then Opening else Wrong
after_word FirstDots w = if bytes_eq w (codes "..") then InnerDots else Wrong
after_word InnerUpOrName w =
    if is_name w then AfterInnerName else (if bytes_eq w (codes "..") then InnerDots else Wrong)
after_word InnerName w = if is_name w then AfterInnerName else Wrong
after_word q w = Wrong

-- blanks count for nothing inside the brackets of a predicate
abbrev pub after_blank : State → State
after_blank Start = Wrong
after_blank Dots = Wrong
after_blank UpOrStep = Wrong
after_blank Step = Wrong
after_blank AfterStep = Wrong
after_blank q = q

abbrev pub after_slash : State → State
after_slash Start = Step
after_slash AfterStep = Step
after_slash Dots = UpOrStep
after_slash FirstSlash = FirstDots
after_slash InnerDots = InnerUpOrName
after_slash AfterInnerName = InnerName
after_slash q = Wrong

abbrev pub after_opening_bracket : State → State
after_opening_bracket AfterStep = Key
after_opening_bracket q = Wrong

abbrev pub after_closing_bracket : State → State
after_closing_bracket AfterInnerName = AfterStep
after_closing_bracket q = Wrong

abbrev pub after_equals_sign : State → State
after_equals_sign AfterKey = Function
after_equals_sign q = Wrong

abbrev pub after_opening_parenthesis : State → State
after_opening_parenthesis Opening = Closing
after_opening_parenthesis q = Wrong

abbrev pub after_closing_parenthesis : State → State
after_closing_parenthesis Closing = FirstSlash
after_closing_parenthesis q = Wrong

-- the state after one piece more
abbrev pub after : State → Piece → State
after q (Word w) = after_word q w
after q Blank = after_blank q
after q Slash = after_slash q
after q OpeningBracket = after_opening_bracket q
after q ClosingBracket = after_closing_bracket q
after q EqualsSign = after_equals_sign q
after q OpeningParenthesis = after_opening_parenthesis q
after q ClosingParenthesis = after_closing_parenthesis q
after q SingleQuote = Wrong
after q DoubleQuote = Wrong
after q Other = Wrong

-- nothing needs to follow
abbrev pub is_end : State → Bool
is_end AfterStep = true
is_end q = false

-- a name in a predicate was read last
abbrev pub is_after_inner_name : State → Bool
is_after_inner_name AfterKey = true
is_after_inner_name AfterInnerName = true
is_after_inner_name q = false

-- whether these pieces complete a path
abbrev pub completes : State → List Piece → Bool
completes q [] = is_end q
completes q (p ∷ ps) = completes (after q p) ps

-- the name in a predicate that this piece is, if it is one
abbrev pub names_at : State → Piece → List (List ℕ)
names_at q (Word w) = if is_after_inner_name (after_word q w) then w ∷ [] else []
names_at q p = []

-- the names in predicates among these pieces
abbrev pub names_among : State → List Piece → List (List ℕ)
names_among q [] = []
names_among q (p ∷ ps) = names_at q p ++ names_among (after q p) ps
