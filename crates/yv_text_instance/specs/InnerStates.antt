-- Only private clauses cite this: how far an instance-identifier is read.
use Rattle.std.specs.Prelude.{ℕ, Bool, true, false, ◌&&◌, ◌||◌, ◌==◌, List, [], ◌∷◌, codes, if◌then◌else◌}
use Rattle.std.specs.List.{list_any}
use Rattle.std.specs.Str.{bytes_eq}
use Rattle.yv_text_if_feature.specs.Bytes.{colon}
use Rattle.yv_text_if_feature.specs.Names.{is_name}
use Rattle.yv_text_path.specs.Pieces.{Piece, Word, Blank, Slash, OpeningBracket, ClosingBracket, EqualsSign, OpeningParenthesis, ClosingParenthesis, SingleQuote, DoubleQuote, Other}
use Rattle.yv_text_instance.specs.Predicates.{is_position}
use Rattle.yv_text_instance.specs.declared.state.State.{State}
use Rattle.yv_text_instance.specs.declared.state.State.TheVariants.{Start, FirstName, Name, AfterName, Predicate, AfterKey, Value, SingleQuotes, DoubleQuotes, Closing, Wrong}

-- a name that has a colon
abbrev pub is_qualified_name : List ℕ → Bool
is_qualified_name w = is_name w && list_any (λ b. b == colon) w

-- `.` or a name
abbrev pub is_key : List ℕ → Bool
is_key w = bytes_eq w (codes ".") || is_name w

abbrev pub after_word : State → List ℕ → State
after_word FirstName w = if is_qualified_name w then AfterName else Wrong
after_word Name w = if is_name w then AfterName else Wrong
after_word Predicate w =
    if is_position w then Closing else (if is_key w then AfterKey else Wrong)
after_word q w = Wrong

-- blanks count for nothing inside the brackets of a predicate
abbrev pub after_blank : State → State
after_blank Start = Wrong
after_blank FirstName = Wrong
after_blank Name = Wrong
after_blank AfterName = Wrong
after_blank q = q

abbrev pub after_slash : State → State
after_slash Start = FirstName
after_slash AfterName = Name
after_slash q = Wrong

abbrev pub after_opening_bracket : State → State
after_opening_bracket AfterName = Predicate
after_opening_bracket q = Wrong

abbrev pub after_closing_bracket : State → State
after_closing_bracket Closing = AfterName
after_closing_bracket q = Wrong

abbrev pub after_equals_sign : State → State
after_equals_sign AfterKey = Value
after_equals_sign q = Wrong

-- the quote that a value begins with
abbrev pub after_quote : State → State → State
after_quote Value r = r
after_quote q r = Wrong

-- the state after one piece more, outside of quotes
abbrev pub after_token : State → Piece → State
after_token q (Word w) = after_word q w
after_token q Blank = after_blank q
after_token q Slash = after_slash q
after_token q OpeningBracket = after_opening_bracket q
after_token q ClosingBracket = after_closing_bracket q
after_token q EqualsSign = after_equals_sign q
after_token q SingleQuote = after_quote q SingleQuotes
after_token q DoubleQuote = after_quote q DoubleQuotes
after_token q OpeningParenthesis = Wrong
after_token q ClosingParenthesis = Wrong
after_token q Other = Wrong

-- anything may be inside of quotes, up to the same quote
abbrev pub in_single_quotes : Piece → State
in_single_quotes SingleQuote = Closing
in_single_quotes p = SingleQuotes

abbrev pub in_double_quotes : Piece → State
in_double_quotes DoubleQuote = Closing
in_double_quotes p = DoubleQuotes

-- the state after one piece more
abbrev pub after : State → Piece → State
after SingleQuotes p = in_single_quotes p
after DoubleQuotes p = in_double_quotes p
after q p = after_token q p

-- nothing needs to follow
abbrev pub is_end : State → Bool
is_end AfterName = true
is_end q = false

-- whether these pieces complete an instance-identifier
abbrev pub completes : State → List Piece → Bool
completes q [] = is_end q
completes q (p ∷ ps) = completes (after q p) ps
