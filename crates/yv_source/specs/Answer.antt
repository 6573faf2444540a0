-- What the calls of this crate answer and refuse. A call is about one file, whose number is 0.
use Rattle.std.specs.Prelude.{◌≡◌, ℕ, List, take, ◌⊎◌}
use Rattle.std.specs.Str.Lossy.{utf8_valid_len}
use Rattle.yv_text_statement.specs.Tree.{Tree}
use Rattle.yv_text_statement.specs.declared.refusal.Code.{Code}
use Rattle.yv_text_statement.specs.declared.refusal.Code.TheVariants as code
use Rattle.yv_text_statement.specs.declared.refusal.Refusal.{Refusal}
use Rattle.yv_source.specs.Place.{line_of}
use Rattle.yv_source.specs.Legal.{IsTooLarge, IsNoText, IsText, IsIllegalAt}
use Rattle.yv_source.specs.Outcome as outcome
use Rattle.yv_source.specs.Outcome.{Outcome, TextComesTo}

-- the refusal at an offset of a text
abbrev pub refusal_in : List ℕ → Code → ℕ → Refusal
refusal_in text c offset =
    record { code = c; file = 0; offset = offset; line = line_of (take offset text) }

-- a file is refused for its size; or else at its first byte that isn't UTF-8, which comes after the
-- longest front that is; or else at its first character that isn't legal
abbrev pub IsBadFile : List ℕ → Refusal → Type 0
IsBadFile bytes r =
    (IsTooLarge bytes × (r ≡ refusal_in bytes code.TooLarge 0))
    ⊎ (IsNoText bytes × (r ≡ refusal_in bytes code.NotUtf8 (utf8_valid_len bytes)))
    ⊎ (IsText bytes × (at : ℕ) × IsIllegalAt bytes at × (r ≡ refusal_in bytes code.BadCharacter at))

-- the refusal of an outcome
abbrev pub IsRefusalOf : List ℕ → Outcome → Refusal → Type 0
IsRefusalOf text (outcome.Statement t) r = ⊥
IsRefusalOf text (outcome.BadToken offset) r = r ≡ refusal_in text code.BadToken offset
IsRefusalOf text (outcome.BadSyntax offset) r = r ≡ refusal_in text code.BadSyntax offset
IsRefusalOf text (outcome.TooDeep offset) r = r ≡ refusal_in text code.TooDeep offset
IsRefusalOf text (outcome.BadEscape offset) r = r ≡ refusal_in text code.BadEscape offset

-- a text spells this statement, and nothing in it is refused
abbrev pub IsSpelled : List ℕ → Tree → Type 0
IsSpelled text t = TextComesTo text (outcome.Statement t)

-- a text is refused so
abbrev pub IsRefused : List ℕ → Refusal → Type 0
IsRefused text r = (o : Outcome) × TextComesTo text o × IsRefusalOf text o r
