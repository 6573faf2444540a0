-- What a refusal speaks of.
use Rattle.std.specs.Prelude.{ℕ, ◌==◌, ◌&&◌, ◌||◌, Bool, List, Option, Some, None, codes, if◌then◌else◌, IfSome}
use Rattle.std.specs.List.{find, list_any}
use Rattle.std.specs.Option.{unwrap_or, option_and_then}
use Rattle.std.specs.Str.{bytes_eq}
use Rattle.yv_text_statement.specs.Tree.{Head}
use Rattle.yv_text_statement.specs.declared.refusal.Code.{Code}
use Rattle.yv_text_statement.specs.declared.refusal.Code.TheVariants as code
use Rattle.yv_text_statement.specs.declared.refusal.Refusal.{Refusal}
use Rattle.yv_link_scopes.specs.Rows.{Row}
use Rattle.yv_note_text.specs.Quotes.{Quotes}
use Rattle.yv_link_scopes.specs.Rows.{is_extended}

-- a type or a path that isn't supported is so for its argument
abbrev pub is_told_by_argument : List ℕ → Bool
is_told_by_argument keyword = bytes_eq keyword (codes "type") || bytes_eq keyword (codes "path")

-- the argument of a statement, or else its keyword
abbrev pub argument_or_keyword : Head → List ℕ
argument_or_keyword h = unwrap_or h.argument h.keyword

-- the word of a statement that a refusal at it speaks of: its keyword, where that is what is wrong,
-- and else its argument
abbrev pub subject : Code → Head → Option (List ℕ)
subject code.TooManyNodes h = None
subject code.UnknownStatement h = Some h.keyword
subject code.Cardinality h = Some h.keyword
subject code.Unsupported h =
    Some (if is_told_by_argument h.keyword then argument_or_keyword h else h.keyword)
subject code.UnknownPrefix h =
    Some (if is_extended h.keyword then h.keyword else argument_or_keyword h)
subject _ h = Some (argument_or_keyword h)

-- the statement is at the refusal's place
abbrev pub is_at : Refusal → Row → Bool
is_at r row = (row.file == r.file) && (row.head.offset == r.offset)

-- the text names what the refusal speaks of, where a statement is at its place: the first, if there
-- were more
abbrev pub Names : List Row → Refusal → List ℕ → Type 0
Names rows r text = IfSome
    (option_and_then (λ (row : Row). subject r.code row.head) (find (is_at r) rows))
    (λ word. Quotes word text)
