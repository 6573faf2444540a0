-- The roots of files, and what they ask for (RFC 7950, sections 5.1, 7.1.5, 7.1.6 and 7.2.2).
use Rattle.std.specs.Prelude.{ℕ, ◌&&◌, ◌||◌, Bool, List, [], ◌∷◌, Option, None, Some, if◌then◌else◌, codes}
use Rattle.std.specs.List.{find, cons_option}
use Rattle.std.specs.Option.{option_and_then}
use Rattle.std.specs.Str.{bytes_eq}
use Rattle.yv_text_statement.specs.Tree.{Tree, trees}
use Rattle.yv_text_if_feature.specs.Names.{is_identifier}

-- a statement has this keyword
abbrev pub has_word : List ℕ → Tree → Bool
has_word word t = bytes_eq t.head.keyword word

-- the argument of the first statement with a keyword in the block of another
abbrev pub argument_of : List ℕ → Tree → Option (List ℕ)
argument_of word t =
    option_and_then (λ (c : Tree). c.head.argument) (find (has_word word) (trees t.children))

-- a file that spells a statement has it as its root, where it is a `module` or a `submodule`
abbrev pub is_root : Tree → Bool
is_root t = has_word (codes "module") t || has_word (codes "submodule") t

-- the module of a file: the argument of a module's root, and for a submodule that of its first
-- `belongs-to`
abbrev pub module_of : Tree → Option (List ℕ)
module_of root =
    if has_word (codes "module") root then root.head.argument
    else argument_of (codes "belongs-to") root

-- a name of a module or submodule that is looked for, and perhaps the date of a revision
pub record Want : Type 0 where
  pub name : List ℕ
  pub date : Option (List ℕ)

-- a statement asks for the file of its argument, perhaps with a date
abbrev pub asks_dated : Tree → Bool
asks_dated s = has_word (codes "import") s || has_word (codes "include") s

-- a `belongs-to` of a submodule asks too, without a date
abbrev pub asks : Tree → Tree → Bool
asks root s = asks_dated s || (has_word (codes "submodule") root && has_word (codes "belongs-to") s)

-- the date that a statement asks for
abbrev pub date_of : Tree → Option (List ℕ)
date_of s = if asks_dated s then argument_of (codes "revision-date") s else None

-- a statement of a root with this argument wants it as a name, where it is an identifier
abbrev pub want_named : Tree → Tree → List ℕ → Option Want
want_named root s name =
    if asks root s && is_identifier name then Some (record { name = name; date = date_of s })
    else None

-- what a statement in the block of a root wants, if it does
abbrev pub want_of : Tree → Tree → Option Want
want_of root s = option_and_then (want_named root s) s.head.argument

-- what some statements in the block of a root want
abbrev pub wants_among : Tree → List Tree → List Want
wants_among root [] = []
wants_among root (s ∷ ss) = cons_option (want_of root s) (wants_among root ss)

-- what a root wants, in the order of its substatements
abbrev pub wants : Tree → List Want
wants root = wants_among root (trees root.children)
