-- What the names of features mean (RFC 7950, sections 5.6.1, 6.2.1 and 7.20.2).
use Rattle.std.specs.Prelude.{ℕ, Bool, List, Option, codes}
use Rattle.std.specs.Option.{option_and_then}
use Rattle.yv_link_scopes.specs.Names.{local_of}
use Rattle.yv_link_scopes.specs.Files.{Briefs, has_word}
use Rattle.yv_link_scopes.specs.Rows.{Row}
use Rattle.yv_link_scopes.specs.Scopes.{block_of}
use Rattle.yv_link_scopes.specs.Tables.{Table, first_of}
use Rattle.yv_link_scopes.specs.declared.kind.NameKind.TheVariants.{Feature}

-- by the number of a file and a name in it, the number of the feature's statement
abbrev pub Meaning : Type 0
Meaning = ℕ → List ℕ → Option ℕ

-- a name is looked up at the root of the file's module, or of the module for which its prefix
-- stands
abbrev pub looked_up : Table → Briefs → List Row → Meaning
looked_up table files rows file name =
    option_and_then (λ block. table block (local_of name)) (block_of files rows file name)

-- a name means the first feature there that has it
abbrev pub meaning_of : Briefs → List Row → Meaning
meaning_of files rows = looked_up (first_of Feature rows) files rows

-- a statement is a `feature`
abbrev pub is_feature : Row → Bool
is_feature r = has_word (codes "feature") r.head

-- the condition of a statement; its expression is the row's name
abbrev pub is_if_feature : Row → Bool
is_if_feature r = has_word (codes "if-feature") r.head
