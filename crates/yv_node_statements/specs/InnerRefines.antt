-- Only private clauses cite this: where refines change which defaults are said of a node.
use Rattle.std.specs.Prelude.{ℕ, ◌==◌, Bool, true, false, not, ◌&&◌, ◌||◌, List, [], ◌∷◌, is_some, if◌then◌else◌}
use Rattle.std.specs.List.{list_any}
use Rattle.yv_text_statement.specs.declared.keyword.Keyword.TheVariants as word
use Rattle.yv_link_scopes.specs.Files.{Files}
use Rattle.yv_node_content.specs.Definition.{Definition}
use Rattle.yv_text_statement.specs.TextInFile.{TextInFile}
use Rattle.yv_node_properties.specs.Properties.{said_at}

-- a numbered statement gives a default
abbrev pub gives_default : Files → ℕ → Bool
gives_default files number = is_some (said_at files number word.Default)

-- one of these numbered statements does
abbrev pub give_default : Files → List ℕ → Bool
give_default files numbers = list_any (gives_default files) numbers

abbrev pub are_none : List TextInFile → Bool
are_none [] = true
are_none (w ∷ ws) = false

-- one of two, and not the other
abbrev pub either_alone : Bool → Bool → Bool
either_alone a b = if a then not b else b

-- of two definitions of a node, of which the second has no defaults of its own, just one lets the
-- node have no entry
abbrev pub is_swayed : (before after : Definition) → Bool
is_swayed before after =
    are_none after.own_defaults && either_alone (before.min == 0) (after.min == 0)

-- these refines make of the first definition the second, of which other defaults may be said
abbrev pub is_moved : Files → (refines : List ℕ) → (before after : Definition) → Bool
is_moved files refines before after = give_default files refines || is_swayed before after
