-- Only private clauses cite this: definitions that are changed by one statement after the other.
use Rattle.std.specs.Prelude.{ℕ, ◌||◌, List, [], ◌∷◌, filter, map}
use Rattle.std.specs.Option.{option_or, unwrap_or}
use Rattle.yv_text_statement.specs.Tree.{Tree}
use Rattle.yv_text_statement.specs.declared.keyword.Keyword.TheVariants as word
use Rattle.yv_link_scopes.specs.Files.{Files}
use Rattle.yv_node_content.specs.Definition.{Definition}
use Rattle.yv_text_statement.specs.TextInFile.{TextInFile, or_list}
use Rattle.yv_node_properties.specs.Properties.{Properties, defaults_of, properties_of, substatements_of, written_in}
use Rattle.yv_node_properties.specs.Statements.{file_at, is_of, statement_at}

-- the defaults that those of these statements of a file give that are `default` statements, in
-- order
abbrev pub defaults_among : (file : ℕ) → List Tree → List TextInFile
defaults_among file ts = map (written_in file) (filter (is_of word.Default) ts)

-- what a statement changes: properties, and defaults where it gives some
pub record Change : Type 0 where
  pub properties : Properties
  pub defaults : List TextInFile

-- what a statement of a file changes
abbrev pub change_of : (file : ℕ) → Tree → Change
change_of file t =
    record { properties = properties_of (substatements_of file t); defaults = defaults_of file t }

-- what a numbered statement changes
abbrev pub change_at : Files → ℕ → Change
change_at files number = change_of (file_at files number) (statement_at files number)

-- a definition with those of its properties changed of which something is said
abbrev pub apply_change : Change → Definition → Definition
apply_change c d = let p : Properties = c.properties in record d {
  stated_config = option_or p.config d.stated_config;
  is_mandatory = unwrap_or p.mandatory d.is_mandatory;
  has_presence = p.presence || d.has_presence;
  min = unwrap_or p.min d.min;
  max = unwrap_or p.max d.max;
  own_defaults = or_list c.defaults d.own_defaults;
}

-- a definition as these numbered statements change it in order
abbrev pub apply_statements : Files → List ℕ → Definition → Definition
apply_statements files [] d = d
apply_statements files (n ∷ ns) d = apply_statements files ns (apply_change (change_at files n) d)
