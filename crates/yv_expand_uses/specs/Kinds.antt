-- What items are as schema nodes (RFC 7950, section 3).
use Rattle.std.specs.Prelude.{ℕ, Bool, List, Option, Some, None, codes, slice_get}
use Rattle.std.specs.Option.{unwrap_or}
use Rattle.yv_link_scopes.specs.Rows.{Row}
use Rattle.yv_expand_statements.specs.declared.origin.Origin.{Origin}
use Rattle.yv_expand_statements.specs.declared.origin.Origin.TheVariants.{Statement, Input, Output}
use Rattle.yv_expand_paths.specs.InnerNameNumbers.{number_at, number_of, qualified_name}
use Rattle.yv_expand_rounds.specs.declared.label.Label.{Label}
use Rattle.yv_expand_statements.specs.declared.statement_kind.StatementKind.{StatementKind}
use Rattle.yv_expand_statements.specs.declared.statement_kind.StatementKind.TheVariants as kind
use Rattle.yv_expand_statements.specs.Kinds.{kind_of_keyword}

-- what a statement is: a node of some kind, or a `uses`
abbrev pub kind_at : Option Row → StatementKind
kind_at None = kind.Leaf
kind_at (Some r) = unwrap_or (kind_of_keyword r.head.keyword) kind.Uses

-- the kind of an item
abbrev pub kind_of : List Row → Origin → StatementKind
kind_of rows (Statement k) = kind_at (slice_get rows k)
kind_of rows (Input k) = kind.Input
kind_of rows (Output k) = kind.Output

-- the number of the name of the node that an item is
abbrev pub name_number : List Row → Origin → Option ℕ
name_number rows (Statement k) = number_at rows k
name_number rows (Input k) = number_of rows (codes "input")
name_number rows (Output k) = number_of rows (codes "output")

-- what is known of an item that belongs to the module of the file `module_file`, and that an
-- augment of a module gives or none
abbrev pub label_of : List Row → (module_file : ℕ) → Origin → (given : Bool) → Label
label_of rows module_file origin given =
    record {
      kind = kind_of rows origin;
      name = qualified_name module_file (unwrap_or (name_number rows origin) 0);
      given = given;
    }
