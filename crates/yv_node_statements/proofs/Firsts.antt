-- The types of a block, by the first of its `type` statements.
use Rattle.std.proofs.Common.{◌≡◌, ℕ, List, [], cond, Option, Some, None, refl}
use Rattle.yv_text_statement.specs.Tree.{Tree, Forest, End, Then}
use Rattle.yv_text_statement.specs.declared.keyword.Keyword.{Keyword}
use Rattle.yv_text_statement.specs.declared.keyword.Keyword.TheVariants as word
use Rattle.yv_text_statement.specs.Keywords.{keyword_of, same}
use Rattle.yv_values.specs.Types.{Plain}
use Rattle.yv_node_statements.specs.Kinds.{Kinds}
use Rattle.yv_node_statements.specs.Definitions.{types_at, types_in}
use Rattle.yv_node_properties.specs.Statements.{first_of}

module _ (kinds : Kinds) (file : ℕ) where
  -- the types that a statement means; none, where there is no statement
  abbrev pub types_found : Option Tree → List Plain
  types_found None = []
  types_found (Some t) = kinds file t.head.offset

  found_at : (k : Keyword) (t : Tree) (others : List Plain) (found : Option Tree) → others ≡ types_found found
      → types_at kinds file k t.head others ≡ types_found (cond (same k word.Type) (Some t) found)
  found_at word.Type t others found e = refl
  found_at _ t others found e = e

  -- they are those of the first `type` statement
  pub types_in-first : (f : Forest) → types_in kinds file f ≡ types_found (first_of word.Type f)
  types_in-first End = refl
  types_in-first (Then h c o) =
      found_at (keyword_of h.keyword) (record { head = h; children = c }) (types_in kinds file o) (first_of word.Type o) (types_in-first o)
