-- Files that conform, and what may be below their statements (RFC 7950, section 7).
use Rattle.std.specs.Prelude.{◌≡◌, ℕ, ◌||◌, Bool, List, [], ◌∷◌, Some, codes, slice_get}
use Rattle.yv_text_statement.specs.Tree.{Tree}
use Rattle.yv_text_grammar.specs.Fits.{Fits}
use Rattle.yv_text_grammar.specs.declared.xpath.Xpath.TheVariants.{Skip}
use Rattle.yv_text_statement.specs.Words.{is_among}
use Rattle.yv_link_scopes.specs.Files.{Files}
use Rattle.yv_link_scopes.specs.Rows.{Row}
use Rattle.yv_expand_statements.specs.Units.{nodes, operations}

-- each file conforms, where conditions are skipped
abbrev pub Conform : Files → Type 0
Conform files = (n : ℕ) (root : Tree) → slice_get files n ≡ Some root → Fits Skip root

-- a leaf, leaf-list, anydata or anyxml: no schema node is below one
abbrev pub lowest : List (List ℕ)
lowest = codes "leaf" ∷ codes "leaf-list" ∷ codes "anydata" ∷ codes "anyxml" ∷ []

-- the statement gives one
abbrev pub is_lowest : Row → Bool
is_lowest r = is_among lowest r.head.keyword

-- the statement gives a schema node, or is a uses
abbrev pub gives_nodes : Row → Bool
gives_nodes r = is_among nodes r.head.keyword || is_among operations r.head.keyword
