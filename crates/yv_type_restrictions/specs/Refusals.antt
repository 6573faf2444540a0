-- What is wrong with the ranges, lengths and patterns of types (RFC 7950, sections 9.2.4, 9.3.4,
-- 9.4.4, 9.4.5 and 9.8.1).
use Rattle.std.specs.Prelude.{ℕ, length}
use Rattle.yv_text_statement.specs.Order.{Among}
use Rattle.yv_text_statement.specs.Tree.{Tree}
use Rattle.yv_text_statement.specs.declared.refusal.Refusal.{Refusal}
use Rattle.yv_link_scopes.specs.Files.{Files}
use Rattle.yv_link_scopes.specs.Rows.{Row}
use Rattle.yv_link_scopes.specs.RowList.{rows_of}
use Rattle.yv_values.specs.Types.{Plain}
use Rattle.yv_type_restrictions.specs.FacetRefusals.{BadFacets}
use Rattle.yv_type_restrictions.specs.Types.{StartsFrom}

-- what is wrong with the restrictions of type k, by what it narrows
abbrev pub BadNarrowing : Files → ℕ → Row → Refusal → Type 0
BadNarrowing files k r f =
    (t : Tree) × (p : Plain) × StartsFrom files k t p × BadFacets r.file t p f

-- what is wrong with the restrictions of one of the types
abbrev pub BadFaceted : Files → Refusal → Type 0
BadFaceted files f = Among (rows_of files) (BadNarrowing files) (length (rows_of files)) f
