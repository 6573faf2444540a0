-- Only private clauses cite this: one type, and the types so far.
use Rattle.std.specs.Prelude.{◌≡◌, ◌↔◌, ℕ, ⊤, List, Option, Some, map, slice_get}
use Rattle.std.specs.List.{Contains}
use Rattle.yv_base_tables.specs.declared.table.Table.{Table}
use Rattle.yv_text_statement.specs.Order.{IsLeast}
use Rattle.yv_text_statement.specs.Tree.{Tree}
use Rattle.yv_text_statement.specs.declared.refusal.Refusal.{Refusal}
use Rattle.yv_text_statement.specs.declared.refusal.Stop.{Stop}
use Rattle.yv_text_statement.specs.declared.refusal.Stop.TheVariants.{Fault, PatternBuild, NoMemory}
use Rattle.yv_link_scopes.specs.Files.{Files, brief_of}
use Rattle.yv_link_scopes.specs.Rows.{Row}
use Rattle.yv_link_scopes.specs.RowList.{rows_of}
use Rattle.yv_type_chains.specs.Types.{Follows}
use Rattle.yv_values.specs.Types.{Plain}
use Rattle.yv_values.specs.declared.plain.PlainType.{PlainType}
use Rattle.yv_type_restrictions.specs.Facets.{Narrows}
use Rattle.yv_type_restrictions.specs.FacetRefusals.{BadFacets}
use Rattle.yv_type_restrictions.specs.Types.{HasPlainType}
use Rattle.yv_type_restrictions.specs.Refusals.{BadNarrowing}
use Rattle.yv_type_restrictions.specs.InnerTables.{plain_at}

-- What is left of the plain type, if there is one, that a type statement narrows, and the least
-- that is wrong with its restrictions.
pub record IsLeft (file : ℕ) (t : Tree) (base plain : Option Plain)
    (fault : Option Refusal) : Type 0 where
  pub left : (q : Plain) → (plain ≡ Some q) ↔ ((p : Plain) × (base ≡ Some p) × Narrows t p q)
  pub least : IsLeast (λ f. (p : Plain) × (base ≡ Some p) × BadFacets file t p f) fault

-- what is wrong with the restrictions of the numbered statement
abbrev pub BadAt : Files → ℕ → Refusal → Type 0
BadAt files k f = (r : Row) × (slice_get (rows_of files) k ≡ Some r) × BadNarrowing files k r f

-- this is the plain type of the numbered statement, and the least that is wrong with its
-- restrictions
pub record IsStep (files : Files) (k : ℕ) (plain : Option Plain)
    (fault : Option Refusal) : Type 0 where
  pub exact : (q : Plain) → (plain ≡ Some q) ↔ HasPlainType files k q
  pub least : IsLeast (BadAt files k) fault

-- the table has the plain types of those
abbrev pub AreKnown : Files → (ℕ → Type 0) → Table PlainType → Type 0
AreKnown files Those types =
    (k : ℕ) → Those k → (p : Plain) → (plain_at types k ≡ Some p) ↔ HasPlainType files k p

-- what type k follows
abbrev pub IsFollowed : Files → ℕ → ℕ → Type 0
IsFollowed files k j = Follows (map brief_of files) (rows_of files) k j

-- what is wrong with the restrictions of one of those
abbrev pub BadAmong : Files → List ℕ → Refusal → Type 0
BadAmong files ks f = (k : ℕ) × Contains ks k × BadAt files k f

-- the table has the plain types of these numbers, and no others
abbrev pub AreTold : Files → List ℕ → Table PlainType → Type 0
AreTold files ks types =
    (k : ℕ) (p : Plain) → (plain_at types k ≡ Some p) ↔ (Contains ks k × HasPlainType files k p)
