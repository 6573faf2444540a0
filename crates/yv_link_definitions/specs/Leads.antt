-- Which typedefs and groupings lead to which.
use Rattle.std.specs.Prelude.{◌≡◌, ℕ, not, Bool, true, false, List, length, Some, slice_get}
use Rattle.yv_base_graph.specs.Graph.{IsOrderBy}
use Rattle.yv_link_scopes.specs.Files.{Briefs}
use Rattle.yv_link_scopes.specs.Rows.{Row}
use Rattle.yv_link_scopes.specs.declared.kind.NameKind.{NameKind}
use Rattle.yv_link_scopes.specs.declared.kind.NameKind.TheVariants.{Typedef, Grouping}
use Rattle.yv_link_definitions.specs.Duplicates.{is_of}
use Rattle.yv_link_definitions.specs.Refers.{Refers, is_type}

-- A type may be in the type of a union, as one of its members (RFC 7950, section 9.12), and a uses
-- in anything that isn't a grouping itself.
abbrev pub is_between : NameKind → Row → Bool
is_between Typedef s = is_type s
is_between Grouping s = not (is_of Grouping s)
is_between kind s = false

-- the numbered statement counts for definition d: it is in its block, or in a block between
pub data CountsFor (rows : List Row) (kind : NameKind) : ℕ → ℕ → Type 0 where
  directly : {k d : ℕ} {r s : Row} → slice_get rows k ≡ Some r → r.scope ≡ d
      → slice_get rows d ≡ Some s → is_of kind s ≡ true
      → CountsFor rows kind k d
  further : {k b d : ℕ} {r s : Row} → slice_get rows k ≡ Some r → r.scope ≡ b
      → slice_get rows b ≡ Some s → is_between kind s ≡ true
      → CountsFor rows kind b d → CountsFor rows kind k d

-- the numbered statement counts for definition a and means definition b
abbrev pub Joins : Briefs → List Row → ℕ → ℕ → ℕ → Type 0
Joins files rows k a b = (kind : NameKind) × CountsFor rows kind k a × Refers files rows kind k b

-- a typedef leads to what the types in it mean, a grouping to what the uses in it mean, and both to
-- all that these lead to (RFC 7950, sections 7.3 and 7.12)
pub data LeadsTo (files : Briefs) (rows : List Row) : ℕ → ℕ → Type 0 where
  by_step : {k a b : ℕ} → Joins files rows k a b → LeadsTo files rows a b
  by_way : {k a b c : ℕ} → Joins files rows k a b → LeadsTo files rows b c → LeadsTo files rows a c

-- all statements, each once and after all that it leads to
abbrev pub IsOrderOf : Briefs → List Row → List ℕ → Type 0
IsOrderOf files rows order = IsOrderBy (LeadsTo files rows) (length rows) order
