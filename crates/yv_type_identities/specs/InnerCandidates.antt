-- Only private clauses cite this: the identities that are values wherever they are derived from the
-- bases.
use Rattle.std.specs.Prelude.{◌≡◌, ℕ, Bool, true, ◌&&◌, not, List, map, Some, slice_get}
use Rattle.std.specs.BTreeSet.{BTreeSet, contains}
use Rattle.std.specs.Ordering.{nat_cmp}
use Rattle.std.specs.Rc.{rc_str_bytes}
use Rattle.std.specs.declared.alloc.Global.{Global}
use Rattle.std.specs.declared.rc.RcStr.{RcStr}
use Rattle.yv_text_statement.specs.Selection.{ModuleChoice}
use Rattle.yv_link_scopes.specs.Files.{Files, Briefs, brief_of}
use Rattle.yv_link_scopes.specs.RowList.{rows_of}
use Rattle.yv_link_scopes.specs.Rows.{Row, name_in}
use Rattle.yv_link_features.specs.On.{module_name_in, is_if_feature_of}
use Rattle.yv_link_identities.specs.Names.{is_identity}
use Rattle.yv_link_identities.specs.References.{ref_of}
use Rattle.yv_values.specs.Identities.{id_of}
use Rattle.yv_type_identities.specs.Values.{Truth, IsOn, names_implemented, id_at}
use Rattle.yv_type_identities.specs.InnerBases.{IsBelowKey}
use Rattle.yv_type_identities.specs.declared.candidates.Candidate.{Candidate}

-- a statement is a condition of the numbered one, and it doesn't hold
abbrev pub fails : Truth → ℕ → Row → Bool
fails truth number s = is_if_feature_of number s && not (truth s.file (name_in s))

-- the names of the modules to which files belong
abbrev pub AreModuleNames : Briefs → List (RcStr Global) → Type 0
AreModuleNames files module_files = (k : ℕ) (h : RcStr Global) → slice_get module_files k ≡ Some h
    → rc_str_bytes h ≡ module_name_in (slice_get files k)

-- all that is asked of a numbered statement
abbrev pub passes : ModuleChoice → Briefs → BTreeSet ℕ → ℕ → Row → Bool
passes choice files off number r =
    is_identity r && (names_implemented choice files (id_at files r).module_name
    && not (contains nat_cmp off number))

-- the numbered statement r is an identity of an implemented module, and on
pub record IsCandidate (truth : Truth) (choice : ModuleChoice) (files : Files) (number : ℕ)
    (r : Row) : Type 0 where
  pub identity : is_identity r ≡ true
  pub implemented : names_implemented choice (map brief_of files)
      (id_at (map brief_of files) r).module_name ≡ true
  pub on : IsOn truth (rows_of files) number

-- a candidate is the statement
pub record IsOf (files : Briefs) (r : Row) (c : Candidate) : Type 0 where
  pub place : c.identity ≡ ref_of r
  pub name : id_of c.member ≡ id_at files r

-- these are all such statements
pub record AreCandidates (truth : Truth) (choice : ModuleChoice) (files : Files)
    (cs : List Candidate) : Type 0 where
  pub sound : (k : ℕ) (c : Candidate) → slice_get cs k ≡ Some c
      → (number : ℕ) × (r : Row) × (slice_get (rows_of files) number ≡ Some r)
      × IsCandidate truth choice files number r × IsOf (map brief_of files) r c
  pub full : (number : ℕ) (r : Row) → slice_get (rows_of files) number ≡ Some r
      → IsCandidate truth choice files number r
      → (k : ℕ) × (c : Candidate) × (slice_get cs k ≡ Some c) × IsOf (map brief_of files) r c

-- this module has an identity of this name that is a value of a type with these bases
abbrev pub HasKeyValue : Truth → ModuleChoice → Files → List (ℕ × ℕ) → List ℕ → List ℕ → Type 0
HasKeyValue truth choice files key module_name called =
    (number : ℕ) × (r : Row) × (slice_get (rows_of files) number ≡ Some r)
    × IsCandidate truth choice files number r
    × IsBelowKey (map brief_of files) (rows_of files) key (ref_of r)
    × (id_at (map brief_of files) r ≡ record { module_name = module_name; name = called })
