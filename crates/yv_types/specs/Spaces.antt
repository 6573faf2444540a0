-- The plain types of type statements, typedefs followed and unions opened in order (RFC 7950,
-- sections 7.3, 9.6, 9.7, 9.9,
-- 9.10 and 9.12).
use Rattle.std.specs.Prelude.{◌≡◌, ◌↔◌, ℕ, true, IsTrue, List, [], ◌∷◌, ◌++◌, Some, map, codes, slice_get}
use Rattle.std.specs.List.{list_any}
use Rattle.yv_text_statement.specs.Selection.{ModuleChoice}
use Rattle.yv_link_scopes.specs.Files.{Files, brief_of}
use Rattle.yv_link_scopes.specs.Rows.{Row}
use Rattle.yv_link_scopes.specs.RowList.{rows_of}
use Rattle.yv_type_chains.specs.Types.{Follows, is_kind, is_leafref, is_union, types_in}
use Rattle.yv_base_numbers.specs.declared.numbering.NumberKind.{NumberKind}
use Rattle.yv_base_numbers.specs.declared.numbering.NumberKind.TheVariants.{Enumeration, Bits}
use Rattle.yv_values.specs.Identities.{Id, RiseById, is_identity}
use Rattle.yv_values.specs.NameOrder.{Rises, is_named}
use Rattle.yv_values.specs.Types.{Plain, names, flags, identities}
use Rattle.yv_type_restrictions.specs.Types.{HasPlainType}
use Rattle.yv_type_enums.specs.Types.{Truth, HasNames, NamesView}
use Rattle.yv_type_identities.specs.Values.{HasValue}

-- an enumeration of these names, or bits of these
abbrev pub of_kind : NumberKind → List (List ℕ) → Plain
of_kind Enumeration ns = names ns
of_kind Bits ns = flags ns

mutual
  -- The plain types of type k, where a type that has no plain type of its own and no names has
  -- those of the type that it follows. Names and identities stand in their order, each once, so
  -- that a type has one list. An instance-identifier has none, nor has a union with one in it.
  pub data Space (files : Files) (truth : Truth) (choice : ModuleChoice) : ℕ → List Plain → Type 0 where
    plain_type : {k : ℕ} {p : Plain} → HasPlainType files k p → Space files truth choice k (p ∷ [])
    names_type : {k : ℕ} (told : NamesView) (ns : List (List ℕ)) → HasNames files truth k told
        → Rises ns
        → ((s : List ℕ) → is_named ns s ≡ told.value s)
        → Space files truth choice k (of_kind told.kind ns ∷ [])
    identityref : {k : ℕ} {r : Row} {ids : List Id} → slice_get (rows_of files) k ≡ Some r
        → is_kind (codes "identityref") r ≡ true
        → RiseById ids → ((module_name called : List ℕ)
        → IsTrue (list_any (is_identity module_name called) ids)
        ↔ HasValue truth choice files k module_name called)
        → Space files truth choice k (identities ids ∷ [])
    leafref : {k : ℕ} {r : Row} → slice_get (rows_of files) k ≡ Some r → is_leafref r ≡ true
        → Space files truth choice k []
    union : {k : ℕ} {r : Row} {ps : List Plain} → slice_get (rows_of files) k ≡ Some r
        → is_union r ≡ true
        → Spaces files truth choice (types_in (rows_of files) k) ps → Space files truth choice k ps
    through_typedef : {k j : ℕ} {ps : List Plain} → Follows (map brief_of files) (rows_of files) k j
        → ((p : Plain) → HasPlainType files k p → ⊥)
        → ((told : NamesView) → HasNames files truth k told → ⊥) → Space files truth choice j ps
        → Space files truth choice k ps

  -- those of several types, one after the other
  pub data Spaces (files : Files) (truth : Truth) (choice : ModuleChoice) : List ℕ → List Plain
      → Type 0 where
    none : Spaces files truth choice [] []
    more : {m : ℕ} {ms : List ℕ} {ps qs rs : List Plain} → Space files truth choice m ps
        → Spaces files truth choice ms qs → rs ≡ ps ++ qs
        → Spaces files truth choice (m ∷ ms) rs
