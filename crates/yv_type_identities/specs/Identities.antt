-- What is known of what was read for identityref types.
use Rattle.std.specs.Prelude.{◌≡◌, ◌↔◌, ℕ, List, IsTrue, Some, map, slice_get}
use Rattle.std.specs.List.{list_any}
use Rattle.yv_text_statement.specs.Selection.{ModuleChoice}
use Rattle.yv_link_scopes.specs.Files.{Files, brief_of}
use Rattle.yv_link_scopes.specs.RowList.{rows_of}
use Rattle.yv_link_identities.specs.References.{is_at}
use Rattle.yv_link_identities.specs.declared.references.IdentityRef.{IdentityRef}
use Rattle.yv_link.specs.LinkedFiles.{AreLinked, truth_in}
use Rattle.yv_link.specs.declared.linked_files.Linked.{Linked}
use Rattle.yv_values.specs.Identities.{Id, is_identity}
use Rattle.yv_type_identities.specs.Bases.{NamesBase}
use Rattle.yv_type_identities.specs.InnerBases.{bases_at}
use Rattle.yv_type_identities.specs.InnerCandidates.{AreCandidates, HasKeyValue}
use Rattle.yv_type_identities.specs.InnerRuns.{AreShared}
use Rattle.yv_type_identities.specs.declared.shared_members.SharedMembers.{SharedMembers}
use Rattle.yv_type_identities.specs.declared.identities.KeyMembers.{KeyMembers}
use Rattle.yv_type_identities.specs.declared.identities.IdentityLists.{IdentityLists}

-- these are the identities that are values of a type with these bases
abbrev pub IsFound : Linked → List (ℕ × ℕ) → List Id → Type 0
IsFound linked key members = (files : Files) (choice : ModuleChoice) → AreLinked files choice linked
    → (module_name called : List ℕ) → IsTrue (list_any (is_identity module_name called) members)
    ↔ HasKeyValue (truth_in linked) choice files key module_name called

-- this was read of these linked files; how, only the readers ask
pub record AreIdentities (linked : Linked) (identities : IdentityLists) : Type 0 where
  pub bases : (files : Files) (choice : ModuleChoice) → AreLinked files choice linked
      → (block : ℕ) (base : IdentityRef)
      → IsTrue (list_any (is_at base) (bases_at identities.bases.items block))
      ↔ NamesBase (map brief_of files) (rows_of files) block base
  pub candidates : (files : Files) (choice : ModuleChoice) → AreLinked files choice linked
      → AreCandidates (truth_in linked) choice files identities.candidates.list.items
  pub shared : (s : SharedMembers) → identities.shared ≡ Some s
      → AreShared linked identities.candidates.list.items s
  pub found : (k : ℕ) (f : KeyMembers) → slice_get identities.found.items k ≡ Some f
      → IsFound linked f.key.items f.members
