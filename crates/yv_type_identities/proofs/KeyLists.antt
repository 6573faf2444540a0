-- The lists that were made for keys.
use Rattle.std.proofs.Common.{◌≡◌, ◌↔◌, ℕ, ◌++◌, ◌∷◌, [], ◌==◌, ◌&&◌, inl, inr, true, IsTrue, List, Option, Some, length, get_or, map, refl, sym, ◌∙◌, ap, subst, ◌<◌, eqb-true, eq-eqb}
use Rattle.std.specs.Bool.{Decides}
use Rattle.std.specs.List.{slice_get, list_any}
use Rattle.std.proofs.lemmas.Option.{slice_get_read}
use Rattle.yv_text_statement.specs.Selection.{ModuleChoice}
use Rattle.yv_link_scopes.specs.Files.{Files, brief_of}
use Rattle.yv_link_scopes.specs.RowList.{rows_of}
use Rattle.yv_link_identities.specs.declared.references.IdentityRef.{IdentityRef}
use Rattle.yv_link.specs.LinkedFiles.{AreLinked, truth_in}
use Rattle.yv_link.specs.declared.linked_files.Linked.{Linked}
use Rattle.yv_values.specs.Identities.{Id, id_of, is_identity}
use Rattle.yv_type_identities.specs.InnerBases.{IsBelowKey}
use Rattle.yv_type_identities.specs.InnerSets.{is_left}
use Rattle.yv_type_identities.specs.Identities.{AreIdentities, IsFound}
use Rattle.yv_type_identities.specs.declared.candidates.Candidate.{Candidate}
use Rattle.yv_type_identities.specs.declared.identities.IdentityLists.{IdentityLists}
use Rattle.yv_type_identities.specs.declared.sets.References.{References}
use Rattle.yv_type_identities.specs.declared.identities.KeyMembers.{KeyMembers}
use Rattle.yv_type_identities.proofs.StatementCandidates.{get_behind}
use Rattle.yv_type_identities.proofs.ValuesByKey.{key_values, through}
use Rattle.yv_type_identities.proofs.RowLoop.{both, both_true}

abbrev pub AllFound : Linked → List KeyMembers → Type 0
AllFound linked fs = (k : ℕ) (f : KeyMembers) → slice_get fs k ≡ Some f → IsFound linked f.key.items f.members

-- one list more
pub one_found : (linked : Linked) (old new : List KeyMembers) (f : KeyMembers) → new ≡ old ++ f ∷ [] → IsFound linked f.key.items f.members → AllFound linked old → AllFound linked new
one_found linked old new f more is before k g at = elim (get_behind old f g k (sym (ap (λ (xs : List KeyMembers). slice_get xs k) more) ∙ at)) [
  | inl earlier ↦ before k g earlier
  | inr same ↦ subst (λ (x : KeyMembers). IsFound linked x.key.items x.members) same is
]

pub same_pair : (a b : ℕ × ℕ) → a.0 ≡ b.0 → a.1 ≡ b.1 → a ≡ b
same_pair a b e f = λ i. (e i, f i)

pub pair_decides : (a b : ℕ × ℕ) → Decides ((a.0 == b.0) && (a.1 == b.1)) (a ≡ b)
pair_decides a b = (
  λ h. let p = both (a.0 == b.0) (a.1 == b.1) h in same_pair a b (eqb-true a.0 b.0 p.0) (eqb-true a.1 b.1 p.1),
  λ e. both_true (a.0 == b.0) (a.1 == b.1) (eq-eqb a.0 b.0 (ap (λ (x : ℕ × ℕ). x.0) e)) (eq-eqb a.1 b.1 (ap (λ (x : ℕ × ℕ). x.1) e)),
)

-- a list that was made for a key, and is read again
pub again_found : (linked : Linked) (fs own : List KeyMembers) (f : KeyMembers) (k : ℕ) (key other : List (ℕ × ℕ)) (copy : List Id) → own ≡ fs → k < length own → f ≡ get_or own k f → other ≡ f.key.items → other ≡ key → copy ≡ f.members → AllFound linked fs → IsFound linked key copy
again_found linked fs own f k key other copy same within at is one copied all =
    let here : slice_get fs k ≡ Some f = ap (λ (xs : List KeyMembers). slice_get xs k) (sym same) ∙ slice_get_read own (length own) k f refl within at in
    subst (λ (ks : List (ℕ × ℕ)). IsFound linked ks copy) (sym is ∙ one) (subst (IsFound linked f.key.items) (sym copied) (all k f here))

-- a list that is made for a key
pub new_found : (linked : Linked) (ids : IdentityLists) → AreIdentities linked ids → (left : Option References) (key own : List (ℕ × ℕ)) (members : List Id) → own ≡ key
    → ((files : Files) (choice : ModuleChoice) → AreLinked files choice linked → (place : IdentityRef) → IsTrue (is_left left place) ↔ IsBelowKey (map brief_of files) (rows_of files) own place)
    → ((module_name called : List ℕ) → IsTrue (list_any (is_identity module_name called) members)
    ↔ ((k : ℕ) × (c : Candidate) × (slice_get ids.candidates.list.items k ≡ Some c) × (is_left left c.identity ≡ true) × (id_of c.member ≡ record { module_name = module_name; name = called })))
    → IsFound linked key members
new_found linked ids are left key own members f below same files choice t module_name called =
    through (same module_name called)
    (key_values (truth_in linked) choice files ids.candidates.list.items key left module_name called (are.candidates files choice t)
    (subst (λ (ks : List (ℕ × ℕ)). (place : IdentityRef) → IsTrue (is_left left place) ↔ IsBelowKey (map brief_of files) (rows_of files) ks place) f (below files choice t)))
