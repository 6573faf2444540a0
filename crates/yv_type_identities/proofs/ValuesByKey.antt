-- The values of a type, by the key of its bases.
use Rattle.std.proofs.Common.{◌≡◌, ℕ, ◌↔◌, true, IsTrue, List, Option, Some, map, sym, ◌∙◌, subst}
use Rattle.std.specs.List.{slice_get, list_any}
use Rattle.yv_text_statement.specs.Selection.{ModuleChoice}
use Rattle.yv_link_scopes.specs.Files.{Files, brief_of}
use Rattle.yv_link_scopes.specs.RowList.{rows_of}
use Rattle.yv_link_identities.specs.References.{is_at}
use Rattle.yv_link_identities.specs.declared.references.IdentityRef.{IdentityRef}
use Rattle.yv_values.specs.Identities.{id_of}
use Rattle.yv_type_identities.specs.Bases.{NamesBase}
use Rattle.yv_type_identities.specs.Values.{Truth, HasValue}
use Rattle.yv_type_identities.specs.InnerBases.{IsBelowKey}
use Rattle.yv_type_identities.specs.InnerCandidates.{AreCandidates, HasKeyValue}
use Rattle.yv_type_identities.specs.InnerSets.{is_key, is_left}
use Rattle.yv_type_identities.specs.declared.candidates.Candidate.{Candidate}
use Rattle.yv_type_identities.specs.declared.sets.References.{References}

module _ (truth : Truth) (choice : ModuleChoice) (files : Files) where
  -- the candidates that are left are the values of the key
  pub key_values : (cs : List Candidate) (key : List (ℕ × ℕ)) (left : Option References) (module_name called : List ℕ) → AreCandidates truth choice files cs
      → ((place : IdentityRef) → IsTrue (is_left left place) ↔ IsBelowKey (map brief_of files) (rows_of files) key place)
      → ((k : ℕ) × (c : Candidate) × (slice_get cs k ≡ Some c) × (is_left left c.identity ≡ true) × (id_of c.member ≡ record { module_name = module_name; name = called }))
      ↔ HasKeyValue truth choice files key module_name called
  key_values cs key left module_name called all below = (
    λ h.
        let s = all.sound h.0 h.1 h.2 in
        (s.0, s.1, s.2, s.3, subst (IsBelowKey (map brief_of files) (rows_of files) key) s.4.place ((below h.1.identity).0 h.3), sym s.4.name ∙ h.4),
    λ h.
        let f = all.full h.0 h.1 h.2 h.3 in
        (f.0, f.1, f.2, (below f.1.identity).1 (subst (IsBelowKey (map brief_of files) (rows_of files) key) (sym f.3.place) h.4), f.3.name ∙ h.5),
  )

  -- the values of a type are those of the key of its bases
  pub type_values : (kind : ℕ) (bases : List IdentityRef) (key : List (ℕ × ℕ)) (module_name called : List ℕ)
      → ((base : IdentityRef) → IsTrue (list_any (is_at base) bases) ↔ NamesBase (map brief_of files) (rows_of files) kind base)
      → ((place : IdentityRef) → list_any (is_key place) key ≡ list_any (is_at place) bases)
      → HasKeyValue truth choice files key module_name called ↔ HasValue truth choice files kind module_name called
  type_values kind bases key module_name called named same = (
    λ h. (
      h.0,
      h.1,
      h.2,
      record {
        identity = h.3.identity;
        derived = λ base n. h.4 base (same base ∙ (named base).1 n);
        implemented = h.3.implemented;
        on = h.3.on;
      },
      h.5,
    ),
    λ h. (
      h.0,
      h.1,
      h.2,
      record { identity = h.3.identity; implemented = h.3.implemented; on = h.3.on },
      λ base k. h.3.derived base ((named base).0 (sym (same base) ∙ k)),
      h.4,
    ),
  )

pub through : {A B C : Type 0} → A ↔ B → B ↔ C → A ↔ C
through p q = (λ a. q.0 (p.0 a), λ c. p.1 (q.1 c))
