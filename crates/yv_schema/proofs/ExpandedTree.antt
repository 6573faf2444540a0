-- What the final tree of files shows, and what is refused of their expansion.
use Rattle.std.proofs.Common.{◌≡◌, ℕ, ◌<◌, ◌≤◌, inl, inr, Some, None, refl, ap, ◌∙◌, arith}
use Rattle.std.specs.Prelude.{Result, IfOk, OnOk, Ok, Err}
use Rattle.std.proofs.lemmas.Option.{slice_get_within}
use Rattle.yv_text_statement.specs.Codes.{phase_of}
use Rattle.yv_text_statement.specs.declared.refusal.Refusal.{Refusal}
use Rattle.yv_text_statement.specs.Order.{IsLeast}
use Rattle.yv_text_statement.specs.Selection.{ModuleChoice}
use Rattle.yv_text_statement.proofs.Least.{least_same}
use Rattle.yv_link_scopes.specs.Files.{Files}
use Rattle.yv_link_features.specs.Refusals.{BadFeatures}
use Rattle.yv_link.specs.declared.linked_files.Linked.{Linked}
use Rattle.yv_link_definitions.specs.declared.meaning_table.Names.{Names}
use Rattle.yv_expand_statements.specs.FileOrder.{marks_of, order_of}
use Rattle.yv_expand_statements.specs.Truth.{IsTruth, Truth}
use Rattle.yv_expand_definition.specs.Gives.{Wrong}
use Rattle.yv_expand_definition.specs.Refusals.{BadExpanded}
use Rattle.yv_expand_tree.specs.FinalTree.{AreKept, FinalTreeView}
use Rattle.yv_expand_tree.specs.Refusals.{BadExpansion}
use Rattle.yv_text_grammar.specs.declared.xpath.Xpath.TheVariants.{Refuse}
use Rattle.yv_schema.proofs.RequiredLinks.{SkippingSpares}
use Rattle.yv_expand_laws.specs.Conformance.{AreAccepted, ConformingRefusalsAreOne, NoFileIsBad}
use Rattle.yv_expand_laws.specs.Files.{HaveRoots}
use Rattle.yv_expand_laws.specs.LeftSchema.{LeftIsSchema}
use Rattle.yv_expand_laws.specs.StatementItems.{AreSound}
use Rattle.yv_expand_laws.proofs.RefusedKinds.{IsOfEither, refused_is}
use Rattle.yv_schema.specs.InnerPhases.{AreNamed, ShowsTree}
use Rattle.yv_schema.specs.Refusals.{in_file}
use Rattle.yv_schema.specs.Refuses.{RefusesExpansion}

-- what is refused of the expansion has the phases 7 and 8
either_phase : (w : Wrong) → IsOfEither w → phase_of w.code ≡ 8
either_phase w (inl (inl is)) = ap phase_of is
either_phase w (inl (inr is)) = ap phase_of is
either_phase w (inr (inl is)) = ap phase_of is
either_phase w (inr (inr is)) = ap phase_of is

expanded_phase : (choice : ModuleChoice) (files : Files) (f : Refusal) → BadExpanded choice files f → phase_of f.code ≡ 8
expanded_phase choice files f h = ap (λ (r : Refusal). phase_of r.code) h.is ∙ elim h.is_wrong [
  | inl there ↦ either_phase h.wrong (refused_is files (marks_of choice files) (order_of choice files) h.made h.expand h.wrong there)
  | inr x ↦ elim x [ inl imposes ↦ ap phase_of imposes.0 | inr deep ↦ ap phase_of deep.0 ]
]

pub expansion_phase : (choice : ModuleChoice) (files : Files) (limit : ℕ) (f : Refusal) → RefusesExpansion choice files limit f
    → (6 < phase_of f.code) × (phase_of f.code ≤ 8)
expansion_phase choice files limit f (inl h) =
    let e : phase_of f.code ≡ 7 = ap (λ (r : Refusal). phase_of r.code) h.4.1 in (omega (arith, e), omega (arith, e))
expansion_phase choice files limit f (inr h) = let e : phase_of f.code ≡ 8 = expanded_phase choice files f h in (omega (arith, e), omega (arith, e))

-- what holds where an answer is given follows from what else does
pub on_ok_from : {A E : Type 0} {P : A → Type 0} {C Q : Type 0} (r : Result A E) → IfOk r P → OnOk r C → ((a : A) → P a → C → Q) → OnOk r Q
on_ok_from (Ok a) p c to = to a p c
on_ok_from (Err e) p c to = tt

-- what laws say of files that conform, and of the items of their final tree
pub record TreeLaws : Type 0 where
  pub skipping : SkippingSpares
  pub left_is_schema : (files : Files) → LeftIsSchema files
  pub sound : (files : Files) → AreAccepted files → AreSound files
  pub roots : (files : Files) → NoFileIsBad files → HaveRoots files
  pub refusals : (files : Files) → ConformingRefusalsAreOne files

module _ (laws : TreeLaws) (choice : ModuleChoice) (files : Files) (linked : Linked) (names : Names) (named : AreNamed choice files linked names) where
  accepted : AreAccepted files
  accepted = record {
    each = λ n t at f bad. named.clear.own (in_file n f) (n, slice_get_within files n t at, t, at, record { own = f; stands = laws.skipping Refuse t f bad; is = refl });
    names = named.fine;
    few = named.clear.statements;
  }

  features : IsLeast (BadFeatures files) None
  features f h = named.clear.links f (inr (inl h))

  -- the nodes that are left are those of the definition
  pub shows_tree : (truth : Truth) (tree : FinalTreeView) → IsTruth files choice truth → AreKept choice files truth tree → ShowsTree choice files truth tree
  shows_tree truth tree is kept =
      let r = laws.left_is_schema files choice truth kept.final kept.nodes (laws.sound files accepted) (laws.roots files accepted.each) features is kept.is_final kept.are_left in
      record { kept = kept; its = r.0; told = r.1; are_nodes = r.2 }

  -- nothing is refused of the expansion where there is a final tree
  pub none_refused : (truth : Truth) (tree : FinalTreeView) (limit : ℕ) → AreKept choice files truth tree → IsLeast (BadExpansion choice files limit) None
      → IsLeast (RefusesExpansion choice files limit) None
  none_refused truth tree limit kept none f (inl h) = none f (inl h)
  none_refused truth tree limit kept none f (inr h) = none f (inr ((laws.refusals files choice kept.final f accepted kept.is_final).1 h))

  -- and the least refusal is that of the expansion
  pub one_refused : (limit : ℕ) (r : Refusal) → IsLeast (BadExpansion choice files limit) (Some r) → IsLeast (RefusesExpansion choice files limit) (Some r)
  one_refused limit r (inl many, least) = (
    inl many,
    λ s h. elim h [
      | inl x ↦ least s (inl x)
      | inr y ↦
          let first : phase_of r.code ≡ 7 = ap (λ (r : Refusal). phase_of r.code) many.4.1 in
          let later : phase_of s.code ≡ 8 = expanded_phase choice files s y in
          inl (omega (arith, first, later))
    ],
  )
  one_refused limit r (inr bad, least) =
      least_same (BadExpansion choice files limit) (RefusesExpansion choice files limit) (Some r) to from (inr bad, least)
    where
      to : (f : Refusal) → BadExpansion choice files limit f → RefusesExpansion choice files limit f
      to f (inl h) = inl h
      to f (inr h) = inr ((laws.refusals files choice bad.final f accepted bad.is_final).0 h)

      from : (f : Refusal) → RefusesExpansion choice files limit f → BadExpansion choice files limit f
      from f (inl h) = inl h
      from f (inr h) = inr ((laws.refusals files choice bad.final f accepted bad.is_final).1 h)
