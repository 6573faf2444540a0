-- Statements that define nothing and mean no definition: nothing is wrong with their names.
use Rattle.std.proofs.Common.{◌≡◌, ℕ, ◌↔◌, ◌&&◌, false, not, IsTrue, List, None, refl, sym, ◌∙◌, ap}
use Rattle.std.proofs.lemmas.Bool.{false≢true}
use Rattle.yv_text_statement.specs.Order.{IsLeast, refusal_at}
use Rattle.yv_text_statement.specs.declared.refusal.Code.TheVariants as code
use Rattle.yv_link_scopes.specs.Files.{Briefs}
use Rattle.yv_link_scopes.specs.Rows.{Row, name_in}
use Rattle.yv_link_scopes.specs.declared.kind.NameKind.{NameKind}
use Rattle.yv_link_scopes.specs.declared.kind.NameKind.TheVariants.{Typedef, Grouping}
use Rattle.yv_link_definitions.specs.BuiltIn.{is_built_in}
use Rattle.yv_link_definitions.specs.Duplicates.{IsTaken, is_of, kind_defined}
use Rattle.yv_link_definitions.specs.Refers.{IsUnknown, is_type, is_uses, names_definition}
use Rattle.yv_link_definitions.specs.Refusals.{BadRow, IsOnCycle}
use Rattle.yv_link_definitions.proofs.Faulty.{none_last, none_wrong}
use Rattle.yv_link_definitions.proofs.KindsDefined.{neither}
use Rattle.yv_link_definitions.proofs.TakenNames.{taken_none}

module _ (files : Briefs) (rows : List Row) (k : ℕ) (r : Row) where
  unnamed : (kind : NameKind) → names_definition kind r ≡ false → IsTrue false ↔ IsUnknown files rows kind k r
  unnamed kind h = (λ t. absurd (false≢true t), λ u. absurd (false≢true (sym h ∙ u.0)))

  undefined : (kind : NameKind) → is_of kind r ≡ false → IsTrue false ↔ IsOnCycle files rows kind k r
  undefined kind h = (λ t. absurd (false≢true t), λ u. absurd (false≢true (sym h ∙ u.0)))

  pub nothing_wrong : kind_defined r ≡ None → is_type r ≡ false → is_uses r ≡ false → IsLeast (BadRow files rows k r) None
  nothing_wrong none type uses =
      let two = neither r none in
      none_wrong (IsTaken rows k r) false false (refusal_at code.DuplicateName r.file r.head) _ (taken_none rows k r none) refl (λ h.
      none_wrong (IsUnknown files rows Typedef k r) false false (refusal_at code.UnknownType r.file r.head) _ (unnamed Typedef (ap (λ b. b && not (is_built_in (name_in r))) type)) refl (λ h.
      none_wrong (IsOnCycle files rows Typedef k r) false false (refusal_at code.TypeCycle r.file r.head) _ (undefined Typedef two.0) refl (λ h.
      none_wrong (IsUnknown files rows Grouping k r) false false (refusal_at code.UnknownGrouping r.file r.head) _ (unnamed Grouping uses) refl (λ h.
      none_last (IsOnCycle files rows Grouping k r) false (refusal_at code.GroupingCycle r.file r.head) (undefined Grouping two.1) refl))))
