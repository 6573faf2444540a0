-- The phases of what is wrong with the final tree, and the least of it.
use Rattle.std.proofs.Common.{◌≡◌, ℕ, ◌<◌, ◌≤◌, inl, inr, Option, Some, None, Bool, List, refl, ap, arith}
use Rattle.yv_text_statement.specs.Codes.{phase_of}
use Rattle.yv_text_statement.specs.declared.refusal.Code.{Code}
use Rattle.yv_text_statement.specs.declared.refusal.Refusal.{Refusal}
use Rattle.yv_text_statement.specs.Order.{IsLeast}
use Rattle.yv_text_statement.proofs.Least.{least_lesser}
use Rattle.yv_text_statement.specs.Selection.{ModuleChoice}
use Rattle.yv_link_scopes.specs.Files.{Files}
use Rattle.yv_link_scopes.specs.Rows.{Row}
use Rattle.yv_link_scopes.specs.RowList.{rows_of}
use Rattle.yv_expand_statements.specs.Limit.{TooMany}
use Rattle.yv_expand_rounds.specs.Tree.{Tree, none, item}
use Rattle.yv_expand_augments.specs.Refusals.{RefusesIf}
use Rattle.yv_expand_augments.specs.MandatoryNodes.{Around, ImposesMandatory, MarksView, inside, nothing_around}
use Rattle.yv_expand_uses.specs.declared.spot.Spot.{Spot}
use Rattle.yv_expand_changes.specs.Properties.{told_of}
use Rattle.yv_expand_tree.specs.Refusals.{BadAugments, BadExpansion, BadFinal, BadStanding}
use Rattle.yv_expand_tree.specs.Final.{Final, said_of, spots_of}
use Rattle.yv_expand_statements.specs.FileOrder.{marks_of}

many_phase : (files : Files) (marks : List Bool) (limit : ℕ) (f : Refusal) → TooMany files marks limit f → phase_of f.code ≡ 7
many_phase files marks limit f h = ap (λ (r : Refusal). phase_of r.code) h.4.1

refused_phase : (rows : List Row) (c : Code) (P : Type 0) (k : ℕ) (f : Refusal) → RefusesIf rows c P k f → phase_of f.code ≡ phase_of c
refused_phase rows c P k f h = ap (λ (r : Refusal). phase_of r.code) h.2.1

imposed_phase : (rows : List Row) (spots : List Spot) (augments : List ℕ) (told : MarksView) (parent : Option ℕ) (a : Around) (t : Tree) (f : Refusal)
    → ImposesMandatory rows spots augments told parent a t f → phase_of f.code ≡ 8
imposed_phase rows spots augments told parent a none f h = absurd h
imposed_phase rows spots augments told parent a (item i below behind) f (inl h) = refused_phase rows _ _ _ f h.6
imposed_phase rows spots augments told parent a (item i below behind) f (inr (inl h)) =
    imposed_phase rows spots augments told (Some i) (inside spots told i a) below f h
imposed_phase rows spots augments told parent a (item i below behind) f (inr (inr h)) = imposed_phase rows spots augments told parent a behind f h

augments_phase : (files : Files) (t : Final) (f : Refusal) → BadAugments files t f → phase_of f.code ≡ 8
augments_phase files t f (inl (inl h)) = refused_phase (rows_of files) _ _ _ f h.4
augments_phase files t f (inl (inr h)) = refused_phase (rows_of files) _ _ _ f h.4.2.1.4
augments_phase files t f (inr (inl h)) = refused_phase (rows_of files) _ _ _ f h.4.6
augments_phase files t f (inr (inr h)) = imposed_phase (rows_of files) (spots_of files t) t.augments (told_of (said_of files t)) None nothing_around t.tree f h

standing_phase : (files : Files) (t : Final) (f : Refusal) → BadStanding files t f → phase_of f.code ≡ 8
standing_phase files t f (inl h) = refused_phase (rows_of files) _ _ _ f h.4.2
standing_phase files t f (inr (inl h)) = elim h.4.1 [ inl p ↦ refused_phase (rows_of files) _ _ _ f p | inr p ↦ refused_phase (rows_of files) _ _ _ f p ]
standing_phase files t f (inr (inr h)) = augments_phase files t f h

final_phase : (choice : ModuleChoice) (files : Files) (f : Refusal) → BadFinal choice files f → phase_of f.code ≡ 8
final_phase choice files f h = standing_phase files h.final f h.stands

pub expansion_phase : (choice : ModuleChoice) (files : Files) (limit : ℕ) (f : Refusal) → BadExpansion choice files limit f → (6 < phase_of f.code) × (phase_of f.code ≤ 8)
expansion_phase choice files limit f (inl h) = let e : phase_of f.code ≡ 7 = many_phase files (marks_of choice files) limit f h in (omega (arith, e), omega (arith, e))
expansion_phase choice files limit f (inr h) = let e : phase_of f.code ≡ 8 = final_phase choice files f h in (omega (arith, e), omega (arith, e))

module _ (choice : ModuleChoice) (files : Files) (limit : ℕ) where
  abbrev Many : Refusal → Type 0
  Many f = TooMany files (marks_of choice files) limit f

  -- what passes the limit comes before what is wrong with the final tree
  pub least_many : (r : Refusal) → IsLeast Many (Some r) → IsLeast (BadExpansion choice files limit) (Some r)
  least_many r p = (
    inl p.0,
    λ s h. elim h [
      | inl q ↦ p.1 s q
      | inr q ↦
          let first : phase_of r.code ≡ 7 = many_phase files (marks_of choice files) limit r p.0 in
          let later : phase_of s.code ≡ 8 = final_phase choice files s q in
          inl (omega (arith, first, later))
    ],
  )

  -- where the limit is kept what is wrong is what is wrong with the final tree
  pub least_fits : (o : Option Refusal) → IsLeast Many None → IsLeast (BadFinal choice files) o → IsLeast (BadExpansion choice files limit) o
  least_fits o fits p = least_lesser Many (BadFinal choice files) None o o refl fits p
