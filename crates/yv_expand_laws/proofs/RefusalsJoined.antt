-- The refusals of the final tree by number are those of what the files expand to.
use Rattle.std.proofs.Common.{◌⊎◌, inl, inr, ◌≡◌, ◌↔◌, ℕ, Bool, List, map, refl, ◌∙◌, ap, subst, Some, None}
use Rattle.std.specs.List.{Contains, slice_get}
use Rattle.yv_text_statement.specs.Order.{refusal_at}
use Rattle.yv_text_statement.specs.declared.refusal.Code.{Code}
use Rattle.yv_text_statement.specs.declared.refusal.Code.TheVariants as code
use Rattle.yv_text_statement.specs.declared.refusal.Refusal.{Refusal}
use Rattle.yv_text_statement.specs.Selection.{ModuleChoice}
use Rattle.yv_link_scopes.specs.Files.{Files, brief_of}
use Rattle.yv_link_scopes.specs.RowList.{rows_of}
use Rattle.yv_link_scopes.specs.Rows.{Row}
use Rattle.yv_expand.specs.Expansion.{IsWhole}
use Rattle.yv_expand_statements.specs.StatementBlocks.{augments_of}
use Rattle.yv_expand.specs.Tree.{Item}
use Rattle.yv_expand_augments.specs.MandatoryNodes.{ImposesMandatory, nothing_around}
use Rattle.yv_expand_augments.specs.MissingTargets.{MissesTarget}
use Rattle.yv_expand_augments.specs.Placement.{PutsMisplaced}
use Rattle.yv_expand_augments.specs.Refusals.{BadTarget, TooDeep}
use Rattle.yv_expand_changes.specs.Properties.{told_of}
use Rattle.yv_expand_changes.specs.Refusals.{BadRefines}
use Rattle.yv_expand_tree.specs.Final.{Final, final_items, refined_of, said_of, spots_of, whole_of}
use Rattle.yv_expand_statements.specs.FileOrder.{marks_of, order_of}
use Rattle.yv_expand_tree.specs.Refusals.{BadStanding}
use Rattle.yv_expand_definition.specs.Expansion.{AllRefer, AreMarked, Expand}
use Rattle.yv_expand_definition.specs.Gives.{Product, Wrong}
use Rattle.yv_expand_definition.specs.Refusals.{BadExpanded, IsWrong}
use Rattle.yv_expand_laws.specs.AlikeRefusals.{RefusesModuleAugment, RefusesUsesAugment}
use Rattle.yv_expand_laws.specs.Depths.{DepthsAreOne, RefusesDepth}
use Rattle.yv_expand_laws.specs.Files.{ItemsShow}
use Rattle.yv_expand_laws.specs.Impositions.{ImpositionsAreOne, RefusesImposition}
use Rattle.yv_expand_laws.specs.Misplacements.{MisplacementsAreOne, RefusesBlock}
use Rattle.yv_expand_laws.specs.Refines.{RefinesAreOne, RefusesRefine}
use Rattle.yv_expand_laws.specs.Refusals.{FinalRefusalsAreOne, RefusalsAreOne}
use Rattle.yv_expand_laws.specs.Targets.{TargetsAreOne}
use Rattle.yv_expand_laws.specs.UsesTargets.{UsesTargetsAreOne}
use Rattle.yv_expand_laws.proofs.Among.{is_or_not}
use Rattle.yv_expand_laws.proofs.FileMarks.{order_marked}
use Rattle.yv_expand_laws.proofs.RefusedKinds.{IsOfEither, refused_is}

-- files expand to one tree (yv_expand_definition::laws::files_expand_to_one_tree)
abbrev pub ExpandToOne : Type 0
ExpandToOne =
    (files : Files) (marks : List Bool) (order : List ℕ) (m n : Product) → Expand files marks order m → Expand files marks order n → m ≡ n

-- and they do expand to one (yv_expand_definition::laws::files_expand_to_a_tree)
abbrev pub ExpandToSome : Type 0
ExpandToSome =
    (files : Files) (marks : List Bool) (order : List ℕ) (own : ℕ) (items : List Item) → AllRefer (map brief_of files) (rows_of files)
    → AreMarked marks order → IsWhole files marks order own items → (m : Product) × Expand files marks order m

module _ (files : Files) (choice : ModuleChoice) (f : Final) (m : Product) (r : Refusal) where
  abbrev marks : List Bool
  marks = marks_of choice files

  abbrev order : List ℕ
  order = order_of choice files

  -- of each kind of refusal, that the two definitions are one
  record AreOne : Type 0 where
    depths : TooDeep (rows_of files) (spots_of files f) (final_items f) r ↔ RefusesDepth files m.nodes r
    refines : BadRefines files (spots_of files f) (refined_of files f) (final_items f) r ↔ RefusesRefine files m r
    targets : BadTarget (whole_of files f) f.items f.state r ↔ RefusesModuleAugment files code.AugmentTarget marks m r
    uses_targets : MissesTarget (whole_of files f) f.items (final_items f) r ↔ RefusesUsesAugment files code.AugmentTarget marks m r
    misplacements : PutsMisplaced (rows_of files) (spots_of files f) (final_items f) r ↔ RefusesBlock files m r
    impositions : ImposesMandatory (rows_of files) (spots_of files f) f.augments (told_of (said_of files f)) None nothing_around f.tree r ↔ RefusesImposition files m.nodes r

  module _ (expand : Expand files marks order m) (one : AreOne) where
    refused : (e : Wrong) (q : Row) → IsWrong files m e → slice_get (rows_of files) e.statement ≡ Some q → r ≡ refusal_at e.code q.file q.head
        → BadExpanded choice files r
    refused e q wrong at is = record { made = m; expand = expand; wrong = e; is_wrong = wrong; row = q; at = at; is = is }

    of_depth : RefusesDepth files m.nodes r → BadExpanded choice files r
    of_depth (k, deep, (q, at, is)) = refused (record { code = code.TreeTooDeep; statement = k }) q (inr (inr (refl, deep))) at is

    of_refine : RefusesRefine files m r → BadExpanded choice files r
    of_refine (e, kind, (there, (q, at, is))) = refused e q (inl there) at is

    of_target : RefusesModuleAugment files code.AugmentTarget marks m r → BadExpanded choice files r
    of_target (a, own, (there, (q, at, is))) = refused (record { code = code.AugmentTarget; statement = a }) q (inl there) at is

    of_uses_target : RefusesUsesAugment files code.AugmentTarget marks m r → BadExpanded choice files r
    of_uses_target (a, never, (there, (q, at, is))) = refused (record { code = code.AugmentTarget; statement = a }) q (inl there) at is

    of_block : RefusesBlock files m r → BadExpanded choice files r
    of_block (a, (there, (q, at, is))) = refused (record { code = code.BadAugment; statement = a }) q (inl there) at is

    of_imposition : RefusesImposition files m.nodes r → BadExpanded choice files r
    of_imposition (a, imposes, (q, at, is)) = refused (record { code = code.BadAugment; statement = a }) q (inr (inl (refl, imposes))) at is

    to_expanded : BadStanding files f r → BadExpanded choice files r
    to_expanded (inl bad) = of_depth (one.depths.0 bad)
    to_expanded (inr (inl bad)) = of_refine (one.refines.0 bad)
    to_expanded (inr (inr (inl (inl bad)))) = of_target (one.targets.0 bad)
    to_expanded (inr (inr (inl (inr bad)))) = of_uses_target (one.uses_targets.0 bad)
    to_expanded (inr (inr (inr (inl bad)))) = of_block (one.misplacements.0 bad)
    to_expanded (inr (inr (inr (inr bad)))) = of_imposition (one.impositions.0 bad)

    with_code : (e : Wrong) (c : Code) → e.code ≡ c → Contains m.wrong e → Contains m.wrong (record { code = c; statement = e.statement })
    with_code e c is there = subst (λ c. Contains m.wrong (record { code = c; statement = e.statement })) is there

    same_code : (e : Wrong) (q : Row) (c : Code) → e.code ≡ c → r ≡ refusal_at e.code q.file q.head → r ≡ refusal_at c q.file q.head
    same_code e q c is same = same ∙ ap (λ c. refusal_at c q.file q.head) is

    contained : (e : Wrong) (q : Row) → Contains m.wrong e → IsOfEither e → slice_get (rows_of files) e.statement ≡ Some q
        → r ≡ refusal_at e.code q.file q.head → BadStanding files f r
    contained e q there (inl refine) at is = inr (inl (one.refines.1 (e, refine, (there, (q, at, is)))))
    contained e q there (inr (inr block)) at is =
        inr (inr (inr (inl (one.misplacements.1
        (e.statement, (with_code e code.BadAugment block there, (q, at, same_code e q code.BadAugment block is)))))))
    contained e q there (inr (inl target)) at is = by (is_or_not (augments_of (map brief_of files) (rows_of files) marks) e.statement)
      where
        by : Contains (augments_of (map brief_of files) (rows_of files) marks) e.statement
            ⊎ (Contains (augments_of (map brief_of files) (rows_of files) marks) e.statement → ⊥) → BadStanding files f r
        by (inl own) =
            inr (inr (inl (inl (one.targets.1
            (e.statement, own, (with_code e code.AugmentTarget target there, (q, at, same_code e q code.AugmentTarget target is)))))))
        by (inr never) =
            inr (inr (inl (inr (one.uses_targets.1
            (e.statement, never, (with_code e code.AugmentTarget target there, (q, at, same_code e q code.AugmentTarget target is)))))))

    is_standing : (e : Wrong) (q : Row) → IsWrong files m e → slice_get (rows_of files) e.statement ≡ Some q → r ≡ refusal_at e.code q.file q.head
        → BadStanding files f r
    is_standing e q (inl there) at is = contained e q there (refused_is files marks order m expand e there) at is
    is_standing e q (inr (inl (imposing, imposes))) at is =
        inr (inr (inr (inr (one.impositions.1 (e.statement, imposes, (q, at, same_code e q code.BadAugment imposing is))))))
    is_standing e q (inr (inr (too_deep, deep))) at is =
        inl (one.depths.1 (e.statement, deep, (q, at, same_code e q code.TreeTooDeep too_deep is)))

    to_standing : ExpandToOne → BadExpanded choice files r → BadStanding files f r
    to_standing to_one bad =
        is_standing bad.wrong bad.row
        (subst (λ x. IsWrong files x bad.wrong) (to_one files marks order bad.made m bad.expand expand) bad.is_wrong) bad.at bad.is

pub refusals_are_one : (files : Files) → ExpandToOne → ExpandToSome → ItemsShow files → DepthsAreOne files → RefinesAreOne files → TargetsAreOne files
    → UsesTargetsAreOne files → MisplacementsAreOne files → ImpositionsAreOne files → RefusalsAreOne files
refusals_are_one files to_one to_some show depths refines targets uses_targets misplacements impositions choice f r sound roots optional final =
    let (its, tells) = show (marks_of choice files) (order_of choice files) final.own f.items final.expanded in
    let (m, expand) = to_some files (marks_of choice files) (order_of choice files) final.own f.items sound.refer (order_marked choice files) final.expanded in
    let one : AreOne files choice f m r = record {
      depths = depths choice f its m r sound roots final tells expand;
      refines = refines choice f its m r sound roots final tells expand;
      targets = targets choice f its m r sound roots final tells expand;
      uses_targets = uses_targets choice f its m r sound roots final tells expand;
      misplacements = misplacements choice f its m r sound roots final tells expand;
      impositions = impositions optional choice f its m r sound roots final tells expand;
    } in
    (to_expanded files choice f m r expand one, to_standing files choice f m r expand one to_one)

pub final_refusals_are_one : (files : Files) → RefusalsAreOne files → FinalRefusalsAreOne files
final_refusals_are_one files are_one choice f r sound roots optional final = (
  (λ bad. (are_one choice bad.final r sound roots optional bad.is_final).0 bad.stands),
  (λ bad. record { final = f; is_final = final; stands = (are_one choice f r sound roots optional final).1 bad }),
)
