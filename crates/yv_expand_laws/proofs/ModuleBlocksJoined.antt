-- The augments of modules whose targets don't take their blocks are refused so by both definitions.
use Rattle.std.proofs.Common.{◌≡◌, ℕ, ◌<◌, Bool, true, false, if◌then◌else◌, List, length, map, Option, Some, None, refl, sym, ◌∙◌, ap, subst, arith}
use Rattle.std.specs.List.{slice_get}
use Rattle.std.specs.Option.{option_and_then}
use Rattle.std.proofs.lemmas.Option.{same_Some, slice_get_within}
use Rattle.yv_text_statement.specs.declared.refusal.Code.TheVariants as code
use Rattle.yv_link_scopes.specs.Files.{Files, brief_of}
use Rattle.yv_link_scopes.specs.RowList.{rows_of}
use Rattle.yv_expand_statements.specs.StatementBlocks.{augments_of}
use Rattle.yv_expand_rounds.specs.declared.end.End.{End}
use Rattle.yv_expand_rounds.specs.declared.end.End.TheVariants as end_is
use Rattle.yv_expand_statements.specs.declared.statement_kind.StatementKind.{StatementKind}
use Rattle.yv_expand_rounds.specs.declared.label.Label.{Label}
use Rattle.yv_expand_rounds.specs.Turns.{is_some_target, target}
use Rattle.yv_expand_augments.specs.Augmentation.{AreAugmented}
use Rattle.yv_expand_uses.specs.Spots.{Whole, layout_of, whole}
use Rattle.yv_expand_uses.specs.declared.spot.Spot.{Spot}
use Rattle.yv_expand_statements.specs.FileOrder.{marks_of, order_of}
use Rattle.yv_expand_definition.specs.Gives.{Wrong, takes_block}
use Rattle.yv_expand_definition.proofs.GivenNodeUniqueness.{RefersToOne}
use Rattle.yv_expand_laws.specs.Files.{AreGiven, expansion_of, labels_in}
use Rattle.yv_expand_laws.specs.ModuleBlocks.{ModuleBlocksAreOne, ModuleUntaken}
use Rattle.yv_expand_laws.proofs.OuterConditions.{block_below}
use Rattle.yv_expand_laws.proofs.FoundItems.{not_none}
use Rattle.yv_expand_laws.proofs.LaidBlocks.{map_length}
use Rattle.yv_expand_laws.proofs.FileMarks.{order_marked}
use Rattle.yv_expand_laws.proofs.Orders.{at_there}
use Rattle.yv_expand_laws.proofs.Targets.{IsInner, contains_at, gives_known, near, tops_known}
use Rattle.yv_expand_laws.proofs.LabelsAndPaths.{there_is}
use Rattle.yv_expand_laws.proofs.Whole.{block_refused}

-- an item that is a target is there
target_within : (labels : List Label) (o : Option End) (i : ℕ) → option_and_then (target labels) o ≡ Some i → i < length labels
target_within labels None i is = absurd (not_none is)
target_within labels (Some (end_is.Start g)) i is = absurd (not_none is)
target_within labels (Some (end_is.ShorthandCase j)) i is = absurd (not_none is)
target_within labels (Some (end_is.Node j)) i is = by (slice_get labels j) refl is
  where
    at : (b : Bool) (l : Label) → slice_get labels j ≡ Some l → (if b then Some j else None) ≡ Some i → i < length labels
    at true l there e = (let same : j ≡ i = same_Some j i e in let less = slice_get_within labels j l there in omega (arith, same, less))
    at false l there e = absurd (not_none e)

    by : (o : Option Label) → slice_get labels j ≡ o → (if is_some_target o then Some j else None) ≡ Some i → i < length labels
    by None there e = absurd (not_none e)
    by (Some l) there e = at (is_some_target (Some l)) l there e

pub module_blocks_are_one : (files : Files) → RefersToOne files → ModuleBlocksAreOne files
module_blocks_are_one files one_meant choice f its m r sound roots final tells E =
    let marks : List Bool = marks_of choice files in
    let order : List ℕ = order_of choice files in
    let augments : List ℕ = augments_of (map brief_of files) (rows_of files) marks in
    let w : Whole = expansion_of files marks f.items in
    let spots : List Spot = (layout_of w f.items).spots in
    let labels : List Label = labels_in files marks f.items in
    let given : AreGiven files marks order = record { sound = sound; roots = roots; marked = order_marked choice files } in
    let grafted : AreAugmented w f.items f.state =
    subst (λ a. AreAugmented (whole (map brief_of files) (rows_of files) a (length f.items)) f.items f.state) final.augments final.grafted in
    let bad : ℕ → Wrong = λ b. record { code = code.BadAugment; statement = b } in
    let known = block_refused files marks order final.own f.items its given final.expanded tells one_meant (IsInner files) (near files marks)
    (λ a module_file made G b. gives_known files G (block_below (rows_of files) a) (record { code = code.AugmentTarget; statement = b }))
    (λ a module_file made G b. gives_known files G (block_below (rows_of files) a) (record { code = code.BadAugment; statement = b }))
    m f.state E grafted (λ b. tops_known files E.tops (record { code = code.BadAugment; statement = b })) in
    let By : List ℕ → Type 0 = λ a. ModuleUntaken (whole (map brief_of files) (rows_of files) a (length f.items)) f.items f.state r in (
      (λ untaken.
          let (k, less, a, at, (u, (row, found, is))) = subst By final.augments untaken in
          let kind : takes_block (rows_of files) a (its.node_of u.target).kind ≡ false = ap (λ (z : StatementKind). takes_block (rows_of files) a z) (tells.told.kind u.target u.node u.target_at) ∙ u.untaken in
          (a, at_there augments k a at, ((known k a at).1 u.target u.adds kind, (row, found, is)))),
      (λ (a, there, (refused, (row, found, is))).
          let k = contains_at augments a there in
          let (i, refine_targets, kind) = (known k.0 a k.1).0 refused in
          let few = target_within labels _ i refine_targets in
          let t = there_is spots i (let long = map_length (λ (z : Spot). z.label) spots in omega (arith, few, long)) in
          subst By (sym final.augments) (
            k.0,
            slice_get_within augments k.0 a k.1,
            a,
            k.1,
            (
              record {
                target = i;
                adds = refine_targets;
                node = t.0;
                target_at = t.1;
                untaken = ap (λ (z : StatementKind). takes_block (rows_of files) a z) (sym (tells.told.kind i t.0 t.1)) ∙ kind;
              },
              (row, found, is),
            ),
          )),
    )
