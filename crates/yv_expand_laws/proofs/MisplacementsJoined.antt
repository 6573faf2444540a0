-- The augments that give items to nodes which don't take them are refused so by both definitions.
use Rattle.std.proofs.Common.{inl, inr, ◌≡◌, ℕ, Bool, List, length, map, Some, sym, refl, subst}
use Rattle.std.specs.List.{Contains, slice_get}
use Rattle.std.proofs.lemmas.Option.{slice_get_within}
use Rattle.yv_text_statement.specs.Order.{refusal_at}
use Rattle.yv_text_statement.specs.declared.refusal.Code.TheVariants as code
use Rattle.yv_text_statement.specs.declared.refusal.Refusal.{Refusal}
use Rattle.yv_link_scopes.specs.Files.{Files, brief_of}
use Rattle.yv_link_scopes.specs.RowList.{rows_of}
use Rattle.yv_link_scopes.specs.Rows.{Row}
use Rattle.yv_expand_statements.specs.StatementBlocks.{augments_of}
use Rattle.yv_expand_rounds.specs.Tree.{IsTree}
use Rattle.yv_expand_rounds.specs.declared.row.ItemRow.{ItemRow}
use Rattle.yv_expand_augments.specs.Augmentation.{AreAugmented}
use Rattle.yv_expand_augments.specs.Placement.{PutsMisplaced}
use Rattle.yv_expand_uses.specs.Spots.{Whole, labels_of, layout_of, whole}
use Rattle.yv_expand_uses.specs.declared.spot.Spot.{Spot}
use Rattle.yv_expand_changes.specs.Refusals.{IsThere}
use Rattle.yv_expand_tree.specs.Final.{final_items, spots_of}
use Rattle.yv_expand_statements.specs.FileOrder.{marks_of, order_of}
use Rattle.yv_expand_laws.specs.CopiesGive.{CopiesGive}
use Rattle.yv_expand_laws.specs.CopyEnds.{CopiesEnd}
use Rattle.yv_expand_laws.specs.Files.{expansion_of, labels_in}
use Rattle.yv_expand_laws.specs.Misplacements.{HasMisplaced, MisplacedByUses, MisplacementsAreOne, MisplacementsByModulesAreOne, MisplacementsByUsesAreOne}
use Rattle.yv_expand_laws.specs.UsesBlocks.{HasUntaken, UsesBlocksAreOne}
use Rattle.yv_expand_laws.proofs.Among.{is_or_not}
use Rattle.yv_expand_laws.proofs.AugmentLaws.{Laws}
use Rattle.yv_expand_laws.proofs.ModulesMisplaced.{GivenBelow, StandsBelow}
use Rattle.yv_expand_laws.proofs.UsesBlocksJoined.{untaken_there}
use Rattle.yv_expand_laws.proofs.UsesMisplaced.{uses_misplaced, uses_untaken}
use Rattle.yv_expand_laws.proofs.UsesTargetsJoined.{no_module}

pub misplacements_by_uses : (files : Files) → GivenBelow → StandsBelow → Laws → CopiesEnd → CopiesGive → UsesBlocksAreOne files → MisplacementsByUsesAreOne files
misplacements_by_uses files given_below below laws ends_there gives_there blocks_are_one choice f its m r sound roots final tells E =
    let marks : List Bool = marks_of choice files in
    let augments : List ℕ = augments_of (map brief_of files) (rows_of files) marks in
    let w : Whole = expansion_of files marks f.items in
    let grafted : AreAugmented w f.items f.state =
    subst (λ a. AreAugmented (whole (map brief_of files) (rows_of files) a (length f.items)) f.items f.state) final.augments final.grafted in
    let tree : IsTree (labels_in files marks f.items) f.state.groups f.tree =
    subst (λ a. IsTree (labels_of (layout_of (whole (map brief_of files) (rows_of files) a (length f.items)) f.items).spots) f.state.groups f.tree) final.augments final.is_tree in
    let blocks = blocks_are_one choice f its m r sound roots final tells E in
    let At : List ℕ → ℕ → ℕ → Type 0 = λ bs i a. HasUntaken (whole (map brief_of files) (rows_of files) bs (length f.items)) f.items i a in
    let By : List ℕ → Type 0 = λ bs. MisplacedByUses (whole (map brief_of files) (rows_of files) bs (length f.items)) f.items (final_items f) r in (
      (λ bad.
          let (a, never, h, (row, found, is)) = subst By final.augments bad in
          let (i, there, u) = uses_untaken files marks (order_of choice files) final.own f.items final.expanded f.state f.tree grafted tree given_below below laws ends_there gives_there a never h in
          let untaken : At f.augments i a = subst (λ bs. At bs i a) (sym final.augments) u in
          blocks.0 (untaken_there files f.augments (length f.items) f.items (final_items f) i a r row there untaken found is)),
      (λ refused.
          let (place, less, x, at, (a, u, (row, found, is))) = blocks.1 refused in
          let h : At augments x.number a = subst (λ bs. At bs x.number a) final.augments u in
          let never : Contains augments a → ⊥ = no_module files marks (order_of choice files) final.own f.items final.expanded x.number h.spot h.place a h.at h.there in
          let there : IsThere (final_items f) x.number = record { place = place; row = x; at = at; is = refl } in
          let misplaced = uses_misplaced files marks (order_of choice files) final.own f.items final.expanded f.state f.tree grafted tree given_below below laws ends_there gives_there sound.refer
          x.number a there h in
          subst By (sym final.augments) (a, never, misplaced, (row, found, is))),
    )

puts : (rows : List Row) (spots : List Spot) (tree : List ItemRow) (a : ℕ) (f : Refusal) (q : Row) → HasMisplaced rows spots tree a → slice_get rows a ≡ Some q
    → f ≡ refusal_at code.BadAugment q.file q.head → PutsMisplaced rows spots tree f
puts rows spots tree a f q h found is = (
  h.place,
  slice_get_within tree h.place h.row h.at,
  h.row,
  h.at,
  (h.spot, h.node, a, h.spot_is, h.node_is, h.around, (q, found, (h.untaken, is))),
)

pub misplacements_are_one : (files : Files) → MisplacementsByModulesAreOne files → MisplacementsByUsesAreOne files → MisplacementsAreOne files
misplacements_are_one files by_modules by_uses choice f its m r sound roots final tells E =
    let modules = by_modules choice f its m r sound roots final tells E in
    let uses = by_uses choice f its m r sound roots final tells E in (
      (λ (k, less, x, at, (s, node, a, at_s, node_is, around, (q, found, (untaken, is)))).
          let h : HasMisplaced (rows_of files) (spots_of files f) (final_items f) a =
          record { place = k; row = x; at = at; spot = s; spot_is = at_s; node = node; node_is = node_is; around = around; untaken = untaken } in
          elim (is_or_not f.augments a) [
            | inl there ↦ (let x = modules.0 (a, there, h, (q, found, is)) in (x.0, x.2))
            | inr never ↦ (let x = uses.0 (a, never, h, (q, found, is)) in (x.0, x.2))
          ]),
      (λ (a, (wrong, (row, found, is))). elim (is_or_not (augments_of (map brief_of files) (rows_of files) (marks_of choice files)) a) [
        | inl there ↦ (let (b, own, h, (q, at, same)) = modules.1 (a, there, (wrong, (row, found, is))) in puts (rows_of files) (spots_of files f) (final_items f) b r q h at same)
        | inr never ↦ (let (b, own, h, (q, at, same)) = uses.1 (a, never, (wrong, (row, found, is))) in puts (rows_of files) (spots_of files f) (final_items f) b r q h at same)
      ]),
    )
