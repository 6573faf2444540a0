-- What an augment of a uses gives is laid in the group of its copy.
use Rattle.std.proofs.Common.{◌≡◌, ℕ, ◌+◌, ◌<◌, Bool, true, false, if◌then◌else◌, List, Option, Some, refl, sym, ◌∙◌, ap, arith}
use Rattle.std.specs.List.{slice_get}
use Rattle.std.specs.Option.{is_some}
use Rattle.std.proofs.lemmas.Bool.{false≢true}
use Rattle.yv_link_scopes.specs.Rows.{Row}
use Rattle.yv_expand_statements.specs.Origin.{number_of}
use Rattle.yv_expand.specs.Tree.{Item}
use Rattle.yv_expand_statements.specs.StatementBlocks.{is_augment, is_node_or_uses}
use Rattle.yv_expand_statements.specs.declared.statement_kind.StatementKind.{StatementKind}
use Rattle.yv_expand_uses.specs.AugmentOrder.{is_giving, ordinal}
use Rattle.yv_expand_statements.specs.Kinds.{is_uses}
use Rattle.yv_expand_uses.specs.AugmentOrder.{augments_in}
use Rattle.yv_expand_augments.specs.MissingTargets.{had_turns, next_number}
use Rattle.yv_expand_uses.specs.Spots.{Whole, copy_group, group_below, layout_of, spot_at, used_group}
use Rattle.yv_expand_uses.specs.declared.spot.Spot.{Spot}
use Rattle.yv_expand_augments.proofs.AugmentTurns.{giving_filtered}
use Rattle.yv_expand_laws.proofs.BlockStatements.{nothing_given, ordinal_is}
use Rattle.yv_expand_laws.proofs.CopyEnds.{filter_split}
use Rattle.yv_expand_laws.proofs.KeywordKinds.{item_kind}
use Rattle.yv_expand_laws.proofs.LaidBlocks.{still_at}
use Rattle.yv_expand_laws.proofs.ItemPositions.{group_at}

-- an augment of a block gives something where an item stands in its own
pub item_gives : (rows : List Row) (u a j : ℕ) (q r : Row) → slice_get rows a ≡ Some q → is_augment q ≡ true → q.scope ≡ u → slice_get rows j ≡ Some r → r.scope ≡ a
    → is_node_or_uses r ≡ true → is_giving rows u a ≡ true
item_gives rows u a j q r at is scope row in_block item = by (is_giving rows u a) refl
  where
    by : (b : Bool) → is_giving rows u a ≡ b → is_giving rows u a ≡ true
    by true h = h
    by false h = absurd (false≢true (sym (nothing_given rows u a q at is scope h j r row in_block) ∙ ap (λ (o : Option StatementKind). is_some o) (item_kind r item).1))

-- the number of its copy
number_is : (rows : List Row) (s : Spot) (place a : ℕ) → slice_get (augments_in rows s.statement) place ≡ Some a → is_giving rows s.statement a ≡ true
    → s.first + ordinal rows a ≡ next_number rows s place
number_is rows s place a at gives =
    let (others, parts) = filter_split (is_giving rows s.statement) (augments_in rows s.statement) place a at gives in
    ap (λ (n : ℕ). s.first + n) (ordinal_is rows s.statement (had_turns rows s place) a others (giving_filtered rows s.statement ∙ parts))

pub copy_laid : (w : Whole) (items : List Item) (i place a z : ℕ) (s t : Spot) (x : Item) (r : Row) → slice_get (layout_of w items).spots i ≡ Some s → is_uses s.label.kind ≡ true
    → slice_get (layout_of w items).spots z ≡ Some t → slice_get items z ≡ Some x → x.parent ≡ Some i → i < z → slice_get w.rows (number_of x.origin) ≡ Some r → r.scope ≡ a
    → slice_get (augments_in w.rows s.statement) place ≡ Some a → is_giving w.rows s.statement a ≡ true → t.group ≡ copy_group w (next_number w.rows s place)
copy_laid w items i place a z s t x r at uses_is at_z x_at up first row scope at_a gives =
    let (before, more, are, long, group) = group_at w items z t x at_z x_at in
    let there : slice_get before i ≡ Some s = sym (still_at before more i (omega (arith, first, long))) ∙ (ap (λ (l : List Spot). slice_get l i) (sym are) ∙ at) in
    group
    ∙ (ap (λ (o : Option ℕ). group_below w (slice_get w.rows (number_of x.origin)) o (spot_at before o)) up
    ∙ (ap (group_below w (slice_get w.rows (number_of x.origin)) (Some i)) there
    ∙ (ap (λ (b : Bool). if b then used_group w s (slice_get w.rows (number_of x.origin)) else i + 1) uses_is
    ∙ (ap (used_group w s) row
    ∙ (ap (λ (n : ℕ). if is_giving w.rows s.statement n then copy_group w (s.first + ordinal w.rows n) else s.group) scope
    ∙ (ap (λ (b : Bool). if b then copy_group w (s.first + ordinal w.rows a) else s.group) gives ∙ ap (copy_group w) (number_is w.rows s place a at_a gives)))))))
