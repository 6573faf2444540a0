use Rattle.std.proofs.Common.{rules, ◌≡◌, ◌∙◌, ℕ, List, length, sym, ap, subst, arith, btree_map_len, None}
use Rattle.std.specs.BTreeMap.{BTreeMap, get, is_at}
use Rattle.std.specs.Map.{lookup}
use Rattle.std.specs.Ordering.{nat_cmp}
use Rattle.std.proofs.lemmas.List.{nil_from_length}
use Rattle.std.specs.List.{slice_get}
use Rattle.std.proofs.lemmas.Option.{slice_get-get_or}
use Rattle.yv_text_statement.specs.Order.{Among, IsLeast}
use Rattle.yv_text_statement.specs.declared.refusal.Refusal.{Refusal}
use Rattle.yv_text_statement.proofs.Least.{least_more}
use Rattle.yv_expand_rounds.specs.declared.row.ItemRow.{ItemRow}
use Rattle.yv_expand_uses.specs.Ends.{end_at}
use Rattle.yv_expand_uses.specs.Spots.{layout_of}
use Rattle.yv_expand_augments.specs.MissingTargets.{MissesAt}
use Rattle.yv_expand_augments.proofs.final_tree.AugmentedTree.first_untargeted.Goals as goal

pub loop-row-preserved : goal.loop-row-preserved
loop-row-preserved c = λ w items st are. (
    let tree = c.args.self.now.tree.items in
    least_more tree (λ place x. MissesAt w (layout_of w items) (end_at items x.number) x.number) c.loop-row.row-index _ c.loop-row.least c.missing_of.result c.lesser-least.result
    (ap (λ (l : List ItemRow). slice_get l c.loop-row.row-index) (sym c.deref-row-items.ensures.value) ∙ slice_get-get_or c.deref-row-items.result.now c.loop-row.row-index _ c.loop-row-test.true) c.lesser-least.ensures (c.loop-row.invariant w items st are)
    (subst (IsLeast (MissesAt w (layout_of w items) (end_at items _) _)) (sym c.missing_of.ensures) (are.missing _)))

pub returns : goal.returns
returns c = λ w items st are. (
    let all : c.loop-row.row-index ≡ length c.args.self.now.tree.items = omega (arith, c.loop-row-test.false, c.loop-row.auto.row-index-end, ap length c.deref-row-items.ensures.value) in
    subst (λ (n : ℕ). IsLeast (Among c.args.self.now.tree.items (λ place x. MissesAt w (layout_of w items) (end_at items x.number) x.number) n) c.loop-row.least) all
    (c.loop-row.invariant w items st are))

-- nothing is found in a map without entries
get_none : (m : BTreeMap ℕ Refusal) (k : ℕ) → btree_map_len m ≡ 0 → get nat_cmp m k ≡ None
get_none m k e = ap (λ (es : List (ℕ × Refusal)). lookup (λ q. is_at (nat_cmp k) q) es) (nil_from_length m.entries e)

pub returns-then-is_empty : goal.returns-then-is_empty
returns-then-is_empty c = λ w items st are f h. (
    let empty : btree_map_len c.args.self.now.missing ≡ 0 = search rules in
    subst (IsLeast (MissesAt w (layout_of w items) (end_at items h.2.number) h.2.number)) (get_none c.args.self.now.missing h.2.number empty)
    (are.missing h.2.number) f h.4)
