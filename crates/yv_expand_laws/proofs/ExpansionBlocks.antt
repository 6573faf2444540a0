-- The items of an expansion lie in blocks.
use Rattle.std.proofs.Common.{◌≡◌, ℕ, ◌+◌, Bool, true, false, List, [], ◌∷◌, ◌++◌, length, map, drop, refl, sym, subst, arith, Some}
use Rattle.std.specs.List.{slice_get}
use Rattle.yv_link_scopes.specs.Rows.{Row}
use Rattle.yv_link_definitions.specs.Refers as refers
use Rattle.yv_link_definitions.specs.Refers.{RefersTo}
use Rattle.yv_expand.specs.Tree.{Tree, count, item_list}
use Rattle.yv_expand.specs.Tree as expansion
use Rattle.yv_expand_rounds.specs.declared.label.Label.{Label}
use Rattle.yv_expand.specs.Expands.{Expands}
use Rattle.yv_expand.specs.Expands.Expands.{nothing, other, node, operation, uses}
use Rattle.yv_expand_uses.specs.Spots.{LayoutView, Whole}
use Rattle.yv_expand_definition.specs.Expansion.{AllRefer}
use Rattle.yv_expand_laws.specs.Blocks.{Block}
use Rattle.yv_expand_laws.specs.Expansions.{ExpansionLies, spot_view}
use Rattle.yv_expand_laws.specs.Layout.{Lie}
use Rattle.yv_expand_laws.proofs.LaidBlocks.{Lies, empty_lies, Part, Parts, all_lie, no_parts, node_part, one_part, operation_part}
use Rattle.yv_expand_laws.proofs.UsesBlocks.{uses_part}

drop_front : {A : Type 0} (xs ys : List A) → drop (length xs) (xs ++ ys) ≡ ys
drop_front [] ys = refl
drop_front (x ∷ xs) ys = drop_front xs ys

module _ (w : Whole) (labels : List Label) (each : length labels ≡ w.items) (refer : AllRefer w.files w.rows) where
  other_part : (k : ℕ) → Part w labels k expansion.none
  other_part k = record {
    lies = λ l parent g n hi c long copies ends less group.
        (c, subst (λ (h : ℕ). Lies w labels l [] g n h c c) (let e : n ≡ hi = omega (arith, ends) in e) (empty_lies w labels l g n c copies));
    nothing = λ r at none_is. refl;
  }

  pub no_uses : (k : ℕ) (r : Row) → slice_get w.rows k ≡ Some r → ((d : ℕ) → RefersTo w.files w.rows k d → ⊥) → refers.is_uses r ≡ false
  no_uses k r at none_meant = by (refers.is_uses r) refl
    where
      by : (b : Bool) → refers.is_uses r ≡ b → refers.is_uses r ≡ false
      by false is = is
      by true is = (let d = refer k r at is in absurd (none_meant d.0 d.1))

  pub parts : {numbers : List ℕ} {t : Tree} → Expands w.files w.rows numbers t → Parts w labels numbers t
  parts nothing = no_parts
  parts (other {k = k} at is E) = one_part (other_part k) (parts E)
  parts (node {k = k} {r = r} {below = below} at is no_operation none_meant B E) = one_part (node_part w labels k r below at is (no_uses k r at none_meant) (parts B)) (parts E)
  parts (operation {k = k} {r = r} {input = input} {output = output} at is I O E) = one_part (operation_part w labels k r input output at is (parts I) (parts O)) (parts E)
  parts (uses {k = k} {d = d} {r = r} {copies = copies} {given = given} at is meant C G E) =
      one_part (uses_part w labels each k d r copies given at is meant (parts C) (parts G)) (parts E)

pub expansion_lies : (w : Whole) (labels : List Label) → ExpansionLies w labels
expansion_lies w labels numbers t before parent g each refer less E group =
    let n : ℕ = length before.spots in
    let x = all_lie w labels (parts w labels each refer E) before parent g n (n + count t) before.copies refl refl refl less group in
    let F = x.1 in
    subst (λ (z : LayoutView). (b : Block n (n + count t) before.copies z.copies) × Lie labels g b (map (spot_view w) (drop n z.spots))) (sym F.laid)
    (F.block, subst (λ z. Lie labels g F.block (map (spot_view w) z)) (sym (drop_front before.spots F.new)) F.lie)
