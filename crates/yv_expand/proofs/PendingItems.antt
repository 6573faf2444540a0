-- The items that are still to be listed, and what they will add.
use Rattle.std.proofs.Common.{◌≡◌, ℕ, ◌+◌, List, [], ◌∷◌, ◌++◌, refl, subst, arith, append_assoc, Option, Some, None}
use Rattle.yv_link_scopes.specs.Files.{Briefs}
use Rattle.yv_link_scopes.specs.Rows.{Row}
use Rattle.yv_expand_statements.specs.declared.origin.Origin.{Origin}
use Rattle.yv_expand.specs.Tree.{Tree, Item, count, item_list}
use Rattle.yv_expand.specs.InnerItems.{Give, no_more, one_more, StandBelow, item_at, items_below}

-- what the items, the next first, will add with all below them, where the first has this number
abbrev pub Pends : Briefs → List Row → List Item → ℕ → List Item → Type 0
Pends files rows [] i items = items ≡ []
Pends files rows (a ∷ others) i items =
    (inner : List Origin) × (below : Tree) × (rest : List Item) × StandBelow files rows a.origin inner × Give files rows inner below
    × Pends files rows others (i + 1 + count below) rest × (items ≡ a ∷ item_list (Some i) (i + 1) below ++ rest)

module _ (files : Briefs) (rows : List Row) where
  -- items of one parent add what they give
  pub pends_more : (parent : Option ℕ) (these : List Origin) (t : Tree) (i : ℕ) (others rest : List Item) → Give files rows these t
      → Pends files rows others (i + count t) rest → Pends files rows (items_below parent these ++ others) i (item_list parent i t ++ rest)
  pends_more parent [] t i others rest no_more p = let place : i + 0 ≡ i = omega arith in subst (λ (n : ℕ). Pends files rows others n rest) place p
  pends_more parent (o ∷ os) t i others rest (one_more {inner = inner} {below = below} {behind = behind} s g h) p =
      let place : i + (1 + count below + count behind) ≡ i + 1 + count below + count behind = omega arith in (
        inner,
        below,
        item_list parent (i + 1 + count below) behind ++ rest,
        s,
        g,
        pends_more parent os behind (i + 1 + count below) others rest h (subst (λ (n : ℕ). Pends files rows others n rest) place p),
        append_assoc (item_at parent o ∷ item_list (Some i) (i + 1) below) (item_list parent (i + 1 + count below) behind) rest,
      )

  -- one item is listed, and those below it are next
  abbrev pub Step : Item → List Item → ℕ → List Item → Type 0
  Step a others i items =
      (inner : List Origin) × StandBelow files rows a.origin inner × (rest : List Item)
      × Pends files rows (items_below (Some i) inner ++ others) (i + 1) rest × (items ≡ a ∷ rest)

  pub pends_step : (a : Item) (i : ℕ) (others items : List Item) → Pends files rows (a ∷ others) i items → Step a others i items
  pends_step a i others items (inner, below, rest, s, g, p, same) =
      (inner, s, item_list (Some i) (i + 1) below ++ rest, pends_more (Some i) inner below (i + 1) others rest g p, same)

  pub pends_start : (these : List Origin) (t : Tree) (i : ℕ) → Give files rows these t → Pends files rows (items_below None these ++ []) i (item_list None i t ++ [])
  pends_start these t i g = pends_more None these t i [] [] g refl
