-- Blocks, trees and what is laid of them, one behind the other.
use Rattle.std.proofs.Common.{◌≡◌, ℕ, ◌+◌, List, [], ◌∷◌, ◌++◌, append_assoc, refl, sym, ◌∙◌, ap, subst, arith, Option, Some}
use Rattle.yv_expand.specs.Tree.{Item, Tree, count, item, join, item_list, none}
use Rattle.yv_expand_rounds.specs.declared.label.Label.{Label}
use Rattle.yv_expand_uses.specs.Spots.{LayoutView, Whole, laid_from, one_more}
use Rattle.yv_expand_laws.specs.Blocks.{Block, uses}
use Rattle.yv_expand_laws.specs.Blocks as block
use Rattle.yv_expand_laws.specs.Layout.{Lie, Spot}

abbrev pub then_block : {hi e lo mid c d : ℕ} → Block lo mid c d → Block mid hi d e → Block lo hi c e
then_block block.nothing b = b
then_block (block.item m k below behind) b = block.item m k below (then_block behind b)
then_block (uses m end own k j copies all behind) b = uses m end own k j copies all (then_block behind b)

pub lie_then : (labels : List Label) (g : ℕ) {hi e lo mid c d : ℕ} (a : Block lo mid c d) (b : Block mid hi d e) (xs ys : List Spot) → Lie labels g a xs → Lie labels g b ys
    → Lie labels g (then_block a b) (xs ++ ys)
lie_then labels g block.nothing b xs ys is B = subst (λ l. Lie labels g b l) (sym (ap (λ l. l ++ ys) is)) B
lie_then labels g (block.item m k below behind) b xs ys (s, low, rest, is, at, of_no, L, R, long) B =
    (s, low, rest ++ ys, ap (λ l. l ++ ys) is ∙ ap (λ l. s ∷ l) (append_assoc low rest ys), at, of_no, L, lie_then labels g behind b rest ys R B, long)
lie_then labels g (uses m end own k j copies all behind) b xs ys (s, low, given, rest, is, at, is_uses, first, paths, L, A, R, mid_is, end_is) B = (
  s,
  low,
  given,
  rest ++ ys,
  ap (λ l. l ++ ys) is ∙ ap (λ l. s ∷ l) (append_assoc low (given ++ rest) ys ∙ ap (λ l. low ++ l) (append_assoc given rest ys)),
  at,
  is_uses,
  first,
  paths,
  L,
  A,
  lie_then labels g behind b rest ys R B,
  mid_is,
  end_is,
)

pub count_joined : (t u : Tree) → count (join t u) ≡ count t + count u
count_joined none u = omega arith
count_joined (item o below behind) u = (let e = count_joined behind u in omega (arith, e))

pub joined_assoc : (t u v : Tree) → join (join t u) v ≡ join t (join u v)
joined_assoc none u v = refl
joined_assoc (item o below behind) u v = ap (λ x. item o below x) (joined_assoc behind u v)

pub listed_joined : (parent : Option ℕ) (n : ℕ) (t u : Tree) → item_list parent n (join t u) ≡ item_list parent n t ++ item_list parent (n + count t) u
listed_joined parent n none u = ap (λ (m : ℕ). item_list parent m u) (let e : n ≡ n + 0 = omega arith in e)
listed_joined parent n (item o below behind) u =
    ap (λ l. record { origin = o; parent = parent } ∷ item_list (Some n) (n + 1) below ++ l) (listed_joined parent (n + 1 + count below) behind u)
    ∙ (ap (λ (m : ℕ). record { origin = o; parent = parent } ∷ item_list (Some n) (n + 1) below ++ (item_list parent (n + 1 + count below) behind ++ item_list parent m u))
    (let e : n + 1 + count below + count behind ≡ n + (1 + count below + count behind) = omega arith in e)
    ∙ ap (λ l. record { origin = o; parent = parent } ∷ l)
    (sym (append_assoc (item_list (Some n) (n + 1) below) (item_list parent (n + 1 + count below) behind) (item_list parent (n + (1 + count below + count behind)) u))))

pub laid_append : (w : Whole) (xs ys : List Item) (l : LayoutView) → laid_from w (xs ++ ys) l ≡ laid_from w ys (laid_from w xs l)
laid_append w [] ys l = refl
laid_append w (x ∷ xs) ys l = laid_append w xs ys (one_more w x l)
