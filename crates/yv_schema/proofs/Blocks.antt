-- The statements of a block, one after the other.
use Rattle.std.proofs.Common.{◌≡◌, ℕ, zero, suc, ◌<◌, ◌≤◌, List, [], ◌++◌, length, drop, get_or, refl, sym, ap, ◌∙◌, arith, append-nil, Some}
use Rattle.std.specs.List.{slice_get}
use Rattle.std.proofs.lemmas.Option.{slice_get_read}
use Rattle.std.proofs.lemmas.List.{at_drop_all}
use Rattle.yv_text_statement.specs.Tree.{Tree, Forest, End, Then, trees, forest, count}

pub forest-trees : (f : Forest) → forest (trees f) ≡ f
forest-trees End = refl
forest-trees (Then h c o) = ap (Then h c) (forest-trees o)

module _ {X : Type 0} (f : Forest → List X) (empty : f End ≡ []) where
  -- at the end nothing is left, so what is there is all
  pub at_end : (found : List X) (ss : List Tree) (i : ℕ) (whole : List X) → length ss ≤ i → found ++ f (forest (drop i ss)) ≡ whole → found ≡ whole
  at_end found ss i whole over all =
      let nothing : f (forest (drop i ss)) ≡ [] = at_drop_all (λ (ts : List Tree). f (forest ts)) ss i over ∙ empty in
      sym (append-nil found) ∙ ap (λ (xs : List X). found ++ xs) (sym nothing) ∙ all

-- a statement of a block has fewer statements below it than the block has
pub fewer : (f : Forest) (k : ℕ) (c : Tree) → slice_get (trees f) k ≡ Some c → count c.children < count f
fewer End k c h = cc
fewer (Then head inner others) zero c h =
    let one : record { head = head; children = inner } ≡ c = cc in
    rw (← one) (omega arith)
fewer (Then head inner others) (suc k) c h = let later : count c.children < count others = fewer others k c h in omega arith

-- the statement at a place of a block's list
pub at_place : (f : Forest) (items : List Tree) (i : ℕ) (c : Tree) → items ≡ trees f → i < length items → c ≡ get_or items i c → slice_get (trees f) i ≡ Some c
at_place f items i c same lt is = ap (λ (ts : List Tree). slice_get ts i) (sym same) ∙ slice_get_read items (length items) i c refl lt is
