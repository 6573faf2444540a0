-- An order of files has one expansion at most, which has no more items than units.
use Rattle.std.proofs.Common.{◌≡◌, ℕ, zero, suc, ◌+◌, ◌≤◌, ◌<◌, inl, inr, Bool, List, [], ◌∷◌, length, map, refl, sym, ◌∙◌, ap, subst, arith, None, Some}
use Rattle.std.specs.List.{All, flat_map, slice_get}
use Rattle.std.proofs.lemmas.List.{length-map}
use Rattle.std.proofs.lemmas.Option.{slice_get_cases}
use Rattle.yv_link_scopes.specs.Files.{Files, Briefs, brief_of}
use Rattle.yv_link_scopes.specs.Rows.{Row}
use Rattle.yv_link_scopes.specs.RowList.{rows_of}
use Rattle.yv_expand_statements.specs.Limit.{Fits}
use Rattle.yv_expand_statements.specs.StatementBlocks.{given_at, given_before, block_of, augments_of}
use Rattle.yv_expand_statements.specs.Weigh.{Weigh}
use Rattle.yv_expand.specs.Tree.{Tree, Item, none, all_of, count, join, item_list}
use Rattle.yv_expand.specs.Expansion.{AreAdded, AreTrees, IsWhole}
use Rattle.yv_expand.specs.Expands.{Expands, blocks_of}
use Rattle.yv_expand.proofs.Listing.{all_at}
use Rattle.yv_expand.proofs.StatementReferences.{MeansOne}
use Rattle.yv_expand.proofs.Once.{Expanded, count_joined, expands_one, weighed}
use Rattle.yv_expand.proofs.GivenItems.{trees_before, trees_whole}
use Rattle.yv_expand.proofs.WholeExpansion.{Given, Lengths}

-- all that the files of an order give
own_whole : (files : Briefs) (rows : List Row) (marks : List Bool) (order : List ℕ) (trees : List Tree) → AreTrees files rows marks order trees
    → Expands files rows (flat_map (given_at files rows marks) order) (all_of trees)
own_whole files rows marks order trees are = trees_whole files rows (given_at files rows marks) order trees (are.each, are.expands)

-- all that the augments of modules give
added_whole : (files : Briefs) (rows : List Row) (marks : List Bool) (added : List Tree) → AreAdded files rows marks added
    → Expands files rows (blocks_of rows (given_before files rows marks (length files))) (all_of added)
added_whole files rows marks added are = trees_whole files rows (block_of rows) (augments_of files rows marks) added (are.each, are.expands)

pub whole_one : MeansOne → (files : Files) (marks : List Bool) (order : List ℕ) (own own' : ℕ) (items items' : List Item)
    → IsWhole files marks order own items → IsWhole files marks order own' items' → (own ≡ own') × (items ≡ items')
whole_one one files marks order own own' items items' is is' =
    let briefs : Briefs = map brief_of files in
    let rows : List Row = rows_of files in
    let same : all_of is.trees ≡ all_of is'.trees =
    expands_one one (own_whole briefs rows marks order is.trees is.are) (own_whole briefs rows marks order is'.trees is'.are) in
    let added : all_of is.added ≡ all_of is'.added =
    expands_one one (added_whole briefs rows marks is.added is.are_added) (added_whole briefs rows marks is'.added is'.are_added) in (
      is.own_are ∙ ap count same ∙ sym is'.own_are,
      is.listed ∙ ap (λ (t : Tree). item_list None 0 (join t (all_of is.added))) same
          ∙ ap (λ (t : Tree). item_list None 0 (join (all_of is'.trees) t)) added ∙ sym is'.listed,
    )

-- the items of one of several trees; past the last there are none
abbrev size_of : List Tree → ℕ → ℕ
size_of [] n = 0
size_of (t ∷ ts) zero = count t
size_of (t ∷ ts) (suc n) = size_of ts n

size_at : (ts : List Tree) (n : ℕ) (t : Tree) → slice_get ts n ≡ Some t → count t ≡ size_of ts n
size_at [] n t at = cc
size_at (u ∷ ts) zero t at = cc
size_at (u ∷ ts) (suc n) t at = size_at ts n t at

-- the trees without the items of one
abbrev emptied : List Tree → ℕ → List Tree
emptied [] n = []
emptied (t ∷ ts) zero = none ∷ ts
emptied (t ∷ ts) (suc n) = t ∷ emptied ts n

emptied_less : (ts : List Tree) (n : ℕ) → count (all_of (emptied ts n)) + size_of ts n ≡ count (all_of ts)
emptied_less [] n = omega arith
emptied_less (t ∷ ts) zero = omega (arith, count_joined t (all_of ts))
emptied_less (t ∷ ts) (suc n) = omega (arith, count_joined t (all_of ts), count_joined t (all_of (emptied ts n)), emptied_less ts n)

emptied_other : (ts : List Tree) (n m : ℕ) → (n ≡ m → ⊥) → size_of (emptied ts n) m ≡ size_of ts m
emptied_other [] n m other = refl
emptied_other (t ∷ ts) zero zero other = absurd (other refl)
emptied_other (t ∷ ts) zero (suc m) other = refl
emptied_other (t ∷ ts) (suc n) zero other = refl
emptied_other (t ∷ ts) (suc n) (suc m) other = emptied_other ts n m (λ same. other (omega (arith, same)))

-- the items of the trees of several numbers
abbrev total : List Tree → List ℕ → ℕ
total ts [] = 0
total ts (n ∷ ns) = size_of ts n + total ts ns

total_other : (ts : List Tree) (n : ℕ) (ns : List ℕ) → ((k m : ℕ) → slice_get ns k ≡ Some m → n ≡ m → ⊥) → total (emptied ts n) ns ≡ total ts ns
total_other ts n [] other = refl
total_other ts n (m ∷ ms) other =
    omega (arith, emptied_other ts n m (other 0 m refl), total_other ts n ms (λ k i at. other (suc k) i at))

-- where no number is there twice, they are no more than all items
abbrev pub AreDistinct : List ℕ → Type 0
AreDistinct order = (i k n : ℕ) → slice_get order i ≡ Some n → slice_get order k ≡ Some n → i ≡ k

total_within : (ts : List Tree) (order : List ℕ) → AreDistinct order → total ts order ≤ count (all_of ts)
total_within ts [] distinct = omega arith
total_within ts (n ∷ ns) distinct =
    let other : (k m : ℕ) → slice_get ns k ≡ Some m → n ≡ m → ⊥ =
    λ k m at same. (let twice : 0 ≡ suc k = distinct 0 (suc k) m (ap Some same) at in omega (arith, twice)) in
    let later : AreDistinct ns = λ i k m first last. (let twice : suc i ≡ suc k = distinct (suc i) (suc k) m first last in omega (arith, twice)) in
    omega (arith, total_other ts n ns other, total_within (emptied ts n) ns later, emptied_less ts n)

-- the trees of an order, where each has the items of the tree of its number
total_is : (ts : List Tree) (order : List ℕ) (trees : List Tree) → length trees ≡ length order
    → ((n file : ℕ) (t : Tree) → slice_get order n ≡ Some file → slice_get trees n ≡ Some t → count t ≡ size_of ts file) → count (all_of trees) ≡ total ts order
total_is ts [] [] each are = refl
total_is ts [] (t ∷ us) each are = absurd (omega (arith, each))
total_is ts (n ∷ ns) [] each are = absurd (omega (arith, each))
total_is ts (n ∷ ns) (t ∷ us) each are =
    let later : count (all_of us) ≡ total ts ns = total_is ts ns us (omega (arith, each)) (λ m file u here at. are (suc m) file u here at) in
    omega (arith, count_joined t (all_of us), are 0 n t refl refl, later)

-- the files' own trees are no more than what all files give
own_within : MeansOne → (files : Briefs) (rows : List Row) (marks : List Bool) (order : List ℕ) (trees : List Tree) (n : ℕ) (t : Tree) → AreTrees files rows marks order trees
    → All (λ file. file < n) order → AreDistinct order → Expands files rows (given_before files rows marks n) t → count (all_of trees) ≤ count t
own_within one files rows marks order trees n t are within distinct expands =
    let (ts, each, expand, whole) = trees_before files rows marks n t expands in
    let size : (m file : ℕ) (u : Tree) → slice_get order m ≡ Some file → slice_get trees m ≡ Some u → count u ≡ size_of ts file =
    λ m file u here at. (
    elim (slice_get_cases ts file).1 [
      | inl (v, lt, there, is) ↦ ap count (expands_one one (are.expands m file u here at) (expand file v there)) ∙ size_at ts file v there
      | inr (past, free) ↦ absurd (omega (arith, past, each, all_at (λ k. k < n) order m file within here))
    ]
    ) in
    omega (arith, total_is ts order trees are.each size, total_within ts order distinct, ap count whole)

pub whole_within : MeansOne → Lengths → (files : Files) (marks : List Bool) (order : List ℕ) (own units : ℕ) (items : List Item) → IsWhole files marks order own items
    → All (λ file. file < length files) order → AreDistinct order
    → Weigh (map brief_of files) (rows_of files) (given_before (map brief_of files) (rows_of files) marks (length files)) units → length items ≤ units
whole_within one lengths files marks order own units items is within distinct weigh =
    let briefs : Briefs = map brief_of files in
    let rows : List Row = rows_of files in
    let numbers : List ℕ = given_before briefs rows marks (length files) in
    let found : Expanded briefs rows numbers units = weighed briefs rows weigh in
    let own_le : count (all_of is.trees) ≤ count found.tree = own_within one briefs rows marks order is.trees (length files) found.tree is.are within distinct found.expands in
    let counted : given_before briefs rows marks (length briefs) ≡ numbers = ap (given_before briefs rows marks) (length-map files brief_of) in
    let added : Expands briefs rows (blocks_of rows numbers) (all_of is.added) =
    subst (λ (l : List ℕ). Expands briefs rows (blocks_of rows l) (all_of is.added)) counted (added_whole briefs rows marks is.added is.are_added) in
    let added_is : count (all_of is.added) ≡ count found.given = ap count (expands_one one added found.given_expands) in
    let length_is : length items ≡ count (join (all_of is.trees) (all_of is.added)) = ap length is.listed ∙ lengths None 0 (join (all_of is.trees) (all_of is.added)) in
    omega (arith, length_is, count_joined (all_of is.trees) (all_of is.added), own_le, added_is, found.within)

-- what files come to that fit the limit is within it
pub given_fits : MeansOne → Lengths → (files : Files) (marks : List Bool) (order : List ℕ) (limit : ℕ) → All (λ file. file < length files) order
    → ((i k n : ℕ) → slice_get order i ≡ Some n → slice_get order k ≡ Some n → i ≡ k) → Fits files marks limit → (g : Given files marks order)
    → count (all_of g.trees) + count (all_of g.added) ≤ limit
given_fits one lengths files marks order limit within distinct (units, weigh, fits) g =
    let all : Tree = join (all_of g.trees) (all_of g.added) in
    let is : IsWhole files marks order (count (all_of g.trees)) (item_list None 0 all) = record {
      trees = g.trees;
      are = g.are;
      added = g.added;
      are_added = g.are_added;
      own_are = refl;
      listed = refl;
    } in
    let few : length (item_list None 0 all) ≤ units =
    whole_within one lengths files marks order (count (all_of g.trees)) units (item_list None 0 all) is within distinct weigh in
    let long : length (item_list None 0 all) ≡ count all = lengths None 0 all in
    let both : count all ≡ count (all_of g.trees) + count (all_of g.added) = count_joined (all_of g.trees) (all_of g.added) in
    omega (arith, few, fits, long, both)
