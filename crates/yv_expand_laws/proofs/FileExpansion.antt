-- Files that have an expansion expand to a tree.
use Rattle.std.proofs.Common.{◌≡◌, ℕ, suc, zero, ◌<◌, ◌≤◌, ◌⊎◌, inl, inr, ◌∙◌, ap, sym, subst, refl, arith, Bool, true, false, if◌then◌else◌, cond, List, [], ◌∷◌, length, map, Option, Some, None}
use Rattle.std.specs.List.{AllByRecursion, filter, slice_get, slice_index_or}
use Rattle.std.specs.Option.{option_map, unwrap_or}
use Rattle.std.proofs.lemmas.Bool.{false≢true}
use Rattle.std.proofs.lemmas.Option.{get_or_from_slice_get, same_Some, slice_get_within}
use Rattle.yv_text_statement.specs.declared.refusal.Code.TheVariants as code
use Rattle.yv_link_scopes.specs.Files.{Files, brief_of, module_file_at}
use Rattle.yv_link_scopes.specs.RowList.{rows_of}
use Rattle.yv_link_scopes.specs.Rows.{Row}
use Rattle.yv_expand_statements.specs.StatementBlocks.{given_at, given_before, block_of, top_of, is_at, is_augment, augments_of}
use Rattle.yv_expand.specs.Tree.{Item, Tree}
use Rattle.yv_expand.specs.Expands.{Expands}
use Rattle.yv_expand.specs.Expansion.{AreAdded, AreTrees, IsWhole}
use Rattle.yv_expand_definition.specs.Nodes.{Forest, Node, insert, nodes_given}
use Rattle.yv_expand_definition.specs.Paths.{End, Leads, path_of}
use Rattle.yv_expand_definition.specs.Gives.{Gives, Misses, Product, Reaches, add_block, add_refusal, both, nothing}
use Rattle.yv_expand_definition.specs.Rounds.{IsModuleFile, Round, Rounds}
use Rattle.yv_expand_definition.specs.Expansion.{AllRefer, AreMarked, Expand, Tops}
use Rattle.yv_expand_laws.proofs.TreeExistence.{GiveSome, expansion_gives, reaches}
use Rattle.yv_expand_definition.proofs.PathEnds.{HasEnd, HasNoEnd, find}

each_at : (P : ℕ → Type 0) (ks : List ℕ) → ((n k : ℕ) → slice_get ks n ≡ Some k → P k) → AllByRecursion P ks
each_at P [] all = tt
each_at P (k ∷ ks) all = (all 0 k refl, each_at P ks (λ n j e. all (suc n) j e))

not_there : {A B : Type 0} (x : A) → None ≡ Some x → B
not_there x e = absurd cc

-- as many stand in both
same_place : {A B : Type 0} (xs : List A) (ys : List B) (n : ℕ) (x : A) → length ys ≡ length xs → slice_get xs n ≡ Some x → (y : B) × (slice_get ys n ≡ Some y)
same_place [] ys n x each is = not_there x is
same_place (x ∷ xs) [] n z each is = absurd (omega (arith, each))
same_place (x ∷ xs) (y ∷ ys) zero z each is = (y, refl)
same_place (x ∷ xs) (y ∷ ys) (suc n) z each is = same_place xs ys n z (omega (arith, each)) is

-- one of those that pass a test does
passes : (p : ℕ → Bool) (xs : List ℕ) (n k : ℕ) → slice_get (filter p xs) n ≡ Some k → p k ≡ true
passes p [] n k e = not_there k e
passes p (x ∷ xs) n k e = by (p x) refl n e (passes p xs)
  where
    by : (b : Bool) → p x ≡ b → (i : ℕ) → slice_get (cond b (x ∷ filter p xs) (filter p xs)) i ≡ Some k
        → ((i j : ℕ) → slice_get (filter p xs) i ≡ Some j → p j ≡ true) → p k ≡ true
    by false is i at later = later i k at
    by true is zero at later = ap p (sym (same_Some x k at)) ∙ is
    by true is (suc i) at later = later i k at

row_at : (test : Row → Bool) (rows : List Row) (k : ℕ) → is_at test rows k ≡ true → (r : Row) × (slice_get rows k ≡ Some r)
row_at test rows k h = by (slice_get rows k) refl h
  where
    by : (o : Option Row) → slice_get rows k ≡ o → unwrap_or (option_map test o) false ≡ true → (r : Row) × (slice_get rows k ≡ Some r)
    by None is h = absurd (false≢true h)
    by (Some r) is h = (r, is)

-- an augment of a module: where it stands, and that its block gives something
pub record CanGive (files : Files) (a : ℕ) : Type 0 where
  pub row : Row
  pub at : slice_get (rows_of files) a ≡ Some row
  pub gives : GiveSome files (module_file_at (map brief_of files) row.file) (block_of (rows_of files) a)

module _ (files : Files) where
  -- a round has an answer, and if it applies none it leaves all as it was
  pub record HasRound (waiting : List ℕ) (m : Product) : Type 0 where
    pub still : List ℕ
    pub there : Product
    pub round : Round files waiting m still there
    pub can : AllByRecursion (CanGive files) still
    pub no_more : length still ≤ length waiting
    pub applies : (length still < length waiting) ⊎ ((still ≡ waiting) × (there ≡ m))

  pub has_round : (waiting : List ℕ) (m : Product) → AllByRecursion (CanGive files) waiting → HasRound waiting m
  has_round [] m can =
      record { still = []; there = m; round = Round.none_left; can = tt; no_more = omega arith; applies = inr (refl, refl) }
  has_round (a ∷ others) m (one, rest) = by (find (path_of files module_file one.row) false m.nodes) (λ n. has_round others n rest)
    where
      module_file : ℕ
      module_file = module_file_at (map brief_of files) one.row.file

      at : IsModuleFile files a module_file
      at = (one.row, one.at, refl)

      block : (n : Product) × Gives files module_file (a ∷ []) (block_of (rows_of files) a) n
      block = one.gives (a ∷ [])

      turn : {e : End} {last : Forest} → Leads false (path_of files module_file one.row) m.nodes e last
          → ((there : Forest) × (target : Node) × Reaches files module_file a (insert a (nodes_given a block.0.nodes)) m.nodes there target) ⊎ Misses files module_file a m.nodes
          → ((n : Product) → HasRound others n) → HasRound (a ∷ others) m
      turn l (inl (there, target, reached)) later =
          let x = later (add_block files a target m block.0 there) in
          let less : length x.still ≤ length others = x.no_more in
          record {
            still = x.still;
            there = x.there;
            round = Round.adds at block.1 reached x.round;
            can = x.can;
            no_more = omega (arith, less);
            applies = inl (omega (arith, less));
          }
      turn l (inr missed) later =
          let x = later (add_refusal code.AugmentTarget a m) in
          let less : length x.still ≤ length others = x.no_more in
          record {
            still = x.still;
            there = x.there;
            round = Round.without_target at (one.row, one.at, l) missed x.round;
            can = x.can;
            no_more = omega (arith, less);
            applies = inl (omega (arith, less));
          }

      wait : HasNoEnd false (path_of files module_file one.row) m.nodes → (x : HasRound others m)
          → (length x.still < length others) ⊎ ((x.still ≡ others) × (x.there ≡ m)) → HasRound (a ∷ others) m
      wait no_end x (inl less) =
          record {
            still = a ∷ x.still;
            there = x.there;
            round = Round.waits at (one.row, one.at, no_end) x.round;
            can = (one, x.can);
            no_more = omega (arith, less);
            applies = inl (omega (arith, less));
          }
      wait no_end x (inr (same, unchanged)) =
          let all : length x.still ≡ length others = ap length same in
          record {
            still = a ∷ x.still;
            there = x.there;
            round = Round.waits at (one.row, one.at, no_end) x.round;
            can = (one, x.can);
            no_more = omega (arith, all);
            applies = inr (ap (λ z. a ∷ z) same, unchanged);
          }

      by : HasEnd false (path_of files module_file one.row) m.nodes ⊎ HasNoEnd false (path_of files module_file one.row) m.nodes → ((n : Product) → HasRound others n) → HasRound (a ∷ others) m
      by (inl (e, there, l)) later = turn l (reaches files module_file a (insert a (nodes_given a block.0.nodes)) m.nodes) later
      by (inr no_end) later = (let x = later m in wait no_end x x.applies)

  -- a round that applies none is the last
  last_round : {waiting : List ℕ} {m : Product} (x : HasRound waiting m) → x.still ≡ waiting → x.there ≡ m → (end : Product) × Rounds files waiting m end
  last_round {waiting = waiting} {m = m} x same unchanged =
      (_, Rounds.last (subst (λ n. Round files waiting m waiting n) unchanged (subst (λ ks. Round files waiting m ks x.there) same x.round)))

  -- rounds come to an end
  pub have_rounds : (most : ℕ) (waiting : List ℕ) (m : Product) → length waiting ≤ most → AllByRecursion (CanGive files) waiting → (end : Product) × Rounds files waiting m end
  have_rounds zero waiting m few can = by (has_round waiting m can) (has_round waiting m can).applies
    where
      by : (x : HasRound waiting m) → (length x.still < length waiting) ⊎ ((x.still ≡ waiting) × (x.there ≡ m)) → (end : Product) × Rounds files waiting m end
      by x (inl less) = absurd (omega (arith, less, few))
      by x (inr (same, unchanged)) = last_round x same unchanged
  have_rounds (suc most) waiting m few can = by (has_round waiting m can) (has_round waiting m can).applies (have_rounds most)
    where
      by : (x : HasRound waiting m) → (length x.still < length waiting) ⊎ ((x.still ≡ waiting) × (x.there ≡ m))
          → ((ks : List ℕ) (n : Product) → length ks ≤ most → AllByRecursion (CanGive files) ks → (end : Product) × Rounds files ks n end) → (end : Product) × Rounds files waiting m end
      by x (inl less) later = (let y = later x.still x.there (omega (arith, less, few)) x.can in (y.0, Rounds.one_more x.round less y.1))
      by x (inr (same, unchanged)) later = last_round x same unchanged

  -- the top of a file gives something
  GivesTop : ℕ → Type 0
  GivesTop file = (m : Product) × Gives files (module_file_at (map brief_of files) file) [] (top_of (map brief_of files) (rows_of files) file) m

  tops_give : (order : List ℕ) → AllByRecursion GivesTop order → (m : Product) × Tops files order m
  unfolding GivesTop
  tops_give [] gives = (nothing, Tops.no_files)
  tops_give (file ∷ others) (first, gives) = (let x = tops_give others gives in (both first.0 x.0, Tops.one_more first.1 x.1))

  module _ (refer : AllRefer (map brief_of files) (rows_of files)) (marks : List Bool) where
    each_top_gives : (order : List ℕ) (trees : List Tree) → AreMarked marks order
        → AreTrees (map brief_of files) (rows_of files) marks order trees → AllByRecursion GivesTop order
    unfolding GivesTop
    each_top_gives order trees marked are = each_at _ order (λ n file is.
        let t = same_place order trees n file are.each is in
        let mark : slice_index_or marks file false ≡ true = marked file (n, slice_get_within order n file is, get_or_from_slice_get order n file file is) in
        let all : given_at (map brief_of files) (rows_of files) marks file ≡ top_of (map brief_of files) (rows_of files) file =
        ap (λ b. if b then top_of (map brief_of files) (rows_of files) file else []) mark in
        expansion_gives files (module_file_at (map brief_of files) file) refer
        (subst (λ ks. Expands (map brief_of files) (rows_of files) ks t.0) all (are.expands n file t.0 is t.1)) [])

    each_augment_gives : (trees : List Tree) → AreAdded (map brief_of files) (rows_of files) marks trees
        → AllByRecursion (CanGive files) (augments_of (map brief_of files) (rows_of files) marks)
    each_augment_gives trees are = each_at (CanGive files) (augments_of (map brief_of files) (rows_of files) marks) (λ n k is.
        let t = same_place (augments_of (map brief_of files) (rows_of files) marks) trees n k are.each is in
        let r = row_at is_augment (rows_of files) k
        (passes (is_at is_augment (rows_of files)) (given_before (map brief_of files) (rows_of files) marks (length (map brief_of files))) n k is) in
        record {
          row = r.0;
          at = r.1;
          gives = expansion_gives files (module_file_at (map brief_of files) r.0.file) refer (are.expands n k t.0 is t.1);
        })

    pub files_expand : (order : List ℕ) (own : ℕ) (items : List Item) → AreMarked marks order
        → IsWhole files marks order own items → (m : Product) × Expand files marks order m
    files_expand order own items marked whole =
        let t = tops_give order (each_top_gives order whole.trees marked whole.are) in
        let x = have_rounds (length (augments_of (map brief_of files) (rows_of files) marks)) (augments_of (map brief_of files) (rows_of files) marks) t.0 (omega arith)
        (each_augment_gives whole.added whole.are_added) in
        (x.0, record { own = t.0; tops = t.1; rounds = x.1 })
