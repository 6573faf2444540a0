-- Items that are filed are those of a block or of a file.
use Rattle.std.proofs.Common.{◌≡◌, ℕ, ◌+◌, ◌<◌, ◌≤◌, ◌==◌, inl, inr, zero, suc, Bool, true, false, not, ◌&&◌, cond, if◌then◌else◌, List, [], ◌∷◌, ◌++◌, length, refl, sym, ◌∙◌, ap, arith, Option, Some, None, eq-eqb}
use Rattle.std.specs.List.{slice_get, slice_index_or, filter, flat_map, All}
use Rattle.std.specs.Option.{option_map, unwrap_or}
use Rattle.std.proofs.lemmas.Bool.{eqb-true}
use Rattle.std.proofs.lemmas.List.Elements.{All-head, All-tail}
use Rattle.std.proofs.lemmas.Option.{slice_get_cases, slice_get_within}
use Rattle.yv_link_scopes.specs.Files.{Briefs, module_file_at}
use Rattle.yv_link_scopes.specs.Rows.{Row}
use Rattle.yv_expand_statements.specs.StatementBlocks.{block_of, top_of, stands_in, numbers_from, given_at, given_before, is_node_or_uses, is_augment, is_at, those}
use Rattle.yv_expand.specs.Expands.{blocks_of}
use Rattle.yv_expand.specs.InnerItems.{Lists, ArePlaced, is_place, block_place, top_place, placed_from, numbers_at, numbers_in, top_at, tops_before}
use Rattle.yv_expand.proofs.GivenItems.{passing}

both_false : (b : Bool) → false ≡ (b && false)
both_false true = refl
both_false false = refl

both_same : (b : Bool) → b ≡ (b && true)
both_same true = refl
both_same false = refl

-- the place of a statement that passes is its block
block_same : (test : Row → Bool) (b k : ℕ) (r : Row) → is_place b (block_place test k r) ≡ (test r && stands_in b k r)
block_same test b k r = by (test r) (not (r.scope == k))
  where
    by : (i n : Bool) → is_place b (if i && n then Some r.scope else None) ≡ (i && ((r.scope == b) && n))
    by false n = refl
    by true true = both_same (r.scope == b)
    by true false = both_false (r.scope == b)

-- what stands at the top of another file
other_file : (file f : ℕ) (c : Bool) → (f == file) ≡ false → is_place file (if c then Some f else None) ≡ false
other_file file f true h = h
other_file file f false h = refl

own_file : (file : ℕ) (c : Bool) → is_place file (if c then Some file else None) ≡ (c && true)
own_file file true = eq-eqb file file refl
own_file file false = refl

-- or the file at whose top it stands
top_same : (test : Row → Bool) (files : Briefs) (file k : ℕ) (r : Row) → is_place file (top_place test files k r) ≡ (test r && (stands_in (module_file_at files file) k r && (r.file == file)))
top_same test files file k r = by (test r) (r.file == file) refl
  where
    by : (i e : Bool) → (r.file == file) ≡ e → is_place file (if i && ((r.scope == module_file_at files r.file) && not (r.scope == k)) then Some r.file else None) ≡ (i && (((r.scope == module_file_at files file) && not (r.scope == k)) && e))
    by false e is = refl
    by true true is =
        ap (λ (f : ℕ). is_place file (if (r.scope == module_file_at files f) && not (r.scope == k) then Some f else None)) (eqb-true r.file file is)
        ∙ own_file file ((r.scope == module_file_at files file) && not (r.scope == k))
    by true false is =
        other_file file r.file ((r.scope == module_file_at files r.file) && not (r.scope == k)) is
        ∙ both_false ((r.scope == module_file_at files file) && not (r.scope == k))

-- the list of a place
pub placed_at : (place : ℕ → Row → Option ℕ) (rows : List Row) (count p : ℕ) (lists : Lists) → ArePlaced place rows count lists → p < count → numbers_at lists p ≡ placed_from place p 0 rows
placed_at place rows count p lists placed within = elim (slice_get_cases lists p).1 [
  | inl (v, l, at, is) ↦ ap numbers_in at ∙ placed.items p v at
  | inr (past, none) ↦ absurd (omega (arith, past, within, placed.each))
]

-- those of several lists
those_both : (test : Row → Bool) (rows : List Row) (xs ys : List ℕ) → those test rows (xs ++ ys) ≡ those test rows xs ++ those test rows ys
those_both test rows [] ys = refl
those_both test rows (x ∷ xs) ys = by (is_at test rows x) (those_both test rows xs ys)
  where
    by : (b : Bool) → those test rows (xs ++ ys) ≡ those test rows xs ++ those test rows ys
        → cond b (x ∷ those test rows (xs ++ ys)) (those test rows (xs ++ ys)) ≡ cond b (x ∷ those test rows xs) (those test rows xs) ++ those test rows ys
    by true e = ap (λ (l : List ℕ). x ∷ l) e
    by false e = e

module _ (files : Briefs) (rows : List Row) where
  whole_stands : (i : ℕ) (r : Row) → slice_get rows i ≡ Some r → slice_get rows (0 + i) ≡ Some r
  whole_stands i r h = let place : i ≡ 0 + i = omega arith in ap (slice_get rows) (sym place) ∙ h

  -- the first statement, if it passes both tests
  one_passes : (t : ℕ → Bool) (n : ℕ) (a b : Bool) (passing others : List ℕ) → t n ≡ a → passing ≡ filter t others
      → (if a && b then n ∷ passing else passing) ≡ filter t (if b then n ∷ others else others)
  one_passes t n a false passing others is same = ap (λ (c : Bool). if c then n ∷ passing else passing) (sym (both_false a)) ∙ same
  one_passes t n true true passing others is same = ap (λ (l : List ℕ). n ∷ l) same ∙ ap (λ (c : Bool). cond c (n ∷ filter t others) (filter t others)) (sym is)
  one_passes t n false true passing others is same = same ∙ ap (λ (c : Bool). cond c (n ∷ filter t others) (filter t others)) (sym is)

  -- the statements that pass two tests are those that pass the one among those that pass the other
  pub those_numbers : (test : Row → Bool) (p q : ℕ → Row → Bool) → ((k : ℕ) (r : Row) → q k r ≡ (test r && p k r)) → (n : ℕ) (rs : List Row)
      → ((i : ℕ) (r : Row) → slice_get rs i ≡ Some r → slice_get rows (n + i) ≡ Some r) → numbers_from q n rs ≡ those test rows (numbers_from p n rs)
  those_numbers test p q same n [] stand = refl
  those_numbers test p q same n (s ∷ rs) stand =
      let here : n + 0 ≡ n = omega arith in
      let at : slice_get rows n ≡ Some s = ap (slice_get rows) (sym here) ∙ stand 0 s refl in
      let later : (i : ℕ) (r : Row) → slice_get rs i ≡ Some r → slice_get rows (n + 1 + i) ≡ Some r =
      λ i r h. (let place : n + 1 + i ≡ n + suc i = omega arith in ap (slice_get rows) place ∙ stand (suc i) r h) in
      ap (λ (b : Bool). if b then n ∷ numbers_from q (n + 1) rs else numbers_from q (n + 1) rs) (same n s)
      ∙ one_passes (is_at test rows) n (test s) (p n s) (numbers_from q (n + 1) rs) (numbers_from p (n + 1) rs)
      (ap (λ (o : Option Row). unwrap_or (option_map test o) false) at) (those_numbers test p q same (n + 1) rs later)

  -- what is filed by block is those of the block
  pub block_lists : (test : Row → Bool) (lists : Lists) (k : ℕ) → ArePlaced (block_place test) rows (length rows) lists → k < length rows
      → numbers_at lists k ≡ those test rows (block_of rows k)
  block_lists test lists k placed within =
      placed_at (block_place test) rows (length rows) k lists placed within
      ∙ those_numbers test (stands_in k) (λ j r. is_place k (block_place test j r)) (block_same test k) 0 rows whole_stands

  -- what augments give is gathered from their blocks
  pub given_lists : (own : Lists) → ((b : ℕ) → b < length rows → numbers_at own b ≡ those is_node_or_uses rows (block_of rows b)) → (numbers : List ℕ)
      → flat_map (numbers_at own) (those is_augment rows numbers) ≡ those is_node_or_uses rows (blocks_of rows numbers)
  given_lists own are [] = refl
  given_lists own are (k ∷ ks) = by (is_at is_augment rows k) refl (given_lists own are ks)
    where
      by : (b : Bool) → is_at is_augment rows k ≡ b
          → flat_map (numbers_at own) (those is_augment rows ks) ≡ those is_node_or_uses rows (blocks_of rows ks)
          → flat_map (numbers_at own) (cond b (k ∷ those is_augment rows ks) (those is_augment rows ks))
          ≡ those is_node_or_uses rows (flat_map (block_of rows) (cond b (k ∷ those is_augment rows ks) (those is_augment rows ks)))
      by true is e =
          let (r, at, passes) = passing files rows is_augment k is in
          ap (λ (l : List ℕ). l ++ flat_map (numbers_at own) (those is_augment rows ks)) (are k (slice_get_within rows k r at))
          ∙ ap (λ (l : List ℕ). those is_node_or_uses rows (block_of rows k) ++ l) e
          ∙ sym (those_both is_node_or_uses rows (block_of rows k) (blocks_of rows ks))
      by false isnt e = e

  -- what is filed by file is what stands at its top
  top_list : (test : Row → Bool) (lists : Lists) (marks : List Bool) (file : ℕ) → ArePlaced (top_place test files) rows (length files) lists → file < length files
      → top_at lists marks file ≡ those test rows (given_at files rows marks file)
  top_list test lists marks file placed within = by (slice_index_or marks file false)
    where
      by : (b : Bool) → (if b then numbers_at lists file else []) ≡ those test rows (if b then top_of files rows file else [])
      by true =
          placed_at (top_place test files) rows (length files) file lists placed within
          ∙ those_numbers test (λ k r. stands_in (module_file_at files file) k r && (r.file == file)) (λ k r. is_place file (top_place test files k r)) (top_same test files file) 0 rows whole_stands
      by false = refl

  pub top_lists : (test : Row → Bool) (lists : Lists) (marks : List Bool) (n : ℕ) → ArePlaced (top_place test files) rows (length files) lists → n ≤ length files
      → tops_before lists marks n ≡ those test rows (given_before files rows marks n)
  top_lists test lists marks zero placed within = refl
  top_lists test lists marks (suc n) placed within =
      let before : n ≤ length files = omega (arith, within) in
      let here : n < length files = omega (arith, within) in
      ap (λ (l : List ℕ). l ++ top_at lists marks n) (top_lists test lists marks n placed before)
      ∙ ap (λ (l : List ℕ). those test rows (given_before files rows marks n) ++ l) (top_list test lists marks n placed here)
      ∙ sym (those_both test rows (given_before files rows marks n) (given_at files rows marks n))

  -- the same for the files of an order
  pub order_lists : (test : Row → Bool) (lists : Lists) (marks : List Bool) (order : List ℕ) → ArePlaced (top_place test files) rows (length files) lists
      → All (λ file. file < length files) order → flat_map (top_at lists marks) order ≡ those test rows (flat_map (given_at files rows marks) order)
  order_lists test lists marks [] placed within = refl
  order_lists test lists marks (file ∷ others) placed within =
      let here : file < length files = All-head (λ n. n < length files) file others within in
      let later : All (λ n. n < length files) others = All-tail (λ n. n < length files) file others within in
      ap (λ (l : List ℕ). l ++ flat_map (top_at lists marks) others) (top_list test lists marks file placed here)
      ∙ ap (λ (l : List ℕ). those test rows (given_at files rows marks file) ++ l) (order_lists test lists marks others placed later)
      ∙ sym (those_both test rows (given_at files rows marks file) (flat_map (given_at files rows marks) others))
