-- Items belong to modules that are implemented.
use Rattle.std.proofs.Common.{inl, inr, ◌≡◌, ℕ, zero, suc, ◌+◌, ◌<◌, ◌≤◌, ◌==◌, ◌&&◌, not, Bool, true, false, if◌then◌else◌, List, [], ◌∷◌, map, length, length-append, get_or, Option, Some, None, refl, sym, ap, subst, ◌∙◌, arith}
use Rattle.std.specs.List.{filter, slice_get}
use Rattle.std.proofs.lemmas.Bool.{cases_lt, eq-eqb, eqb-true, false≢true}
use Rattle.std.proofs.lemmas.Option.{same_Some, slice_get_within}
use Rattle.yv_text_statement.specs.Tree.{Tree as Root}
use Rattle.yv_text_statement.specs.Selection.{ModuleChoice, is_implemented}
use Rattle.yv_link_scopes.specs.Files.{Briefs, Files, brief_of, module_file_at, module_name}
use Rattle.yv_link_scopes.specs.RowList.{rows_of}
use Rattle.yv_link_scopes.specs.Rows.{Row}
use Rattle.yv_link_scopes.proofs.Within.{rows_of_roots}
use Rattle.yv_expand_statements.specs.StatementBlocks.{given_at, given_before, block_of, numbers_from, stands_in, top_of, augments_of, is_at, is_augment}
use Rattle.yv_expand_statements.specs.Origin.{number_of}
use Rattle.yv_expand.specs.Tree.{Item, Tree, all_of, count, item, join, item_list, none}
use Rattle.yv_expand.specs.Expansion.{AreAdded, AreTrees}
use Rattle.yv_expand.specs.Expands.{Expands, node, nothing, operation, other, uses}
use Rattle.yv_expand_uses.specs.Spots.{LayoutView, Whole, module_file_below, layout_of, laid_from, one_more, own_module_file, spot_at, spot_of}
use Rattle.yv_expand_uses.specs.declared.spot.Spot.{Spot}
use Rattle.yv_expand_uses.proofs.Bounds.{pushed_at}
use Rattle.yv_expand_tree.specs.Final.{Final, IsFinal, spots_of, whole_of}
use Rattle.yv_expand_statements.specs.FileOrder.{HaveModuleFiles, is_given, marks_of, order_of}
use Rattle.yv_expand_tree.proofs.Finals.{slice_get_absent}
use Rattle.yv_expand_tree.proofs.GivenFiles.{Each, and_first, each_both}
use Rattle.yv_expand_tree.proofs.BlockFiles.{block_file}
use Rattle.yv_expand_tree.proofs.NodePositions.{in_lists, parents_first}

and_second : (a b : Bool) → (a && b) ≡ true → b ≡ true
and_second true b e = e
and_second false b e = absurd (false≢true e)

not_true : (b : Bool) → not b ≡ true → b ≡ true → ⊥
not_true true e h = false≢true e
not_true false e h = false≢true h

-- the numbers of statements that pass a test
module _ (passes : ℕ → Row → Bool) where
  abbrev Passed : (from : ℕ) → List Row → ℕ → Type 0
  Passed from rs n = (k : ℕ) × (n ≡ from + k) × (r : Row) × (slice_get rs k ≡ Some r) × (passes n r ≡ true)

  passed_more : (from : ℕ) (x : Row) (rs : List Row) (b : Bool) → passes from x ≡ b → Each (Passed (from + 1) rs) (numbers_from passes (from + 1) rs)
      → Each (Passed from (x ∷ rs)) (if b then from ∷ numbers_from passes (from + 1) rs else numbers_from passes (from + 1) rs)
  passed_more from x rs true e rest zero n at =
      let same : from ≡ n = same_Some from n at in
      (0, omega (arith, same), x, refl, ap (λ (m : ℕ). passes m x) (sym same) ∙ e)
  passed_more from x rs true e rest (suc i) n at = (let h = rest i n at in (suc h.0, omega (arith, h.1), h.2, h.3, h.4))
  passed_more from x rs false e rest i n at = (let h = rest i n at in (suc h.0, omega (arith, h.1), h.2, h.3, h.4))

  passed_from : (from : ℕ) (rs : List Row) → Each (Passed from rs) (numbers_from passes from rs)
  passed_from from [] = λ i n at. absurd (let bad : None ≡ Some n = at in cc)
  passed_from from (x ∷ rs) = passed_more from x rs (passes from x) refl (passed_from (from + 1) rs)

  passed : (rows : List Row) → Each (λ n. (r : Row) × (slice_get rows n ≡ Some r) × (passes n r ≡ true)) (numbers_from passes 0 rows)
  passed rows i n at =
      let h = passed_from 0 rows i n at in
      (h.2, ap (slice_get rows) (let e : n ≡ h.0 = (let f = h.1 in omega (arith, f)) in e) ∙ h.3, h.4)

module _ (P : ℕ → Type 0) where
  each_filter : (test : ℕ → Bool) (xs : List ℕ) → Each P xs → Each P (filter test xs)
  each_filter test [] all = all
  each_filter test (x ∷ xs) all = by (test x) (each_filter test xs (λ i n at. all (suc i) n at))
    where
      more : Each P (filter test xs) → Each P (x ∷ filter test xs)
      more h zero n at = all 0 n at
      more h (suc i) n at = h i n at

      by : (b : Bool) → Each P (filter test xs) → Each P (if b then x ∷ filter test xs else filter test xs)
      by true h = more h
      by false h = h

  -- of each item at the top of a tree this holds
  abbrev Tops : Tree → Type 0
  Tops none = Unit {0}
  Tops (item origin below behind) = P (number_of origin) × Tops behind

  tops_joined : (t u : Tree) → Tops t → Tops u → Tops (join t u)
  tops_joined none u p q = q
  tops_joined (item origin below behind) u p q = (p.0, tops_joined behind u p.1 q)

  tops_all : (ts : List Tree) → ((n : ℕ) (t : Tree) → slice_get ts n ≡ Some t → Tops t) → Tops (all_of ts)
  tops_all [] all = tt
  tops_all (t ∷ ts) all = tops_joined t (all_of ts) (all 0 t refl) (tops_all ts (λ n u at. all (suc n) u at))

  each_later : (k : ℕ) (ks : List ℕ) → Each P (k ∷ ks) → Each P ks
  each_later k ks all i n at = all (suc i) n at

  expands_tops : {files : Briefs} {rows : List Row} {numbers : List ℕ} {t : Tree} → Expands files rows numbers t → Each P numbers → Tops t
  expands_tops nothing all = tt
  expands_tops (other {k = k} {others = ks} at isnt behind) all = expands_tops behind (each_later k ks all)
  expands_tops (node {k = k} {others = ks} at is isnt apart below behind) all = (all 0 k refl, expands_tops behind (each_later k ks all))
  expands_tops (operation {k = k} {others = ks} at is input output behind) all = (all 0 k refl, expands_tops behind (each_later k ks all))
  expands_tops (uses {k = k} {others = ks} at is refers copies given behind) all = (all 0 k refl, expands_tops behind (each_later k ks all))

  -- an item of a tree below another is not at the top
  has_parent : (p first : ℕ) (t : Tree) (i : ℕ) (x : Item) → slice_get (item_list (Some p) first t) i ≡ Some x → x.parent ≡ None → ⊥
  has_parent p first none i x at up = let bad : None ≡ Some x = at in cc
  has_parent p first (item origin below behind) zero x at up =
      let bad : Some p ≡ None = ap (λ (y : Item). y.parent) (same_Some (record { origin = origin; parent = Some p }) x at) ∙ up in cc
  has_parent p first (item origin below behind) (suc i) x at up =
      elim (in_lists (item_list (Some first) (first + 1) below) (item_list (Some p) (first + 1 + count below) behind) i x at) [
        | inl h ↦ has_parent first (first + 1) below i x h up
        | inr h ↦ has_parent p (first + 1 + count below) behind h.0 x h.2 up
      ]

  tops_listed : (first : ℕ) (t : Tree) → Tops t → (i : ℕ) (x : Item) → slice_get (item_list None first t) i ≡ Some x → x.parent ≡ None → P (number_of x.origin)
  tops_listed first none all i x at up = absurd (let bad : None ≡ Some x = at in cc)
  tops_listed first (item origin below behind) all zero x at up =
      subst (λ (y : Item). P (number_of y.origin)) (same_Some (record { origin = origin; parent = None }) x at) all.0
  tops_listed first (item origin below behind) all (suc i) x at up =
      elim (in_lists (item_list (Some first) (first + 1) below) (item_list None (first + 1 + count below) behind) i x at) [
        | inl h ↦ absurd (has_parent first (first + 1) below i x h up)
        | inr h ↦ tops_listed (first + 1 + count below) behind all.1 h.0 x h.2 up
      ]

mark_at : (choice : ModuleChoice) (files : Files) (n : ℕ) → get_or (marks_of choice files) n false ≡ true
    → (t : Root) × (slice_get files n ≡ Some t) × (is_implemented choice (module_name t) ≡ true)
mark_at choice [] n e = absurd (false≢true e)
mark_at choice (t ∷ ts) zero e = (t, refl, e)
mark_at choice (t ∷ ts) (suc n) e = mark_at choice ts n e

module _ (choice : ModuleChoice) (files : Files) (have : HaveModuleFiles choice files) where
  -- a module's own file
  abbrev pub IsModuleFile : ℕ → Type 0
  IsModuleFile n = (module_file : Root) × (slice_get files n ≡ Some module_file) × (is_given choice module_file ≡ true)

  -- a statement of a file of a module that is implemented
  abbrev IsOwn : ℕ → Type 0
  IsOwn k = IsModuleFile (own_module_file (map brief_of files) (slice_get (rows_of files) k))

  -- a statement at the top of a file that is given
  abbrev IsTop : ℕ → ℕ → Type 0
  IsTop file k =
      (r : Row) × (slice_get (rows_of files) k ≡ Some r) × (r.file ≡ file) × (r.scope ≡ k → ⊥) × (get_or (marks_of choice files) file false ≡ true)

  module_file_given : (file : ℕ) → get_or (marks_of choice files) file false ≡ true → IsModuleFile (module_file_at (map brief_of files) file)
  module_file_given file mark = let h = mark_at choice files file mark in have file h.0 h.1 h.2

  own_by : (k : ℕ) (r : Row) (file : ℕ) → slice_get (rows_of files) k ≡ Some r → r.file ≡ file → get_or (marks_of choice files) file false ≡ true → IsOwn k
  own_by k r file at is mark =
      subst IsModuleFile (sym (ap (own_module_file (map brief_of files)) at ∙ ap (module_file_at (map brief_of files)) is)) (module_file_given file mark)

  tops_of : (file : ℕ) → Each (IsTop file) (given_at (map brief_of files) (rows_of files) (marks_of choice files) file)
  tops_of file = by (get_or (marks_of choice files) file false) refl
    where
      by : (b : Bool) → get_or (marks_of choice files) file false ≡ b
          → Each (IsTop file) (if b then top_of (map brief_of files) (rows_of files) file else [])
      by true mark i k at =
          let module_file : ℕ = module_file_at (map brief_of files) file in
          let h = passed (λ j r. stands_in module_file j r && (r.file == file)) (rows_of files) i k at in
          let both : (h.0.scope == module_file && not (h.0.scope == k)) ≡ true = and_first (stands_in module_file k h.0) (h.0.file == file) h.2 in (
            h.0,
            h.1,
            eqb-true h.0.file file (and_second (stands_in module_file k h.0) (h.0.file == file) h.2),
            λ e. not_true (h.0.scope == k) (and_second (h.0.scope == module_file) (not (h.0.scope == k)) both) (eq-eqb h.0.scope k e),
            mark,
          )
      by false mark i k at = absurd (let bad : None ≡ Some k = at in cc)

  given_tops : (n : ℕ) → Each (λ k. (file : ℕ) × IsTop file k) (given_before (map brief_of files) (rows_of files) (marks_of choice files) n)
  given_tops zero = λ i k at. absurd (let bad : None ≡ Some k = at in cc)
  given_tops (suc n) =
      each_both (λ k. (file : ℕ) × IsTop file k) (given_before (map brief_of files) (rows_of files) (marks_of choice files) n)
      (given_at (map brief_of files) (rows_of files) (marks_of choice files) n) (given_tops n) (λ i k at. (n, tops_of n i k at))

  -- what stands in a block there is of the same file
  block_own : (file k : ℕ) → IsTop file k → Each IsOwn (block_of (rows_of files) k)
  block_own file k top i j at =
      let r = top.0 in
      let past : length files ≤ k = elim (cases_lt k (length files)) [
        | inl lt ↦ absurd (by lt (slice_get files k) refl)
        | inr le ↦ omega (arith, le)
      ] in
      let h = passed (stands_in k) (rows_of files) i j at in
      let in_it : h.0.scope ≡ k = eqb-true h.0.scope k (and_first (h.0.scope == k) _ h.2) in
      own_by j h.0 file h.1 (block_file files k j r h.0 past top.1 h.1 in_it ∙ top.2) top.4
    where
      by : k < length files → (o : Option Root) → slice_get files k ≡ o → ⊥
      by lt None there = let l = slice_get_absent files k there in omega (arith, l, lt)
      by lt (Some t) there =
          top.3 (ap (λ (y : Row). y.scope) (same_Some top.0 (record { file = k; scope = k; head = t.head }) (sym top.1 ∙ rows_of_roots files k t there)))

  trees_own : (trees : List Tree) → AreTrees (map brief_of files) (rows_of files) (marks_of choice files) (order_of choice files) trees → Tops IsOwn (all_of trees)
  trees_own trees are = tops_all IsOwn trees (λ n t at. by n t at (slice_get (order_of choice files) n) refl)
    where
      by : (n : ℕ) (t : Tree) → slice_get trees n ≡ Some t → (o : Option ℕ) → slice_get (order_of choice files) n ≡ o → Tops IsOwn t
      by n t at None there =
          let l = slice_get_absent (order_of choice files) n there in
          let w = slice_get_within trees n t at in
          let e = are.each in
          absurd (omega (arith, l, w, e))
      by n t at (Some file) there =
          expands_tops IsOwn (are.expands n file t there at) (λ i k h. (let top = tops_of file i k h in own_by k top.0 file top.1 top.2 top.4))

  augments_top : Each (λ k. (file : ℕ) × IsTop file k) (augments_of (map brief_of files) (rows_of files) (marks_of choice files))
  augments_top =
      each_filter (λ k. (file : ℕ) × IsTop file k) (is_at is_augment (rows_of files))
      (given_before (map brief_of files) (rows_of files) (marks_of choice files) (length (map brief_of files))) (given_tops (length (map brief_of files)))

  added_own : (trees : List Tree) → AreAdded (map brief_of files) (rows_of files) (marks_of choice files) trees → Tops IsOwn (all_of trees)
  added_own trees are = tops_all IsOwn trees (λ n t at. by n t at (slice_get (augments_of (map brief_of files) (rows_of files) (marks_of choice files)) n) refl)
    where
      by : (n : ℕ) (t : Tree) → slice_get trees n ≡ Some t → (o : Option ℕ)
          → slice_get (augments_of (map brief_of files) (rows_of files) (marks_of choice files)) n ≡ o → Tops IsOwn t
      by n t at None there =
          let l = slice_get_absent (augments_of (map brief_of files) (rows_of files) (marks_of choice files)) n there in
          let w = slice_get_within trees n t at in
          let e = are.each in
          absurd (omega (arith, l, w, e))
      by n t at (Some k) there = (let top = augments_top n k there in expands_tops IsOwn (are.expands n k t there at) (block_own top.0 k top.1))

  abbrev EachSpot : List Spot → Type 0
  EachSpot spots = (i : ℕ) (s : Spot) → slice_get spots i ≡ Some s → IsModuleFile s.module_file

  -- an item is at the top and of such a file, or stands below one before it
  abbrev IsPlaced : ℕ → Item → Type 0
  IsPlaced i x = (x.parent ≡ None → IsOwn (number_of x.origin)) × ((p : ℕ) → x.parent ≡ Some p → p < i)

  module_file_of : (x : Item) (spots : List Spot) (i : ℕ) → length spots ≡ i → IsPlaced i x → EachSpot spots
      → IsModuleFile (module_file_below (map brief_of files) (slice_get (rows_of files) (number_of x.origin)) (spot_at spots x.parent))
  module_file_of x spots i long placed all = by x.parent refl
    where
      inner : (p : ℕ) → p < i → (o : Option Spot) → slice_get spots p ≡ o → IsModuleFile (module_file_below (map brief_of files) (slice_get (rows_of files) (number_of x.origin)) o)
      inner p lt None at = let l = slice_get_absent spots p at in absurd (omega (arith, l, lt, long))
      inner p lt (Some s) at = all p s at

      by : (o : Option ℕ) → x.parent ≡ o → IsModuleFile (module_file_below (map brief_of files) (slice_get (rows_of files) (number_of x.origin)) (spot_at spots o))
      by None up = placed.0 up
      by (Some p) up = inner p (placed.1 p up) (slice_get spots p) refl

  module _ (w : Whole) (of_files : w.files ≡ map brief_of files) (of_rows : w.rows ≡ rows_of files) where
    module_files_from : (xs : List Item) (l : LayoutView) (i : ℕ) → length l.spots ≡ i → ((j : ℕ) (x : Item) → slice_get xs j ≡ Some x → IsPlaced (i + j) x)
        → EachSpot l.spots → EachSpot (laid_from w xs l).spots
    module_files_from [] l i long placed all = all
    module_files_from (x ∷ xs) l i long placed all =
        let y : Spot = spot_of w l.spots l.copies x in
        let here : IsPlaced i x = (let h = placed 0 x refl in (h.0, λ p up. (let lt = h.1 p up in omega (arith, lt)))) in
        let module_file : IsModuleFile (module_file_below (map brief_of files) (slice_get (rows_of files) (number_of x.origin)) (spot_at l.spots x.parent)) =
        module_file_of x l.spots i long here all in
        let mine : IsModuleFile y.module_file =
        subst (λ (bs : Briefs). IsModuleFile (module_file_below bs (slice_get w.rows (number_of x.origin)) (spot_at l.spots x.parent))) (sym of_files)
        (subst (λ (rs : List Row). IsModuleFile (module_file_below (map brief_of files) (slice_get rs (number_of x.origin)) (spot_at l.spots x.parent))) (sym of_rows) module_file) in
        module_files_from xs (one_more w x l) (i + 1) (omega (arith, long, length-append l.spots (y ∷ [])))
        (λ j z at. (let h = placed (suc j) z at in (h.0, λ p up. (let lt = h.1 p up in omega (arith, lt)))))
        (λ j s at. elim (pushed_at l.spots y s j at) [
          | inl old ↦ all j s old
          | inr same ↦ subst (λ (z : Spot). IsModuleFile z.module_file) same mine
        ])

  pub module_files_are : (f : Final) → IsFinal choice files f → (i : ℕ) (s : Spot) → slice_get (spots_of files f) i ≡ Some s → IsModuleFile s.module_file
  unfolding layout_of
  module_files_are f is =
      let whole = is.expanded in
      let t : Tree = join (all_of whole.trees) (all_of whole.added) in
      let tops : Tops IsOwn t = tops_joined IsOwn (all_of whole.trees) (all_of whole.added) (trees_own whole.trees whole.are) (added_own whole.added whole.are_added) in
      module_files_from (whole_of files f) refl refl f.items (record { spots = []; copies = length f.augments }) 0 refl
      (λ j x at. (
        λ up. tops_listed IsOwn 0 t tops j x (ap (λ (xs : List Item). slice_get xs j) (sym whole.listed) ∙ at) up,
        λ p up. (let lt = parents_first t f.items whole.listed j p x at up in omega (arith, lt)),
      ))
      (λ i s at. absurd (let bad : None ≡ Some s = at in cc))
