-- What is left of a tree by its list.
use Rattle.std.proofs.Common.{◌≡◌, ℕ, ◌+◌, ◌<◌, ◌≤◌, ◌&&◌, nat_lt, not, Bool, true, false, if◌then◌else◌, List, [], ◌∷◌, ◌++◌, drop, length, refl, sym, ◌∙◌, ap, arith, Option, Some, None, append_assoc}
use Rattle.std.specs.List.{slice_get}
use Rattle.std.proofs.lemmas.Bool.{lt-ltb, le-ltb, ltb-false}
use Rattle.std.proofs.lemmas.List.{append-nil, drop_all}
use Rattle.yv_expand_rounds.specs.Tree.{Tree, none, item, tree_list}
use Rattle.yv_expand_rounds.specs.declared.row.ItemRow.{ItemRow}
use Rattle.yv_expand_augments.specs.Remains.{remains}
use Rattle.yv_expand_augments.specs.InnerRemains.{cut_after, is_below, is_left_under, one_if, scan}
use Rattle.yv_expand_uses.proofs.StatementLists.{rest_of}

-- the first of these stands no deeper
abbrev HeadAt : List ItemRow → ℕ → Type 0
HeadAt [] d = Unit {0}
HeadAt (x ∷ xs) d = x.depth ≤ d

head_after : (t : Tree) (depth : ℕ) (parent : Option ℕ) (rest : List ItemRow) (d : ℕ) → depth ≤ d → HeadAt rest d → HeadAt (tree_list parent depth t ++ rest) d
head_after none depth parent rest d le h = h
head_after (item i below behind) depth parent rest d le h = le

head_more : (rest : List ItemRow) (d e : ℕ) → d ≤ e → HeadAt rest d → HeadAt rest e
head_more [] d e le h = tt
head_more (x ∷ xs) d e le h = omega (arith, h, le)

module _ (is_kept : ℕ → Bool) where
  -- one item more
  scanned_more : (cut : Option ℕ) (x : ItemRow) (xs : List ItemRow)
      → scan is_kept cut (x ∷ xs) ≡ one_if (is_left_under cut (is_kept x.number) x.depth) x ++ scan is_kept (cut_after cut (is_kept x.number) x.depth) xs
  scanned_more cut x xs = by (is_below cut x.depth) (is_kept x.number)
    where
      by : (b k : Bool)
          → (if b then scan is_kept cut xs else (if k then x ∷ scan is_kept None xs else scan is_kept (Some x.depth) xs))
          ≡ (if not b && k then x ∷ [] else []) ++ scan is_kept (if b then cut else (if k then None else Some x.depth)) xs
      by true k = refl
      by false true = refl
      by false false = refl

  -- nothing is left below an item that isn't kept
  below_cut : (t : Tree) (cut depth : ℕ) (parent : Option ℕ) (rest : List ItemRow) → cut < depth
      → scan is_kept (Some cut) (tree_list parent depth t ++ rest) ≡ scan is_kept (Some cut) rest
  below_cut none cut depth parent rest lt = refl
  below_cut (item i below behind) cut depth parent rest lt =
      let inner : List ItemRow = tree_list (Some i) (depth + 1) below in
      let after : List ItemRow = tree_list parent depth behind in
      let x : ItemRow = record { number = i; parent = parent; depth = depth } in
      let here : nat_lt cut depth ≡ true = lt-ltb cut depth lt in
      let all : List ItemRow = (inner ++ after) ++ rest in
      ap (λ (b : Bool). if b then scan is_kept (Some cut) all else (if is_kept i then x ∷ scan is_kept None all else scan is_kept (Some depth) all)) here
      ∙ ap (scan is_kept (Some cut)) (append_assoc inner after rest)
      ∙ below_cut below cut (depth + 1) (Some i) (after ++ rest) (omega (arith, lt))
      ∙ below_cut behind cut depth parent rest lt

  -- an item that stands no deeper is looked at as at first
  reset : (cut : Option ℕ) (depth : ℕ) (rest : List ItemRow) → is_below cut depth ≡ false → HeadAt rest depth → scan is_kept cut rest ≡ scan is_kept None rest
  reset cut depth [] goes h = refl
  reset None depth (x ∷ xs) goes h = refl
  reset (Some e) depth (x ∷ xs) goes h =
      let le : depth ≤ e = ltb-false e depth goes in
      let here : nat_lt e x.depth ≡ false = le-ltb e x.depth (omega (arith, le, h)) in
      ap (λ (b : Bool). if b then scan is_kept (Some e) xs else (if is_kept x.number then x ∷ scan is_kept None xs else scan is_kept (Some x.depth) xs)) here

  scanned_tree : (t : Tree) (cut : Option ℕ) (depth : ℕ) (parent : Option ℕ) (rest : List ItemRow) → is_below cut depth ≡ false → HeadAt rest depth
      → scan is_kept cut (tree_list parent depth t ++ rest) ≡ tree_list parent depth (remains is_kept t) ++ scan is_kept None rest
  scanned_tree none cut depth parent rest goes h = reset cut depth rest goes h
  scanned_tree (item i below behind) cut depth parent rest goes h =
      let inner : List ItemRow = tree_list (Some i) (depth + 1) below in
      let after : List ItemRow = tree_list parent depth behind in
      let x : ItemRow = record { number = i; parent = parent; depth = depth } in
      let all : List ItemRow = (inner ++ after) ++ rest in
      ap (λ (b : Bool). if b then scan is_kept cut all else (if is_kept i then x ∷ scan is_kept None all else scan is_kept (Some depth) all)) goes
      ∙ by (is_kept i) (append_assoc inner after rest)
      (scanned_tree below None (depth + 1) (Some i) (after ++ rest) refl (head_after behind depth parent rest (depth + 1) (omega arith) (head_more rest depth (depth + 1) (omega arith) h)))
      (λ c g. scanned_tree behind c depth parent rest g h)
    where
      by : (b : Bool) → (tree_list (Some i) (depth + 1) below ++ tree_list parent depth behind) ++ rest ≡ tree_list (Some i) (depth + 1) below ++ (tree_list parent depth behind ++ rest)
          → scan is_kept None (tree_list (Some i) (depth + 1) below ++ (tree_list parent depth behind ++ rest))
          ≡ tree_list (Some i) (depth + 1) (remains is_kept below) ++ scan is_kept None (tree_list parent depth behind ++ rest)
          → ((c : Option ℕ) → is_below c depth ≡ false → scan is_kept c (tree_list parent depth behind ++ rest) ≡ tree_list parent depth (remains is_kept behind) ++ scan is_kept None rest)
          → (if b then record { number = i; parent = parent; depth = depth } ∷ scan is_kept None ((tree_list (Some i) (depth + 1) below ++ tree_list parent depth behind) ++ rest)
          else scan is_kept (Some depth) ((tree_list (Some i) (depth + 1) below ++ tree_list parent depth behind) ++ rest))
          ≡ tree_list parent depth (if b then item i (remains is_kept below) (remains is_kept behind) else remains is_kept behind) ++ scan is_kept None rest
      by true same inner outer =
          let x : ItemRow = record { number = i; parent = parent; depth = depth } in
          let inside : List ItemRow = tree_list (Some i) (depth + 1) (remains is_kept below) in
          let later : List ItemRow = tree_list parent depth (remains is_kept behind) in
          ap (λ (l : List ItemRow). x ∷ scan is_kept None l) same
          ∙ ap (λ (l : List ItemRow). x ∷ l) (inner ∙ ap (λ (l : List ItemRow). inside ++ l) (outer None refl) ∙ sym (append_assoc inside later (scan is_kept None rest)))
      by false same inner outer =
          ap (scan is_kept (Some depth)) same
          ∙ below_cut below depth (depth + 1) (Some i) (tree_list parent depth behind ++ rest) (omega arith)
          ∙ outer (Some depth) (le-ltb depth depth (omega arith))

  pub left_listed : (t : Tree) (tree : List ItemRow) → tree ≡ tree_list None 1 t → scan is_kept None tree ≡ tree_list None 1 (remains is_kept t)
  left_listed t tree is =
      ap (scan is_kept None) (is ∙ sym (append-nil (tree_list None 1 t))) ∙ scanned_tree t None 1 None [] refl tt ∙ append-nil (tree_list None 1 (remains is_kept t))

  scan_more : (tree : List ItemRow) (i : ℕ) (x : ItemRow) (cut next : Option ℕ) (is_left : Bool) (old new : List ItemRow) → slice_get tree i ≡ Some x
      → next ≡ cut_after cut (is_kept x.number) x.depth → is_left ≡ is_left_under cut (is_kept x.number) x.depth → new ≡ old ++ one_if is_left x
      → old ++ scan is_kept cut (drop i tree) ≡ scan is_kept None tree → new ++ scan is_kept next (drop (i + 1) tree) ≡ scan is_kept None tree
  scan_more tree i x cut next is_left old new at to is now before =
      let xs : List ItemRow = drop (i + 1) tree in
      ap (λ (l : List ItemRow). l ++ scan is_kept next xs) now
      ∙ append_assoc old (one_if is_left x) (scan is_kept next xs)
      ∙ ap (λ (b : Bool). old ++ (one_if b x ++ scan is_kept next xs)) is
      ∙ ap (λ (c : Option ℕ). old ++ (one_if (is_left_under cut (is_kept x.number) x.depth) x ++ scan is_kept c xs)) to
      ∙ ap (λ (l : List ItemRow). old ++ l) (sym (scanned_more cut x xs) ∙ ap (scan is_kept cut) (sym (rest_of tree i x at)))
      ∙ before

  pub scan_step : (tree : List ItemRow) (i : ℕ) (x : ItemRow) (cut next : Option ℕ) (kept is_left : Bool) (old new : List ItemRow) → slice_get tree i ≡ Some x → kept ≡ is_kept x.number
      → next ≡ cut_after cut kept x.depth → is_left ≡ is_left_under cut kept x.depth → new ≡ old ++ one_if is_left x
      → old ++ scan is_kept cut (drop i tree) ≡ scan is_kept None tree → new ++ scan is_kept next (drop (i + 1) tree) ≡ scan is_kept None tree
  scan_step tree i x cut next kept is_left old new at told to is =
      scan_more tree i x cut next is_left old new at (to ∙ ap (λ (b : Bool). cut_after cut b x.depth) told) (is ∙ ap (λ (b : Bool). is_left_under cut b x.depth) told)

  pub scan_all : (tree : List ItemRow) (i : ℕ) (cut : Option ℕ) (all : List ItemRow) → length tree ≤ i → all ++ scan is_kept cut (drop i tree) ≡ scan is_kept None tree
      → all ≡ scan is_kept None tree
  scan_all tree i cut all past h = sym (append-nil all) ∙ ap (λ (l : List ItemRow). all ++ scan is_kept cut l) (sym (drop_all i tree past)) ∙ h
