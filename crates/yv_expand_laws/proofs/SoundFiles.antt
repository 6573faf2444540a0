-- Files that conform are sound: each uses refers to a grouping, and an augment that gives something
-- has an item in its block.
use Rattle.std.proofs.Common.{inl, inr, ◌≡◌, ◌≢◌, ℕ, zero, suc, ◌+◌, ◌<◌, ◌≤◌, ◌==◌, ◌&&◌, ◌||◌, not, Bool, true, false, if◌then◌else◌, List, [], ◌∷◌, map, length, Option, Some, None, is_some, codes, refl, sym, ap, ◌∙◌, subst, arith, eq-eqb, eqb-true}
use Rattle.std.specs.List.{Contains, list_all, slice_get}
use Rattle.std.specs.Str.{bytes_eq}
use Rattle.std.proofs.lemmas.Bool.{cases_lt, false≢true, false_from_ne_true}
use Rattle.std.proofs.lemmas.List.{length-map}
use Rattle.std.proofs.lemmas.Option.{same_Some, slice_get_cases, slice_get_within}
use Rattle.std.proofs.lemmas.Slice.Eq.{bytes_eq-Decides}
use Rattle.yv_text_statement.specs.Tree.{Tree, trees}
use Rattle.yv_text_statement.specs.Order.{IsLeast, refusal_at}
use Rattle.yv_text_statement.specs.Keywords.{keyword_of}
use Rattle.yv_text_statement.specs.declared.keyword.Keyword.{Keyword}
use Rattle.yv_text_statement.specs.declared.keyword.Keyword.TheVariants as word
use Rattle.yv_text_statement.specs.declared.refusal.Code.TheVariants as code
use Rattle.yv_text_grammar.specs.Fits.{FitsIn, occurrences}
use Rattle.yv_text_grammar.specs.declared.xpath.Xpath.TheVariants.{Skip}
use Rattle.yv_text_grammar.specs.Refusals.{keyword_at}
use Rattle.yv_text_grammar.specs.Table.{occurs_in, rows_of as table_of}
use Rattle.yv_text_grammar.proofs.KeywordCounts.{some}
use Rattle.yv_text_grammar.proofs.Keywords.{is_same}
use Rattle.yv_link_scopes.specs.Blocks.{StandsIn}
use Rattle.yv_link_scopes.specs.Files.{Briefs, Files, brief_of, module_file_at}
use Rattle.yv_link_scopes.specs.RowList.{rows_of, statements_of}
use Rattle.yv_link_scopes.specs.Rows.{Row, name_in}
use Rattle.yv_link_scopes.specs.Scopes.{MeansIn}
use Rattle.yv_link_scopes.specs.declared.kind.NameKind.{NameKind}
use Rattle.yv_link_scopes.specs.declared.kind.NameKind.TheVariants.{Grouping}
use Rattle.yv_text_statement.specs.Words.{is_among}
use Rattle.yv_link_definitions.specs.Refers.{RefersTo}
use Rattle.yv_link_definitions.specs.Refusals.{BadNames}
use Rattle.yv_base_tables.specs.Families.{numbers_at}
use Rattle.yv_expand.specs.Conformance.{Conform}
use Rattle.yv_expand_statements.specs.StatementBlocks.{is_node_or_uses, block_of, stands_in}
use Rattle.yv_expand_statements.specs.Units.{nodes, operations}
use Rattle.yv_expand.proofs.Listing.{numbers_have}
use Rattle.yv_expand.proofs.Words.{word_is}
use Rattle.yv_expand_statements.specs.declared.statement_kind.StatementKind.{StatementKind}
use Rattle.yv_expand_uses.specs.AugmentOrder.{giving_from, giving_places, gives, is_giving, is_in, item_places}
use Rattle.yv_expand_statements.specs.StatementBlocks.{is_augment}
use Rattle.yv_expand_uses.specs.AugmentOrder as order
use Rattle.yv_expand_statements.specs.Kinds.{kind_in, kind_of_keyword, kinds}
use Rattle.yv_expand_definition.specs.Expansion.{AllRefer}
use Rattle.yv_expand_laws.specs.StatementItems.{AreSound}
use Rattle.yv_expand_laws.proofs.BlockStatements.{left_is, right_is}
use Rattle.yv_expand_laws.proofs.FoundItems.{there_first}
use Rattle.yv_expand_laws.proofs.FileConformance.{HaveRows, StatementsFit, augment_word, have_roots, head_is, none_stands, statement_of_row}

-- a name means something or nothing (yv_link_scopes::laws::a_name_means_something_or_nothing)
abbrev pub NamesMean : Type 0
NamesMean = (files : Files) (kind : NameKind) (number : ℕ) (name : List ℕ) → (d : Option ℕ) × MeansIn (map brief_of files) (rows_of files) kind number name d

-- a uses for whose name there is no grouping is refused
pub all_refer : NamesMean → (files : Files) → IsLeast (BadNames files) None → AllRefer (map brief_of files) (rows_of files)
all_refer mean files none k r row uses = by (mean files Grouping k (name_in r))
  where
    by : (d : Option ℕ) × MeansIn (map brief_of files) (rows_of files) Grouping k (name_in r) d → (d : ℕ) × RefersTo (map brief_of files) (rows_of files) k d
    by (Some d, means) = (d, (Grouping, record { statement = r; at = row; names = uses; means = means }))
    by (None, means) =
        absurd (none (refusal_at code.UnknownGrouping r.file r.head)
        (k, slice_get_within (rows_of files) k r row, r, row, inr (inr (inr (inl ((uses, means), refl))))))

-- what a place tells of an augment that gives something
giving_at : (rows : List Row) (n : ℕ) (rs : List Row) (i block : ℕ) → is_in block (slice_get (giving_from rows n rs) i) ≡ true
    → (q : Row) × (slice_get rs i ≡ Some q) × (gives rows (n + i) q ≡ true)
giving_at rows n [] i block is = absurd (false≢true is)
giving_at rows n (q ∷ rs) zero block is =
    let e : n ≡ n + 0 = omega arith in
    (q, refl, subst (λ (m : ℕ). gives rows m q ≡ true) e (by (gives rows n q) is))
  where
    by : (b : Bool) → is_in block (Some (if b then Some q.scope else None)) ≡ true → b ≡ true
    by true is = refl
    by false is = absurd (false≢true is)
giving_at rows n (q ∷ rs) (suc i) block is =
    let (r, at, g) = giving_at rows (n + 1) rs i block is in
    let e : n + 1 + i ≡ n + suc i = omega arith in
    (r, at, subst (λ (m : ℕ). gives rows m r ≡ true) e g)

giving_row : (rows : List Row) (block a : ℕ) → is_giving rows block a ≡ true → (q : Row) × (slice_get rows a ≡ Some q) × (gives rows a q ≡ true)
unfolding giving_places
giving_row rows block a is =
    let (q, at, g) = giving_at rows 0 rows a block is in
    let e : 0 + a ≡ a = omega arith in
    (q, at, subst (λ (m : ℕ). gives rows m q ≡ true) e g)

some_there : (ns : List ℕ) → not (length ns == 0) ≡ true → (n : ℕ) × Contains ns n
some_there [] h = absurd (false≢true h)
some_there (n ∷ ns) h = (n, there_first n ns)

-- what stands at a place is an item of that block
placed_at : (rows : List Row) (k a : ℕ) → slice_get (item_places rows) k ≡ Some (Some a)
    → (r : Row) × (slice_get rows k ≡ Some r) × (order.is_node_or_uses r ≡ true) × (r.scope ≡ a)
placed_at [] k a at = absurd (let bad : None ≡ Some (Some a) = at in cc)
placed_at (r ∷ rs) zero a at = by (order.is_node_or_uses r) refl (same_Some _ _ at)
  where
    by : (b : Bool) → order.is_node_or_uses r ≡ b → (if b then Some r.scope else None) ≡ Some a
        → (q : Row) × (Some r ≡ Some q) × (order.is_node_or_uses q ≡ true) × (q.scope ≡ a)
    by true is e = (r, refl, is, same_Some r.scope a e)
    by false is e = absurd (let bad : None ≡ Some a = e in cc)
placed_at (r ∷ rs) (suc k) a at = placed_at rs k a at

-- what has a kind is an item, or an input or an output
in_kinds : (P : List ℕ → Bool) (ns : List (List ℕ × StatementKind)) (w : List ℕ) → list_all (λ n. P n.0) ns ≡ true → is_some (kind_in ns w) ≡ true
    → P w ≡ true
in_kinds P [] w all is = absurd (false≢true is)
in_kinds P (n ∷ ns) w all is = by (bytes_eq n.0 w) refl is (in_kinds P ns w (right_is (P n.0) (list_all (λ x. P x.0) ns) all))
  where
    by : (b : Bool) → bytes_eq n.0 w ≡ b → is_some (if b then Some n.1 else kind_in ns w) ≡ true → (is_some (kind_in ns w) ≡ true → P w ≡ true)
        → P w ≡ true
    by true e is others = ap P (sym ((bytes_eq-Decides n.0 w).0 e)) ∙ left_is (P n.0) (list_all (λ x. P x.0) ns) all
    by false e is others = others is

abbrev is_part : List ℕ → Bool
is_part w = bytes_eq w (codes "input") || bytes_eq w (codes "output")

abbrev is_either : List ℕ → Bool
is_either w = (is_among nodes w || is_among operations w) || is_part w

either_kind : (w : List ℕ) → is_some (kind_of_keyword w) ≡ true → is_either w ≡ true
unfolding kind_of_keyword
either_kind w is = in_kinds is_either kinds w refl is

either_item : (r : Row) → order.is_node_or_uses r ≡ true → (is_node_or_uses r || is_part r.head.keyword) ≡ true
unfolding is_node_or_uses
either_item r is = either_kind r.head.keyword is

no_augment : is_some (kind_of_keyword (codes "augment")) ≡ false
unfolding kind_of_keyword
no_augment = refl

item_no_augment : (r : Row) → order.is_node_or_uses r ≡ true → is_augment r ≡ true → ⊥
item_no_augment r item augment =
    false≢true (sym no_augment ∙ (ap (λ (w : List ℕ). is_some (kind_of_keyword w)) (sym (word_is r.head (codes "augment") augment)) ∙ item))

input_word : keyword_of (codes "input") ≡ word.Input
unfolding keyword_of
input_word = refl

output_word : keyword_of (codes "output") ≡ word.Output
unfolding keyword_of
output_word = refl

-- section 7.17.1: the substatements of augment
no_input : occurs_in (table_of word.Augment) word.Input ≡ None
unfolding table_of
no_input = refl

no_output : occurs_in (table_of word.Augment) word.Output ≡ None
unfolding table_of
no_output = refl

-- what the table of augments doesn't name stands in the block of none
not_there : (parent : Keyword) (s t : Tree) (i : ℕ) (k : Keyword) → FitsIn Skip parent s → keyword_at s ≡ word.Augment
    → slice_get (trees s.children) i ≡ Some t → keyword_at t ≡ k → k ≢ word.Extended → occurs_in (table_of word.Augment) k ≡ None → ⊥
not_there parent s t i k fits augment at is other none =
    let known : keyword_at s ≢ word.Extended = λ x. (let bad : word.Augment ≡ word.Extended = sym augment ∙ x in cc) in
    let zero_there : occurrences k (trees s.children) ≡ 0 =
    none_stands parent s k fits known other (ap (λ (w : Keyword). occurs_in (table_of w) k) augment ∙ none) in
    let some_stand : 0 < occurrences k (trees s.children) = some k (trees s.children) i t at (is_same (keyword_at t) k is) in
    omega (arith, zero_there, some_stand)

not_part : (parent : Keyword) (s t : Tree) (i : ℕ) → FitsIn Skip parent s → keyword_at s ≡ word.Augment → slice_get (trees s.children) i ≡ Some t
    → is_part t.head.keyword ≡ true → ⊥
not_part parent s t i fits augment at part = by (bytes_eq t.head.keyword (codes "input")) refl part
  where
    by : (b : Bool) → bytes_eq t.head.keyword (codes "input") ≡ b → (b || bytes_eq t.head.keyword (codes "output")) ≡ true → ⊥
    by true is h =
        not_there parent s t i word.Input fits augment at (ap keyword_of (word_is t.head (codes "input") is) ∙ input_word) (λ x. cc) no_input
    by false is h =
        not_there parent s t i word.Output fits augment at (ap keyword_of (word_is t.head (codes "output") h) ∙ output_word) (λ x. cc) no_output

both : (x y : Bool) → x ≡ true → y ≡ false → (x && not y) ≡ true
both x y a b = ap (λ z. z && not y) a ∙ ap not b

-- a statement of a block is among those that stand in it
in_block : (rows : List Row) (a k : ℕ) (r : Row) → slice_get rows k ≡ Some r → r.scope ≡ a → (r.scope ≡ k → ⊥) → Contains (block_of rows a) k
in_block rows a k r at scope apart =
    let e : 0 + k ≡ k = omega arith in
    let passes : stands_in a k r ≡ true =
    both (r.scope == a) (r.scope == k) (eq-eqb r.scope a scope) (false_from_ne_true (r.scope == k) (λ same. apart (eqb-true r.scope k same))) in
    subst (λ (m : ℕ). Contains (block_of rows a) m) e (numbers_have (stands_in a) 0 k rows r at (subst (λ (m : ℕ). stands_in a m r ≡ true) (sym e) passes))

-- the laws of rows
abbrev pub RootsFirst : Type 0
RootsFirst =
    (files : Files) (n : ℕ) (t : Tree) → slice_get files n ≡ Some t → slice_get (rows_of files) n ≡ Some (record { file = n; scope = n; head = t.head })

abbrev pub StandInBlocks : Type 0
StandInBlocks = (files : Files) (number : ℕ) → length files ≤ number → StandsIn files number

abbrev pub ModuleFiles : Type 0
ModuleFiles = (briefs : Briefs) (n : ℕ) → n < length briefs → module_file_at briefs n < length briefs

abbrev pub Listed : Type 0
Listed = (places : List (Option ℕ)) (place number : ℕ) → Contains (numbers_at places place) number → slice_get places number ≡ Some (Some place)

module _ (roots_first : RootsFirst) (rows : HaveRows) (stand : StandInBlocks) (module_files : ModuleFiles) (fit : StatementsFit) (listed : Listed)
    (files : Files) (fine : Conform files) where
  file_at : (k : ℕ) → k < length files → (root : Tree) × (slice_get files k ≡ Some root)
  file_at k lt = elim ((slice_get_cases files k).1) [ inl (root, within, at, e) ↦ (root, at) | inr (past, at) ↦ absurd (omega (arith, past, lt)) ]

  own_row : (k : ℕ) (root : Tree) (r : Row) → slice_get files k ≡ Some root → slice_get (rows_of files) k ≡ Some r
      → record { file = k; scope = k; head = root.head } ≡ r
  own_row k root r at row = same_Some (record { file = k; scope = k; head = root.head }) r (sym (roots_first files k root at) ∙ row)

  root_no_augment : (a : ℕ) (q : Row) → a < length files → slice_get (rows_of files) a ≡ Some q → is_augment q ≡ true → ⊥
  root_no_augment a q lt row augment =
      let root = file_at a lt in
      false≢true (sym (have_roots files fine a root.0 root.1) ∙ (ap is_augment (own_row a root.0 q root.1 row) ∙ augment))

  part_outside : (a k : ℕ) (q r : Row) → slice_get (rows_of files) a ≡ Some q → is_augment q ≡ true → slice_get (rows_of files) k ≡ Some r
      → r.scope ≡ a → (r.scope ≡ k → ⊥) → is_part r.head.keyword ≡ true → ⊥
  part_outside a k q r row augment inner scope apart part = elim (cases_lt k (length files)) [
    | inl lt ↦
        let root = file_at k lt in
        apart (sym (ap (λ (x : Row). x.scope) (own_row k root.0 r root.1 inner)))
    | inr past ↦
        let t = statement_of_row rows files k r inner in
        elim (stand files k past r t.0 inner t.1) [
          | inl (root, file, stands, module_file) ↦
              let within : r.file < length files = slice_get_within files r.file root file in
              let long : length (map brief_of files) ≡ length files = length-map files brief_of in
              let module_file_in = module_files (map brief_of files) r.file (omega (arith, within, long)) in
              root_no_augment a q (omega (arith, scope, module_file, module_file_in, long)) row augment
          | inr (p, s, at, there, stands, file, deep) ↦
              let outer : slice_get (statements_of files) a ≡ Some s = ap (slice_get (statements_of files)) (sym scope) ∙ there in
              let (parent, fits) = fit files a s fine outer in
              let keyword : keyword_at s ≡ word.Augment =
              ap (λ h. keyword_of h.keyword) (head_is rows files a q s row outer) ∙ (ap keyword_of (word_is q.head (codes "augment") augment) ∙ augment_word) in
              not_part parent s t.0 stands.0 fits keyword stands.1 (ap (λ h. is_part h.keyword) (head_is rows files k r t.0 inner t.1) ∙ part)
        ]
  ]

  pub gives_item : (block a : ℕ) → is_giving (rows_of files) block a ≡ true
      → (k : ℕ) × (r : Row) × Contains (block_of (rows_of files) a) k × (slice_get (rows_of files) k ≡ Some r) × (is_node_or_uses r ≡ true)
  gives_item block a is =
      let (q, row, given) = giving_row (rows_of files) block a is in
      let augment : is_augment q ≡ true = left_is (is_augment q) (not (length (numbers_at (item_places (rows_of files)) a) == 0)) given in
      let (k, there) = some_there (numbers_at (item_places (rows_of files)) a)
      (right_is (is_augment q) (not (length (numbers_at (item_places (rows_of files)) a) == 0)) given) in
      let (r, inner, item, scope) = placed_at (rows_of files) k a (listed (item_places (rows_of files)) a k there) in
      let apart : r.scope ≡ k → ⊥ = λ same.
      item_no_augment r item (ap is_augment (same_Some r q (sym inner ∙ (ap (slice_get (rows_of files)) (sym same ∙ scope) ∙ row))) ∙ augment) in
      (k, r, in_block (rows_of files) a k r inner scope apart, inner, by q r k row augment inner scope apart (is_node_or_uses r) refl (either_item r item))
    where
      by : (q r : Row) (k : ℕ) → slice_get (rows_of files) a ≡ Some q → is_augment q ≡ true → slice_get (rows_of files) k ≡ Some r → r.scope ≡ a
          → (r.scope ≡ k → ⊥) → (b : Bool) → is_node_or_uses r ≡ b → (b || is_part r.head.keyword) ≡ true → is_node_or_uses r ≡ true
      by q r k row augment inner scope apart true is part = is
      by q r k row augment inner scope apart false is part = absurd (part_outside a k q r row augment inner scope apart part)

  pub sound : NamesMean → IsLeast (BadNames files) None → length (rows_of files) ≤ 4294967293 → AreSound files
  sound mean names few = record { few = few; refer = all_refer mean files names; gives = gives_item }
