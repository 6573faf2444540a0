-- What stands in the block of a leaf, leaf-list, anydata or anyxml gives no schema node.
use Rattle.std.proofs.Common.{inl, inr, ◌⊎◌, ◌≡◌, ◌≢◌, ℕ, ◌<◌, ◌≤◌, ◌||◌, not, Bool, true, false, if◌then◌else◌, List, [], ◌∷◌, map, length, Option, Some, None, refl, sym, ap, ◌∙◌, arith}
use Rattle.std.specs.List.{list_all, slice_get}
use Rattle.std.specs.Option.{option_map}
use Rattle.std.proofs.lemmas.Bool.{cases_lt, false≢true, false_from_ne_true}
use Rattle.std.proofs.lemmas.List.{length-map}
use Rattle.std.proofs.lemmas.Option.{same_Some, slice_get_cases, slice_get_within, slice_get-map}
use Rattle.yv_text_statement.specs.Tree.{Head, Tree, trees}
use Rattle.yv_text_statement.specs.declared.keyword.Keyword.{Keyword}
use Rattle.yv_text_statement.specs.declared.keyword.Keyword.TheVariants as word
use Rattle.yv_text_grammar.specs.declared.table.Occurs.{Occurs}
use Rattle.yv_text_statement.specs.Keywords.{keyword_of, same}
use Rattle.yv_text_grammar.specs.Table.{Rows as Table, occurs_in, rows_of as table_of}
use Rattle.yv_text_grammar.specs.Refusals.{is_module, keyword_at}
use Rattle.yv_text_grammar.specs.Fits.{FitsIn, IsAllowed, extension, occurrences, plain}
use Rattle.yv_text_grammar.specs.declared.xpath.Xpath.TheVariants.{Skip}
use Rattle.yv_text_grammar.proofs.KeywordCounts.{some}
use Rattle.yv_text_grammar.proofs.Keywords.{is_same, one}
use Rattle.yv_text_statement.specs.Words.{is_among}
use Rattle.yv_link_scopes.specs.Blocks.{StandsIn}
use Rattle.yv_link_scopes.specs.Files.{Briefs, Files, brief_of, module_file_at}
use Rattle.yv_link_scopes.specs.RowList.{rows_of, statements_of}
use Rattle.yv_link_scopes.specs.Rows.{Row}
use Rattle.yv_expand_statements.specs.Units.{nodes, operations}
use Rattle.yv_expand.specs.Conformance.{Conform, gives_nodes, is_lowest, lowest}
use Rattle.yv_expand.proofs.Words.{among_all, and_first, and_second}
use Rattle.yv_expand.proofs.StatementFit.{statement_fits}

-- the keywords of what gives schema nodes, and of what has none below it
abbrev is_given : Keyword → Bool
is_given word.Container = true
is_given word.Leaf = true
is_given word.LeafList = true
is_given word.List = true
is_given word.Choice = true
is_given word.Case = true
is_given word.Anydata = true
is_given word.Anyxml = true
is_given word.Notification = true
is_given word.Uses = true
is_given word.Rpc = true
is_given word.Action = true
is_given _ = false

abbrev is_last : Keyword → Bool
is_last word.Leaf = true
is_last word.LeafList = true
is_last word.Anydata = true
is_last word.Anyxml = true
is_last _ = false

given_nodes : list_all (λ w. is_given (keyword_of w)) nodes ≡ true
unfolding keyword_of
given_nodes = refl

given_operations : list_all (λ w. is_given (keyword_of w)) operations ≡ true
unfolding keyword_of
given_operations = refl

last_lowest : list_all (λ w. is_last (keyword_of w)) lowest ≡ true
unfolding keyword_of
last_lowest = refl

-- the tables of these let none of those stand
shuts : (block : Keyword) → is_last block ≡ true → list_all (λ e. not (is_given e.0)) (table_of block) ≡ true
unfolding table_of
shuts word.Leaf is = refl
shuts word.LeafList is = refl
shuts word.Anydata is = refl
shuts word.Anyxml is = refl
shuts _ is = absurd (false≢true is)

not_both : (b : Bool) → not b ≡ true → b ≡ true → ⊥
not_both true h e = false≢true h
not_both false h e = false≢true e

shut_out : (table : Table) (k : Keyword) → list_all (λ e. not (is_given e.0)) table ≡ true → is_given k ≡ true → occurs_in table k ≡ None
shut_out [] k all is = refl
shut_out (e ∷ es) k all is = by (same e.0 k) refl (shut_out es k (and_second (not (is_given e.0)) (list_all (λ x. not (is_given x.0)) es) all) is)
  where
    by : (b : Bool) → same e.0 k ≡ b → occurs_in es k ≡ None → (if b then Some e.1 else occurs_in es k) ≡ None
    by true h others =
        absurd (not_both (is_given e.0) (and_first (not (is_given e.0)) (list_all (λ x. not (is_given x.0)) es) all) (ap is_given (one e.0 k h) ∙ is))
    by false h others = others

given_not_extended : (k : Keyword) → is_given k ≡ true → k ≢ word.Extended
given_not_extended k is e = false≢true (ap is_given (sym e) ∙ is)

last_not_extended : (k : Keyword) → is_last k ≡ true → k ≢ word.Extended
last_not_extended k is e = false≢true (ap is_last (sym e) ∙ is)

either : (a b : Bool) → (a || b) ≡ true → (a ≡ true) ⊎ (b ≡ true)
either true b h = inl refl
either false b h = inr h

given_word : (w : List ℕ) → (is_among nodes w || is_among operations w) ≡ true → is_given (keyword_of w) ≡ true
given_word w gives = elim (either (is_among nodes w) (is_among operations w) gives) [
  | inl h ↦ among_all (λ w. is_given (keyword_of w)) nodes w given_nodes h
  | inr h ↦ among_all (λ w. is_given (keyword_of w)) operations w given_operations h
]

last_word : (w : List ℕ) → is_among lowest w ≡ true → is_last (keyword_of w) ≡ true
last_word w is = among_all (λ w. is_last (keyword_of w)) lowest w last_lowest is

none_allowed : (o : Option Occurs) (n : ℕ) → o ≡ None → IsAllowed o n → n ≡ 0
none_allowed None n is h = h
none_allowed (Some o) n is h = absurd (let bad : Some o ≡ None = is in cc)

-- so none of those stands in the block of one of these that fits
not_in : (parent : Keyword) (s t : Tree) (i : ℕ) → FitsIn Skip parent s → slice_get (trees s.children) i ≡ Some t → is_last (keyword_at s) ≡ true
    → is_given (keyword_at t) ≡ true → ⊥
not_in parent s t i (extension e) at last given = last_not_extended (keyword_at s) last e
not_in parent s t i (plain own counted each) at last given =
    let k : Keyword = keyword_at t in
    let none : occurrences k (trees s.children) ≡ 0 =
    none_allowed (occurs_in (table_of (keyword_at s)) k) (occurrences k (trees s.children))
    (shut_out (table_of (keyword_at s)) k (shuts (keyword_at s) last) given) (counted k (given_not_extended k given)) in
    let some_stand : 0 < occurrences k (trees s.children) = some k (trees s.children) i t at (is_same k k refl) in
    omega (arith, none, some_stand)

-- none of these is a module
last_no_module : (k : Keyword) → is_last k ≡ true → is_module k ≡ true → ⊥
last_no_module word.Leaf is e = false≢true e
last_no_module word.LeafList is e = false≢true e
last_no_module word.Anydata is e = false≢true e
last_no_module word.Anyxml is e = false≢true e
last_no_module _ is e = false≢true is

abbrev Roots : Files → Type 0
Roots files = (n : ℕ) (t : Tree) → slice_get files n ≡ Some t → slice_get (rows_of files) n ≡ Some (record { file = n; scope = n; head = t.head })

abbrev Headed : Files → Type 0
Headed files = map (λ t. t.head) (statements_of files) ≡ map (λ r. r.head) (rows_of files)

-- a statement has the head of its row
head_is : (files : Files) → Headed files → (k : ℕ) (r : Row) (t : Tree) → slice_get (rows_of files) k ≡ Some r → slice_get (statements_of files) k ≡ Some t → t.head ≡ r.head
head_is files headed k r t row at =
    same_Some t.head r.head (sym (ap (option_map (λ x. x.head)) at) ∙ sym (slice_get-map (λ x. x.head) (statements_of files) k)
    ∙ ap (λ hs. slice_get hs k) headed ∙ slice_get-map (λ x. x.head) (rows_of files) k ∙ ap (option_map (λ x. x.head)) row)

-- each row has its statement
statement_at : (files : Files) → Headed files → (k : ℕ) (r : Row) → slice_get (rows_of files) k ≡ Some r → (t : Tree) × (slice_get (statements_of files) k ≡ Some t)
statement_at files headed k r row = by (slice_get (statements_of files) k) refl
  where
    by : (o : Option Tree) → slice_get (statements_of files) k ≡ o → (t : Tree) × (slice_get (statements_of files) k ≡ Some t)
    by (Some t) at = (t, at)
    by None at =
        absurd (let bad : None ≡ Some r.head = sym (ap (option_map (λ x. x.head)) at) ∙ sym (slice_get-map (λ x. x.head) (statements_of files) k)
        ∙ ap (λ hs. slice_get hs k) headed ∙ slice_get-map (λ x. x.head) (rows_of files) k ∙ ap (option_map (λ x. x.head)) row in cc)

module _ (files : Files) (roots : (f : Files) → Roots f) (headed : (f : Files) → Headed f)
    (stand : (f : Files) (number : ℕ) → length f ≤ number → StandsIn f number)
    (module_files : (briefs : Briefs) (n : ℕ) → n < length briefs → module_file_at briefs n < length briefs) (fine : Conform files) where
  -- a root is no leaf
  root_no_leaf : (k : ℕ) (q : Row) (root : Tree) → slice_get files k ≡ Some root → slice_get (rows_of files) k ≡ Some q → is_lowest q ≡ true → ⊥
  root_no_leaf k q root at row is =
      let own : record { file = k; scope = k; head = root.head } ≡ q = same_Some (record { file = k; scope = k; head = root.head }) q (sym (roots files k root at) ∙ row) in
      let word_is : is_among lowest root.head.keyword ≡ true = ap is_lowest own ∙ is in
      last_no_module (keyword_at root) (last_word root.head.keyword word_is) (fine k root at).0

  file_at : (k : ℕ) → k < length files → (root : Tree) × (slice_get files k ≡ Some root)
  file_at k lt = elim ((slice_get_cases files k).1) [ inl (root, within, at, e) ↦ (root, at) | inr (past, at) ↦ absurd (omega (arith, past, lt)) ]

  -- of two words, where the outer statement is no root
  block_shut : (k j : ℕ) (q r : Row) (s t : Tree) → slice_get (rows_of files) k ≡ Some q → is_lowest q ≡ true → slice_get (rows_of files) j ≡ Some r
      → slice_get (statements_of files) k ≡ Some s → slice_get (statements_of files) j ≡ Some t → (i : ℕ) → slice_get (trees s.children) i ≡ Some t
      → gives_nodes r ≡ true → ⊥
  block_shut k j q r s t row is inner at there i stands gives =
      let outer_head : s.head ≡ q.head = head_is files (headed files) k q s row at in
      let inner_head : t.head ≡ r.head = head_is files (headed files) j r t inner there in
      let word_is : is_among lowest s.head.keyword ≡ true = ap (λ (h : Head). is_among lowest h.keyword) outer_head ∙ is in
      let gives_is : (is_among nodes t.head.keyword || is_among operations t.head.keyword) ≡ true =
      ap (λ (h : Head). is_among nodes h.keyword || is_among operations h.keyword) inner_head ∙ gives in
      let (parent, fits) = statement_fits files k s fine at in
      not_in parent s t i fits stands (last_word s.head.keyword word_is) (given_word t.head.keyword gives_is)

  pub nothing_in_a_leaf : (k j : ℕ) (q r : Row) → slice_get (rows_of files) k ≡ Some q → is_lowest q ≡ true → slice_get (rows_of files) j ≡ Some r → r.scope ≡ k
      → gives_nodes r ≡ false
  nothing_in_a_leaf k j q r row is inner scope = false_from_ne_true (gives_nodes r) (λ gives.
      elim (cases_lt k (length files)) [
        | inl lt ↦ (let root = file_at k lt in root_no_leaf k q root.0 root.1 row is)
        | inr past ↦ elim (cases_lt j (length files)) [
          | inl lt ↦
              let root = file_at j lt in
              let own : record { file = j; scope = j; head = root.0.head } ≡ r =
              same_Some (record { file = j; scope = j; head = root.0.head }) r (sym (roots files j root.0 root.1) ∙ inner) in
              let same : j ≡ r.scope = ap (λ (x : Row). x.scope) own in
              omega (arith, lt, past, same, scope)
          | inr behind ↦
              let t = statement_at files (headed files) j r inner in
              elim (stand files j behind r t.0 inner t.1) [
                | inl (root, file, stands, module_file) ↦
                    let within : r.file < length files = slice_get_within files r.file root file in
                    let long : length (map brief_of files) ≡ length files = length-map files brief_of in
                    let module_file_in = module_files (map brief_of files) r.file (omega (arith, within, long)) in
                    omega (arith, past, scope, module_file, module_file_in, long)
                | inr (p, s, at, there, stands, file, deep) ↦
                    let here : slice_get (rows_of files) k ≡ Some p = ap (slice_get (rows_of files)) (sym scope) ∙ at in
                    let outer : slice_get (statements_of files) k ≡ Some s = ap (slice_get (statements_of files)) (sym scope) ∙ there in
                    block_shut k j q r s t.0 row is inner outer t.1 stands.0 stands.1 gives
              ]
        ]
      ])
