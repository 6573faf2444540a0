-- Files that conform have modules and submodules as roots, and no uses says that it is mandatory.
use Rattle.std.proofs.Common.{◌≡◌, ◌≢◌, ℕ, ◌+◌, Bool, true, false, ◌||◌, if◌then◌else◌, nat_lt, List, [], ◌∷◌, map, Option, Some, None, codes, refl, sym, ap, ◌∙◌, arith}
use Rattle.std.specs.List.{find, slice_get}
use Rattle.std.specs.Option.{option_map, unwrap_or}
use Rattle.std.proofs.lemmas.Bool.{false≢true, false_from_ne_true}
use Rattle.std.proofs.lemmas.Option.{get_or_from_slice_get, same_Some, slice_get-map}
use Rattle.yv_text_statement.specs.Tree.{Tree, trees}
use Rattle.yv_text_statement.specs.Keywords.{keyword_of, same}
use Rattle.yv_text_statement.specs.declared.keyword.Keyword.{Keyword}
use Rattle.yv_text_statement.specs.declared.keyword.Keyword.TheVariants as word
use Rattle.yv_text_statement.specs.declared.refusal.Refusal.{Refusal}
use Rattle.yv_text_grammar.specs.declared.table.Occurs.{Occurs}
use Rattle.yv_text_grammar.specs.Fits.{Fits, FitsIn, IsAllowed, extension, occurrences, plain}
use Rattle.yv_text_grammar.specs.Refusals.{Bad, is_module, keyword_at}
use Rattle.yv_text_grammar.specs.declared.xpath.Xpath.{Xpath}
use Rattle.yv_text_grammar.specs.declared.xpath.Xpath.TheVariants.{Skip}
use Rattle.yv_text_grammar.specs.Table.{occurs_in, rows_of as table_of}
use Rattle.yv_link_scopes.specs.Files.{Files, has_word}
use Rattle.yv_link_scopes.specs.RowList.{rows_of, statements_of}
use Rattle.yv_link_scopes.specs.Rows.{Row}
use Rattle.yv_expand.specs.Conformance.{Conform}
use Rattle.yv_expand.proofs.Words.{word_is}
use Rattle.yv_node_properties.specs.Properties.{Substatements, is_true, last_said, least_of, written_in}
use Rattle.yv_node_properties.specs.Statements.{file_at, first_of, is_of, no_statement}
use Rattle.yv_expand_laws.specs.Conformance.{NoFileIsBad}
use Rattle.yv_expand_laws.specs.Files.{HaveRoots}
use Rattle.yv_expand_laws.specs.Impositions.{UsesAreOptional}

-- a file of which nothing is refused conforms
-- (yv_expand::conformance_laws::what_is_not_refused_fits)
abbrev pub FitsUnlessBad : Type 0
FitsUnlessBad = (x : Xpath) (t : Tree) → ((f : Refusal) → Bad x t f → ⊥) → Fits x t

-- each numbered statement fits (yv_expand::conformance_laws::numbered_statements_fit)
abbrev pub StatementsFit : Type 0
StatementsFit =
    (files : Files) (k : ℕ) (t : Tree) → Conform files → slice_get (statements_of files) k ≡ Some t → (parent : Keyword) × FitsIn Skip parent t

-- statements have the heads of their rows (yv_link_scopes::laws::statements_have_their_rows)
abbrev pub HaveRows : Type 0
HaveRows = (files : Files) → map (λ t. t.head) (statements_of files) ≡ map (λ r. r.head) (rows_of files)

pub conform : FitsUnlessBad → (files : Files) → NoFileIsBad files → Conform files
conform fits files none n t at = fits Skip t (none n t at)

pub augment_word : keyword_of (codes "augment") ≡ word.Augment
unfolding keyword_of
augment_word = refl

uses_word : keyword_of (codes "uses") ≡ word.Uses
unfolding keyword_of
uses_word = refl

pub have_roots : (files : Files) → Conform files → HaveRoots files
have_roots files fine n t at = false_from_ne_true (has_word (codes "augment") t.head) (λ is.
    let e : keyword_at t ≡ word.Augment = ap keyword_of (word_is t.head (codes "augment") is) ∙ augment_word in
    false≢true (sym (ap is_module e) ∙ (fine n t at).0))

none_allowed : (o : Option Occurs) (n : ℕ) → o ≡ None → IsAllowed o n → n ≡ 0
none_allowed None n is h = h
none_allowed (Some o) n is h = absurd (let bad : Some o ≡ None = is in cc)

-- what the table of a statement doesn't name doesn't stand in its block
pub none_stands : (parent : Keyword) (s : Tree) (k : Keyword) → FitsIn Skip parent s → keyword_at s ≢ word.Extended → k ≢ word.Extended
    → occurs_in (table_of (keyword_at s)) k ≡ None → occurrences k (trees s.children) ≡ 0
none_stands parent s k (extension e) known other none = absurd (known e)
none_stands parent s k (plain own counted each) known other none =
    none_allowed (occurs_in (table_of (keyword_at s)) k) (occurrences k (trees s.children)) none (counted k other)

none_found : (k : Keyword) (cs : List Tree) → occurrences k cs ≡ 0 → find (is_of k) cs ≡ None
none_found k [] none = refl
none_found k (c ∷ cs) none = by (same (keyword_at c) k) none (none_found k cs)
  where
    by : (b : Bool) → (if b then 1 + occurrences k cs else occurrences k cs) ≡ 0 → (occurrences k cs ≡ 0 → find (is_of k) cs ≡ None)
        → (if b then Some c else find (is_of k) cs) ≡ None
    by true e others = absurd (omega (arith, e))
    by false e others = others e

-- a statement has the head of its row
pub head_is : HaveRows → (files : Files) (k : ℕ) (r : Row) (t : Tree) → slice_get (rows_of files) k ≡ Some r
    → slice_get (statements_of files) k ≡ Some t → t.head ≡ r.head
head_is rows files k r t row at =
    same_Some t.head r.head (sym (ap (option_map (λ x. x.head)) at) ∙ sym (slice_get-map (λ x. x.head) (statements_of files) k)
    ∙ ap (λ hs. slice_get hs k) (rows files) ∙ slice_get-map (λ x. x.head) (rows_of files) k ∙ ap (option_map (λ x. x.head)) row)

-- each row has its statement
pub statement_of_row : HaveRows → (files : Files) (k : ℕ) (r : Row) → slice_get (rows_of files) k ≡ Some r
    → (t : Tree) × (slice_get (statements_of files) k ≡ Some t)
statement_of_row rows files k r row = by (slice_get (statements_of files) k) refl
  where
    by : (o : Option Tree) → slice_get (statements_of files) k ≡ o → (t : Tree) × (slice_get (statements_of files) k ≡ Some t)
    by (Some t) at = (t, at)
    by None at =
        absurd (let bad : None ≡ Some r.head = sym (ap (option_map (λ x. x.head)) at) ∙ sym (slice_get-map (λ x. x.head) (statements_of files) k)
        ∙ ap (λ hs. slice_get hs k) (rows files) ∙ slice_get-map (λ x. x.head) (rows_of files) k ∙ ap (option_map (λ x. x.head)) row in cc)

-- a statement with no substatement of a keyword says nothing by it
silent_of : (files : Files) (k : ℕ) (t : Tree) (said : Keyword) → slice_get (statements_of files) k ≡ Some t
    → occurrences said (trees t.children) ≡ 0 → last_said files (k ∷ []) said ≡ None
silent_of files k t said at none =
    ap (λ (s : Tree). option_map (written_in (file_at files k)) (first_of said s.children)) (get_or_from_slice_get (statements_of files) k t no_statement at)
    ∙ ap (option_map (written_in (file_at files k))) (none_found said (trees t.children) none)

-- section 7.13.1: the substatements of uses
no_mandatory : occurs_in (table_of word.Uses) word.Mandatory ≡ None
unfolding table_of
no_mandatory = refl

no_min : occurs_in (table_of word.Uses) word.MinElements ≡ None
unfolding table_of
no_min = refl

nothing_said : {A : Type 0} (f : A → Bool) (g : A → ℕ) (m n : Option A) → m ≡ None → n ≡ None
    → (unwrap_or (option_map f m) false || nat_lt 0 (unwrap_or (option_map g n) 0)) ≡ false
nothing_said f g m n a b =
    ap (λ x. unwrap_or (option_map f x) false || nat_lt 0 (unwrap_or (option_map g n) 0)) a ∙ ap (λ x. nat_lt 0 (unwrap_or (option_map g x) 0)) b

pub uses_are_optional : StatementsFit → HaveRows → (files : Files) → Conform files → UsesAreOptional files
uses_are_optional fit rows files fine k r row uses =
    let (t, at) = statement_of_row rows files k r row in
    let (parent, fits) = fit files k t fine at in
    let e : keyword_at t ≡ word.Uses =
    ap (λ h. keyword_of h.keyword) (head_is rows files k r t row at) ∙ (ap keyword_of (word_is r.head (codes "uses") uses) ∙ uses_word) in
    let known : keyword_at t ≢ word.Extended = λ x. (let bad : word.Uses ≡ word.Extended = sym e ∙ x in cc) in
    let said : Substatements = last_said files (k ∷ []) in
    let mandatory : said word.Mandatory ≡ None =
    silent_of files k t word.Mandatory at (none_stands parent t word.Mandatory fits known (λ x. cc) (ap (λ (w : Keyword). occurs_in (table_of w) word.Mandatory) e ∙ no_mandatory)) in
    let min : said word.MinElements ≡ None =
    silent_of files k t word.MinElements at (none_stands parent t word.MinElements fits known (λ x. cc) (ap (λ (w : Keyword). occurs_in (table_of w) word.MinElements) e ∙ no_min)) in
    nothing_said is_true least_of (said word.Mandatory) (said word.MinElements) mandatory min
