-- Where the paths of leafrefs begin in files that conform.
use Rattle.std.proofs.Common.{◌≡◌, ◌≢◌, ℕ, suc, ◌&&◌, Bool, true, false, cond, List, [], ◌∷◌, map, Option, Some, None, codes, refl, sym, ap, ◌∙◌, subst}
use Rattle.std.specs.List.{find, slice_get}
use Rattle.std.specs.Option.{option_and_then, option_map, unwrap_or}
use Rattle.std.specs.Str.{bytes_eq}
use Rattle.std.proofs.lemmas.Bool.{false≢true}
use Rattle.std.proofs.lemmas.Option.{same_Some, slice_get-map}
use Rattle.std.proofs.lemmas.Slice.Eq.{bytes_eq-Decides}
use Rattle.yv_text_statement.specs.Tree.{Head, Tree, name_of, trees}
use Rattle.yv_text_statement.specs.declared.keyword.Keyword.{Keyword}
use Rattle.yv_text_statement.specs.declared.keyword.Keyword.TheVariants as word
use Rattle.yv_text_statement.specs.Keywords.{keyword_of}
use Rattle.yv_text_grammar.specs.Argument.{argument_has}
use Rattle.yv_text_grammar.specs.Refusals.{keyword_at}
use Rattle.yv_text_grammar.specs.declared.xpath.Xpath.TheVariants.{Skip}
use Rattle.yv_text_grammar.specs.Fits.{Fits, FitsIn, extension, plain}
use Rattle.yv_text_grammar.specs.Forms.{form_of}
use Rattle.yv_link_scopes.specs.Files.{Files, has_word}
use Rattle.yv_link_scopes.specs.Rows.{Row}
use Rattle.yv_link_scopes.specs.RowList.{rows_of, statements_of}
use Rattle.yv_type_chains.specs.Types.{is_leafref}
use Rattle.yv_text_statement.specs.TextInFile.{TextInFile}
use Rattle.yv_expand_statements.specs.declared.origin.Origin.{Origin}
use Rattle.yv_expand_statements.specs.declared.origin.Origin.TheVariants as origin
use Rattle.yv_node_paths.specs.Referral.{climbs_of}
use Rattle.yv_expand.proofs.StatementFit.{statement_fits}
use Rattle.yv_node_paths.proofs.PathStarts.{begins_in_files}
use Rattle.yv_types.specs.Referrals.{HasReferral, IsLeafrefAt, first_in, path_at, path_in}
use Rattle.yv_types.specs.Defaults.{written_in}
use Rattle.yv_types.specs.declared.leafref_path.TypeLeafref.{TypeLeafref}
use Rattle.yv_node_statements.specs.Definitions.{leafref_of_tree}
use Rattle.yv_node_statements.specs.Kinds.{AreTypeReferrals, TypeMeanings}
use Rattle.yv_node_properties.specs.Statements.{file_at, first_of, statement_at}
use Rattle.yv_types.specs.Referrals.{IsReferring}
use Rattle.yv_node_leafrefs.specs.Schema.{Referral}
use Rattle.yv_schema.specs.Referrals.{referral_of_path, referral_of, referral_at}

abbrev pub Conform : Files → Type 0
Conform files = (n : ℕ) (root : Tree) → slice_get files n ≡ Some root → Fits Skip root

abbrev pub Headed : Files → Type 0
Headed files = map (λ (t : Tree). t.head) (statements_of files) ≡ map (λ (r : Row). r.head) (rows_of files)

pub no_value : {A : Type 0} (x : A) → None ≡ Some x → ⊥
no_value x e = cc

-- what is found stands somewhere, and passes
abbrev Found : {A : Type 0} → (A → Bool) → List A → A → Type 0
Found test xs c = (j : ℕ) × (slice_get xs j ≡ Some c) × (test c ≡ true)

found_at : {A : Type 0} (test : A → Bool) (xs : List A) (c : A) → find test xs ≡ Some c → Found test xs c
found_at test [] c e = absurd (no_value c e)
found_at {A} test (x ∷ xs) c e = by (test x) (found_at test xs c) refl e
  where
    by : (b : Bool) → (find test xs ≡ Some c → Found test xs c) → test x ≡ b → cond b (Some x) (find test xs) ≡ Some c → Found test (x ∷ xs) c
    by true others is same = let one : x ≡ c = same_Some x c same in (0, same, subst (λ (y : A). test y ≡ true) one is)
    by false others is same = let (j, at, passes) = others same in (suc j, at, passes)

path_word : keyword_of (codes "path") ≡ word.Path
unfolding keyword_of
path_word = refl

type_word : keyword_of (codes "type") ≡ word.Type
unfolding keyword_of
type_word = refl

has_path : (c : Tree) → has_word (codes "path") c.head ≡ true → keyword_at c ≡ word.Path
has_path c has = ap keyword_of ((bytes_eq-Decides c.head.keyword (codes "path")).0 has) ∙ path_word

and_first : (a b : Bool) → (a && b) ≡ true → a ≡ true
and_first true b h = refl
and_first false b h = absurd (false≢true h)

has_type : (t : Tree) (r : Row) → t.head ≡ r.head → is_leafref r ≡ true → keyword_at t ≢ word.Extended
has_type t r same is e =
    let named : t.head.keyword ≡ codes "type" = ap (λ (h : Head). h.keyword) same ∙ (bytes_eq-Decides r.head.keyword (codes "type")).0 (and_first (bytes_eq r.head.keyword (codes "type")) _ is) in
    let bad : word.Type ≡ word.Extended = sym type_word ∙ sym (ap keyword_of named) ∙ e in
    cc

-- a path is written
lacks : (parent keyword : Keyword) → keyword ≡ word.Path → argument_has (form_of parent keyword) None ≡ true → ⊥
unfolding form_of
lacks parent keyword is has = false≢true (ap (λ (k : Keyword). argument_has (form_of parent k) None) (sym is) ∙ has)

written : (parent : Keyword) (c : Tree) → FitsIn Skip parent c → keyword_at c ≡ word.Path → c.head.argument ≡ None → ⊥
written parent c (extension e) is none = let bad : word.Extended ≡ word.Path = sym e ∙ is in absurd (cc)
written parent c (plain own counted each) is none =
    lacks parent (keyword_at c) is (ap (argument_has (form_of parent (keyword_at c))) (sym none) ∙ own.argument.0)

child_fits : (parent : Keyword) (t c : Tree) (j : ℕ) → FitsIn Skip parent t → keyword_at t ≢ word.Extended → slice_get (trees t.children) j ≡ Some c → FitsIn Skip (keyword_at t) c
child_fits parent t c j (extension e) other at = absurd (other e)
child_fits parent t c j (plain own counted each) other at = each j c at

pub path_begins : (files : Files) (k : ℕ) (w : TextInFile) → Conform files → Headed files → IsLeafrefAt files k → path_at files k ≡ Some w → climbs_of w.text ≢ Some 0
path_begins files k w fine headed (r, at, is) e none =
    by_statement (slice_get (statements_of files) k) refl
    (ap (option_and_then (λ (q : Row). option_and_then (path_in q.file) (slice_get (statements_of files) k))) (sym at) ∙ e)
  where
    by_text : (t c : Tree) (j : ℕ) (argument : Option (List ℕ)) → slice_get (statements_of files) k ≡ Some t → keyword_at t ≢ word.Extended
        → slice_get (trees t.children) j ≡ Some c → keyword_at c ≡ word.Path → c.head.argument ≡ argument → climbs_of (unwrap_or argument []) ≡ Some 0 → ⊥
    by_text t c j None here other inner path says bad =
        let (parent, fits) = statement_fits files k t fine here in written (keyword_at t) c (child_fits parent t c j fits other inner) path says
    by_text t c j (Some text) here other inner path says bad = begins_in_files files k j t c text fine here other inner path says bad

    by_child : (t : Tree) (o : Option Tree) → slice_get (statements_of files) k ≡ Some t → first_in (codes "path") t ≡ o → option_map (written_in r.file) o ≡ Some w → ⊥
    by_child t None here found same = no_value w same
    by_child t (Some c) here found same =
        let (j, inner, has) = found_at (λ (x : Tree). has_word (codes "path") x.head) (trees t.children) c found in
        let heads : Some t.head ≡ Some r.head =
        ap (option_map (λ (x : Tree). x.head)) (sym here) ∙ sym (slice_get-map (λ (x : Tree). x.head) (statements_of files) k)
        ∙ ap (λ (hs : List Head). slice_get hs k) headed ∙ slice_get-map (λ (x : Row). x.head) (rows_of files) k ∙ ap (option_map (λ (x : Row). x.head)) at in
        let text : name_of c.head ≡ w.text = ap (λ (x : TextInFile). x.text) (same_Some (written_in r.file c) w same) in
        by_text t c j c.head.argument here (has_type t r (same_Some t.head r.head heads) is) inner (has_path c has) refl (ap climbs_of text ∙ none)

    by_statement : (o : Option Tree) → slice_get (statements_of files) k ≡ o → option_and_then (path_in r.file) o ≡ Some w → ⊥
    by_statement None here same = no_value w same
    by_statement (Some t) here same = by_child t (first_in (codes "path") t) here refl same

abbrev pub Origins : Type 0
Origins = (files : Files) (k : ℕ) (r : TypeLeafref) → HasReferral files k (Some r) → IsLeafrefAt files r.origin

module _ (files : Files) (typing : TypeMeanings) (fine : Conform files) (headed : Headed files) (origins : Origins) (are : AreTypeReferrals files typing.referrals) where
  by_path : (required : Bool) (w : Option TextInFile) (k : ℕ) (ref : Referral) → IsLeafrefAt files k → path_at files k ≡ w → referral_of_path files required w ≡ Some ref
      → ref.climbs ≢ Some 0
  by_path required None k ref leafref written says = absurd (no_value ref says)
  by_path required (Some w) k ref leafref written says = λ none.
      let same : climbs_of w.text ≡ ref.climbs = ap (λ (x : Referral). x.climbs) (same_Some _ ref says) in
      path_begins files k w fine headed leafref written (same ∙ none)

  by_number : (number : Option ℕ) (found : Option TypeLeafref) (ref : Referral) → IsReferring files number found → referral_of files found ≡ Some ref → ref.climbs ≢ Some 0
  by_number None found ref is says = absurd (no_value ref (sym (ap (referral_of files) is) ∙ says))
  by_number (Some k) None ref is says = absurd (no_value ref says)
  by_number (Some k) (Some r) ref is says = by_path r.is_required (path_at files r.origin) r.origin ref (origins files k r is) refl says

  by_type : (file : ℕ) (t : Option Tree) (ref : Referral) → referral_of files (leafref_of_tree typing.referrals file t) ≡ Some ref → ref.climbs ≢ Some 0
  by_type file None ref says = absurd (no_value ref says)
  by_type file (Some t) ref says = by_number _ (typing.referrals file t.head.offset) ref (are file t.head.offset) says

  pub begins : (from : Origin) (ref : Referral) → referral_at typing files from ≡ Some ref → ref.climbs ≢ Some 0
  begins (origin.Statement k) ref says = by_type (file_at files k) (first_of word.Type (statement_at files k).children) ref says
  begins (origin.Input k) ref says = absurd (no_value ref says)
  begins (origin.Output k) ref says = absurd (no_value ref says)
