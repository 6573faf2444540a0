-- Statements of files in which nothing is bad have the arguments that the tables want.
use Rattle.std.proofs.Common.{◌≡◌, ◌≢◌, ℕ, zero, suc, ◌&&◌, ◌==◌, inl, inr, Bool, true, false, List, [], ◌∷◌, ◌++◌, map, if◌then◌else◌, Option, Some, None, refl, sym, ap, ◌∙◌, subst, arith, ◌||◌}
use Rattle.std.specs.List.{list_any, list_all, slice_get}
use Rattle.std.specs.Option.{unwrap_or, option_map}
use Rattle.std.specs.Str.{bytes_eq}
use Rattle.std.proofs.lemmas.Bool.{cases_Bool, false≢true, false_from_ne_true}
use Rattle.std.proofs.lemmas.Bool.Decides.{nat_tests}
use Rattle.std.proofs.lemmas.Option.{same_Some, slice_get-map, unwrap_or-slice_get}
use Rattle.std.proofs.lemmas.Slice.Eq.{bytes_eq-Decides}
use Rattle.yv_text_statement.specs.Tree.{Tree, Forest, Then, End, Head, trees, name_of}
use Rattle.yv_text_statement.specs.declared.refusal.Refusal.{Refusal}
use Rattle.yv_text_statement.specs.declared.refusal.Code.TheVariants as code
use Rattle.yv_text_statement.specs.Order.{refusal_at}
use Rattle.yv_text_statement.specs.declared.keyword.Keyword.{Keyword}
use Rattle.yv_text_statement.specs.declared.keyword.Keyword.TheVariants as word
use Rattle.yv_text_grammar.specs.declared.form.Form.TheVariants as form
use Rattle.yv_text_statement.specs.Keywords.{keyword_in, keyword_of, names}
use Rattle.yv_text_grammar.specs.Argument.{argument_has}
use Rattle.yv_text_grammar.specs.Refusals.{Bad, Faulty, is_module, keyword_at, own, below}
use Rattle.yv_text_grammar.specs.declared.xpath.Xpath.TheVariants.{Refuse}
use Rattle.yv_text_grammar.specs.Forms.{form_of}
use Rattle.yv_text_grammar.specs.Texts.{is_identifier, is_part, is_start}
use Rattle.yv_node_statements.specs.Definitions.{kind_of, node_name, refined_definition}
use Rattle.yv_node_statements.specs.Kinds.{TypeMeanings}
use Rattle.yv_expand_statements.specs.declared.origin.Origin.{Origin}
use Rattle.yv_expand_statements.specs.declared.origin.Origin.TheVariants as origin
use Rattle.yv_node_properties.specs.Statements.{no_statement}
use Rattle.yv_expand_statements.specs.declared.statement_kind.StatementKind.{StatementKind}
use Rattle.yv_expand_statements.specs.declared.statement_kind.StatementKind.TheVariants as kind
use Rattle.yv_expand_statements.specs.Kinds.{is_uses, kind_of_keyword, kind_in, kinds}
use Rattle.yv_expand_uses.specs.Kinds.{kind_of as item_kind, kind_at}
use Rattle.yv_schema_tables.specs.NodeNumbers.{HasNoColon}
use Rattle.yv_link_scopes.specs.Files.{Files}
use Rattle.yv_link_scopes.specs.Rows.{Row, is_extended}
use Rattle.yv_link_scopes.specs.RowList.{inner_statements, rows_of, statements_in, statements_of}

first : (a b : Bool) → (a || b) ≡ false → a ≡ false
first true b h = h
first false b h = refl

second : (a b : Bool) → (a || b) ≡ false → b ≡ false
second true b h = absurd (false≢true (sym h))
second false b h = h

-- nothing is wrong at a statement, nor below it, in the block of a parent
abbrev Clean : Keyword → Tree → Type 0
Clean parent s = (f : Refusal) → Faulty Refuse parent s f → ⊥

abbrev AllClean : List Tree → Type 0
AllClean [] = Unit {0}
AllClean (c ∷ cs) = ((parent : Keyword) × Clean parent c) × AllClean cs

both_clean : (xs ys : List Tree) → AllClean xs → AllClean ys → AllClean (xs ++ ys)
both_clean [] ys p q = q
both_clean (x ∷ xs) ys p q = (p.0, both_clean xs ys p.1 q)

clean_at : (xs : List Tree) (k : ℕ) (c : Tree) → AllClean xs → slice_get xs k ≡ Some c → (parent : Keyword) × Clean parent c
clean_at [] k c p at = cc
clean_at (x ∷ xs) zero c p at = subst (λ y. (parent : Keyword) × Clean parent y) (same_Some x c at) p.0
clean_at (x ∷ xs) (suc k) c p at = clean_at xs k c p.1 at

abbrev is_of_extension : Keyword → Bool
is_of_extension word.Extended = true
is_of_extension _ = false

not_in : (ns : List (List ℕ × Keyword)) (text : List ℕ) → list_any (λ n. is_of_extension n.1) ns ≡ false → keyword_in ns text ≢ word.Extended
not_in [] text none e = false≢true (ap is_of_extension e)
not_in (n ∷ ns) text none e =
    by (bytes_eq n.0 text) (not_in ns text (second (is_of_extension n.1) (list_any (λ m. is_of_extension m.1) ns) none)) e
  where
    by : (b : Bool) → keyword_in ns text ≢ word.Extended → (if b then n.1 else keyword_in ns text) ≡ word.Extended → ⊥
    by true others same = false≢true (sym (first (is_of_extension n.1) (list_any (λ m. is_of_extension m.1) ns) none) ∙ ap is_of_extension same)
    by false others same = others same

-- a keyword without a colon is no extension's
not_extended : (text : List ℕ) → is_extended text ≡ false → keyword_of text ≢ word.Extended
unfolding keyword_of
not_extended text plain e = not_in names text refl (sym (ap (λ b. if b then word.Extended else keyword_in names text) plain) ∙ e)

inner_clean : (extended : Bool) (text : List ℕ) (cs : Forest) → is_extended text ≡ extended → (is_extended text ≡ false → AllClean (statements_in cs))
    → AllClean (if extended then [] else statements_in cs)
inner_clean true text cs e all = tt
inner_clean false text cs e all = all e

-- all numbered statements of a block
block_clean : (parent : Keyword) (block : Forest) → ((k : ℕ) (c : Tree) → slice_get (trees block) k ≡ Some c → Clean parent c) → AllClean (statements_in block)
block_clean parent End own_clean = tt
block_clean parent (Then h c o) own_clean =
    let s : Tree = record { head = h; children = c } in (
      (parent, own_clean 0 s refl),
      both_clean (if is_extended h.keyword then [] else statements_in c) (statements_in o)
          (inner_clean (is_extended h.keyword) h.keyword c refl (λ plain. block_clean (keyword_of h.keyword) c
          (λ k x at f bad. own_clean 0 s refl f (below k x (not_extended h.keyword plain) at bad))))
          (block_clean parent o (λ k x at. own_clean (suc k) x at)),
    )

-- a root of which nothing is refused is a module or a submodule
module_word : (t : Tree) → ((f : Refusal) → slice_get (t ∷ []) 0 ≡ Some t → Bad Refuse t f → ⊥) → keyword_at t ≢ word.Extended
module_word t fine e = fine (refusal_at code.Cardinality 0 t.head) refl (inl (ap is_module e, refl))

-- all numbered statements of files
inner_all_clean : (files : Files) → ((n : ℕ) (t : Tree) (f : Refusal) → slice_get files n ≡ Some t → Bad Refuse t f → ⊥) → AllClean (inner_statements files)
inner_all_clean [] fine = tt
inner_all_clean (t ∷ ts) fine =
    both_clean (statements_in t.children) (inner_statements ts)
    (block_clean (keyword_at t) t.children (λ k c at f bad. fine 0 t f refl (inr (below k c (module_word t (fine 0 t)) at bad))))
    (inner_all_clean ts (λ n u f at bad. fine (suc n) u f at bad))

root_all_clean : (files : Files) → ((n : ℕ) (t : Tree) (f : Refusal) → slice_get files n ≡ Some t → Bad Refuse t f → ⊥) → AllClean files
root_all_clean [] fine = tt
root_all_clean (t ∷ ts) fine = ((word.Unknown, λ f bad. fine 0 t f refl (inr bad)), root_all_clean ts (λ n u f at bad. fine (suc n) u f at bad))

all_clean : (files : Files) → ((n : ℕ) (t : Tree) (f : Refusal) → slice_get files n ≡ Some t → Bad Refuse t f → ⊥) → AllClean (statements_of files)
all_clean files fine = both_clean files (inner_statements files) (root_all_clean files fine) (inner_all_clean files fine)

-- what begins an identifier, and what stands in one, is no colon
and_first : (a b : Bool) → (a && b) ≡ true → a ≡ true
and_first true b h = refl
and_first false b h = absurd (false≢true h)

and_second : (a b : Bool) → (a && b) ≡ true → b ≡ true
and_second true b h = h
and_second false b h = absurd (false≢true h)

is_58 : (b : ℕ) → (b == 58) ≡ true → b ≡ 58
is_58 b h = grind (arith, nat_tests)

no_start : (b : ℕ) → is_start b ≡ true → (b == 58) ≡ false
no_start b h = false_from_ne_true _ (λ e. let same : b ≡ 58 = is_58 b e in false≢true (ap is_start (sym same) ∙ h))

no_part : (b : ℕ) → is_part b ≡ true → (b == 58) ≡ false
no_part b h = false_from_ne_true _ (λ e. let same : b ≡ 58 = is_58 b e in false≢true (ap is_part (sym same) ∙ h))

no_parts : (text : List ℕ) → list_all is_part text ≡ true → HasNoColon text
no_parts [] h = refl
no_parts (b ∷ bs) h = rw (no_part b (and_first (is_part b) (list_all is_part bs) h)) (no_parts bs (and_second (is_part b) (list_all is_part bs) h))

plain_name : (text : List ℕ) → is_identifier text ≡ true → HasNoColon text
plain_name [] h = refl
plain_name (b ∷ bs) h = rw (no_start b (and_first (is_start b) (list_all is_part bs) h)) (no_parts bs (and_second (is_start b) (list_all is_part bs) h))

plain_argument : (argument : Option (List ℕ)) → argument_has form.Identifier argument ≡ true → HasNoColon (unwrap_or argument [])
plain_argument None h = absurd (false≢true h)
plain_argument (Some text) h = plain_name text h

-- the keywords of statements that define nodes
abbrev defines : Keyword → Bool
defines word.Container = true
defines word.Leaf = true
defines word.LeafList = true
defines word.List = true
defines word.Choice = true
defines word.Case = true
defines word.Anydata = true
defines word.Anyxml = true
defines word.Rpc = true
defines word.Action = true
defines word.Notification = true
defines word.Input = true
defines word.Output = true
defines _ = false

plain_node : (k parent : Keyword) (argument : Option (List ℕ)) → defines k ≡ true → argument_has (form_of parent k) argument ≡ true
    → HasNoColon (node_name (kind_of k) (unwrap_or argument []))
unfolding form_of
plain_node word.Container parent a d h = plain_argument a h
plain_node word.Leaf parent a d h = plain_argument a h
plain_node word.LeafList parent a d h = plain_argument a h
plain_node word.List parent a d h = plain_argument a h
plain_node word.Choice parent a d h = plain_argument a h
plain_node word.Case parent a d h = plain_argument a h
plain_node word.Anydata parent a d h = plain_argument a h
plain_node word.Anyxml parent a d h = plain_argument a h
plain_node word.Rpc parent a d h = plain_argument a h
plain_node word.Action parent a d h = plain_argument a h
plain_node word.Notification parent a d h = plain_argument a h
plain_node word.Input parent a d h = refl
plain_node word.Output parent a d h = refl
plain_node _ parent a d h = absurd (false≢true d)

-- items but for uses are of these keywords
abbrev is_good : List ℕ × StatementKind → Bool
is_good n = is_uses n.1 || defines (keyword_of n.0)

good_in : (ns : List (List ℕ × StatementKind)) (text : List ℕ) → list_all is_good ns ≡ true → is_uses (unwrap_or (kind_in ns text) kind.Uses) ≡ false → defines (keyword_of text) ≡ true
good_in [] text good h = absurd (false≢true (sym h))
good_in (n ∷ ns) text good h = by (bytes_eq n.0 text) refl (good_in ns text (and_second (is_good n) (list_all is_good ns) good)) h
  where
    this : (b : Bool) → is_uses n.1 ≡ b → b ≡ false → (b || defines (keyword_of n.0)) ≡ true → defines (keyword_of n.0) ≡ true
    this true e f g = absurd (false≢true (sym f))
    this false e f g = g

    by : (b : Bool) → bytes_eq n.0 text ≡ b → (is_uses (unwrap_or (kind_in ns text) kind.Uses) ≡ false → defines (keyword_of text) ≡ true)
        → is_uses (unwrap_or (if b then Some n.1 else kind_in ns text) kind.Uses) ≡ false → defines (keyword_of text) ≡ true
    by true e others f =
        subst (λ w. defines (keyword_of w) ≡ true) ((bytes_eq-Decides n.0 text).0 e)
        (this (is_uses n.1) refl f (and_first (is_good n) (list_all is_good ns) good))
    by false e others f = others f

good_kinds : list_all is_good kinds ≡ true
unfolding keyword_of
good_kinds = refl

defining : (text : List ℕ) → is_uses (unwrap_or (kind_of_keyword text) kind.Uses) ≡ false → defines (keyword_of text) ≡ true
unfolding kind_of_keyword
defining text h = good_in kinds text good_kinds h

not_extension : (k : Keyword) → defines k ≡ true → k ≢ word.Extended
not_extension k d e = false≢true (ap defines (sym e) ∙ d)

-- the name of a node that a numbered statement defines has no colon
pub plain_at : (files : Files) → ((n : ℕ) (t : Tree) (f : Refusal) → slice_get files n ≡ Some t → Bad Refuse t f → ⊥)
    → map (λ t. t.head) (statements_of files) ≡ map (λ r. r.head) (rows_of files)
    → (k : ℕ) (r : Row) (t : Tree) → slice_get (rows_of files) k ≡ Some r → slice_get (statements_of files) k ≡ Some t
    → is_uses (kind_at (Some r)) ≡ false → HasNoColon (node_name (kind_of (keyword_at t)) (name_of t.head))
plain_at files fine heads k r t row at kind_is =
    let clean = clean_at (statements_of files) k t (all_clean files fine) at in
    let head : t.head ≡ r.head = same_Some _ _ (sym (ap (option_map (λ x. x.head)) at) ∙ sym (slice_get-map (λ x. x.head) (statements_of files) k)
    ∙ ap (λ hs. slice_get hs k) heads ∙ slice_get-map (λ x. x.head) (rows_of files) k ∙ ap (option_map (λ x. x.head)) row) in
    let d : defines (keyword_at t) ≡ true = ap (λ (h : Head). defines (keyword_of h.keyword)) head ∙ defining r.head.keyword kind_is in
    elim (cases_Bool (argument_has (form_of clean.0 (keyword_at t)) t.head.argument)) [
      | inl fits ↦ plain_node (keyword_at t) clean.0 t.head.argument d fits
      | inr unfit ↦
          absurd (clean.1 (refusal_at code.BadArgument 0 t.head)
          (own (not_extension (keyword_at t) d) (inr (inr ((λ h. false≢true (sym unfit ∙ h.0)), refl)))))
    ]

-- what is known of the files, in short
pub record Fine (files : Files) : Type 0 where
  pub fine : (n : ℕ) (t : Tree) (f : Refusal) → slice_get files n ≡ Some t → Bad Refuse t f → ⊥
  pub heads : map (λ t. t.head) (statements_of files) ≡ map (λ r. r.head) (rows_of files)

plain_statement : (files : Files) → Fine files → (k : ℕ) (row : Option Row) (at : Option Tree) → slice_get (rows_of files) k ≡ row → slice_get (statements_of files) k ≡ at
    → is_uses (kind_at row) ≡ false → HasNoColon (node_name (kind_of (keyword_at (unwrap_or at no_statement))) (name_of (unwrap_or at no_statement).head))
unfolding keyword_of
plain_statement files are k row None at absent h = refl
plain_statement files are k None (Some t) absent at h = absurd (none_some (sym (slice_get-map (λ x. x.head) (rows_of files) k ∙ ap (option_map (λ x. x.head)) absent)
    ∙ ap (λ hs. slice_get hs k) (sym are.heads) ∙ slice_get-map (λ x. x.head) (statements_of files) k ∙ ap (option_map (λ x. x.head)) at))
  where
    none_some : {A : Type 0} {x : A} → None ≡ Some x → ⊥
    none_some e = cc
plain_statement files are k (Some r) (Some t) row at h = plain_at files are.fine are.heads k r t row at h

-- the name of a node of an origin, as refines change it, has no colon
pub plain_refined : (typing : TypeMeanings) (files : Files) → Fine files → (from : Origin) (refines : List ℕ) → is_uses (item_kind (rows_of files) from) ≡ false
    → HasNoColon (refined_definition typing files from refines).name
plain_refined typing files are (origin.Statement k) refines h =
    subst (λ t. HasNoColon (node_name (kind_of (keyword_at t)) (name_of t.head))) (unwrap_or-slice_get (statements_of files) k no_statement)
    (plain_statement files are k (slice_get (rows_of files) k) (slice_get (statements_of files) k) refl refl h)
plain_refined typing files are (origin.Input k) refines h = refl
plain_refined typing files are (origin.Output k) refines h = refl
