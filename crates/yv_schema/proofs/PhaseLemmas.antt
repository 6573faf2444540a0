-- The phases of a compilation, and what is known where the first ones refuse nothing.
use Rattle.std.proofs.Common.{◌≡◌, ◌≢◌, ℕ, ◌<◌, ◌≤◌, ◌⊎◌, ◌&&◌, ◌==◌, not, inl, inr, Bool, true, false, List, [], ◌∷◌, length, map, Option, Some, None, refl, sym, ap, ◌∙◌, subst, arith, codes}
use Rattle.std.specs.List.{list_all, slice_get}
use Rattle.std.specs.Option.{option_map, unwrap_or}
use Rattle.std.proofs.lemmas.Bool.{cases_Bool, false≢true, false_from_ne_true}
use Rattle.std.proofs.lemmas.Bool.Decides.{nat_tests}
use Rattle.std.proofs.lemmas.Option.{same_Some, slice_get-map, slice_get_within}
use Rattle.std.proofs.lemmas.Slice.Eq.{bytes_eq-Decides}
use Rattle.yv_text_statement.specs.Tree.{Tree}
use Rattle.yv_text_statement.specs.Codes.{phase_of}
use Rattle.yv_text_statement.specs.declared.refusal.Refusal.{Refusal}
use Rattle.yv_text_statement.specs.declared.refusal.Code.TheVariants as code
use Rattle.yv_text_statement.specs.Order.{Among, IsLeast, refusal_at}
use Rattle.yv_text_statement.proofs.Least.{least_same}
use Rattle.yv_text_statement.specs.declared.keyword.Keyword.{Keyword}
use Rattle.yv_text_statement.specs.declared.keyword.Keyword.TheVariants as word
use Rattle.yv_text_grammar.specs.declared.form.Form.TheVariants as form
use Rattle.yv_text_statement.specs.Keywords.{keyword_of}
use Rattle.yv_text_grammar.specs.Argument.{ArgumentFits, argument_has}
use Rattle.yv_text_grammar.specs.Refusals.{Bad, keyword_at, own}
use Rattle.yv_text_grammar.specs.declared.xpath.Xpath.TheVariants.{Refuse}
use Rattle.yv_text_grammar.specs.Forms.{form_of}
use Rattle.yv_text_grammar.specs.Texts.{is_identifier, is_part, is_start}
use Rattle.yv_text_statement.specs.Selection.{ModuleChoice, is_implemented}
use Rattle.yv_link_scopes.specs.Files.{Brief, Briefs, Files, brief_of, is_module, file_named, tree_name}
use Rattle.yv_link_modules.specs.Links.{is_at}
use Rattle.yv_link_features.specs.Refusals.{BadFeatures}
use Rattle.yv_link.specs.Links.{BadLinks}
use Rattle.yv_link.proofs.Phases.{ahead, behind}
use Rattle.yv_link_definitions.specs.Refusals.{BadNames}
use Rattle.yv_types.specs.Refusals.{BadTypes}
use Rattle.yv_expand_statements.specs.Truth.{Truth, IsTruth}
use Rattle.yv_expand_statements.specs.FileOrder.{is_given}
use Rattle.yv_nodes.specs.Tree.{Forest, Label}
use Rattle.yv_node_leafrefs.specs.Bad.{BadLeafrefs}
use Rattle.yv_nodes.specs.Places.{Place}
use Rattle.yv_node_keys.specs.Bad.{BadOfLeafs}
use Rattle.yv_schema_tables.specs.Bad.{BadRows}
use Rattle.yv_schema_tables.specs.DuplicateNodes.{HasDuplicate, HasRepeat, names_that_differ}
use Rattle.yv_node_checks.specs.Above.{AtNearest, BadBelow, is_misfit}
use Rattle.yv_node_checks.specs.Mandatory.{BadOfDefault}
use Rattle.yv_node_checks.specs.Bad.{BadTree}
use Rattle.yv_schema.specs.Refusals.{BadFile, BadNodes, BadTyping}
use Rattle.yv_node_leafrefs.specs.Schema.{Schema}
use Rattle.yv_schema.specs.InnerStages.{RefusesInStages, RefusesInStagesBeforeTypes}
use Rattle.yv_schema.specs.Refuses.{BadSchema, Refuses, RefusesBeforeTypes, RefusesExpansion}
use Rattle.yv_schema.specs.Schema.{Basis, IsSchema, leafrefs_of}
use Rattle.yv_schema_tables.specs.NodeNumbers.{HasNoColon}
use Rattle.yv_schema.specs.InnerBuild.{AreNames}
use Rattle.yv_schema.proofs.ModuleFilesGiven.{have_module_files}
use Rattle.yv_schema.proofs.FileRefusals.{is_own}
use Rattle.yv_schema.proofs.TypePhases.{names_phase, types_phase}
use Rattle.yv_schema.proofs.OneSchema.{HasOneTruth, HaveOneTyping, IsTypedOnce, one_basis, one_schema, same_truth}
use Rattle.yv_schema.proofs.ShownItems.{OneNodes}

and_first : (a b : Bool) → (a && b) ≡ true → a ≡ true
and_first true b h = refl
and_first false b h = absurd (false≢true h)

and_second : (a b : Bool) → (a && b) ≡ true → b ≡ true
and_second true b h = h
and_second false b h = absurd (false≢true h)

map_get : {A B : Type 0} (f : A → B) (xs : List A) (n : ℕ) (x : A) → slice_get xs n ≡ Some x → slice_get (map f xs) n ≡ Some (f x)
map_get f xs n x at = slice_get-map f xs n ∙ ap (option_map f) at

is_58 : (b : ℕ) → (b == 58) ≡ true → b ≡ 58
is_58 b h = grind (arith, nat_tests)

-- what begins an identifier, and what stands in one, is no colon
no_start : (b : ℕ) → is_start b ≡ true → (b == 58) ≡ false
no_start b h = false_from_ne_true _ (λ e. let same : b ≡ 58 = is_58 b e in false≢true (ap is_start (sym same) ∙ h))

no_part : (b : ℕ) → is_part b ≡ true → (b == 58) ≡ false
no_part b h = false_from_ne_true _ (λ e. let same : b ≡ 58 = is_58 b e in false≢true (ap is_part (sym same) ∙ h))

no_parts : (text : List ℕ) → list_all is_part text ≡ true → HasNoColon text
no_parts [] h = refl
no_parts (b ∷ bs) h = rw (no_part b (and_first (is_part b) (list_all is_part bs) h)) (no_parts bs (and_second (is_part b) (list_all is_part bs) h))

-- an identifier has no colon
plain_name : (text : List ℕ) → is_identifier text ≡ true → HasNoColon text
plain_name [] h = refl
plain_name (b ∷ bs) h = rw (no_start b (and_first (is_start b) (list_all is_part bs) h)) (no_parts bs (and_second (is_start b) (list_all is_part bs) h))

module_word : keyword_of (codes "module") ≡ word.Module
unfolding keyword_of
module_word = refl

module_form : form_of word.Unknown word.Module ≡ form.Identifier
unfolding form_of
module_form = refl

is_word : (t : Tree) → is_module t ≡ true → keyword_at t ≡ word.Module
is_word t h = ap keyword_of ((bytes_eq-Decides t.head.keyword (codes "module")).0 h) ∙ module_word

named_by : (argument : Option (List ℕ)) → argument_has form.Identifier argument ≡ true → is_identifier (unwrap_or argument []) ≡ true
named_by None h = absurd (false≢true h)
named_by (Some text) h = h

-- a module that is as the tables say has an identifier as its name
module_named : (t : Tree) → is_module t ≡ true → ((f : Refusal) → Bad Refuse t f → ⊥) → is_identifier (tree_name t) ≡ true
module_named t given fine = elim (cases_Bool (argument_has form.Identifier t.head.argument)) [
  | inl fits ↦ named_by t.head.argument fits
  | inr unfit ↦
      let keyword : keyword_at t ≡ word.Module = is_word t given in
      let plain : keyword_at t ≢ word.Extended = λ e. let other : word.Module ≡ word.Extended = sym keyword ∙ e in cc in
      let bad : ArgumentFits word.Unknown (keyword_at t) t.head.argument → ⊥ =
      λ h. false≢true (sym unfit ∙ ap (λ f. argument_has f t.head.argument) (sym module_form) ∙ ap (λ (k : Keyword). argument_has (form_of word.Unknown k) t.head.argument) (sym keyword) ∙ h.0) in
      absurd (fine (refusal_at code.BadArgument 0 t.head) (inr (own plain (inr (inr (bad, refl))))))
]

-- where no file's name stands before it, names differ
own_name : (briefs : Briefs) (n : ℕ) (g : Brief) → not (is_at n (file_named briefs g.name)) ≡ false → file_named briefs g.name ≡ Some n
own_name briefs n g h = by (file_named briefs g.name) refl (not_false (is_at n (file_named briefs g.name)) h)
  where
    not_false : (b : Bool) → not b ≡ false → b ≡ true
    not_false true e = refl
    not_false false e = absurd (false≢true (sym e))

    by : (o : Option ℕ) → file_named briefs g.name ≡ o → is_at n (file_named briefs g.name) ≡ true → file_named briefs g.name ≡ Some n
    by None e is = absurd (false≢true (ap (is_at n) (sym e) ∙ is))
    by (Some i) e is =
        let at : (i == n) ≡ true = ap (is_at n) (sym e) ∙ is in
        let same : i ≡ n = grind (arith, nat_tests) in
        e ∙ ap Some same

module _ (choice : ModuleChoice) (files : Files) (fine : (f : Refusal) → Among files BadFile (length files) f → ⊥) (linked : (f : Refusal) → BadLinks files f → ⊥) where
  fine_at : (n : ℕ) (t : Tree) (f : Refusal) → slice_get files n ≡ Some t → Bad Refuse t f → ⊥
  fine_at n t f at bad =
      fine (record { code = f.code; file = n; offset = f.offset; line = f.line }) (n, slice_get_within files n t at, t, at, record { own = f; stands = bad; is = refl })

  identifier_at : (n : ℕ) (t : Tree) → slice_get files n ≡ Some t → is_given choice t ≡ true → is_identifier (tree_name t) ≡ true
  identifier_at n t at given =
      module_named t (and_first (is_module t) (is_implemented choice (tree_name t)) given)
      (λ f bad. fine_at n t f at bad)

  first_named : (n : ℕ) (t : Tree) → slice_get files n ≡ Some t → file_named (map brief_of files) (tree_name t) ≡ Some n
  first_named n t at =
      let here : slice_get (map brief_of files) n ≡ Some (brief_of t) = map_get brief_of files n t at in
      let first : not (is_at n (file_named (map brief_of files) (tree_name t))) ≡ false =
      false_from_ne_true _ (λ e. linked (refusal_at code.DuplicateModule n t.head) (inl (inl (n, slice_get_within (map brief_of files) n (brief_of t) here, brief_of t, here, inl (e, refl))))) in
      own_name (map brief_of files) n (brief_of t) first

  -- the names of the modules of files that nothing is wrong with
  pub names_of : AreNames choice files
  names_of = record {
    fine = fine_at;
    plain = λ n t at given. plain_name (tree_name t) (identifier_at n t at given);
    differ = λ m n t u lt at_m at_n given_t given_u same.
        let one : m ≡ n = same_Some m n (sym (first_named m t at_m) ∙ ap (file_named (map brief_of files)) same ∙ first_named n u at_n) in
        omega (arith, lt, one);
    module_files = have_module_files choice files fine_at linked;
  }

-- the phases of refusals
file_phase : (n : ℕ) (t : Tree) (f : Refusal) → BadFile n t f → phase_of f.code ≡ 2
file_phase n t f h = ap (λ (r : Refusal). phase_of r.code) h.is ∙ (is_own t h.own h.stands).phase

repeated_phase : (ls : List Label) (f : Refusal) → HasRepeat ls f → phase_of f.code ≡ 10
repeated_phase ls f h = ap (λ (r : Refusal). phase_of r.code) h.4.1

doubled_phase : (top : Forest) (f : Refusal) → HasDuplicate top f → phase_of f.code ≡ 10
doubled_phase top f h = elim h [
  | inl x ↦ repeated_phase (names_that_differ top) f x
  | inr x ↦ repeated_phase _ f x.4
]

of_phase : (f r : Refusal) → f ≡ r → phase_of r.code ≡ 10 → phase_of f.code ≡ 10
of_phase f r is h = ap (λ (r : Refusal). phase_of r.code) is ∙ h

nearest_phase : (ls : List Label) (is_wrong : Bool) (f : Refusal) → AtNearest ls is_wrong f → phase_of f.code ≡ 10
nearest_phase [] is_wrong f h = absurd h
nearest_phase (l ∷ ls) is_wrong f h = of_phase f _ h.1 refl

below_phase : (p : Place) (f : Refusal) → BadBelow p f → phase_of f.code ≡ 10
below_phase p f h = elim h [
  | inl x ↦ elim x [ inl y ↦ of_phase f _ y.1 refl | inr y ↦ of_phase f _ y.1 refl ]
  | inr x ↦ elim x [ inl y ↦ of_phase f _ y.1 refl | inr y ↦ nearest_phase p.above (is_misfit p) f y ]
]

default_phase : (p : Place) (f : Refusal) → BadOfDefault p f → phase_of f.code ≡ 10
default_phase p f h = elim h [
  | inl x ↦ elim x [ inl y ↦ of_phase f _ y.1 refl | inr y ↦ of_phase f _ y.1 refl ]
  | inr x ↦ elim x [ inl y ↦ of_phase f _ y.1 refl | inr y ↦ of_phase f _ y.1 refl ]
]

leafs_phase : (p : Place) (f : Refusal) → BadOfLeafs p f → phase_of f.code ≡ 10
leafs_phase p f h = elim h [ inl x ↦ of_phase f _ x.1 refl | inr x ↦ of_phase f _ x.1 refl ]

rows_phase : (top : Forest) (f : Refusal) → BadRows top f → phase_of f.code ≡ 10
rows_phase top f h = elim h [ inl x ↦ doubled_phase top f x | inr x ↦ leafs_phase x.2 f x.4 ]

tree_phase : (top : Forest) (f : Refusal) → BadTree top f → phase_of f.code ≡ 10
tree_phase top f h = elim h [ inl x ↦ below_phase x.2 f x.4 | inr x ↦ default_phase x.2 f x.4 ]

leafrefs_phase : (s : Schema) (f : Refusal) → BadLeafrefs s f → phase_of f.code ≡ 10
leafrefs_phase s f h = elim h.4 [ inl x ↦ of_phase f _ x.1 refl | inr x ↦ of_phase f _ x.1 refl ]

schema_phase : (choice : ModuleChoice) (files : Files) (f : Refusal) → BadSchema choice files f → phase_of f.code ≡ 10
schema_phase choice files f h = elim h.stands [
  | inl x ↦ rows_phase h.tree f x
  | inr x ↦ elim x [ inl y ↦ tree_phase h.tree f y | inr y ↦ leafrefs_phase (leafrefs_of h.schema.basis) f y ]
]

-- what is refused only with types or with the schema tree comes late
pub comes_late : (choice : ModuleChoice) (files : Files) (limit : ℕ) (f : Refusal) → Refuses choice files limit f → RefusesBeforeTypes choice files limit f ⊎ (9 ≤ phase_of f.code)
comes_late choice files limit f (inl early) = inl (inl early)
comes_late choice files limit f (inr (inl expansion)) = inl (inr expansion)
comes_late choice files limit f (inr (inr (inl typing))) = inr (omega (arith, types_phase files typing.truth f typing.bad))
comes_late choice files limit f (inr (inr (inr schema))) = inr (omega (arith, schema_phase choice files f schema))

-- the refusals of all stages are those of files
pub in_stages : (choice : ModuleChoice) (files : Files) (limit : ℕ) (f : Refusal) → Refuses choice files limit f → RefusesInStages choice files limit f
in_stages choice files limit f (inl (inl h)) = inl (inl h)
in_stages choice files limit f (inl (inr (inl h))) = inl (inr (inl h))
in_stages choice files limit f (inl (inr (inr h))) = inl (inr (inr (inl h)))
in_stages choice files limit f (inr (inl h)) = inl (inr (inr (inr h)))
in_stages choice files limit f (inr (inr h)) = inr h

pub of_stages : (choice : ModuleChoice) (files : Files) (limit : ℕ) (f : Refusal) → RefusesInStages choice files limit f → Refuses choice files limit f
of_stages choice files limit f (inl (inl h)) = inl (inl h)
of_stages choice files limit f (inl (inr (inl h))) = inl (inr (inl h))
of_stages choice files limit f (inl (inr (inr (inl h)))) = inl (inr (inr h))
of_stages choice files limit f (inl (inr (inr (inr h)))) = inr (inl h)
of_stages choice files limit f (inr h) = inr (inr h)

pub least_of_stages : (choice : ModuleChoice) (files : Files) (limit : ℕ) (o : Option Refusal) → IsLeast (RefusesInStages choice files limit) o → IsLeast (Refuses choice files limit) o
least_of_stages choice files limit o =
    least_same (RefusesInStages choice files limit) (Refuses choice files limit) o (of_stages choice files limit) (in_stages choice files limit)

pub none_before_types : (choice : ModuleChoice) (files : Files) (limit : ℕ) → IsLeast (RefusesInStagesBeforeTypes choice files limit) None → IsLeast (RefusesBeforeTypes choice files limit) None
none_before_types choice files limit none f (inl (inl h)) = none f (inl h)
none_before_types choice files limit none f (inl (inr (inl h))) = none f (inr (inl h))
none_before_types choice files limit none f (inl (inr (inr h))) = none f (inr (inr (inl h)))
none_before_types choice files limit none f (inr h) = none f (inr (inr (inr h)))

-- what is wrong with the links of files is refused in the phases 3 to 5, and what is wrong with
-- their expansion in 7 and 8
pub record HavePhases : Type 0 where
  pub first : (files : Files) (f : Refusal) → BadLinks files f → 3 ≤ phase_of f.code
  pub last : (files : Files) (f : Refusal) → BadLinks files f → phase_of f.code ≤ 5
  pub expansion : (choice : ModuleChoice) (files : Files) (limit : ℕ) (f : Refusal) → RefusesExpansion choice files limit f
      → (6 < phase_of f.code) × (phase_of f.code ≤ 8)

module _ (choice : ModuleChoice) (files : Files) (limit : ℕ) where
  abbrev Own : Refusal → Type 0
  Own f = Among files BadFile (length files) f

  abbrev Expansion : Refusal → Type 0
  Expansion f = RefusesExpansion choice files limit f

  abbrev Names : Refusal → Type 0
  Names f = BadNames files f ⊎ Expansion f

  abbrev Before : Refusal → Type 0
  Before f = RefusesInStagesBeforeTypes choice files limit f

  abbrev Later : Refusal → Type 0
  Later f = BadTyping choice files f ⊎ BadSchema choice files f

  -- nothing is wrong with files as such, nor with their links, where nothing is before types
  pub files_clear : IsLeast (RefusesInStagesBeforeTypes choice files limit) None → IsLeast (Among files BadFile (length files)) None
  files_clear h = λ f x. h f (inl x)

  pub links_clear : IsLeast (RefusesInStagesBeforeTypes choice files limit) None → IsLeast (BadLinks files) None
  links_clear h = λ f x. h f (inr (inl x))

  module _ (phases : HavePhases) where
    own_phase : (f : Refusal) → Own f → phase_of f.code ≤ 2
    own_phase f h = let e : phase_of f.code ≡ 2 = file_phase h.0 h.2 f h.4 in omega (arith, e)

    six_phase : (f : Refusal) → BadNames files f → phase_of f.code ≤ 6
    six_phase f h = let e : phase_of f.code ≡ 6 = names_phase files f h in omega (arith, e)

    names_behind : (f : Refusal) → Names f → 5 < phase_of f.code
    names_behind f (inl h) = let e : phase_of f.code ≡ 6 = names_phase files f h in omega (arith, e)
    names_behind f (inr h) = let e : 6 < phase_of f.code = (phases.expansion choice files limit f h).0 in omega (arith, e)

    links_behind : (f : Refusal) → BadLinks files f ⊎ Names f → 2 < phase_of f.code
    links_behind f (inl h) = let e : 3 ≤ phase_of f.code = phases.first files f h in omega (arith, e)
    links_behind f (inr h) = let e : 5 < phase_of f.code = names_behind f h in omega (arith, e)

    before_phase : (f : Refusal) → Before f → phase_of f.code ≤ 8
    before_phase f (inl h) = let e : phase_of f.code ≤ 2 = own_phase f h in omega (arith, e)
    before_phase f (inr (inl h)) = let e : phase_of f.code ≤ 5 = phases.last files f h in omega (arith, e)
    before_phase f (inr (inr (inl h))) = let e : phase_of f.code ≤ 6 = six_phase f h in omega (arith, e)
    before_phase f (inr (inr (inr h))) = (phases.expansion choice files limit f h).1

    later_phase : (f : Refusal) → Later f → 8 < phase_of f.code
    later_phase f (inl h) = let e : phase_of f.code ≡ 9 = types_phase files h.truth f h.bad in omega (arith, e)
    later_phase f (inr h) = let e : phase_of f.code ≡ 10 = schema_phase choice files f h in omega (arith, e)

    -- the least of the files as such is the least before types
    pub least_own : (r : Refusal) → IsLeast (Among files BadFile (length files)) (Some r) → IsLeast (RefusesInStagesBeforeTypes choice files limit) (Some r)
    least_own r p = ahead Own (λ f. BadLinks files f ⊎ Names f) 2 r own_phase links_behind p

    -- where nothing is wrong with them, the least of their links is
    pub least_linked : (r : Refusal) → IsLeast (Among files BadFile (length files)) None → IsLeast (BadLinks files) (Some r) → IsLeast (RefusesInStagesBeforeTypes choice files limit) (Some r)
    least_linked r p q =
        behind Own (λ f. BadLinks files f ⊎ Names f) (Some r) p
        (ahead (BadLinks files) Names 5 r (phases.last files) names_behind q)

    -- where nothing is wrong with those either, the least of their names is
    pub least_named : (r : Refusal) → IsLeast (Among files BadFile (length files)) None → IsLeast (BadLinks files) None → IsLeast (BadNames files) (Some r)
        → IsLeast (RefusesInStagesBeforeTypes choice files limit) (Some r)
    least_named r p q h =
        behind Own (λ f. BadLinks files f ⊎ Names f) (Some r) p
        (behind (BadLinks files) Names (Some r) q
        (ahead (BadNames files) Expansion 6 r six_phase (λ f x. (phases.expansion choice files limit f x).0) h))

    -- the least before types is the least of all
    pub least_first : (r : Refusal) → IsLeast (RefusesInStagesBeforeTypes choice files limit) (Some r) → IsLeast (RefusesInStages choice files limit) (Some r)
    least_first r p = ahead Before Later 8 r before_phase later_phase p

  -- where nothing is wrong with files, links and names, the least of their expansion is the least
  -- before types
  pub least_expanded : (o : Option Refusal) → IsLeast (Among files BadFile (length files)) None → IsLeast (BadLinks files) None → IsLeast (BadNames files) None
      → IsLeast (RefusesExpansion choice files limit) o → IsLeast (RefusesInStagesBeforeTypes choice files limit) o
  least_expanded o p q h e = behind Own (λ f. BadLinks files f ⊎ Names f) o p (behind (BadLinks files) Names o q (behind (BadNames files) Expansion o h e))

module _ (choice : ModuleChoice) (files : Files) (limit : ℕ) (one : HasOneTruth) (before : IsLeast (RefusesInStagesBeforeTypes choice files limit) None) where
  -- nothing is wrong with the features of files
  pub features_clear : IsLeast (BadFeatures files) None
  features_clear f h = links_clear choice files limit before f (inr (inl h))

  one_truth : (a b : Truth) → IsTruth files choice a → IsTruth files choice b → a ≡ b
  one_truth a b p q = same_truth a b (λ n text. one files choice n text (a n text) (b n text) features_clear (p n text) (q n text))

  -- what is wrong with types by one truth is all that is wrong with them
  typed : (truth : Truth) (o : Option Refusal) → IsTruth files choice truth → IsLeast (BadTypes files truth) o → IsLeast (BadTyping choice files) o
  typed truth o is r =
      least_same (BadTypes files truth) (BadTyping choice files) o
      (λ f h. record { truth = truth; is_truth = is; bad = h })
      (λ f h. subst (λ (t : Truth). BadTypes files t f) (one_truth h.truth truth h.is_truth is) h.bad) r

  -- where nothing is refused before types, the least of these is the least of all
  pub least_typed : (truth : Truth) (r : Refusal) → IsTruth files choice truth → IsLeast (BadTypes files truth) (Some r) → IsLeast (RefusesInStages choice files limit) (Some r)
  least_typed truth r is p =
      behind (Before choice files limit) (Later choice files limit) (Some r) before
      (ahead (BadTyping choice files) (BadSchema choice files) 9 r
      (λ f h. let e : phase_of f.code ≡ 9 = types_phase files h.truth f h.bad in omega (arith, e))
      (λ f h. let e : phase_of f.code ≡ 10 = schema_phase choice files f h in omega (arith, e)) (typed truth (Some r) is p))

  -- where all this refuses nothing, the least of the schema tree is the least of all
  pub least_last : HaveOneTyping → OneNodes → IsTypedOnce → (truth : Truth) (o : Option Refusal) (top : Forest) → IsTruth files choice truth → (schema : IsSchema choice files top)
      → IsLeast (BadTypes files truth) None → IsLeast (BadNodes (leafrefs_of schema.basis) top) o → IsLeast (RefusesInStages choice files limit) o
  least_last one_typing one_nodes once truth o top is schema p r =
      let least : IsLeast (BadSchema choice files) o =
      least_same (BadNodes (leafrefs_of schema.basis) top) (BadSchema choice files) o
      (λ f h. record { tree = top; schema = schema; stands = h })
      (λ f h. subst (λ (ts : Forest). BadNodes (leafrefs_of schema.basis) ts f)
      (one_schema one one_typing one_nodes choice files features_clear once h.tree top h.schema schema)
      (subst (λ (x : Basis). BadNodes (leafrefs_of x) h.tree f)
      (one_basis one one_typing one_nodes choice files features_clear h.schema.basis schema.basis h.schema.of_files schema.of_files h.schema.is_basis schema.is_basis) h.stands)) r in
      behind (Before choice files limit) (Later choice files limit) o before
      (behind (BadTyping choice files) (BadSchema choice files) o (typed truth None is p) least)
