-- What statements say, one in place of the other.
use Rattle.std.proofs.Common.{◌≡◌, ◌==◌, ℕ, Bool, true, false, not, cond, List, [], ◌∷◌, ◌++◌, map, Option, Some, None, is_some, refl, sym, ap, ◌∙◌, append_assoc}
use Rattle.std.specs.Prelude.{◌&&◌, ◌||◌, filter, option_to_list}
use Rattle.std.specs.List.{find}
use Rattle.std.specs.Option.{option_map, option_or, unwrap_or}
use Rattle.std.proofs.lemmas.Bool.{or_parts, true≢false}
use Rattle.yv_text_statement.specs.Tree.{Tree, trees}
use Rattle.yv_text_statement.specs.declared.keyword.Keyword.{Keyword}
use Rattle.yv_text_statement.specs.declared.keyword.Keyword.TheVariants as word
use Rattle.yv_link_scopes.specs.Files.{Files}
use Rattle.yv_expand_statements.specs.declared.origin.Origin.{Origin}
use Rattle.yv_expand_statements.specs.declared.origin.Origin.TheVariants.{Statement, Input, Output}
use Rattle.yv_values.specs.Values.{Val}
use Rattle.yv_node_content.specs.Definition.{Definition}
use Rattle.yv_text_statement.specs.TextInFile.{TextInFile, or_list}
use Rattle.yv_node_content.specs.declared.kind.NodeKind.TheVariants as kind
use Rattle.yv_node_statements.specs.Kinds.{TypeMeanings}
use Rattle.yv_node_statements.specs.Features.{all_expressions, expressions, with_expressions}
use Rattle.yv_node_properties.specs.Properties.{Substatements, defaults_at, elements_of, is_true, last_defaults, last_said, least_of, properties_of, said_at, statements_of_origin, written_in}
use Rattle.yv_node_properties.specs.Statements.{file_at, is_of, statement_at}
use Rattle.yv_node_statements.specs.Definitions.{definition_of, defined_at, refined_definition, unwritten, with_properties}
use Rattle.yv_node_statements.specs.Values.{defaults_of, values_at, with_defaults}
use Rattle.yv_node_statements.specs.InnerChanges.{change_at, apply_change, apply_statements}
use Rattle.yv_node_statements.specs.InnerRefines.{are_none, either_alone, give_default, is_moved, is_swayed}
use Rattle.yv_node_statements.proofs.CommaLists.{expressions_more, separated_one}

or_map : {A B : Type 0} (f : A → B) (a b : Option A) → option_or (option_map f a) (option_map f b) ≡ option_map f (option_or a b)
or_map f None b = refl
or_map f (Some x) b = refl

or_unwrap : {A B : Type 0} (f : A → B) (a b : Option A) (d : B)
    → unwrap_or (option_map f a) (unwrap_or (option_map f b) d) ≡ unwrap_or (option_map f (option_or a b)) d
or_unwrap f None b d = refl
or_unwrap f (Some x) b d = refl

or_some : {A : Type 0} (a b : Option A) → (is_some a || is_some b) ≡ is_some (option_or a b)
or_some None b = refl
or_some (Some x) b = refl

or_assoc : {A : Type 0} (a b c : Option A) → option_or a (option_or b c) ≡ option_or (option_or a b) c
or_assoc None b c = refl
or_assoc (Some x) b c = refl

or_none : {A : Type 0} (a : Option A) → option_or a None ≡ a
or_none None = refl
or_none (Some x) = refl

list_assoc : (a b c : List TextInFile) → or_list a (or_list b c) ≡ or_list (or_list a b) c
list_assoc [] b c = refl
list_assoc (w ∷ ws) b c = refl

list_none : (a : List TextInFile) → or_list a [] ≡ a
list_none [] = refl
list_none (w ∷ ws) = refl

-- what is said later stands in place of what was said
abbrev pub over : Substatements → Substatements → Substatements
over later earlier keyword = option_or (later keyword) (earlier keyword)

changed_with : (s t : Substatements) (l m : List TextInFile) (d : Definition)
    → apply_change (record { properties = properties_of s; defaults = l }) (with_properties (properties_of t) m d) ≡ with_properties (properties_of (over s t)) (or_list l m) d
changed_with s t l m d = λ i. record d {
  stated_config = or_map is_true (s word.Config) (t word.Config) i;
  is_mandatory = or_unwrap is_true (s word.Mandatory) (t word.Mandatory) false i;
  has_presence = or_some (s word.Presence) (t word.Presence) i;
  min = or_unwrap least_of (s word.MinElements) (t word.MinElements) 0 i;
  max = or_unwrap elements_of (s word.MaxElements) (t word.MaxElements) None i;
  own_defaults = or_list l m;
}

changed_last : (files : Files) (ns : List ℕ) (s : Substatements) (l : List TextInFile) (d : Definition)
    → apply_statements files ns (with_properties (properties_of s) l d) ≡ with_properties (properties_of (over (last_said files ns) s)) (or_list (last_defaults files ns) l) d
changed_last files [] s l d = refl
changed_last files (n ∷ ns) s l d =
    ap (apply_statements files ns) (changed_with (said_at files n) s (defaults_at files n) l d)
    ∙ changed_last files ns (over (said_at files n) s) (or_list (defaults_at files n) l) d
    ∙ (λ i. with_properties (properties_of (λ keyword. or_assoc (last_said files ns keyword) (said_at files n keyword) (s keyword) i))
    (list_assoc (last_defaults files ns) (defaults_at files n) l i) d)

-- the values of a definition stay, whatever changes its properties
changed_keeps : (files : Files) (ns : List ℕ) (d : Definition) (vs : List Val)
    → apply_statements files ns (record d { defaults = vs }) ≡ record (apply_statements files ns d) { defaults = vs }
changed_keeps files [] d vs = refl
changed_keeps files (n ∷ ns) d vs = changed_keeps files ns (apply_change (change_at files n) d) vs

-- the last of some and then others
last_joined : (files : Files) (xs ys : List ℕ) (keyword : Keyword)
    → last_said files (xs ++ ys) keyword ≡ option_or (last_said files ys keyword) (last_said files xs keyword)
last_joined files [] ys keyword = sym (or_none (last_said files ys keyword))
last_joined files (x ∷ xs) ys keyword =
    ap (λ (o : Option TextInFile). option_or o (said_at files x keyword)) (last_joined files xs ys keyword)
    ∙ sym (or_assoc (last_said files ys keyword) (last_said files xs keyword) (said_at files x keyword))

defaults_joined : (files : Files) (xs ys : List ℕ) → last_defaults files (xs ++ ys) ≡ or_list (last_defaults files ys) (last_defaults files xs)
defaults_joined files [] ys = sym (list_none (last_defaults files ys))
defaults_joined files (x ∷ xs) ys =
    ap (λ (l : List TextInFile). or_list l (defaults_at files x)) (defaults_joined files xs ys)
    ∙ sym (list_assoc (last_defaults files ys) (last_defaults files xs) (defaults_at files x))

expressions_joined : (files : Files) (xs ys : List ℕ) → all_expressions files (xs ++ ys) ≡ all_expressions files xs ++ all_expressions files ys
expressions_joined files [] ys = refl
expressions_joined files (x ∷ xs) ys =
    let own : List (List ℕ) = expressions (trees (statement_at files x).children) in
    ap (λ (rest : List (List ℕ)). own ++ rest) (expressions_joined files xs ys) ∙ sym (append_assoc own (all_expressions files xs) (all_expressions files ys))

-- where none is found, none is left
none_found : {A : Type 0} (f : Tree → A) (p : Tree → Bool) (ts : List Tree) → is_some (option_map f (find p ts)) ≡ false → map f (filter p ts) ≡ []
none_found f p [] h = refl
none_found {A} f p (t ∷ ts) h =
    let cases : (b : Bool) → is_some (option_map f (cond b (Some t) (find p ts))) ≡ false → map f (cond b (t ∷ filter p ts) (filter p ts)) ≡ [] =
    λ b. elim b as (λ b. is_some (option_map f (cond b (Some t) (find p ts))) ≡ false → map f (cond b (t ∷ filter p ts) (filter p ts)) ≡ []) [
      | true ↦ λ g. absurd (true≢false g)
      | false ↦ λ g. none_found f p ts g
    ] in
    cases (p t) h

-- where none of these statements gives a default, the last gives none
no_default : (files : Files) (ns : List ℕ) → give_default files ns ≡ false → last_defaults files ns ≡ []
no_default files [] h = refl
no_default files (n ∷ ns) h =
    let parts = or_parts _ _ h in
    ap (λ (l : List TextInFile). or_list l (defaults_at files n)) (no_default files ns parts.1)
    ∙ none_found (written_in (file_at files n)) (is_of word.Default) (trees (statement_at files n).children) parts.0

-- the defaults that are said of a node with these of its own, of a type with this one, and with so
-- many entries at least
abbrev said_by : List TextInFile → Option TextInFile → ℕ → List TextInFile
said_by own type min = or_list own (cond (min == 0) (option_to_list type) [])

-- the same defaults are said of a node, where it has the same of its own, and if none, may have no
-- entry as before
said_stays : (own : List TextInFile) (type : Option TextInFile) (m n : ℕ) → (are_none own && either_alone (m == 0) (n == 0)) ≡ false
    → said_by own type m ≡ said_by own type n
said_stays (w ∷ ws) type m n h = refl
said_stays [] type m n h =
    let ws : List TextInFile = option_to_list type in
    let cases : (a b : Bool) → either_alone a b ≡ false → cond a ws [] ≡ cond b ws [] =
    λ a. elim a as (λ a. (b : Bool) → either_alone a b ≡ false → cond a ws [] ≡ cond b ws []) [
      | true ↦ λ b. elim b as (λ b. not b ≡ false → ws ≡ cond b ws []) [ true ↦ λ g. refl | false ↦ λ g. absurd (true≢false g) ]
      | false ↦ λ b. elim b as (λ b. b ≡ false → [] ≡ cond b ws []) [ true ↦ λ g. absurd (true≢false g) | false ↦ λ g. refl ]
    ] in
    cases (m == 0) (n == 0) h

module _ (typing : TypeMeanings) (files : Files) where
  -- what a statement says of a node is what is said of it, where nothing refines it
  pub stated_is : (number : ℕ) → ◌≡◌ {A = Definition} (with_defaults files (defined_at typing files number)) (refined_definition typing files (Statement number) [])
  stated_is number =
      let d : Definition = defined_at typing files number in
      ap (λ (text : List ℕ). with_defaults files (record d { features = text })) (sym (separated_one d.features))

  -- so it is of an input or output that isn't written
  pub input_is : (number : ℕ) → ◌≡◌ {A = Definition} (unwritten kind.Input files number) (refined_definition typing files (Input number) [])
  input_is number = ap (λ (text : List ℕ). record (unwritten kind.Input files number) { features = text }) (sym (separated_one []))

  pub output_is : (number : ℕ) → ◌≡◌ {A = Definition} (unwritten kind.Output files number) (refined_definition typing files (Output number) [])
  output_is number = ap (λ (text : List ℕ). record (unwritten kind.Output files number) { features = text }) (sym (separated_one []))

  module _ (from : Origin) (before refines : List ℕ) where
    -- the node as the first refines leave it, and the text with the features of the others
    abbrev first : Definition
    first = refined_definition typing files from before

    abbrev text : List ℕ
    text = with_expressions first.features (all_expressions files refines)

    -- what was said until then of properties, and is said in the end
    abbrev earlier : Substatements
    earlier = last_said files (statements_of_origin from ++ before)

    abbrev all : Substatements
    all = last_said files (statements_of_origin from ++ (before ++ refines))

    -- the defaults until then, and in the end
    abbrev earlier_own : List TextInFile
    earlier_own = last_defaults files (statements_of_origin from ++ before)

    abbrev own : List TextInFile
    own = last_defaults files (statements_of_origin from ++ (before ++ refines))

    abbrev with_text : List ℕ → Substatements → List TextInFile → Definition
    with_text features said defaults = with_properties (properties_of said) defaults (record (definition_of typing files from) { features = features })

    all_is : (keyword : Keyword) → over (last_said files refines) earlier keyword ≡ all keyword
    all_is keyword =
        sym (last_joined files (statements_of_origin from ++ before) refines keyword)
        ∙ ap (λ (ns : List ℕ). last_said files ns keyword) (append_assoc (statements_of_origin from) before refines)

    own_is : or_list (last_defaults files refines) earlier_own ≡ own
    own_is =
        sym (defaults_joined files (statements_of_origin from ++ before) refines)
        ∙ ap (last_defaults files) (append_assoc (statements_of_origin from) before refines)

    -- what is left in the end, but for values
    abbrev left : Definition
    left = with_text (with_expressions (definition_of typing files from).features (all_expressions files (before ++ refines))) all own

    text_is : text ≡ with_expressions (definition_of typing files from).features (all_expressions files (before ++ refines))
    text_is =
        let own : List ℕ = (definition_of typing files from).features in
        sym (ap (with_expressions own) (expressions_joined files before refines) ∙ expressions_more own (all_expressions files before) (all_expressions files refines))

    -- the values are still those of the first
    abbrev values : List Val
    values = first.defaults

    changed_is : (e f : Definition) → e ≡ record first { features = text } → f ≡ apply_statements files refines e
        → ◌≡◌ {A = Definition} f (record left { defaults = values })
    changed_is e f begun is =
        is
        ∙ ap (apply_statements files refines) begun
        ∙ changed_keeps files refines (with_text text earlier earlier_own) values
        ∙ (λ i. record (changed_last files refines earlier earlier_own (record (definition_of typing files from) { features = text }) i) { defaults = values })
        ∙ (λ i. record (with_text (text_is i) (λ keyword. all_is keyword i) (own_is i)) { defaults = values })

    begun_is : (said draft : Definition) (features : List ℕ) → said ≡ first → draft ≡ record said { features = features }
        → features ≡ with_expressions said.features (all_expressions files refines) → draft ≡ record first { features = text }
    begun_is said draft features is begun told =
        begun ∙ (λ i. record (is i) { features = (told ∙ ap (λ (d : Definition). with_expressions d.features (all_expressions files refines)) is) i })

    -- with the values of its defaults it is what all of them leave
    pub valued_is : (said draft f : Definition) (features : List ℕ) → said ≡ first → draft ≡ record said { features = features }
        → features ≡ with_expressions said.features (all_expressions files refines) → f ≡ apply_statements files refines draft
        → ◌≡◌ {A = Definition} (with_defaults files f) (refined_definition typing files from (before ++ refines))
    valued_is said draft f features is begun told changes =
        ap (with_defaults files) (changed_is draft f (begun_is said draft features is begun told) changes)

    -- refines change no types
    pub types_stay : (said draft f : Definition) (features : List ℕ) → said ≡ first → draft ≡ record said { features = features }
        → features ≡ with_expressions said.features (all_expressions files refines) → f ≡ apply_statements files refines draft
        → f.types ≡ (definition_of typing files from).types
    types_stay said draft f features is begun told changes =
        ap (λ (d : Definition). d.types) (changed_is draft f (begun_is said draft features is begun told) changes)

    -- nor the default of its type
    pub default_stays : (said draft f : Definition) (features : List ℕ) → said ≡ first → draft ≡ record said { features = features }
        → features ≡ with_expressions said.features (all_expressions files refines) → f ≡ apply_statements files refines draft
        → f.type_default ≡ (definition_of typing files from).type_default
    default_stays said draft f features is begun told changes =
        ap (λ (d : Definition). d.type_default) (changed_is draft f (begun_is said draft features is begun told) changes)

    values_stay : give_default files refines ≡ false → is_swayed first left ≡ false → values ≡ defaults_of files left
    values_stay none still =
        let d : Definition = definition_of typing files from in
        let same : earlier_own ≡ own = sym (ap (λ (l : List TextInFile). or_list l earlier_own) (no_default files refines none)) ∙ own_is in
        ap (values_at files d.kind d.types) (
        ap (λ (l : List TextInFile). said_by l d.type_default first.min) same ∙ said_stays own d.type_default first.min left.min still
        )

    -- and so it is as it stands, where the refines give no default and don't decide over that of
    -- the type
    pub kept_is : (said draft f : Definition) (features : List ℕ) → said ≡ first → draft ≡ record said { features = features }
        → features ≡ with_expressions said.features (all_expressions files refines) → f ≡ apply_statements files refines draft
        → is_moved files refines said f ≡ false → f ≡ refined_definition typing files from (before ++ refines)
    kept_is said draft f features is begun told changes unmoved =
        let so : ◌≡◌ {A = Definition} f (record left { defaults = values }) = changed_is draft f (begun_is said draft features is begun told) changes in
        let parts = or_parts _ _ unmoved in
        let still : is_swayed first left ≡ false = sym (λ i. is_swayed (is i) (so i)) ∙ parts.1 in
        so ∙ (λ i. record left { defaults = values_stay parts.0 still i })
