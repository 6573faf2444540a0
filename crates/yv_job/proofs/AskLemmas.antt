-- No words ask for two requests: each part of a request is determined by what clap matched.
use Rattle.std.proofs.Common.{◌≡◌, ◌≤◌, ◌<◌, inl, inr, ◌++◌, ℕ, List, [], ◌∷◌, length, Bool, true, false, codes, refl, sym, ap, ap₂, subst, ◌∙◌, arith, Option, Some, None, IsSome}
use Rattle.std.specs.List.{slice_split, join_with_byte}
use Rattle.std.proofs.lemmas.List.{append_cancel_left}
use Rattle.std.proofs.lemmas.List.Elements.{recursion_from_All}
use Rattle.std.proofs.Math.Dec.{eqb}
use Rattle.clap.specs.Words.{Text, Row, subcommand_of}
use Rattle.yv_job.specs.Asks.{IsCommand, IsAsked, IsRulesFor, AreSources, data_of, each_word, IsEachFor, IsFormFor, IsFlag, IsOutput, IsLimit, IsExplainFor, IsSupportFor, IsImportsFor, IsKindFor, IsChoice, IsDepthFor, IsBelowFor, IsTree, IsFiles, Asks, AsksIn, WordsAsk}
use Rattle.yv_job.specs.CommandLine.{yangcheck_app}
use Rattle.yv_job.specs.Jobs.{CommandAsked, Compiles, Draws, Checks}
use Rattle.yv_job.specs.Requests.{ActionAsked, Lists, Does, ChecksAll, Lints, RequestAsked}
use Rattle.yv_job.specs.declared.job.OutputForm.{OutputForm}
use Rattle.yv_job.specs.declared.job.OutputForm.TheVariants as form
use Rattle.yv_job.specs.declared.job.OutputOptions.{OutputOptions}
use Rattle.yv_job.specs.declared.request.Each.{Each}
use Rattle.yv_job.specs.declared.request.Each.TheVariants as each
use Rattle.yv_lint.specs.declared.rule.Rule.{Rule}
use Rattle.yv_text_statement.specs.Selection.{ModuleChoice, Entry}
use Rattle.yv_text_statement.specs.declared.document_kind.Kind.{Kind}
use Rattle.yv_text_statement.specs.declared.document_kind.Kind.TheVariants.{All, ConfigOnly}
use Rattle.yv_job.specs.Names.{JoinsNames, IsNames, IsIdentifier, HasIdentifiers, entry_text}
use Rattle.yv_job.proofs.AppFacts.{tree_is_not_lint}
use Rattle.yv_job.proofs.NameLemmas.{free_entry, joins_support, same_joins, split_names}
use Rattle.yv_job.proofs.WayLemmas.{module_first, same_way}
use Rattle.yv_tree_drawing.specs.Steps.{Step}
use Rattle.yv_tree_drawing.specs.Trees.{DrawingAsked, TreeAsked}

same_flag : (t : Option Text) (a b : Bool) → IsFlag t a → IsFlag t b → a ≡ b
same_flag t true true h i = refl
same_flag t true false h i = absurd (i h)
same_flag t false true h i = absurd (h i)
same_flag t false false h i = refl

same_depth : (t : Option Text) (d e : Option ℕ) → IsDepthFor t d → IsDepthFor t e → d ≡ e
same_depth None d e h i = h ∙ sym i
same_depth (Some t) None e h i = absurd h
same_depth (Some t) (Some m) None h i = absurd i
same_depth (Some t) (Some m) (Some n) h i = ap (λ (x : ℕ). Some x) (sym h.0.1 ∙ i.0.1)

same_below : (t : Option Text) (xs ys : List Step) → IsBelowFor t xs → IsBelowFor t ys → xs ≡ ys
same_below None xs ys h i = h ∙ sym i
same_below (Some t) xs ys h i = same_way t xs ys h i

same_tree : (rows : List Row) (t u : TreeAsked) → IsTree rows t → IsTree rows u → t ≡ u
same_tree rows t u h i =
    let modules = sym h.modules ∙ i.modules in
    let named = sym h.files ∙ i.files in
    let depth = same_depth _ t.drawing.depth u.drawing.depth h.depth i.depth in
    let below = same_below _ t.drawing.below u.drawing.below h.below i.below in
    let columns = same_flag _ t.drawing.columns u.drawing.columns h.columns i.columns in
    let drawing : t.drawing ≡ u.drawing =
    ap₂ (λ (d : Option ℕ) (xs : List Step). record { depth = d; below = xs; columns = t.drawing.columns }) depth below
    ∙ ap (λ (c : Bool). record { depth = u.drawing.depth; below = u.drawing.below; columns = c }) columns in
    ap₂ (λ (ms : List Text) (n : ℕ). record { modules = ms; named_files = n; drawing = t.drawing }) modules named
    ∙ ap (λ (d : DrawingAsked). record { modules = u.modules; named_files = u.named_files; drawing = d }) drawing

same_command : (name : Text) (rows : List Row) (e : Option Each) (o : OutputForm) (a b : CommandAsked) → IsCommand name rows e o a → IsCommand name rows e o b → a ≡ b
same_command name rows e o Compiles Compiles h i = refl
same_command name rows e o Compiles (Draws m) h i = let f : codes "compile" ≡ codes "tree" = sym h ∙ i.0 in cc
same_command name rows e o Compiles (Checks d) h i = let f : codes "compile" ≡ codes "validate" = sym h ∙ i.0 in cc
same_command name rows e o (Draws m) Compiles h i = let f : codes "compile" ≡ codes "tree" = sym i ∙ h.0 in cc
same_command name rows e o (Draws t) (Draws u) h i = ap (λ (x : TreeAsked). Draws x) (same_tree rows t u h.1 i.1)
same_command name rows e o (Draws m) (Checks d) h i = let f : codes "tree" ≡ codes "validate" = sym h.0 ∙ i.0 in cc
same_command name rows e o (Checks d) Compiles h i = let f : codes "compile" ≡ codes "validate" = sym i ∙ h.0 in cc
same_command name rows e o (Checks d) (Draws m) h i = let f : codes "tree" ≡ codes "validate" = sym i.0 ∙ h.0 in cc
same_command name rows e o (Checks c) (Checks d) h i = let f : Some (c ∷ []) ≡ Some (d ∷ []) = sym h.1 ∙ i.1 in cc

-- the command `files` is no other
not_files : (name : Text) (rows : List Row) (e : Option Each) (o : OutputForm) (c : CommandAsked) → name ≡ codes "files" → IsCommand name rows e o c → ⊥
not_files name rows e o Compiles is h = let f : codes "compile" ≡ codes "files" = sym h ∙ is in cc
not_files name rows e o (Draws m) is h = let f : codes "tree" ≡ codes "files" = sym h.0 ∙ is in cc
not_files name rows e o (Checks d) is h = let f : codes "validate" ≡ codes "files" = sym h.0 ∙ is in cc

-- and the command `lint` is no other
not_lint : (name : Text) (rows : List Row) (e : Option Each) (o : OutputForm) (c : CommandAsked) → name ≡ codes "lint" → IsCommand name rows e o c → ⊥
not_lint name rows e o Compiles is h = let f : codes "compile" ≡ codes "lint" = sym h ∙ is in cc
not_lint name rows e o (Draws m) is h = absurd (tree_is_not_lint (sym h.0 ∙ is))
not_lint name rows e o (Checks d) is h = let f : codes "validate" ≡ codes "lint" = sym h.0 ∙ is in cc

same_rules : (t : Option Text) (rs ss : List Rule) → IsRulesFor t rs → IsRulesFor t ss → rs ≡ ss
same_rules None rs ss h i = h ∙ sym i
same_rules (Some t) rs ss h i = h.1 ∙ sym i.1

-- one document of which nothing else was said is not several
not_several : (rows : List Row) (e : Option Each) (o : OutputForm) (d : Text) (sources : List Text) → data_of rows ≡ Some (d ∷ []) → e ≡ None → o ≡ form.Text → AreSources rows e o sources → ⊥
not_several rows e o d sources is plain text h =
    let one : Some (d ∷ []) ≡ Some sources = sym is ∙ h.given in
    let same : (d ∷ []) ≡ sources = cc (one) in
    elim h.many [
      | inl two ↦ let long : 2 ≤ length (d ∷ []) = subst (λ (l : List Text). 2 ≤ length l) (sym same) two in omega (arith, long)
      | inr (inl asked) ↦ let none : IsSome {T = Each} None = subst (λ (x : Option Each). IsSome x) plain asked in cc
      | inr (inr json) ↦ let f : form.Text ≡ form.Json = sym text ∙ json in cc
    ]

-- one document and several are not asked for by the same words
not_one : (name : Text) (rows : List Row) (e : Option Each) (o : OutputForm) (c : CommandAsked) (sources : List Text) → IsCommand name rows e o c → name ≡ codes "validate" → AreSources rows e o sources → ⊥
not_one name rows e o Compiles sources h is i = let f : codes "compile" ≡ codes "validate" = sym h ∙ is in cc
not_one name rows e o (Draws m) sources h is i = let f : codes "tree" ≡ codes "validate" = sym h.0 ∙ is in cc
not_one name rows e o (Checks d) sources h is i = not_several rows e o d sources h.1 h.2 h.3 i

same_asked : (name : Text) (rows : List Row) (e : Option Each) (o : OutputForm) (a b : ActionAsked) → IsAsked name rows e o a → IsAsked name rows e o b → a ≡ b
same_asked name rows e o Lists Lists h i = refl
same_asked name rows e o Lists (Does c) h i = absurd (not_files name rows e o c h i)
same_asked name rows e o Lists (ChecksAll ds) h i = let f : codes "files" ≡ codes "validate" = sym h ∙ i.0 in cc
same_asked name rows e o Lists (Lints rs) h i = let f : codes "files" ≡ codes "lint" = sym h ∙ i.0 in cc
same_asked name rows e o (Does c) (Lints rs) h i = absurd (not_lint name rows e o c i.0 h)
same_asked name rows e o (ChecksAll ds) (Lints rs) h i = let f : codes "validate" ≡ codes "lint" = sym h.0 ∙ i.0 in cc
same_asked name rows e o (Lints rs) Lists h i = let f : codes "files" ≡ codes "lint" = sym i ∙ h.0 in cc
same_asked name rows e o (Lints rs) (Does c) h i = absurd (not_lint name rows e o c h.0 i)
same_asked name rows e o (Lints rs) (ChecksAll ds) h i = let f : codes "validate" ≡ codes "lint" = sym i.0 ∙ h.0 in cc
same_asked name rows e o (Lints rs) (Lints ss) h i = ap (λ (x : List Rule). Lints x) (same_rules _ rs ss h.1 i.1)
same_asked name rows e o (Does c) Lists h i = absurd (not_files name rows e o c i h)
same_asked name rows e o (Does c) (Does d) h i = ap (λ x. Does x) (same_command name rows e o c d h i)
same_asked name rows e o (Does c) (ChecksAll ds) h i = absurd (not_one name rows e o c ds h i.0 i.1)
same_asked name rows e o (ChecksAll ds) Lists h i = let f : codes "files" ≡ codes "validate" = sym i ∙ h.0 in cc
same_asked name rows e o (ChecksAll ds) (Does c) h i = absurd (not_one name rows e o c ds i h.0 h.1)
same_asked name rows e o (ChecksAll cs) (ChecksAll ds) h i = let f : Some cs ≡ Some ds = sym h.1.given ∙ i.1.given in cc

abbrev first_byte : Text → ℕ
first_byte [] = 0
first_byte (b ∷ bs) = b

-- words of which the first bytes or the lengths differ are not the same
same_word : (t : Text) (d e : Each) → t ≡ each_word d → t ≡ each_word e → d ≡ e
same_word t each.File each.File h i = refl
same_word t each.File each.Line h i = let e : 102 ≡ 108 = ap first_byte (sym h ∙ i) in absurd (omega (arith, e))
same_word t each.File each.Name h i = let e : 102 ≡ 110 = ap first_byte (sym h ∙ i) in absurd (omega (arith, e))
same_word t each.File each.Name0 h i = let e : 102 ≡ 110 = ap first_byte (sym h ∙ i) in absurd (omega (arith, e))
same_word t each.Line each.File h i = let e : 108 ≡ 102 = ap first_byte (sym h ∙ i) in absurd (omega (arith, e))
same_word t each.Line each.Line h i = refl
same_word t each.Line each.Name h i = let e : 108 ≡ 110 = ap first_byte (sym h ∙ i) in absurd (omega (arith, e))
same_word t each.Line each.Name0 h i = let e : 108 ≡ 110 = ap first_byte (sym h ∙ i) in absurd (omega (arith, e))
same_word t each.Name each.File h i = let e : 110 ≡ 102 = ap first_byte (sym h ∙ i) in absurd (omega (arith, e))
same_word t each.Name each.Line h i = let e : 110 ≡ 108 = ap first_byte (sym h ∙ i) in absurd (omega (arith, e))
same_word t each.Name each.Name h i = refl
same_word t each.Name each.Name0 h i = let e : 4 ≡ 5 = ap length (sym h ∙ i) in absurd (omega (arith, e))
same_word t each.Name0 each.File h i = let e : 110 ≡ 102 = ap first_byte (sym h ∙ i) in absurd (omega (arith, e))
same_word t each.Name0 each.Line h i = let e : 110 ≡ 108 = ap first_byte (sym h ∙ i) in absurd (omega (arith, e))
same_word t each.Name0 each.Name h i = let e : 5 ≡ 4 = ap length (sym h ∙ i) in absurd (omega (arith, e))
same_word t each.Name0 each.Name0 h i = refl

pub same_each : (t : Option Text) (d e : Option Each) → IsEachFor t d → IsEachFor t e → d ≡ e
same_each None d e h i = h ∙ sym i
same_each (Some t) None e h i = absurd h
same_each (Some t) (Some d) None h i = absurd i
same_each (Some t) (Some d) (Some e) h i = ap (λ (x : Each). Some x) (same_word t d e h i)

pub same_form : (t : Option Text) (f g : OutputForm) → IsFormFor t f → IsFormFor t g → f ≡ g
same_form None f g h i = h ∙ sym i
same_form (Some t) form.Text form.Text h i = refl
same_form (Some t) form.Text form.Json h i = let e : 116 ≡ 106 = ap first_byte (sym h ∙ i) in absurd (omega (arith, e))
same_form (Some t) form.Json form.Text h i = let e : 106 ≡ 116 = ap first_byte (sym h ∙ i) in absurd (omega (arith, e))
same_form (Some t) form.Json form.Json h i = refl

same_output : (rows : List Row) (o p : OutputOptions) → IsOutput rows o → IsOutput rows p → o ≡ p
same_output rows o p h i =
    ap₂ (λ (f : OutputForm) (m : Bool). record { form = f; measures = m }) (same_form _ o.form p.form h.form i.form) (same_flag _ o.measures p.measures h.measures i.measures)

same_files : (rows : List Row) (fs gs : List Text) → IsFiles rows fs → IsFiles rows gs → fs ≡ gs
same_files rows fs gs h i = let e : Some fs ≡ Some gs = sym h.given ∙ i.given in cc

same_limit : (t : Option Text) (m n : ℕ) → IsLimit t m → IsLimit t n → m ≡ n
same_limit None m n h i = h ∙ sym i
same_limit (Some t) m n h i = sym h.0.1 ∙ i.0.1

same_explain : (t : Option Text) (m n : ℕ) → IsExplainFor t m → IsExplainFor t n → m ≡ n
same_explain None m n h i = h ∙ sym i
same_explain (Some t) m n h i = sym h.0.1 ∙ i.0.1

same_kind : (t : Option Text) (k l : Kind) → IsKindFor t k → IsKindFor t l → k ≡ l
same_kind None k l h i = h ∙ sym i
same_kind (Some t) All All h i = refl
same_kind (Some t) All ConfigOnly h i = let e : codes "data" ≡ codes "config" = sym h ∙ i in cc
same_kind (Some t) ConfigOnly All h i = let e : codes "config" ≡ codes "data" = sym h ∙ i in cc
same_kind (Some t) ConfigOnly ConfigOnly h i = refl

same_imports : (t : Option Text) (ms ns : List Text) → IsImportsFor t ms → IsImportsFor t ns → ms ≡ ns
same_imports None ms ns h i = h ∙ sym i
same_imports (Some t) ms ns h i = sym (split_names t ms h) ∙ split_names t ns i

-- names, of which there is one at least, join to a text that is not empty
some_text : (n : Text) (ns : List Text) → IsIdentifier n → 0 < length (join_with_byte 44 (n ∷ ns))
some_text [] ns h = cc
some_text (b ∷ bs) [] h = omega arith
some_text (b ∷ bs) (m ∷ ns) h = omega arith

not_empty : (t : Text) (n : Text) (ns : List Text) → JoinsNames t [] → JoinsNames t (n ∷ ns) → ⊥
not_empty t n ns h i =
    let long = some_text n ns (recursion_from_All IsIdentifier (n ∷ ns) i.each).0 in
    let e : [] ≡ join_with_byte 44 (n ∷ ns) = h.spelled ∙ sym i.spelled in
    absurd (omega (arith, long, ap length e))

same_features : (t : Text) (ms ns : List Text) → JoinsNames t ms → JoinsNames t ns → ms ≡ ns
same_features t [] [] h i = refl
same_features t [] (n ∷ ns) h i = absurd (not_empty t n ns h i)
same_features t (m ∷ ms) [] h i = absurd (not_empty t m ms i h)
same_features t (m ∷ ms) (n ∷ ns) h i =
    let first : IsNames t (m ∷ ms) = record { joined = h; some = omega arith } in
    let second : IsNames t (n ∷ ns) = record { joined = i; some = omega arith } in
    sym (split_names t (m ∷ ms) first) ∙ split_names t (n ∷ ns) second

same_entry : (e f : Entry) → HasIdentifiers e → HasIdentifiers f → entry_text e ≡ entry_text f → e ≡ f
same_entry e f h i same =
    let rest = λ (x : Entry). join_with_byte 44 x.features in
    let parts = sym (module_first e.module (rest e) h.0) ∙ ap (slice_split (λ b. eqb b 58)) same ∙ module_first f.module (rest f) i.0 in
    let modules : e.module ≡ f.module = cc (parts) in
    let tails = append_cancel_left f.module (58 ∷ rest e) (58 ∷ rest f) (subst (λ m. m ++ 58 ∷ rest e ≡ entry_text f) modules same) in
    let joined : rest e ≡ rest f = cc (tails) in
    let features = same_features (rest f) e.features f.features (record { spelled = joined; each = h.1 }) (record { spelled = refl; each = i.1 }) in
    ap₂ (λ (m : List ℕ) (fs : List (List ℕ)). record { «module» = m; features = fs }) modules features

same_support : (t : Option Text) (es fs : List Entry) → IsSupportFor t es → IsSupportFor t fs → es ≡ fs
same_support None es fs h i = h ∙ sym i
same_support (Some t) es fs h i = same_joins entry_text HasIdentifiers free_entry same_entry t es fs (joins_support t es h) (joins_support t fs i)

same_choice : (rows : List Row) (c d : ModuleChoice) → IsChoice rows c → IsChoice rows d → c ≡ d
same_choice rows c d h i =
    ap₂ (λ (s : List Entry) (n : List (List ℕ)). record { support = s; imports = n })
    (same_support _ c.support d.support h.support i.support) (same_imports _ c.imports d.imports h.imports i.imports)

same_request : (name : Text) (rows : List Row) (v w : RequestAsked) → Asks name rows v → Asks name rows w → v ≡ w
same_request name rows v w h i =
    let each = same_each _ v.each w.each h.each i.each in
    let output = same_output rows v.output w.output h.output i.output in
    let moved = subst (λ (e : Option Each). IsAsked name rows e v.output.form v.action) each h.asked in
    let formed = subst (λ (o : OutputOptions). IsAsked name rows w.each o.form v.action) output moved in
    let action = same_asked name rows w.each w.output.form v.action w.action formed i.asked in
    let folders = sym h.folders ∙ i.folders in
    let files = same_files rows v.files w.files h.files i.files in
    let limit = same_limit _ v.limit w.limit h.limit i.limit in
    let choice = same_choice rows v.choice w.choice h.choice i.choice in
    let explain = same_explain _ v.explain w.explain h.explain i.explain in
    let kind = same_kind _ v.kind w.kind h.kind i.kind in
    ap₂ (λ (a : ActionAsked) (fs : List (List ℕ)). record { action = a; limit = v.limit; choice = v.choice; kind = v.kind; explain = v.explain; each = v.each; output = v.output; folders = v.folders; files = fs }) action files
    ∙ ap₂ (λ (n : ℕ) (c : ModuleChoice). record { action = w.action; limit = n; choice = c; kind = v.kind; explain = v.explain; each = v.each; output = v.output; folders = v.folders; files = w.files }) limit choice
    ∙ ap₂ (λ (ds : List (List ℕ)) (k : Kind). record { action = w.action; limit = w.limit; choice = w.choice; kind = k; explain = v.explain; each = v.each; output = v.output; folders = ds; files = w.files }) folders kind
    ∙ ap₂ (λ (e : Option Each) (o : OutputOptions). record { action = w.action; limit = w.limit; choice = w.choice; kind = w.kind; explain = v.explain; each = e; output = o; folders = w.folders; files = w.files }) each output
    ∙ ap (λ (n : ℕ). record { action = w.action; limit = w.limit; choice = w.choice; kind = w.kind; explain = n; each = w.each; output = w.output; folders = w.folders; files = w.files }) explain

same_in : (found : Option (Text × List Row)) (v w : RequestAsked) → AsksIn found v → AsksIn found w → v ≡ w
same_in None v w h i = absurd h
same_in (Some p) v w h i = same_request p.0 p.1 v w h i

pub ask_once : (words : List Text) (v w : RequestAsked) → WordsAsk words v → WordsAsk words w → v ≡ w
ask_once words v w h i = same_in (subcommand_of yangcheck_app words) v w h.found i.found
