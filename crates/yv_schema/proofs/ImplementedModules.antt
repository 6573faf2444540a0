-- The names of files, and the modules of those that are implemented.
use Rattle.std.proofs.Common.{◌≡◌, ℕ, suc, ◌+◌, ◌<◌, ◌≤◌, true, false, List, [], ◌∷◌, ◌++◌, map, length, drop, get_or, Option, Some, None, refl, sym, ap, ◌∙◌, add-one, append_assoc, append-nil, Result, Ok, Err, IfOk, Global}
use Rattle.std.specs.List.{slice_get}
use Rattle.std.specs.Option.{option_map, unwrap_or}
use Rattle.std.specs.Rc.{rc_str_bytes}
use Rattle.std.specs.Result.{MatchResult}
use Rattle.std.specs.declared.rc.RcStr.{RcStr}
use Rattle.std.proofs.Math.Seq.{drop-cons}
use Rattle.std.proofs.lemmas.List.{at_drop_all}
use Rattle.std.proofs.lemmas.Option.{slice_get-map, slice_get_past, slice_get_read}
use Rattle.yv_text_statement.specs.Tree as statement
use Rattle.yv_text_statement.specs.declared.keyword.Keyword.TheVariants as word
use Rattle.yv_text_statement.specs.Selection.{ModuleChoice}
use Rattle.yv_link_scopes.specs.Files.{Files, tree_name}
use Rattle.yv_node_properties.specs.Statements.{argument_of, first_of}
use Rattle.yv_nodes.specs.Rows.{Module}
use Rattle.yv_expand_statements.specs.FileOrder.{is_given}
use Rattle.yv_schema.specs.Module.{given_from, module_name, name_of_root}

-- what a call gives where it gives something
pub matched : {A E : Type 0} (o : Result A E) (P Q : A → Type 0) (R : E → Type 0) → MatchResult o P R → ((x : A) → P x → Q x) → IfOk o Q
matched (Ok x) P Q R h f = f x h
matched (Err e) P Q R h f = tt

name_mapped : (o : Option statement.Tree) → name_of_root o ≡ unwrap_or (option_map tree_name o) []
name_mapped None = refl
name_mapped (Some t) = refl

named_at : (files : Files) (names : List (RcStr Global)) (module_file : ℕ) → map (λ n. rc_str_bytes n) names ≡ map tree_name files
    → module_name files module_file ≡ unwrap_or (option_map (λ n. rc_str_bytes n) (slice_get names module_file)) []
named_at files names module_file same =
    name_mapped (slice_get files module_file)
    ∙ ap (λ o. unwrap_or o []) (sym (slice_get-map tree_name files module_file) ∙ ap (λ ns. slice_get ns module_file) (sym same) ∙ slice_get-map (λ n. rc_str_bytes n) names module_file)

-- the name that stands at a file's number is the file's
pub named_here : (files : Files) (names : List (RcStr Global)) (module_file : ℕ) (n : RcStr Global) → map (λ n. rc_str_bytes n) names ≡ map tree_name files → module_file < length names
    → n ≡ get_or names module_file n → rc_str_bytes n ≡ module_name files module_file
named_here files names module_file n same lt is =
    sym (named_at files names module_file same ∙ ap (λ o. unwrap_or (option_map (λ n. rc_str_bytes n) o) []) (slice_get_read names (length names) module_file n refl lt is))

pub named_past : (files : Files) (names : List (RcStr Global)) (module_file : ℕ) → map (λ n. rc_str_bytes n) names ≡ map tree_name files → length names ≤ module_file → module_name files module_file ≡ []
named_past files names module_file same past =
    named_at files names module_file same ∙ ap (λ o. unwrap_or (option_map (λ n. rc_str_bytes n) o) []) (slice_get_past names module_file past)

module _ (choice : ModuleChoice) (roots : Files) (i : ℕ) (t : statement.Tree) (lt : i < length roots) (is : t ≡ get_or roots i t) where
  next_root : drop i roots ≡ t ∷ drop (i + 1) roots
  next_root = drop-cons roots i t lt ∙ ap (λ (x : statement.Tree). x ∷ drop (suc i) roots) (sym is) ∙ ap (λ (n : ℕ). t ∷ drop n roots) (sym (add-one i))

  abbrev own : Module
  own = record { name = tree_name t; prefix = argument_of (first_of word.Prefix t.children); module_file = i }

  -- one more module that is implemented
  pub given_more : (old new all : List Module) (name prefix : List ℕ) → is_given choice t ≡ true → name ≡ module_name roots i
      → prefix ≡ argument_of (first_of word.Prefix t.children) → new ≡ old ++ record { name = name; prefix = prefix; module_file = i } ∷ []
      → old ++ given_from choice i (drop i roots) ≡ all → new ++ given_from choice (i + 1) (drop (i + 1) roots) ≡ all
  given_more old new all name prefix given named before grew so_far =
      let behind : List Module = given_from choice (i + 1) (drop (i + 1) roots) in
      let first : given_from choice i (drop i roots) ≡ own ∷ behind = ap (given_from choice i) next_root ∙ rw given refl in
      let called : name ≡ tree_name t = named ∙ ap name_of_root (slice_get_read roots (length roots) i t refl lt is) in
      let made : record { name = name; prefix = prefix; module_file = i } ≡ own =
      ap (λ (text : List ℕ). let m : Module = record { name = text; prefix = prefix; module_file = i } in m) called
      ∙ ap (λ (text : List ℕ). let m : Module = record { name = tree_name t; prefix = text; module_file = i } in m) before in
      ap (λ (ms : List Module). ms ++ behind) grew
      ∙ append_assoc old (record { name = name; prefix = prefix; module_file = i } ∷ []) behind
      ∙ ap (λ (m : Module). old ++ m ∷ behind) made
      ∙ ap (λ (ms : List Module). old ++ ms) (sym first)
      ∙ so_far

  -- a file that is none
  pub given_other : (old all : List Module) → is_given choice t ≡ false
      → old ++ given_from choice i (drop i roots) ≡ all → old ++ given_from choice (i + 1) (drop (i + 1) roots) ≡ all
  given_other old all other so_far =
      let first : given_from choice i (drop i roots) ≡ given_from choice (i + 1) (drop (i + 1) roots) = ap (given_from choice i) next_root ∙ rw other refl in
      ap (λ (ms : List Module). old ++ ms) (sym first) ∙ so_far

-- behind the last file no module is left
pub given_all : (choice : ModuleChoice) (roots : Files) (i : ℕ) (found all : List Module) → length roots ≤ i → found ++ given_from choice i (drop i roots) ≡ all → found ≡ all
given_all choice roots i found all over h =
    let none : given_from choice i (drop i roots) ≡ [] = at_drop_all (given_from choice i) roots i over in
    sym (append-nil found) ∙ ap (λ (ms : List Module). found ++ ms) (sym none) ∙ h
