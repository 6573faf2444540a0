-- Findings of some rules, and among other files.
use Rattle.std.proofs.Common.{◌≡◌, ℕ, ◌+◌, ◌&&◌, Bool, true, false, not, cond, List, [], ◌∷◌, ◌++◌, map, filter, refl, sym, ◌∙◌, ap}
use Rattle.std.specs.List.{flat_map, All}
use Rattle.std.proofs.lemmas.List.Elements.{All-head, All-tail, filter-append}
use Rattle.yv_text_statement.specs.Selection.{ModuleChoice, is_implemented}
use Rattle.yv_text_statement.specs.Tree.{Head, Tree}
use Rattle.yv_text_statement.specs.declared.keyword.Keyword.TheVariants as word
use Rattle.yv_link_scopes.specs.Files.{Files, module_name, tree_name}
use Rattle.yv_lint.specs.declared.rule.Rule.{Rule}
use Rattle.yv_lint.specs.declared.rule.Rule.TheVariants as rule
use Rattle.yv_lint.specs.declared.finding.Finding.{Finding}
use Rattle.yv_lint.specs.RuleChoice.{RuleChoice}
use Rattle.yv_lint.specs.Findings.{finding_at, findings, findings_at, findings_from, findings_in, findings_of, findings_where}
use Rattle.yv_lint.specs.Places.{Place, places_of}
use Rattle.yv_lint.specs.Rules.{all_rules, stands_at, stands_at_root}
use Rattle.yv_lint.specs.Statements.{has_keyword}
use Rattle.yv_lint.specs.Versions.{HaveSameVersion, differs_from, is_dated_import, is_newer_file, is_newer_version, version_named}

-- ### of some rules

abbrev every : RuleChoice
every rule = true

abbrev is_asked : RuleChoice → Finding → Bool
is_asked asked f = asked f.rule

rules_alone : (asked : RuleChoice) (stands : Rule → Bool) (file : ℕ) (head : Head) (rs : List Rule) → map (finding_at file head) (filter (λ r. asked r && stands r) rs) ≡ filter (is_asked asked) (map (finding_at file head) (filter stands rs))
rules_alone asked stands file head [] = refl
rules_alone asked stands file head (r ∷ rs) = by (asked r) refl (stands r) (rules_alone asked stands file head rs)
  where
    by : (a : Bool) → asked r ≡ a → (b : Bool) → map (finding_at file head) (filter (λ r. asked r && stands r) rs) ≡ filter (is_asked asked) (map (finding_at file head) (filter stands rs)) → map (finding_at file head) (cond (a && b) (r ∷ filter (λ r. asked r && stands r) rs) (filter (λ r. asked r && stands r) rs)) ≡ filter (is_asked asked) (map (finding_at file head) (cond b (r ∷ filter stands rs) (filter stands rs)))
    by true e true h = ap (λ fs. finding_at file head r ∷ fs) h ∙ sym (ap (λ b. cond b (finding_at file head r ∷ filter (is_asked asked) (map (finding_at file head) (filter stands rs))) (filter (is_asked asked) (map (finding_at file head) (filter stands rs)))) e)
    by true e false h = h
    by false e true h = h ∙ sym (ap (λ b. cond b (finding_at file head r ∷ filter (is_asked asked) (map (finding_at file head) (filter stands rs))) (filter (is_asked asked) (map (finding_at file head) (filter stands rs)))) e)
    by false e false h = h

module _ (asked : RuleChoice) (choice : ModuleChoice) (files : Files) where
  places_alone : (file : ℕ) (root : Tree) (ps : List Place) → flat_map (findings_at asked files file root) ps ≡ filter (is_asked asked) (flat_map (findings_at every files file root) ps)
  places_alone file root [] = refl
  places_alone file root (p ∷ ps) =
      let first : List Finding = findings_at every files file root p in
      let rest : List Finding = flat_map (findings_at every files file root) ps in
      ap (λ xs. xs ++ flat_map (findings_at asked files file root) ps) (rules_alone asked (stands_at files root p) file p.statement.head all_rules)
      ∙ ap (λ xs. filter (is_asked asked) first ++ xs) (places_alone file root ps)
      ∙ sym (filter-append (is_asked asked) first rest)

  file_alone : (file : ℕ) (path : List ℕ) (root : Tree) → findings_in asked files file path root ≡ filter (is_asked asked) (findings_in every files file path root)
  file_alone file path root =
      let first : List Finding = findings_where every (stands_at_root path root) file root.head in
      let rest : List Finding = flat_map (findings_at every files file root) (places_of root) in
      ap (λ xs. xs ++ flat_map (findings_at asked files file root) (places_of root)) (rules_alone asked (stands_at_root path root) file root.head all_rules)
      ∙ ap (λ xs. filter (is_asked asked) first ++ xs) (places_alone file root (places_of root))
      ∙ sym (filter-append (is_asked asked) first rest)

  chosen_alone : (file : ℕ) (path : List ℕ) (root : Tree) → findings_of asked choice files file path root ≡ filter (is_asked asked) (findings_of every choice files file path root)
  chosen_alone file path root = by (is_implemented choice (module_name root))
    where
      by : (b : Bool) → cond b (findings_in asked files file path root) [] ≡ filter (is_asked asked) (cond b (findings_in every files file path root) [])
      by true = file_alone file path root
      by false = refl

  files_alone : (n : ℕ) (paths : List (List ℕ)) (roots : Files) → findings_from asked choice files n paths roots ≡ filter (is_asked asked) (findings_from every choice files n paths roots)
  files_alone n [] roots = refl
  files_alone n (path ∷ paths) [] = refl
  files_alone n (path ∷ paths) (root ∷ roots) =
      let first : List Finding = findings_of every choice files n path root in
      let rest : List Finding = findings_from every choice files (n + 1) paths roots in
      ap (λ xs. xs ++ findings_from asked choice files (n + 1) paths roots) (chosen_alone n path root)
      ∙ ap (λ xs. filter (is_asked asked) first ++ xs) (files_alone (n + 1) paths roots)
      ∙ sym (filter-append (is_asked asked) first rest)

pub all_alone : (asked : RuleChoice) (choice : ModuleChoice) (paths : List (List ℕ)) (files : Files) → findings asked choice paths files ≡ filter (λ f. asked f.rule) (findings (λ rule. true) choice paths files)
all_alone asked choice paths files = files_alone asked choice files 0 paths files

-- ### among other files

filter_same : (p q : Rule → Bool) → ((r : Rule) → p r ≡ q r) → (rs : List Rule) → filter p rs ≡ filter q rs
filter_same p q h [] = refl
filter_same p q h (r ∷ rs) = ap (λ b. cond b (r ∷ filter p rs) (filter p rs)) (h r) ∙ ap (λ xs. cond (q r) (r ∷ xs) xs) (filter_same p q h rs)

module _ (asked : RuleChoice) (files others : Files) (root : Tree) where
  stands_same : (p : Place) → version_named files (tree_name p.statement) ≡ version_named others (tree_name p.statement) → (r : Rule) → stands_at files root p r ≡ stands_at others root p r
  stands_same p e rule.VersionMix = ap (λ o. cond (has_keyword word.Include p.statement) (differs_from (is_newer_file root) o) (is_dated_import p.statement && (not (is_newer_file root) && is_newer_version o))) e
  stands_same p e _ = refl

  -- all but one rule are the same
  stands_but_one : (p : Place) → asked rule.VersionMix ≡ false → (r : Rule) → (asked r && stands_at files root p r) ≡ (asked r && stands_at others root p r)
  stands_but_one p e rule.VersionMix = ap (λ b. b && stands_at files root p rule.VersionMix) e ∙ sym (ap (λ b. b && stands_at others root p rule.VersionMix) e)
  stands_but_one p e _ = refl

  at_same : (file : ℕ) (p : Place) → ((r : Rule) → (asked r && stands_at files root p r) ≡ (asked r && stands_at others root p r)) → findings_at asked files file root p ≡ findings_at asked others file root p
  at_same file p h = ap (map (finding_at file p.statement.head)) (filter_same (λ r. asked r && stands_at files root p r) (λ r. asked r && stands_at others root p r) h all_rules)

  places_same : (file : ℕ) (ps : List Place) → All (HaveSameVersion files others) ps → flat_map (findings_at asked files file root) ps ≡ flat_map (findings_at asked others file root) ps
  places_same file [] h = refl
  places_same file (p ∷ ps) h =
      ap (λ xs. xs ++ flat_map (findings_at asked files file root) ps) (at_same file p (λ r. ap (λ b. asked r && b) (stands_same p (All-head (HaveSameVersion files others) p ps h) r)))
      ∙ ap (λ xs. findings_at asked others file root p ++ xs) (places_same file ps (All-tail (HaveSameVersion files others) p ps h))

  places_but_one : (file : ℕ) (ps : List Place) → asked rule.VersionMix ≡ false → flat_map (findings_at asked files file root) ps ≡ flat_map (findings_at asked others file root) ps
  places_but_one file [] e = refl
  places_but_one file (p ∷ ps) e =
      ap (λ xs. xs ++ flat_map (findings_at asked files file root) ps) (at_same file p (stands_but_one p e))
      ∙ ap (λ xs. findings_at asked others file root p ++ xs) (places_but_one file ps e)

  of_same : (choice : ModuleChoice) (file : ℕ) (path : List ℕ) → flat_map (findings_at asked files file root) (places_of root) ≡ flat_map (findings_at asked others file root) (places_of root) → findings_of asked choice files file path root ≡ findings_of asked choice others file path root
  of_same choice file path e = ap (λ xs. cond (is_implemented choice (module_name root)) (findings_where asked (stands_at_root path root) file root.head ++ xs) []) e

pub same_versions : (asked : RuleChoice) (choice : ModuleChoice) (files others : Files) (file : ℕ) (path : List ℕ) (root : Tree) → All (HaveSameVersion files others) (places_of root) → findings_of asked choice files file path root ≡ findings_of asked choice others file path root
same_versions asked choice files others file path root h = of_same asked files others root choice file path (places_same asked files others root file (places_of root) h)

pub without_versions : (asked : RuleChoice) (choice : ModuleChoice) (files others : Files) (file : ℕ) (path : List ℕ) (root : Tree) → asked rule.VersionMix ≡ false → findings_of asked choice files file path root ≡ findings_of asked choice others file path root
without_versions asked choice files others file path root e = of_same asked files others root choice file path (places_but_one asked files others root file (places_of root) e)
