-- The versions of files, kept by their names.
use Rattle.std.proofs.Common.{◌≡◌, ℕ, ◌+◌, ◌<◌, Bool, true, false, cond, List, [], ◌∷◌, length, take, get_or, Option, Some, None, is_some, sym, ◌∙◌, ap, refl}
use Rattle.std.specs.Ordering.{nat_cmp}
use Rattle.std.specs.Option.{option_map, option_or}
use Rattle.std.specs.Cmp.Lexicographic.{slice_cmp}
use Rattle.std.specs.Str.{bytes_eq}
use Rattle.std.specs.BTreeMap.{BTreeMap, UpdatesBy, get_by}
use Rattle.std.proofs.lemmas.Bool.{false≢true}
use Rattle.std.proofs.lemmas.List.{take_more}
use Rattle.std.proofs.lemmas.List.Folds.{find-append}
use Rattle.std.proofs.lemmas.Map.Text.{btree_map_updates_str}
use Rattle.std.proofs.lemmas.Slice.Eq.{bytes_eq-Decides}
use denote.Ref.{Bor}
use Rattle.yv_text_statement.specs.Tree.{Tree}
use Rattle.yv_link_scopes.specs.Files.{tree_name}
use Rattle.yv_lint.specs.Versions.{is_newer_file, root_named}

or_none : (o : Option Bool) → o ≡ option_or o None
or_none None = refl
or_none (Some x) = refl

kept : (b : Bool) (o : Option Bool) (v : Bool) → (b ≡ true → o ≡ None) → cond b (Some v) o ≡ option_or o (cond b (Some v) None)
kept true o v h = ap (λ p. option_or p (Some v)) (sym (h refl))
kept false o v h = or_none o

pub keep_new : (old new : BTreeMap (Bor (List ℕ)) Bool) (name : List ℕ) (v : Bool) → get_by (λ k. slice_cmp nat_cmp name k.now) old ≡ None → UpdatesBy (λ x y. slice_cmp nat_cmp x.now y.now) (λ k. slice_cmp nat_cmp name k.now) old new (Some v) → (other : List ℕ) → get_by (λ k. slice_cmp nat_cmp other k.now) new ≡ option_or (get_by (λ k. slice_cmp nat_cmp other k.now) old) (cond (bytes_eq name other) (Some v) None)
keep_new old new name v none u other =
    btree_map_updates_str name old new (Some v) u other
    ∙ kept (bytes_eq name other) (get_by (λ k. slice_cmp nat_cmp other k.now) old) v (λ e. ap (λ (n : List ℕ). get_by (λ k. slice_cmp nat_cmp n k.now) old) (sym ((bytes_eq-Decides name other).0 e)) ∙ none)

map_or : (a b : Option Tree) → option_map is_newer_file (option_or a b) ≡ option_or (option_map is_newer_file a) (option_map is_newer_file b)
map_or None b = refl
map_or (Some x) b = refl

map_one : (b : Bool) (r : Tree) → option_map is_newer_file (cond b (Some r) None) ≡ cond b (Some (is_newer_file r)) None
map_one true r = refl
map_one false r = refl

-- one more file
pub named_more : (roots : List Tree) (i : ℕ) (d : Tree) (name : List ℕ) → i < length roots → option_or (option_map is_newer_file (root_named (take i roots) name)) (cond (bytes_eq (tree_name (get_or roots i d)) name) (Some (is_newer_file (get_or roots i d))) None) ≡ option_map is_newer_file (root_named (take (i + 1) roots) name)
named_more roots i d name lt =
    let r : Tree = get_or roots i d in
    let more : root_named (take (i + 1) roots) name ≡ option_or (root_named (take i roots) name) (cond (bytes_eq (tree_name r) name) (Some r) None) =
    ap (λ rs. root_named rs name) (take_more roots i d lt) ∙ find-append (λ root. bytes_eq (tree_name root) name) (take i roots) (r ∷ []) in
    sym (ap (option_map is_newer_file) more
    ∙ map_or (root_named (take i roots) name) (cond (bytes_eq (tree_name r) name) (Some r) None)
    ∙ ap (option_or (option_map is_newer_file (root_named (take i roots) name))) (map_one (bytes_eq (tree_name r) name) r))

pub none_of : (o : Option Bool) → is_some o ≡ false → o ≡ None
none_of None h = refl
none_of (Some x) h = absurd (false≢true (sym h))

-- the same, of a file that was read
pub read_more : (roots : List Tree) (i : ℕ) (root : Tree) (name word : List ℕ) (version : Bool) (old new : Option Bool) → i < length roots → root ≡ get_or roots i root → word ≡ tree_name root → version ≡ is_newer_file root → new ≡ option_or old (cond (bytes_eq word name) (Some version) None) → old ≡ option_map is_newer_file (root_named (take i roots) name) → new ≡ option_map is_newer_file (root_named (take (i + 1) roots) name)
read_more roots i root name word version old new lt is w v n o =
    n
    ∙ ap (λ a. option_or a (cond (bytes_eq word name) (Some version) None)) o
    ∙ ap (λ x. option_or (option_map is_newer_file (root_named (take i roots) name)) (cond (bytes_eq x name) (Some version) None)) (w ∙ ap tree_name is)
    ∙ ap (λ x. option_or (option_map is_newer_file (root_named (take i roots) name)) (cond (bytes_eq (tree_name (get_or roots i root)) name) (Some x) None)) (v ∙ ap is_newer_file is)
    ∙ named_more roots i root name lt
