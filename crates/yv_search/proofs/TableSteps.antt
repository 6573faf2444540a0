-- Words get their meanings in a table, each its first.
use Rattle.std.proofs.Common.{◌≡◌, ◌+◌, ◌∙◌, ◌&&◌, ℕ, List, [], ◌∷◌, ◌++◌, Bool, true, false, cond, refl, sym, ap, if◌then◌else◌, map, take, codes, Option, Some, None}
use Rattle.std.specs.List.{slice_get, find}
use Rattle.std.specs.Option.{option_map, option_and_then, option_or}
use Rattle.std.specs.Ordering.{nat_cmp}
use Rattle.std.specs.Cmp.Lexicographic.{slice_cmp}
use Rattle.std.specs.Str.{bytes_eq}
use Rattle.std.specs.BTreeMap.{BTreeMap, UpdatesBy, get_by}
use Rattle.std.specs.Borrow.{Bor}
use Rattle.std.proofs.lemmas.Map.Text.{btree_map_updates_str}
use Rattle.std.proofs.lemmas.Slice.Eq.{bytes_eq-Decides}
use Rattle.std.proofs.lemmas.List.Folds.{find-append}
use Rattle.yv_text_statement.specs.Tree.{Tree, trees}
use Rattle.yv_search.specs.Wants.{has_word, argument_of}
use Rattle.yv_search.specs.Prefixes.{is_text, has_prefix, is_link, gives_prefix}
use Rattle.yv_search.specs.InnerModules.{module_in, first_kept}
use Rattle.yv_search.specs.InnerPrefixes.{Refs, ref_in, row_of, own_row, row_among, refs_of}
use Rattle.yv_search.specs.declared.table.ModuleRef.{ModuleRef}
use Rattle.yv_search.proofs.ListSteps.{take_next}

or_none : {X : Type 0} (o : Option X) → o ≡ option_or o None
or_none None = refl
or_none (Some x) = refl

-- a word that it doesn't have gets this row
pub new_row : (old new : BTreeMap (Bor (List ℕ)) (Option ModuleRef)) (word : List ℕ) (row : Option ModuleRef)
    → UpdatesBy (λ x y. slice_cmp nat_cmp x.now y.now) (λ x. slice_cmp nat_cmp word x.now) old new (Some row)
    → get_by (λ k. slice_cmp nat_cmp word k.now) old ≡ None
    → (q : List ℕ) → get_by (λ k. slice_cmp nat_cmp q k.now) new ≡ first_kept (get_by (λ k. slice_cmp nat_cmp q k.now) old) word row q
new_row old new word row updates none q = btree_map_updates_str word old new (Some row) updates q ∙ by (bytes_eq word q) refl
  where
    by : (b : Bool) → bytes_eq word q ≡ b → cond b (Some row) (get_by (λ k. slice_cmp nat_cmp q k.now) old) ≡ option_or (get_by (λ k. slice_cmp nat_cmp q k.now) old) (if b then Some row else None)
    by true e = ap (λ o. option_or o (Some row)) (sym none ∙ ap (λ w. get_by (λ k. slice_cmp nat_cmp w k.now) old) ((bytes_eq-Decides word q).0 e))
    by false e = or_none (get_by (λ k. slice_cmp nat_cmp q k.now) old)

-- a statement says what its prefix means
pub prefix_row : (refs : Refs) (s : Tree) (q p : List ℕ) (row : Option ModuleRef) (old new : Option (Option ModuleRef)) → Some p ≡ argument_of (codes "prefix") s → row ≡ ref_in refs s → new ≡ first_kept old p row q → new ≡ row_of refs old s q
prefix_row refs s q p row old new has is now =
    now ∙ ap (λ r. first_kept old p r q) is ∙ ap (λ (o : Option (List ℕ)). option_or old (if is_text q o then Some (ref_in refs s) else None)) has

-- a statement without a prefix says nothing
pub no_prefix_row : (refs : Refs) (s : Tree) (q : List ℕ) (old : Option (Option ModuleRef)) → None ≡ argument_of (codes "prefix") s → old ≡ row_of refs old s q
no_prefix_row refs s q old has =
    or_none old ∙ ap (λ (o : Option (List ℕ)). option_or old (if is_text q o then Some (ref_in refs s) else None)) has

-- the own prefix of a module
pub own_first : (refs : Refs) (root : Tree) (q : List ℕ) (before new : Option (Option ModuleRef)) → has_word (codes "module") root ≡ true → before ≡ None → new ≡ row_of refs before root q → new ≡ row_among refs root [] q
own_first refs root q before new is empty now = now ∙ ap (λ o. row_of refs o root q) empty ∙ by (has_word (codes "module") root) (has_prefix q root) is
  where
    by : (m h : Bool) → m ≡ true → (if h then Some (ref_in refs root) else None) ≡ option_or (if m && h then Some (ref_in refs root) else None) None
    by true h e = or_none (if h then Some (ref_in refs root) else None)
    by false h e = absurd (cc)

-- a submodule has none of its own
pub no_own : (refs : Refs) (root : Tree) (q : List ℕ) (before : Option (Option ModuleRef)) → has_word (codes "module") root ≡ false → before ≡ None → before ≡ row_among refs root [] q
no_own refs root q before is empty = empty ∙ by (has_word (codes "module") root) (has_prefix q root) is
  where
    by : (m h : Bool) → m ≡ false → None ≡ option_or (if m && h then Some (ref_in refs root) else None) None
    by true h e = absurd (cc)
    by false h e = refl

-- one more statement
step : (o : Option (Option ModuleRef)) (f : Option Tree) (r : Tree → Option ModuleRef) (s : Tree) (g h : Bool)
    → (if g then option_or (option_or o (option_map r f)) (if h then Some (r s) else None) else option_or o (option_map r f)) ≡ option_or o (option_map r (option_or f (if g && h then Some s else None)))
step (Some x) f r s true h = refl
step (Some x) f r s false h = refl
step None (Some t) r s true h = refl
step None (Some t) r s false h = refl
step None None r s true true = refl
step None None r s true false = refl
step None None r s false h = refl

pub row_more : (refs : Refs) (root : Tree) (ss : List Tree) (i : ℕ) (s : Tree) (q : List ℕ) (old new : Option (Option ModuleRef)) → slice_get ss i ≡ Some s → old ≡ row_among refs root (take i ss) q → new ≡ (if is_link s then row_of refs old s q else old) → new ≡ row_among refs root (take (i + 1) ss) q
row_more refs root ss i s q old new at before now =
    now
    ∙ ap (λ o. if is_link s then row_of refs o s q else o) before
    ∙ step (own_row refs root q) (find (gives_prefix q) (take i ss)) (ref_in refs) s (is_link s) (has_prefix q s)
    ∙ ap (λ f. option_or (own_row refs root q) (option_map (ref_in refs) f)) (sym (ap (find (gives_prefix q)) (take_next ss i s at) ∙ find-append (gives_prefix q) (take i ss) (s ∷ [])))

-- what the table of a file has is what its prefixes mean
pub rows_mean : (refs : Refs) (root : Tree) (q : List ℕ) (row : Option (Option ModuleRef)) → row ≡ row_among refs root (trees root.children) q → module_in row ≡ refs_of refs root q
rows_mean refs root q row is = ap module_in is ∙ by (has_word (codes "module") root && has_prefix q root) (find (gives_prefix q) (trees root.children))
  where
    by : (b : Bool) (f : Option Tree) → module_in (option_or (if b then Some (ref_in refs root) else None) (option_map (ref_in refs) f)) ≡ option_and_then refs (if b then root.head.argument else option_and_then (λ (s : Tree). s.head.argument) f)
    by true f = refl
    by false None = refl
    by false (Some s) = refl
