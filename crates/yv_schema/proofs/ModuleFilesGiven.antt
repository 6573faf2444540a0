-- The files of implemented modules belong to modules whose own files are there.
use Rattle.std.proofs.Common.{◌≡◌, ◌≢◌, ℕ, zero, suc, ◌+◌, ◌⊎◌, ◌&&◌, ◌||◌, ◌==◌, not, inl, inr, Bool, true, false, List, [], ◌∷◌, ◌++◌, map, length, if◌then◌else◌, Option, Some, None, refl, sym, ap, ◌∙◌, subst, arith, codes}
use Rattle.std.specs.List.{find, list_all, list_any, position_from, slice_get}
use Rattle.std.specs.Option.{is_none, option_and_then, option_map, unwrap_or}
use Rattle.std.specs.Str.{bytes_eq}
use Rattle.std.proofs.lemmas.Bool.{cases_Bool, false≢true, false_from_ne_true}
use Rattle.std.proofs.lemmas.Option.{same_Some, slice_get-map, slice_get_within}
use Rattle.std.proofs.lemmas.Slice.Eq.{bytes_eq-Decides}
use denote.Enum.Bare.{same_true}
use Rattle.yv_text_statement.specs.Tree.{Head, Tree, Forest, Then, End, trees, name_of}
use Rattle.yv_text_statement.specs.Order.{refusal_at}
use Rattle.yv_text_statement.specs.declared.refusal.Refusal.{Refusal}
use Rattle.yv_text_statement.specs.declared.refusal.Code.TheVariants as code
use Rattle.yv_text_statement.specs.Keywords.{keyword_in, keyword_of, names, same}
use Rattle.yv_text_statement.specs.contracts.keyword.Keyword.{the_type}
use Rattle.yv_text_statement.specs.declared.keyword.Keyword.{Keyword}
use Rattle.yv_text_statement.specs.declared.keyword.Keyword.TheVariants as word
use Rattle.yv_text_grammar.specs.Refusals.{Bad, has, keyword_at, number}
use Rattle.yv_text_grammar.specs.declared.xpath.Xpath.TheVariants.{Refuse}
use Rattle.yv_text_grammar.specs.Refusals.{is_module as is_module_word}
use Rattle.yv_text_grammar.specs.Table.{is_one}
use Rattle.yv_text_grammar.specs.Table.{rows_of as table_of}
use Rattle.yv_link.specs.Links.{BadLinks}
use Rattle.yv_link_modules.specs.Links.{is_link, is_wrong, is_wrong_link, wrong_at}
use Rattle.yv_text_statement.specs.Selection.{ModuleChoice, is_implemented}
use Rattle.yv_link_scopes.specs.Files.{Brief, Briefs, Files, brief_of, first_name, has_word, module_file_at, module_file_in, is_module, module_name, file_named, tree_name}
use Rattle.yv_link_scopes.specs.Rows.{Row, is_extended, row_list, name_in}
use Rattle.yv_link_scopes.specs.RowList.{bodies, body_of, roots_from, rows_of}
use Rattle.yv_expand_statements.specs.FileOrder.{HaveModuleFiles, is_given}

and_first : (a b : Bool) → (a && b) ≡ true → a ≡ true
and_first true b h = refl
and_first false b h = absurd (false≢true h)

and_second : (a b : Bool) → (a && b) ≡ true → b ≡ true
and_second true b h = h
and_second false b h = absurd (false≢true h)

-- a keyword that one name alone has is that of its name
abbrev is_by : (Keyword → Bool) → (wanted : List ℕ) → List ℕ × Keyword → Bool
is_by test wanted n = not (test n.1) || bytes_eq wanted n.0

one_name : (test : Keyword → Bool) (wanted : List ℕ) (ns : List (List ℕ × Keyword)) (text : List ℕ) → test word.Unknown ≡ false
    → list_all (is_by test wanted) ns ≡ true → test (keyword_in ns text) ≡ true → bytes_eq wanted text ≡ true
one_name test wanted [] text unknown all h = absurd (false≢true (sym unknown ∙ h))
one_name test wanted (n ∷ ns) text unknown all h =
    by (bytes_eq n.0 text) refl (one_name test wanted ns text unknown (and_second (is_by test wanted n) (list_all (is_by test wanted) ns) all)) h
  where
    this : (b : Bool) → test n.1 ≡ b → b ≡ true → (not b || bytes_eq wanted n.0) ≡ true → bytes_eq wanted n.0 ≡ true
    this true e t g = g
    this false e t g = absurd (false≢true t)

    by : (b : Bool) → bytes_eq n.0 text ≡ b → (test (keyword_in ns text) ≡ true → bytes_eq wanted text ≡ true)
        → test (if b then n.1 else keyword_in ns text) ≡ true → bytes_eq wanted text ≡ true
    by true e others t =
        subst (λ w. bytes_eq wanted w ≡ true) ((bytes_eq-Decides n.0 text).0 e)
        (this (test n.1) refl t (and_first (is_by test wanted n) (list_all (is_by test wanted) ns) all))
    by false e others t = others t

abbrev is_module_keyword : Keyword → Bool
is_module_keyword word.Module = true
is_module_keyword _ = false

abbrev is_belonging : Keyword → Bool
is_belonging word.BelongsTo = true
is_belonging _ = false

by_keyword : (test : Keyword → Bool) (wanted text : List ℕ) → test word.Unknown ≡ false → test word.Extended ≡ false
    → list_all (is_by test wanted) names ≡ true → test (keyword_of text) ≡ true → bytes_eq text wanted ≡ true
unfolding keyword_of
by_keyword test wanted text unknown extended all h = by (list_any (λ b. b == 58) text) h
  where
    by : (b : Bool) → test (if b then word.Extended else keyword_in names text) ≡ true → bytes_eq text wanted ≡ true
    by true t = absurd (false≢true (sym extended ∙ t))
    by false t =
        let same_text : wanted ≡ text = (bytes_eq-Decides wanted text).0 (one_name test wanted names text unknown all t) in
        (bytes_eq-Decides text wanted).1 (sym same_text)

-- a root is a module's or a submodule's
of_two : (k : Keyword) → is_module_word k ≡ true → (k ≡ word.Module) ⊎ (k ≡ word.Submodule)
of_two word.Module h = inl refl
of_two word.Submodule h = inr refl
of_two _ h = absurd (false≢true h)

root_kind : (t : Tree) → ((f : Refusal) → Bad Refuse t f → ⊥) → (keyword_at t ≡ word.Module) ⊎ (keyword_at t ≡ word.Submodule)
root_kind t fine = elim (cases_Bool (is_module_word (keyword_at t))) [
  | inl is ↦ of_two (keyword_at t) is
  | inr isn't ↦ absurd (fine (refusal_at code.Cardinality 0 t.head) (inl (isn't, refl)))
]

-- a submodule says to which module it belongs
lacks : (cs : List Tree) → has word.BelongsTo cs ≡ false → list_any (λ r. is_one r.1 && not (has r.0 cs)) (table_of word.Submodule) ≡ true
unfolding table_of
lacks cs h = rw h refl

belonging : (t : Tree) → ((f : Refusal) → Bad Refuse t f → ⊥) → keyword_at t ≡ word.Submodule → has word.BelongsTo (trees t.children) ≡ true
belonging t fine is = elim (cases_Bool (has word.BelongsTo (trees t.children))) [
  | inl there ↦ there
  | inr absent ↦
      let plain : keyword_at t ≢ word.Extended = λ e. let other : word.Submodule ≡ word.Extended = sym is ∙ e in cc in
      let wanting = ap (λ k. list_any (λ r. is_one r.1 && not (has r.0 (trees t.children))) (table_of k)) is ∙ lacks (trees t.children) absent in
      absurd (fine (refusal_at code.Cardinality 0 t.head) (inr (number plain (inr (wanting, refl)))))
]

find_any : (p q : Tree → Bool) (cs : List Tree) → ((c : Tree) → p c ≡ true → q c ≡ true) → list_any p cs ≡ true
    → (c : Tree) × (k : ℕ) × (find q cs ≡ Some c) × (slice_get cs k ≡ Some c) × (q c ≡ true)
find_any p q [] implies h = absurd (false≢true h)
find_any p q (c ∷ cs) implies h = by (q c) refl (λ others. find_any p q cs implies others)
  where
    behind : (b : Bool) → p c ≡ b → (p c || list_any p cs) ≡ true → q c ≡ false → list_any p cs ≡ true
    behind true e g no_q = absurd (false≢true (sym no_q ∙ implies c e))
    behind false e g no_q = sym (ap (λ b. b || list_any p cs) e) ∙ g

    by : (b : Bool) → q c ≡ b → (list_any p cs ≡ true → (x : Tree) × (k : ℕ) × (find q cs ≡ Some x) × (slice_get cs k ≡ Some x) × (q x ≡ true))
        → (x : Tree) × (k : ℕ) × (find q (c ∷ cs) ≡ Some x) × (slice_get (c ∷ cs) k ≡ Some x) × (q x ≡ true)
    by true e others = (c, 0, rw e refl, refl, e)
    by false e others =
        let found = others (behind (p c) refl h e) in
        (found.0, suc found.1, rw e found.2, found.3, found.4)

-- a statement of a file is among all statements
abbrev IsIn : Row → List Row → Type 0
IsIn r rs = (k : ℕ) × (slice_get rs k ≡ Some r)

in_front : (r : Row) (xs ys : List Row) → IsIn r xs → IsIn r (xs ++ ys)
in_front r [] ys (k, at) = cc
in_front r (x ∷ xs) ys (zero, at) = (0, at)
in_front r (x ∷ xs) ys (suc k, at) = let found = in_front r xs ys (k, at) in (suc found.0, found.1)

in_back : (r : Row) (xs ys : List Row) → IsIn r ys → IsIn r (xs ++ ys)
in_back r [] ys found = found
in_back r (x ∷ xs) ys found = let there = in_back r xs ys found in (suc there.0, there.1)

in_block : (file scope n : ℕ) (block : Forest) (k : ℕ) (c : Tree) → slice_get (trees block) k ≡ Some c
    → (r : Row) × IsIn r (row_list file scope n block) × (r.file ≡ file) × (r.head ≡ c.head)
in_block file scope n End k c at = cc
in_block file scope n (Then h cs o) zero c at =
    (record { file = file; scope = scope; head = h }, (0, refl), refl, ap (λ (x : Tree). x.head) (same_Some (record { head = h; children = cs }) c at))
in_block file scope n (Then h cs o) (suc k) c at =
    let inner : List Row = if is_extended h.keyword then [] else row_list file n (n + 1) cs in
    let found = in_block file scope (n + 1 + length inner) o k c at in
    let there = in_back found.0 inner (row_list file scope (n + 1 + length inner) o) found.1 in
    (found.0, (suc there.0, there.1), found.2, found.3)

in_bodies : (briefs : Briefs) (start n : ℕ) (ts : Files) (m : ℕ) (t : Tree) (k : ℕ) (c : Tree) → slice_get ts m ≡ Some t → slice_get (trees t.children) k ≡ Some c
    → (r : Row) × IsIn r (bodies briefs start n ts) × (r.file ≡ n + m) × (r.head ≡ c.head)
in_bodies briefs start n [] m t k c at child = cc
in_bodies briefs start n (u ∷ ts) zero t k c at child =
    let same : u ≡ t = same_Some u t at in
    let found = in_block n (module_file_in briefs n (Some (brief_of u))) start u.children k c (ap (λ (x : Tree). slice_get (trees x.children) k) same ∙ child) in
    (found.0, in_front found.0 (body_of briefs start n u) _ found.1, found.2 ∙ omega (arith), found.3)
in_bodies briefs start n (u ∷ ts) (suc m) t k c at child =
    let found = in_bodies briefs (start + length (body_of briefs start n u)) (n + 1) ts m t k c at child in
    (found.0, in_back found.0 (body_of briefs start n u) _ found.1, found.2 ∙ omega (arith), found.3)

-- what is found by name
some_of : (o : Option ℕ) → is_none o ≡ false → (m : ℕ) × (o ≡ Some m)
some_of None h = absurd (false≢true (sym h))
some_of (Some m) h = (m, refl)

position : (p : Brief → Bool) (i : ℕ) (xs : Briefs) (m : ℕ) → position_from p i xs ≡ Some m → (x : Brief) × (j : ℕ) × (m ≡ i + j) × (slice_get xs j ≡ Some x) × (p x ≡ true)
position p i [] m e = cc
position p i (x ∷ xs) m e = by (p x) refl e (λ others. position p (i + 1) xs m others)
  where
    by : (b : Bool) → p x ≡ b → (if b then Some i else position_from p (i + 1) xs) ≡ Some m
        → (position_from p (i + 1) xs ≡ Some m → (y : Brief) × (j : ℕ) × (m ≡ i + 1 + j) × (slice_get xs j ≡ Some y) × (p y ≡ true))
        → (y : Brief) × (j : ℕ) × (m ≡ i + j) × (slice_get (x ∷ xs) j ≡ Some y) × (p y ≡ true)
    by true q e others = (x, 0, sym (same_Some i m e) ∙ omega (arith), refl, q)
    by false q e others = let found = others e in (found.0, suc found.1, found.2 ∙ omega (arith), found.3, found.4)

tree_at : (files : Files) (m : ℕ) (g : Brief) → slice_get (map brief_of files) m ≡ Some g → (u : Tree) × (slice_get files m ≡ Some u) × (brief_of u ≡ g)
tree_at [] m g at = cc
tree_at (t ∷ ts) zero g at = (t, refl, same_Some (brief_of t) g at)
tree_at (t ∷ ts) (suc m) g at = tree_at ts m g at

is_linked : (h : Head) → has_word (codes "belongs-to") h ≡ true → is_link h ≡ true
is_linked h e = last (has_word (codes "import") h) (has_word (codes "include") h) (has_word (codes "belongs-to") h) e
  where
    last : (a b c : Bool) → c ≡ true → (a || (b || c)) ≡ true
    last true b c e = refl
    last false true c e = refl
    last false false c e = e

no_include : (h : Head) → has_word (codes "belongs-to") h ≡ true → has_word (codes "include") h ≡ false
no_include h e = ap (λ w. bytes_eq w (codes "include")) ((bytes_eq-Decides h.keyword (codes "belongs-to")).0 e)

-- a submodule's module is one of the files
module _ (choice : ModuleChoice) (files : Files) (fine : (n : ℕ) (t : Tree) (f : Refusal) → slice_get files n ≡ Some t → Bad Refuse t f → ⊥)
    (linked : (f : Refusal) → BadLinks files f → ⊥) where
  link_named : (r : Row) → IsIn r (rows_of files) → has_word (codes "belongs-to") r.head ≡ true → (m : ℕ) × (file_named (map brief_of files) (name_in r) ≡ Some m)
  link_named r (j, at) belongs =
      some_of (file_named (map brief_of files) (name_in r)) (without (is_link r.head) (is_none (file_named (map brief_of files) (name_in r))) (is_linked r.head belongs)
      (false_from_ne_true _ (λ e. linked (refusal_at code.MissingModule r.file r.head) (inl (inr (j, slice_get_within (rows_of files) j r at, r, at, inl (e, refl)))))))
    where
      without : (a b : Bool) → a ≡ true → (a && b) ≡ false → b ≡ false
      without true b e h = h
      without false b e h = absurd (false≢true e)

  link_right : (n : ℕ) (r : Row) (f g : Brief) (m : ℕ) → IsIn r (rows_of files) → has_word (codes "belongs-to") r.head ≡ true → r.file ≡ n
      → slice_get (map brief_of files) n ≡ Some f → file_named (map brief_of files) (name_in r) ≡ Some m → slice_get (map brief_of files) m ≡ Some g → g.is_module ≡ true
  link_right n r f g m (j, at) belongs here own_at name_at at' =
      let right : is_wrong_link (map brief_of files) r ≡ false =
      false_from_ne_true _ (λ e. linked (refusal_at code.Submodule r.file r.head) (inl (inr (j, slice_get_within (rows_of files) j r at, r, at, inr (inr (inr (inr (e, refl)))))))) in
      let there : slice_get (map brief_of files) r.file ≡ Some f = ap (slice_get (map brief_of files)) here ∙ own_at in
      let target : option_and_then (λ k. slice_get (map brief_of files) k) (file_named (map brief_of files) (name_in r)) ≡ Some g = ap (option_and_then (λ k. slice_get (map brief_of files) k)) name_at ∙ at' in
      let told : is_wrong r.head f.module_name g ≡ false = sym (ap (λ o. wrong_at r.head o (Some g)) there) ∙ sym (ap (wrong_at r.head (slice_get (map brief_of files) r.file)) target) ∙ right in
      let plain : (is_link r.head && not g.is_module) ≡ false = by (has_word (codes "include") r.head) (no_include r.head belongs) told in
      both (is_link r.head) g.is_module (is_linked r.head belongs) plain
    where
      by : (b : Bool) → b ≡ false → (if b then (g.is_module || not (bytes_eq g.module_name f.module_name)) else (is_link r.head && not g.is_module)) ≡ false
          → (is_link r.head && not g.is_module) ≡ false
      by true e h = absurd (false≢true (sym e))
      by false e h = h

      both : (a b : Bool) → a ≡ true → (a && not b) ≡ false → b ≡ true
      both true true e h = refl
      both true false e h = absurd (false≢true (sym h))
      both false b e h = absurd (false≢true e)

  brief_at : (n : ℕ) (t : Tree) → slice_get files n ≡ Some t → slice_get (map brief_of files) n ≡ Some (brief_of t)
  brief_at n t at = slice_get-map brief_of files n ∙ ap (option_map brief_of) at

  belongs_by : (c : Tree) → same (keyword_at c) word.BelongsTo ≡ true → has_word (codes "belongs-to") c.head ≡ true
  belongs_by c h =
      by_keyword is_belonging (codes "belongs-to") c.head.keyword refl refl refl (ap is_belonging (same_true the_type tt (keyword_at c) word.BelongsTo h))

  own_module_file : (n : ℕ) (t : Tree) → slice_get files n ≡ Some t → is_module t ≡ true → is_implemented choice (module_name t) ≡ true
      → (module_file : Tree) × (slice_get files (module_file_at (map brief_of files) n) ≡ Some module_file) × (is_given choice module_file ≡ true)
  own_module_file n t at is on =
      let here : module_file_at (map brief_of files) n ≡ n = ap (module_file_in (map brief_of files) n) (brief_at n t at) ∙ ap (λ b. if b then n else unwrap_or (file_named (map brief_of files) (brief_of t).module_name) n) is in
      let name : module_name t ≡ tree_name t = ap (λ b. if b then tree_name t else first_name (find (λ c. has_word (codes "belongs-to") c.head) (trees t.children))) is in
      (t, ap (slice_get files) here ∙ at, both (is_module t) (is_implemented choice (tree_name t)) is (ap (is_implemented choice) (sym name) ∙ on))
    where
      both : (a b : Bool) → a ≡ true → b ≡ true → (a && b) ≡ true
      both true b e h = h
      both false b e h = absurd (false≢true e)

  part_module_file : (n : ℕ) (t : Tree) → slice_get files n ≡ Some t → is_module t ≡ false → is_implemented choice (module_name t) ≡ true
      → (module_file : Tree) × (slice_get files (module_file_at (map brief_of files) n) ≡ Some module_file) × (is_given choice module_file ≡ true)
  part_module_file n t at part on =
      let kind : keyword_at t ≡ word.Submodule = elim (root_kind t (λ f. fine n t f at)) [
        | inl own_file ↦ absurd (false≢true (sym part ∙ by_keyword is_module_keyword (codes "module") t.head.keyword refl refl refl (ap is_module_keyword own_file)))
        | inr is ↦ is
      ] in
      let found = find_any (λ c. same (keyword_at c) word.BelongsTo) (λ c. has_word (codes "belongs-to") c.head) (trees t.children) belongs_by (belonging t (λ f. fine n t f at) kind) in
      let c : Tree = found.0 in
      let row = in_files n t found.1 c at found.3 in
      let r : Row = row.0 in
      let belongs : has_word (codes "belongs-to") r.head ≡ true = ap (has_word (codes "belongs-to")) row.3 ∙ found.4 in
      let target = link_named r row.1 belongs in
      let place = position (λ (f : Brief). bytes_eq f.name (name_in r)) 0 (map brief_of files) target.0 target.1 in
      let g : Brief = place.0 in
      let there : slice_get (map brief_of files) target.0 ≡ Some g = subst (λ k. slice_get (map brief_of files) k ≡ Some g) (sym (place.2 ∙ omega (arith))) place.3 in
      let is : g.is_module ≡ true = link_right n r (brief_of t) g target.0 row.1 belongs row.2 (brief_at n t at) target.1 there in
      let module_file = tree_at files target.0 g there in
      let u : Tree = module_file.0 in
      let name : module_name t ≡ name_in r =
      ap (λ b. if b then tree_name t else first_name (find (λ c. has_word (codes "belongs-to") c.head) (trees t.children))) part
      ∙ ap first_name found.2 ∙ ap name_of (sym row.3) in
      let here : module_file_at (map brief_of files) n ≡ target.0 =
      ap (module_file_in (map brief_of files) n) (brief_at n t at)
      ∙ ap (λ b. if b then n else unwrap_or (file_named (map brief_of files) (brief_of t).module_name) n) part
      ∙ ap (λ w. unwrap_or (file_named (map brief_of files) w) n) name
      ∙ ap (λ o. unwrap_or o n) target.1 in
      let named_so : tree_name u ≡ module_name t = ap (λ (b : Brief). b.name) module_file.2 ∙ (bytes_eq-Decides g.name (name_in r)).0 place.4 ∙ sym name in (
        u,
        ap (slice_get files) here ∙ module_file.1,
        both (is_module u) (is_implemented choice (tree_name u)) (ap (λ (b : Brief). b.is_module) module_file.2 ∙ is) (ap (is_implemented choice) named_so ∙ on),
      )
    where
      in_files : (n : ℕ) (t : Tree) (k : ℕ) (c : Tree) → slice_get files n ≡ Some t → slice_get (trees t.children) k ≡ Some c
          → (r : Row) × IsIn r (rows_of files) × (r.file ≡ n) × (r.head ≡ c.head)
      in_files n t k c at child =
          let found = in_bodies (map brief_of files) (length files) 0 files n t k c at child in
          (found.0, in_back found.0 (roots_from 0 files) _ found.1, found.2 ∙ omega (arith), found.3)

      both : (a b : Bool) → a ≡ true → b ≡ true → (a && b) ≡ true
      both true b e h = h
      both false b e h = absurd (false≢true e)

  pub have_module_files : HaveModuleFiles choice files
  have_module_files n t at on = elim (cases_Bool (is_module t)) [
    | inl is ↦ own_module_file n t at is on
    | inr part ↦ part_module_file n t at part on
  ]
