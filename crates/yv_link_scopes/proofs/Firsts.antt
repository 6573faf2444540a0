-- The first of a list, as the list grows.
use Rattle.std.proofs.Common.{◌≡◌, ℕ, ◌+◌, ◌<◌, ◌&&◌, ◌||◌, zero, suc, Bool, true, false, cond, List, [], ◌∷◌, ◌++◌, length, map, get_or, take, Option, None, Some, refl, sym, ◌∙◌, ap, arith, add-one}
use Rattle.std.specs.List.{slice_get, position_from, list_any}
use Rattle.std.specs.Option.{option_map}
use Rattle.std.proofs.lemmas.List.{take_more, map-append}
use Rattle.std.proofs.lemmas.Option.{same_Some, slice_get-map, slice_get_read, slice_get_within, get_or_from_slice_get}
use Rattle.yv_text_statement.specs.Tree.{Tree}
use Rattle.yv_link_scopes.specs.declared.files.File.{File}
use Rattle.yv_link_scopes.specs.Tables.{Table, is_same, first_of, word_of, place_of_kind}
use Rattle.yv_link_scopes.specs.InnerPlaces.{first_some, keep_first}
use Rattle.yv_link_scopes.specs.Rows.{Row, name_in}
use Rattle.yv_link_scopes.specs.Names.{first_where}
use Rattle.yv_link_scopes.specs.Files.{has_word, tree_name, module_name, is_module, Brief, Briefs, brief, brief_of, file_named}
use Rattle.yv_link_scopes.specs.declared.kind.NameKind.{NameKind}

first_cond : (b : Bool) (k : ℕ) (o q : Option ℕ) → cond b (Some k) (first_some o q) ≡ first_some (cond b (Some k) o) q
first_cond true k o q = refl
first_cond false k o q = refl

at_zero : (b : Bool) (k : ℕ) → cond b (Some k) None ≡ cond b (Some (k + 0)) None
at_zero b k = ap (λ n. cond b (Some n) None) (omega arith)

module _ {X : Type 0} (p : X → Bool) where
  pub position_more : (k i : ℕ) (xs : List X) (x : X) → slice_get xs i ≡ Some x → position_from p k (take (suc i) xs) ≡ first_some (position_from p k (take i xs)) (cond (p x) (Some (k + i)) None)
  position_more k i [] x at = cc
  position_more k zero (y ∷ xs) x at = ap (λ (z : X). cond (p z) (Some k) None) (same_Some y x at) ∙ at_zero (p x) k
  position_more k (suc i) (y ∷ xs) x at =
      let count : k + 1 + i ≡ k + suc i = omega arith in
      ap (λ o. cond (p y) (Some k) o) (position_more (k + 1) i xs x at ∙ ap (λ n. first_some (position_from p (k + 1) (take i xs)) (cond (p x) (Some n) None)) count)
      ∙ first_cond (p y) k (position_from p (k + 1) (take i xs)) (cond (p x) (Some (k + suc i)) None)

  pub first_more : (i : ℕ) (xs : List X) (x : X) → slice_get xs i ≡ Some x → first_where p (take (i + 1) xs) ≡ first_some (first_where p (take i xs)) (cond (p x) (Some i) None)
  first_more i xs x at = ap (λ n. position_from p 0 (take n xs)) (add-one i) ∙ position_more 0 i xs x at ∙ ap (λ n. first_some (position_from p 0 (take i xs)) (cond (p x) (Some n) None)) (let e : 0 + i ≡ i = omega arith in e)

first_none : (o : Option ℕ) → o ≡ first_some o None
first_none None = refl
first_none (Some k) = refl

and_true : (a b : Bool) → a ≡ true → (a && b) ≡ b
and_true a b e = ap (λ t. t && b) e

and_false : (a b : Bool) → a ≡ false → (a && b) ≡ false
and_false a b e = ap (λ t. t && b) e

-- one more statement with the word
pub table_more : (kind : NameKind) (rows : List Row) (i : ℕ) (r : Row) (old new : Table) (scope : ℕ) (name : List ℕ) → slice_get rows i ≡ Some r → has_word (word_of kind) r.head ≡ true → scope ≡ place_of_kind kind r → name ≡ name_in r → ((s : ℕ) (n : List ℕ) → old s n ≡ first_of kind (take i rows) s n) → ((s : ℕ) (n : List ℕ) → new s n ≡ keep_first old scope name i s n) → (s : ℕ) (n : List ℕ) → new s n ≡ first_of kind (take (i + 1) rows) s n
table_more kind rows i r old new scope name at word e f before now s n =
    let p : Row → Bool = λ x. has_word (word_of kind) x.head && is_same s n (place_of_kind kind x) (name_in x) in
    now s n
    ∙ ap (λ o. first_some o (cond (is_same s n scope name) (Some i) None)) (before s n)
    ∙ ap (λ b. first_some (first_of kind (take i rows) s n) (cond b (Some i) None)) (ap (λ k. is_same s n k name) e ∙ ap (λ m. is_same s n (place_of_kind kind r) m) f ∙ sym (and_true (has_word (word_of kind) r.head) (is_same s n (place_of_kind kind r) (name_in r)) word))
    ∙ sym (first_more p i rows r at)

-- one without it
pub table_same : (kind : NameKind) (rows : List Row) (i : ℕ) (r : Row) (old : Table) → slice_get rows i ≡ Some r → has_word (word_of kind) r.head ≡ false → ((s : ℕ) (n : List ℕ) → old s n ≡ first_of kind (take i rows) s n) → (s : ℕ) (n : List ℕ) → old s n ≡ first_of kind (take (i + 1) rows) s n
table_same kind rows i r old at word before s n =
    let p : Row → Bool = λ x. has_word (word_of kind) x.head && is_same s n (place_of_kind kind x) (name_in x) in
    before s n
    ∙ first_none (first_of kind (take i rows) s n)
    ∙ ap (λ b. first_some (first_of kind (take i rows) s n) (cond b (Some i) None)) (sym (and_false (has_word (word_of kind) r.head) (is_same s n (place_of_kind kind r) (name_in r)) word))
    ∙ sym (first_more p i rows r at)

-- one more file
pub files_more : (files : Briefs) (i : ℕ) (f : Brief) (old new : Table) (name : List ℕ) → slice_get files i ≡ Some f → name ≡ f.name → ((n : List ℕ) → old 0 n ≡ file_named (take i files) n) → ((s : ℕ) (n : List ℕ) → new s n ≡ keep_first old 0 name i s n) → (n : List ℕ) → new 0 n ≡ file_named (take (i + 1) files) n
files_more files i f old new name at e before now n =
    let p : Brief → Bool = λ x. is_same 0 n 0 x.name in
    now 0 n
    ∙ ap (λ o. first_some o (cond (is_same 0 n 0 name) (Some i) None)) (before n)
    ∙ ap (λ m. first_some (file_named (take i files) n) (cond (is_same 0 n 0 m) (Some i) None)) e
    ∙ sym (first_more p i files f at)

pub get_map : {A B : Type 0} (f : A → B) (xs : List A) (n i : ℕ) (x : A) → n ≡ length xs → i < n → x ≡ get_or xs i x → slice_get (map f xs) i ≡ Some (f x)
get_map f xs n i x e h is = slice_get-map f xs i ∙ ap (option_map f) (slice_get_read xs n i x e h is)

pub take_next : {A : Type 0} (xs : List A) (i : ℕ) (x : A) → slice_get xs i ≡ Some x → take (i + 1) xs ≡ take i xs ++ x ∷ []
take_next xs i x at = take_more xs i x (slice_get_within xs i x at) ∙ ap (λ y. take i xs ++ y ∷ []) (get_or_from_slice_get xs i x x at)

pub brief_made : (name named : List ℕ) (m : Bool) (t : Tree) → name ≡ tree_name t → named ≡ module_name t → m ≡ is_module t → (let b : Brief = record { name = name; module_name = named; is_module = m; head = t.head } in b ≡ brief_of t)
brief_made name named m t e h k = λ i. record { name = e i; module_name = h i; is_module = k i; head = t.head }

pub briefs_more : (old new : List File) (f : File) (b : Brief) (files : Briefs) (i : ℕ) → new ≡ old ++ f ∷ [] → brief f ≡ b → slice_get files i ≡ Some b → map brief old ≡ take i files → map brief new ≡ take (i + 1) files
briefs_more old new f b files i n e at h = ap (map brief) n ∙ map-append brief old (f ∷ []) ∙ ap (λ xs. xs ++ brief f ∷ []) h ∙ ap (λ x. take i files ++ x ∷ []) e ∙ sym (take_next files i b at)

pub any_at : {A : Type 0} (f : A → Bool) (xs : List A) (i : ℕ) (x : A) → i < length xs → x ≡ get_or xs i x → f x ≡ true → list_any f xs ≡ true
any_at f [] i x h e t = elim h [ ]
any_at f (y ∷ xs) zero x h e t = ap (λ b. b || list_any f xs) (ap f (sym e) ∙ t)
any_at f (y ∷ xs) (suc i) x h e t = or_true (f y) (list_any f xs) (any_at f xs i x (omega arith) e t)
  where
    or_true : (a b : Bool) → b ≡ true → (a || b) ≡ true
    or_true true b e = refl
    or_true false b e = e
