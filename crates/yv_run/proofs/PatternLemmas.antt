-- A pattern of a type of the files is among their numbered statements, so there is one of which a
-- note can speak.
use Rattle.std.proofs.Common.{◌≡◌, ◌∙◌, ℕ, zero, suc, ◌⊎◌, inl, inr, Bool, true, false, cond, List, [], ◌∷◌, ◌++◌, map, Option, Some, None, Result, refl, sym, ap, subst, codes}
use Rattle.std.specs.Prelude.{IfOk, IfSome, IfNone, Ok, Err}
use Rattle.std.specs.List.{AllZip, slice_get}
use Rattle.std.specs.Option.{option_map}
use Rattle.std.specs.Str.{bytes_eq}
use Rattle.std.proofs.lemmas.Bool.{false≢true}
use Rattle.std.proofs.lemmas.Option.{same_Some, slice_get-map}
use Rattle.std.proofs.lemmas.Slice.Eq.{bytes_eq-Decides}
use Rattle.yv_text_statement.specs.Tree.{Head, Tree, Forest, Then, End, trees, name_of}
use Rattle.yv_text_statement.specs.declared.refusal.Refusal.{Refusal}
use Rattle.yv_source.specs.Answer.{IsBadFile, IsSpelled, IsRefused}
use Rattle.yv_source.specs.Legal.{IsLegalFile}
use Rattle.yv_source.specs.FileStatements.{IsRead, IsUnread}
use Rattle.yv_link_scopes.specs.Files.{Files}
use Rattle.yv_link_scopes.specs.RowList.{rows_of, statements_in, inner_statements, statements_of}
use Rattle.yv_link_scopes.specs.Rows.{Row, is_extended}
use Rattle.yv_pattern.specs.Spells.{Translates}
use Rattle.yv_type_restrictions.specs.Types.{HasTypePattern}
use Rattle.yv_base_streams.specs.Files.{File}
use Rattle.yv_text_statement.specs.Selection.{ModuleChoice}
use Rattle.yv_note_patterns.specs.PatternFailure.{AreNoPatterns, HasNoPattern, IsPatternAmong, TellsPattern, read, unread}
use Rattle.yv_run.specs.Compiles.{HavePattern}
use Rattle.yv_run.specs.Notes.{NotesPattern}

abbrev IsIn : Tree → List Tree → Type 0
IsIn t ts = (k : ℕ) × (slice_get ts k ≡ Some t)

in_front : (t : Tree) (xs ys : List Tree) → IsIn t xs → IsIn t (xs ++ ys)
in_front t [] ys (k, at) = cc
in_front t (x ∷ xs) ys (zero, at) = (0, at)
in_front t (x ∷ xs) ys (suc k, at) = let found = in_front t xs ys (k, at) in (suc found.0, found.1)

in_back : (t : Tree) (xs ys : List Tree) → IsIn t ys → IsIn t (xs ++ ys)
in_back t [] ys found = found
in_back t (x ∷ xs) ys found = let there = in_back t xs ys found in (suc there.0, there.1)

later : (t x : Tree) (xs ys : List Tree) → IsIn t xs ⊎ IsIn t ys → IsIn t (x ∷ xs) ⊎ IsIn t ys
later t x xs ys (inl found) = inl (suc found.0, found.1)
later t x xs ys (inr found) = inr found

in_one : (t : Tree) (xs ys : List Tree) → IsIn t (xs ++ ys) → IsIn t xs ⊎ IsIn t ys
in_one t [] ys found = inr found
in_one t (x ∷ xs) ys (zero, at) = inl (0, at)
in_one t (x ∷ xs) ys (suc k, at) = later t x xs ys (in_one t xs ys (k, at))

-- the statements of a block are listed with it
at_top : (f : Forest) (j : ℕ) (c : Tree) → slice_get (trees f) j ≡ Some c → IsIn c (statements_in f)
at_top End j c at = cc
at_top (Then h cs o) zero c at = (0, at)
at_top (Then h cs o) (suc j) c at =
    let there = in_back c (cond (is_extended h.keyword) [] (statements_in cs)) (statements_in o) (at_top o j c at) in
    (suc there.0, there.1)

-- what is in the block of a statement is listed, unless it is an extension's
shown : (b : Bool) (c : Tree) (ts : List Tree) → b ≡ false → IsIn c ts → IsIn c (cond b [] ts)
shown true c ts plain found = absurd (false≢true (sym plain))
shown false c ts plain found = found

inside : (b : Bool) (t c : Tree) (ts : List Tree) → (IsIn t ts → IsIn c ts) → IsIn t (cond b [] ts) → IsIn c (cond b [] ts)
inside true t c ts down (k, at) = cc
inside false t c ts down found = down found

module _ (t c : Tree) (j : ℕ) (child : slice_get (trees t.children) j ≡ Some c) (plain : is_extended t.head.keyword ≡ false) where
  -- a child of a statement that is this one
  own : (u : Tree) → u ≡ t → IsIn c (statements_in u.children)
  own u same = at_top u.children j c (ap (λ (x : Tree). slice_get (trees x.children) j) same ∙ child)

  deeper : (h : Head) (cs o : Forest) → (IsIn t (statements_in cs) → IsIn c (statements_in cs)) → (IsIn t (statements_in o) → IsIn c (statements_in o))
      → IsIn t (cond (is_extended h.keyword) [] (statements_in cs)) ⊎ IsIn t (statements_in o) → IsIn c (cond (is_extended h.keyword) [] (statements_in cs) ++ statements_in o)
  deeper h cs o down on (inl found) =
      in_front c (cond (is_extended h.keyword) [] (statements_in cs)) (statements_in o) (inside (is_extended h.keyword) t c (statements_in cs) down found)
  deeper h cs o down on (inr found) = in_back c (cond (is_extended h.keyword) [] (statements_in cs)) (statements_in o) (on found)

  below : (f : Forest) → IsIn t (statements_in f) → IsIn c (statements_in f)
  below End (k, at) = cc
  below (Then h cs o) (zero, at) =
      let same : record { head = h; children = cs } ≡ t = same_Some (record { head = h; children = cs }) t at in
      let listed : IsIn c (cond (is_extended h.keyword) [] (statements_in cs)) =
      shown (is_extended h.keyword) c (statements_in cs) (ap (λ (x : Tree). is_extended x.head.keyword) same ∙ plain) (own (record { head = h; children = cs }) same) in
      let there = in_front c (cond (is_extended h.keyword) [] (statements_in cs)) (statements_in o) listed in
      (suc there.0, there.1)
  below (Then h cs o) (suc k, at) =
      let there = deeper h cs o (below cs) (below o) (in_one t (cond (is_extended h.keyword) [] (statements_in cs)) (statements_in o) (k, at)) in
      (suc there.0, there.1)

  of_roots : (files : Files) → IsIn t files → IsIn c (inner_statements files)
  of_roots [] (k, at) = cc
  of_roots (u ∷ us) (zero, at) = in_front c (statements_in u.children) (inner_statements us) (own u (same_Some u t at))
  of_roots (u ∷ us) (suc k, at) = in_back c (statements_in u.children) (inner_statements us) (of_roots us (k, at))

  of_one : (u : Tree) (us : Files) → (IsIn t (inner_statements us) → IsIn c (inner_statements us)) → IsIn t (statements_in u.children) ⊎ IsIn t (inner_statements us)
      → IsIn c (statements_in u.children ++ inner_statements us)
  of_one u us on (inl found) = in_front c (statements_in u.children) (inner_statements us) (below u.children found)
  of_one u us on (inr found) = in_back c (statements_in u.children) (inner_statements us) (on found)

  of_others : (files : Files) → IsIn t (inner_statements files) → IsIn c (inner_statements files)
  of_others [] (k, at) = cc
  of_others (u ∷ us) found = of_one u us (of_others us) (in_one t (statements_in u.children) (inner_statements us) found)

  of_all : (files : Files) → IsIn t files ⊎ IsIn t (inner_statements files) → IsIn c (statements_of files)
  of_all files (inl found) = in_back c files (inner_statements files) (of_roots files found)
  of_all files (inr found) = in_back c files (inner_statements files) (of_others files found)

-- the row of a numbered statement
row_of : (rows : List Row) (n : ℕ) (h : Head) → option_map (λ (r : Row). r.head) (slice_get rows n) ≡ Some h → (r : Row) × (slice_get rows n ≡ Some r) × (r.head ≡ h)
row_of [] n h at = cc
row_of (r ∷ rows) zero h at = (r, refl, same_Some r.head h at)
row_of (r ∷ rows) (suc n) h at = row_of rows n h at

-- what the heads of statements and of rows have to do with one another
abbrev pub SameHeads : Files → Type 0
SameHeads files = map (λ (t : Tree). t.head) (statements_of files) ≡ map (λ (r : Row). r.head) (rows_of files)

pub child_row : (files : Files) → SameHeads files → (k j : ℕ) (t c : Tree) → slice_get (statements_of files) k ≡ Some t
    → bytes_eq t.head.keyword (codes "type") ≡ true → slice_get (trees t.children) j ≡ Some c
    → (n : ℕ) × (r : Row) × (slice_get (rows_of files) n ≡ Some r) × (r.head ≡ c.head)
child_row files heads k j t c at type_word child =
    let keyword : t.head.keyword ≡ codes "type" = (bytes_eq-Decides t.head.keyword (codes "type")).0 type_word in
    let plain : is_extended t.head.keyword ≡ false = ap is_extended keyword in
    let found : IsIn c (statements_of files) = of_all t c j child plain files (in_one t files (inner_statements files) (k, at)) in
    let head : option_map (λ (r : Row). r.head) (slice_get (rows_of files) found.0) ≡ Some c.head =
    sym (slice_get-map (λ (r : Row). r.head) (rows_of files) found.0)
    ∙ ap (λ (hs : List Head). slice_get hs found.0) (sym heads)
    ∙ slice_get-map (λ (s : Tree). s.head) (statements_of files) found.0
    ∙ ap (option_map (λ (s : Tree). s.head)) found.1 in
    let row = row_of (rows_of files) found.0 c.head head in
    (found.0, row.0, row.1, row.2)

-- a pattern of a type is among the rows
pub is_listed : (files : Files) → SameHeads files → HasTypePattern files → (r : Row) × IsPatternAmong (rows_of files) r
is_listed files heads has =
    let t : Tree = has.1 in
    let c : Tree = has.3.1 in
    let source : List ℕ = has.3.3.0 in
    let listed = child_row files heads has.0 has.3.0 t c has.2.0 has.2.1 has.3.2 in (
      listed.1,
      record {
        number = listed.0;
        at = listed.2;
        keyword = ap (λ (h : Head). bytes_eq h.keyword (codes "pattern")) listed.3 ∙ has.3.3.1;
        dialect = (source, subst (λ (h : Head). Translates (name_of h) source) (sym listed.3) has.3.3.2);
      },
    )

-- the laws of the layers below
pub record Laws : Type 0 where
  pub legal : (bytes : List ℕ) (r : Refusal) → IsBadFile bytes r → IsLegalFile bytes → ⊥
  pub spelled : (text : List ℕ) (t u : Tree) → IsSpelled text t → IsSpelled text u → t ≡ u
  pub apart : (text : List ℕ) (t : Tree) (r : Refusal) → IsSpelled text t → IsRefused text r → ⊥
  pub listed : (files : Files) → HasTypePattern files → (r : Row) × IsPatternAmong (rows_of files) r

-- a file isn't both read and unread
clash : Laws → (f : File) (t : Tree) (r : Refusal) → IsRead f t → IsUnread f r → ⊥
clash laws f t r p (inl bad) = laws.legal f.bytes r bad p.0
clash laws f t r p (inr q) = laws.apart f.bytes t r p.1 q.1

not_read : Laws → (files : List File) (ts : List Tree) (n : ℕ) (f : File) (r : Refusal) → AllZip IsRead files ts → slice_get files n ≡ Some f → IsUnread f r → ⊥
not_read laws [] ts n f r each at bad = cc
not_read laws (x ∷ files) [] n f r each at bad = absurd each
not_read laws (x ∷ files) (t ∷ ts) zero f r each at bad = clash laws x t r each.0 (subst (λ y. IsUnread y r) (sym (same_Some x f at)) bad)
not_read laws (x ∷ files) (t ∷ ts) (suc n) f r each at bad = not_read laws files ts n f r each.1 at bad

-- files are read as one list of statements
one_list : Laws → (fs : List File) (ts us : List Tree) → AllZip IsRead fs ts → AllZip IsRead fs us → ts ≡ us
one_list laws [] [] [] p q = refl
one_list laws [] [] (u ∷ us) p q = absurd q
one_list laws [] (t ∷ ts) us p q = absurd p
one_list laws (f ∷ fs) [] us p q = absurd p
one_list laws (f ∷ fs) (t ∷ ts) [] p q = absurd q
one_list laws (f ∷ fs) (t ∷ ts) (u ∷ us) p q =
    ap (λ x. x ∷ ts) (laws.spelled f.bytes t u p.0.1 q.0.1) ∙ ap (λ xs. u ∷ xs) (one_list laws fs ts us p.1 q.1)

none_among : (rows : List Row) (r : Row) → IsPatternAmong rows r → AreNoPatterns rows → ⊥
none_among rows r is none = none is.number r is.at is.keyword is.dialect

-- files with a pattern that isn't built have one
contradicts : Laws → (files : List File) (choice : ModuleChoice) (limit : ℕ) → HavePattern choice limit files → HasNoPattern files → ⊥
contradicts laws files choice limit have (read trees each none) =
    let row = laws.listed have.trees have.pattern in
    none_among (rows_of have.trees) row.0 row.1 (subst (λ ts. AreNoPatterns (rows_of ts)) (one_list laws files trees have.trees each have.read) none)
contradicts laws files choice limit have (unread q at) = not_read laws files have.trees at.number at.file at.own have.read at.at at.unread

-- so there is a note where one of them isn't built
pub notes_pattern : {A E : Type 0} (bytes_of : A → List ℕ) (files : List File) (choice : ModuleChoice) (limit : ℕ) (r : Result (Option A) E) → Laws → HavePattern choice limit files
    → IfOk r (λ found. IfSome found (λ s. TellsPattern files (bytes_of s))) → IfOk r (λ found. IfNone found (HasNoPattern files))
    → IfOk r (λ found. NotesPattern files (option_map bytes_of found))
notes_pattern bytes_of files choice limit (Ok None) laws have tells none = absurd (contradicts laws files choice limit have none)
notes_pattern bytes_of files choice limit (Ok (Some text)) laws have tells none = tells
notes_pattern bytes_of files choice limit (Err e) laws have tells none = tt
