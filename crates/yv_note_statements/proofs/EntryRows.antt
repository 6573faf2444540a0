-- One more entry of the list of statements.
use Rattle.std.proofs.Common.{◌≡◌, ℕ, ◌+◌, ◌<◌, zero, suc, inl, inr, Bool, false, List, [], ◌∷◌, ◌++◌, All, Some, length, map, take, nat_lt, refl, sym, ap, ◌∙◌, arith}
use Rattle.std.proofs.lemmas.Bool.{cases_lt}
use Rattle.std.proofs.lemmas.Grind.{common_steps}
use Rattle.std.proofs.lemmas.List.{get_or_append_left, map-append, take_more}
use Rattle.std.proofs.lemmas.List.Elements.{All-append}
use Rattle.std.proofs.lemmas.Option.{slice_get_within, get_or_from_slice_get}
use Rattle.std.specs.List.{slice_get, slice_index_or}
use Rattle.yv_link_scopes.specs.Rows.{Row}
use Rattle.yv_note_statements.specs.Entries.{MarkRoots, kind_of, row_of}
use Rattle.yv_note_statements.specs.declared.entry.StatementEntry.{StatementEntry}

-- the flag of an entry
abbrev pub flag_of : StatementEntry → Bool
flag_of e = e.is_root

take_next : {A : Type 0} (xs : List A) (i : ℕ) (x : A) → slice_get xs i ≡ Some x → take (i + 1) xs ≡ take i xs ++ x ∷ []
take_next xs i x at = take_more xs i x (slice_get_within xs i x at) ∙ ap (λ y. take i xs ++ y ∷ []) (get_or_from_slice_get xs i x x at)

pub rows_more : (old new : List StatementEntry) (e : StatementEntry) (rows : List Row) (n : ℕ) → new ≡ old ++ e ∷ [] → map row_of old ≡ take n rows → Some (row_of e) ≡ slice_get rows n → map row_of new ≡ take (n + 1) rows
rows_more old new e rows n more is at =
    ap (map row_of) more ∙ map-append row_of old (e ∷ []) ∙ ap (λ rs. rs ++ row_of e ∷ []) is ∙ sym (take_next rows n (row_of e) (sym at))

last_of : (xs : List Bool) (y : Bool) → slice_index_or (xs ++ y ∷ []) (length xs) false ≡ y
last_of [] y = refl
last_of (x ∷ xs) y = last_of xs y

-- the first numbers are marked, as many as there are files
abbrev AreMarks : (files : ℕ) → List Bool → Type 0
AreMarks files marks = (k : ℕ) → k < length marks → slice_index_or marks k false ≡ nat_lt k files

marks_more : (old new : List Bool) (mark : Bool) (files n : ℕ) → new ≡ old ++ mark ∷ [] → length old ≡ n → mark ≡ nat_lt n files → AreMarks files old → AreMarks files new
marks_more old new mark files n more each is are k h = elim (cases_lt k n) [
  | inl less ↦
      ap (λ xs. slice_index_or xs k false) more ∙ get_or_append_left old (mark ∷ []) false k (omega (arith, less, each)) ∙ are k (omega (arith, less, each))
  | inr up ↦
      let few : length new ≡ n + 1 = grind (arith, common_steps) in
      let last : k ≡ length old = omega (arith, up, h, few, each) in
      ap (λ xs. slice_index_or xs k false) more ∙ ap (λ j. slice_index_or (old ++ mark ∷ []) j false) last ∙ last_of old mark ∙ is ∙ ap (λ j. nat_lt j files) (sym each ∙ sym last)
]

pub roots_more : (old new : List StatementEntry) (e : StatementEntry) (files n : ℕ) → new ≡ old ++ e ∷ [] → length old ≡ n → e.is_root ≡ nat_lt n files → MarkRoots files old → MarkRoots files new
roots_more old new e files n more each is marked k h =
    marks_more (map flag_of old) (map flag_of new) e.is_root files n (ap (map flag_of) more ∙ map-append flag_of old (e ∷ [])) (grind (arith, common_steps)) is (λ j l. marked j (grind (arith, common_steps))) k (grind (arith, common_steps))

-- the kind of an entry is what its keyword means
abbrev pub Means : StatementEntry → Type 0
Means e = e.kind ≡ kind_of (row_of e)

single : (e : StatementEntry) → Means e → All Means (e ∷ [])
single e is zero d l = is
single e is (suc k) d l = let no : ⊥ = omega (arith, l) in elim no [ ]

pub kinds_more : (old new : List StatementEntry) (e : StatementEntry) → new ≡ old ++ e ∷ [] → All Means old → Means e → All Means new
kinds_more old new e more all is = rw more (All-append Means old (e ∷ []) all (single e is))

pub one_more : (old new : List StatementEntry) (e : StatementEntry) (n : ℕ) → new ≡ old ++ e ∷ [] → length old ≡ n → length new ≡ n + 1
one_more old new e n more each = grind (arith, common_steps)
