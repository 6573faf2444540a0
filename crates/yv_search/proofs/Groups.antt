-- The files that have a name, as lists grow.
use Rattle.std.proofs.Common.{◌≡◌, ◌<◌, ◌+◌, ◌&&◌, ◌∙◌, ℕ, List, [], ◌∷◌, ◌++◌, Bool, true, false, refl, sym, ap, if◌then◌else◌, map, take, length, arith, append_assoc, length-take-le, Option, Some, None}
use Rattle.std.specs.Option.{option_map, option_and_then}
use Rattle.std.specs.Str.{bytes_eq}
use Rattle.std.proofs.lemmas.List.{append-nil}
use Rattle.std.specs.List.{slice_get}
use Rattle.std.proofs.lemmas.Option.{slice_get_within}
use Rattle.yv_search.proofs.ListSteps.{take_next}
use Rattle.yv_search.specs.Listing.{Folder, ListedFile, files_in, files_from, files_of}
use Rattle.yv_search.specs.FileNames.{FileName, name_in_path}
use Rattle.yv_search.specs.Wants.{Want}
use Rattle.yv_search.specs.Choice.{Candidate, suits, candidate_named, better_of, choice_of}
use Rattle.yv_search.specs.declared.index.Row.{Row}
use Rattle.yv_search.specs.declared.index.Index.{Index}
use Rattle.yv_search.specs.InnerIndex.{candidate_of, rows_at, group_of, if_name, all_named, chosen_of}

pub all_named-append : (q : List ℕ) (xs ys : List ListedFile) → all_named q (xs ++ ys) ≡ all_named q xs ++ all_named q ys
all_named-append q [] ys = refl
all_named-append q (x ∷ xs) ys = ap (λ l. if_name q x (name_in_path x.path) ++ l) (all_named-append q xs ys) ∙ sym (append_assoc (if_name q x (name_in_path x.path)) (all_named q xs) (all_named q ys))

pub files_from-append : (n : ℕ) (xs : List Folder) (f : Folder) → files_from n (xs ++ f ∷ []) ≡ files_from n xs ++ files_in (n + length xs) f
files_from-append n [] f = append-nil (files_in n f) ∙ ap (λ k. files_in k f) (omega arith)
files_from-append n (x ∷ xs) f =
    let e : (n + 1) + length xs ≡ n + length (x ∷ xs) = omega arith in
    ap (λ l. files_in n x ++ l) (files_from-append (n + 1) xs f ∙ ap (λ k. files_from (n + 1) xs ++ files_in k f) e)
    ∙ sym (append_assoc (files_in n x) (files_from (n + 1) xs) (files_in (n + length (x ∷ xs)) f))

-- the choice is one among the files that have the name
pub chosen_among : (w : Want) (files : List ListedFile) → choice_of w files ≡ chosen_of w.date (all_named w.name files)
chosen_among w [] = refl
chosen_among w (f ∷ fs) = by (name_in_path f.path) (choice_of w fs) (all_named w.name fs) (chosen_among w fs)
  where
    under : (n : FileName) (b : Bool) (later : Option Candidate) (cs : List Candidate) → later ≡ chosen_of w.date cs
        → better_of (if (b && suits w.date n.date) then Some (record { file = f; date = n.date }) else None) later ≡ chosen_of w.date ((if b then record { file = f; date = n.date } ∷ [] else []) ++ cs)
    under n true later cs e = ap (λ l. better_of (if suits w.date n.date then Some (record { file = f; date = n.date }) else None) l) e
    under n false later cs e = e

    by : (o : Option FileName) (later : Option Candidate) (cs : List Candidate) → later ≡ chosen_of w.date cs
        → better_of (option_and_then (candidate_named w f) o) later ≡ chosen_of w.date (if_name w.name f o ++ cs)
    by None later cs e = e
    by (Some n) later cs e = under n (bytes_eq n.name w.name) later cs e

-- one more file
pub file_more : (q : List ℕ) (xs : List ListedFile) (i : ℕ) (x : ListedFile) (start old new : List Candidate) → slice_get xs i ≡ Some x → old ≡ start ++ all_named q (take i xs) → new ≡ old ++ if_name q x (name_in_path x.path) → new ≡ start ++ all_named q (take (i + 1) xs)
file_more q xs i x start old new at before now =
    now ∙ ap (λ l. l ++ if_name q x (name_in_path x.path)) before
    ∙ append_assoc start (all_named q (take i xs)) (if_name q x (name_in_path x.path))
    ∙ ap (λ l. start ++ l)
    (sym (ap (all_named q) (take_next xs i x at) ∙ all_named-append q (take i xs) (x ∷ []) ∙ ap (λ l. all_named q (take i xs) ++ l) (append-nil (if_name q x (name_in_path x.path)))))

-- one more folder
pub folder_more : (q : List ℕ) (xs : List Folder) (i : ℕ) (x : Folder) (old new : List Candidate) → slice_get xs i ≡ Some x → old ≡ all_named q (files_of (take i xs)) → new ≡ old ++ all_named q (files_in i x) → new ≡ all_named q (files_of (take (i + 1) xs))
folder_more q xs i x old new at before now =
    let size : 0 + length (take i xs) ≡ i = let h : i < length xs = slice_get_within xs i x at in omega (arith, length-take-le i xs (omega arith)) in
    now ∙ ap (λ l. l ++ all_named q (files_in i x)) before
    ∙ sym (ap (λ l. all_named q (files_of l)) (take_next xs i x at) ∙ ap (all_named q) (files_from-append 0 (take i xs) x ∙ ap (λ n. files_from 0 (take i xs) ++ files_in n x) size) ∙ all_named-append q (files_from 0 (take i xs)) (files_in i x))

-- the choice, by the files that are kept for the name
pub chosen_kept : (index : Index) (w : Want) (files : List ListedFile) (rows : List Row) (file : Option ListedFile) → rows ≡ rows_at index w.name → file ≡ option_map (λ (c : Candidate). c.file) (chosen_of w.date (map candidate_of rows)) → ((q : List ℕ) → group_of index q ≡ all_named q files) → file ≡ option_map (λ (c : Candidate). c.file) (choice_of w files)
chosen_kept index w files rows file e is kept =
    is ∙ ap (option_map (λ (c : Candidate). c.file)) (ap (λ l. chosen_of w.date (map candidate_of l)) e ∙ ap (chosen_of w.date) (kept w.name) ∙ sym (chosen_among w files))
