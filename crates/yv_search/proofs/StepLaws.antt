-- What steps of a search do.
use Rattle.std.proofs.Common.{◌≡◌, ◌⊎◌, ◌∙◌, inl, inr, ℕ, suc, arith, List, [], ◌∷◌, ◌++◌, Bool, true, false, cond, not, refl, sym, ap, subst, map, append_assoc, Option, Some, None, if◌then◌else◌}
use Rattle.std.specs.List.{find, Contains}
use Rattle.std.specs.Option.{option_and_then}
use Rattle.std.proofs.lemmas.List.{map-append, append-nil}
use Rattle.std.proofs.lemmas.Option.{same_Some}
use Rattle.std.proofs.lemmas.Bool.{false≢true}
use Rattle.yv_base_streams.specs.Files.{File}
use Rattle.yv_search.specs.Listing.{ListedFile}
use Rattle.yv_search.specs.FileNames.{FileName, name_in_path}
use Rattle.yv_search.specs.Wants.{Want}
use Rattle.yv_search.specs.Choice.{Candidate, choice_of, candidate, candidate_named, better_of, is_better}
use Rattle.yv_search.specs.Search.{State, Shelf, Step, Steps, passed, found, none_yet, onward, next, all_wants, is_settled}
use Rattle.yv_search.specs.FoundFiles.{AreGathered, file_in}
use Rattle.yv_search.specs.SearchLaws.{SeeksOne, FindsOne}

find_passes : {X : Type 0} (p : X → Bool) (xs : List X) (x : X) → find p xs ≡ Some x → p x ≡ true
find_passes p [] x e = absurd (cc)
find_passes {X} p (y ∷ ys) x e = by (p y) refl e (find_passes p ys x)
  where
    by : (b : Bool) → p y ≡ b → cond b (Some y) (find p ys) ≡ Some x → (find p ys ≡ Some x → p x ≡ true) → p x ≡ true
    by true h f later = subst (λ (z : X). p z ≡ true) (same_Some y x f) h
    by false h f later = later f

not_true : (b : Bool) → not b ≡ true → b ≡ false
not_true true e = absurd (false≢true e)
not_true false e = refl

next_fresh : (s : State) (w : Want) → next s ≡ Some w → is_settled s w.name ≡ false
next_fresh s w e = not_true (is_settled s w.name) (find_passes (λ (v : Want). not (is_settled s v.name)) (all_wants s.files) w e)

pub seeks_one : (listing : List ListedFile) (shelf : Shelf) (s t : State) → Step listing shelf s t → SeeksOne s t
seeks_one listing shelf _ _ (passed s w n c) = record { name = w.name; sought = refl; fresh = next_fresh s w n }
seeks_one listing shelf _ _ (found s w c f asks is gives has) = record { name = w.name; sought = refl; fresh = next_fresh s w asks.next }

-- a candidate is the file
candidate_file : (w : Want) (f : ListedFile) (c : Candidate) → candidate w f ≡ Some c → c.file ≡ f
candidate_file w f c = by (name_in_path f.path)
  where
    flag : (b : Bool) (date : Option (List ℕ)) → (if b then Some (record { file = f; date = date }) else None) ≡ Some c → c.file ≡ f
    flag true date e = sym (ap (λ (x : Candidate). x.file) (same_Some (record { file = f; date = date }) c e))
    flag false date e = absurd (cc)

    by : (o : Option FileName) → option_and_then (candidate_named w f) o ≡ Some c → c.file ≡ f
    by None e = absurd (cc)
    by (Some n) e = flag _ n.date e

-- what is taken is one of the two
taken_one : (a b : Option Candidate) (c : Candidate) → better_of a b ≡ Some c → (a ≡ Some c) ⊎ (b ≡ Some c)
taken_one None b c e = inr e
taken_one (Some x) None c e = inl e
taken_one (Some x) (Some y) c e = by (is_better y x) e
  where
    by : (q : Bool) → Some (if q then y else x) ≡ Some c → (Some x ≡ Some c) ⊎ (Some y ≡ Some c)
    by true h = inr h
    by false h = inl h

chosen_listed : (w : Want) (fs : List ListedFile) (c : Candidate) → choice_of w fs ≡ Some c → Contains fs c.file
chosen_listed w [] c e = absurd (cc)
chosen_listed w (f ∷ fs) c e = by (taken_one (candidate w f) (choice_of w fs) c e) (chosen_listed w fs c)
  where
    by : (candidate w f ≡ Some c) ⊎ (choice_of w fs ≡ Some c) → (choice_of w fs ≡ Some c → Contains fs c.file) → Contains (f ∷ fs) c.file
    by (inl h) later = (0, omega arith, sym (candidate_file w f c h))
    by (inr h) later = let r : Contains fs c.file = later h in (suc r.0, omega arith, r.2)

pub finds_one : (listing : List ListedFile) (shelf : Shelf) (s t : State) → Step listing shelf s t → FindsOne listing s t
finds_one listing shelf _ _ (passed s w n c) = inl refl
finds_one listing shelf _ _ (found s w c f asks is gives has) = inr (record { file = f; files = refl; listed = c.file; among = chosen_listed w listing c asks.chosen; name = is })

files_grow : (listing : List ListedFile) (shelf : Shelf) (start s : State) → Steps listing shelf start s → (more : List File) × (map file_in s.files ≡ map file_in start.files ++ more)
files_grow listing shelf start _ none_yet = ([], sym (append-nil (map file_in start.files)))
files_grow listing shelf start _ (onward u v run step) = by u v step (files_grow listing shelf start u run)
  where
    by : (a b : State) → Step listing shelf a b → (more : List File) × (map file_in a.files ≡ map file_in start.files ++ more) → (more : List File) × (map file_in b.files ≡ map file_in start.files ++ more)
    by _ _ (passed a w n c) r = r
    by _ _ (found a w c f asks is gives has) r =
        (r.0 ++ f.file ∷ [], map-append file_in a.files (f ∷ []) ∙ ap (λ l. l ++ f.file ∷ []) r.1 ∙ append_assoc (map file_in start.files) r.0 (f.file ∷ []))

pub named_first : (listing : List ListedFile) (shelf : Shelf) (named files : List File) → AreGathered listing shelf named files → (found : List File) × (files ≡ named ++ found)
named_first listing shelf named files g =
    let way = g.reached in
    let r : (more : List File) × (map file_in g.end.files ≡ map file_in way.start.files ++ more) = files_grow listing shelf way.start g.end way.steps in
    (r.0, g.files_are ∙ r.1 ∙ ap (λ l. l ++ r.0) way.begins.files)
