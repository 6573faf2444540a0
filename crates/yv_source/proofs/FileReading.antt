-- How far files are read, file by file.
use Rattle.std.proofs.Common.{◌≡◌, ℕ, zero, suc, ◌<◌, ◌≤◌, ◌+◌, List, [], ◌∷◌, ◌++◌, length, length-append, add-one, map, get_or, take, Result, Ok, Err, subst, sym, ap, refl, arith, take_all, Some, inl, inr}
use Rattle.std.specs.List.{AllZip, slice_get}
use Rattle.std.proofs.lemmas.Option.{slice_get_within}
use Rattle.yv_text_statement.specs.Tree.{Tree}
use Rattle.yv_text_statement.specs.declared.refusal.Refusal.{Refusal}
use Rattle.yv_source.specs.Answer.{IsBadFile, IsSpelled, IsRefused}
use Rattle.yv_base_streams.specs.Files.{File}
use Rattle.yv_source.specs.Texts.{IsText, IsNoText, SpellsNone}
use Rattle.yv_source.specs.FileStatements.{IsRead, IsUnreadAt, in_file}

abbrev pub error_of : {A E : Type 0} → E → Result A E → E
error_of d (Ok x) = d
error_of d (Err e) = e

-- an error, as an answer of a kind
abbrev pub failed : (A E : Type 0) → E → Result A E
failed A E e = Err e

-- one error in answers of two kinds
pub err_again : {A B E : Type 0} (x y : E) → failed A E x ≡ failed A E y → failed B E x ≡ failed B E y
err_again {A} {B} {E} x y e = ap (failed B E) (ap (error_of x) e)

module _ {A B : Type 0} (R : A → B → Type 0) where
  -- fronts of one length agree where the wholes do
  pub zip_take : (n : ℕ) (xs : List A) (ys : List B) → AllZip R xs ys → AllZip R (take n xs) (take n ys)
  zip_take zero xs ys h = tt
  zip_take (suc n) [] [] h = tt
  zip_take (suc n) [] (y ∷ ys) h = absurd h
  zip_take (suc n) (x ∷ xs) [] h = absurd h
  zip_take (suc n) (x ∷ xs) (y ∷ ys) h = (h.0, zip_take n xs ys h.1)

  -- what stands at a place of the second list has its like in the first
  pub zip_at : (xs : List A) (ys : List B) (n : ℕ) (y : B) → AllZip R xs ys → slice_get ys n ≡ Some y → (x : A) × (slice_get xs n ≡ Some x) × R x y
  zip_at [] [] n y h at = cc
  zip_at [] (z ∷ ys) n y h at = absurd h
  zip_at (x ∷ xs) [] n y h at = absurd h
  zip_at (x ∷ xs) (z ∷ ys) zero y h at = let same : z ≡ y = cc in (x, refl, subst (R x) same h.0)
  zip_at (x ∷ xs) (z ∷ ys) (suc n) y h at = zip_at xs ys n y h.1 at

  -- one more of each
  pub zip_push : (xs : List A) (ys : List B) (n : ℕ) (x : A) (y : B) → slice_get xs n ≡ Some x → AllZip R (take n xs) ys → R x y → AllZip R (take (suc n) xs) (ys ++ y ∷ [])
  zip_push [] ys n x y at h r = cc
  zip_push (z ∷ xs) [] zero x y at h r = let same : z ≡ x = cc in (subst (λ a. R a y) (sym same) r, tt)
  zip_push (z ∷ xs) (w ∷ ys) zero x y at h r = absurd h
  zip_push (z ∷ xs) [] (suc n) x y at h r = absurd h
  zip_push (z ∷ xs) (w ∷ ys) (suc n) x y at h r = (h.0, zip_push xs ys n x y at h.1 r)

pub take_take : {A : Type 0} (n m : ℕ) (xs : List A) → n ≤ m → take n (take m xs) ≡ take n xs
take_take zero m xs h = refl
take_take (suc n) zero xs h = absurd (omega (arith, h))
take_take (suc n) (suc m) [] h = refl
take_take (suc n) (suc m) (x ∷ xs) h = ap (λ ys. x ∷ ys) (take_take n m xs (omega (arith, h)))

-- what stands in a front stands in the whole
pub get_take : {A : Type 0} (m n : ℕ) (xs : List A) (x : A) → slice_get (take m xs) n ≡ Some x → slice_get xs n ≡ Some x
get_take zero n xs x h = cc
get_take (suc m) n [] x h = h
get_take (suc m) zero (y ∷ xs) x h = h
get_take (suc m) (suc n) (y ∷ xs) x h = get_take m n xs x h

-- files whose texts spell statements are read
pub zip_both : (fs : List File) (ss : List (List ℕ)) (ts : List Tree) → AllZip IsText fs ss → AllZip IsSpelled ss ts → AllZip IsRead fs ts
zip_both [] [] [] p q = tt
zip_both [] [] (t ∷ ts) p q = absurd q
zip_both [] (s ∷ ss) ts p q = absurd p
zip_both (f ∷ fs) [] ts p q = absurd p
zip_both (f ∷ fs) (s ∷ ss) [] p q = absurd q
zip_both (f ∷ fs) (s ∷ ss) (t ∷ ts) p q = ((p.0.0, subst (λ text. IsSpelled text t) p.0.1 q.0), zip_both fs ss ts p.1 q.1)

-- the text of a file spells no statement
pub none_spelled : (files : List File) (ss : List (List ℕ)) (r : Refusal) → AllZip IsText (take (length ss) files) ss → SpellsNone ss r → IsUnreadAt files r
none_spelled files ss r each none =
    let m : ℕ = length ss in
    let n : ℕ = none.number in
    let within : n < m = slice_get_within ss n none.text none.at in
    let f = zip_at IsText (take m files) ss n none.text each none.at in
    let at : slice_get files n ≡ Some f.0 = get_take m n files f.0 f.1 in
    let front : AllZip IsText (take n files) (take n ss) =
    subst (λ fs. AllZip IsText fs (take n ss)) (take_take n m files (omega (arith, within))) (zip_take IsText n (take m files) ss each) in
    record {
      number = n;
      before = none.before;
      read = zip_both (take n files) (take n ss) none.before front none.spelled;
      file = f.0;
      at = at;
      own = none.own;
      unread = inr (f.2.0, subst (λ text. IsRefused text none.own) f.2.1 none.refused);
      placed = none.placed;
    }

-- the bytes of a file are no text
pub no_text : (files : List File) (ss : List (List ℕ)) (ts : List Tree) (r : Refusal) → AllZip IsText (take (length ss) files) ss → AllZip IsSpelled ss ts
    → IsNoText files (length ss) r → IsUnreadAt files r
no_text files ss ts r each spelled none = record {
  number = length ss;
  before = ts;
  read = zip_both (take (length ss) files) ss ts each spelled;
  file = none.file;
  at = none.at;
  own = none.own;
  unread = inl none.bad;
  placed = none.placed;
}

-- every file is read
pub all_read : (files : List File) (ss : List (List ℕ)) (ts : List Tree) → length ss ≡ length files → AllZip IsText (take (length ss) files) ss → AllZip IsSpelled ss ts → AllZip IsRead files ts
all_read files ss ts whole each spelled =
    subst (λ fs. AllZip IsRead fs ts) (take_all (length ss) files (omega (arith, whole))) (zip_both (take (length ss) files) ss ts each spelled)

-- what a view shows at a place
pub get_view : {X Y : Type 0} (view : X → Y) (xs : List X) (i : ℕ) (x : X) → i < length xs → x ≡ get_or xs i x → slice_get (map view xs) i ≡ Some (view x)
get_view view [] i x h is = absurd (omega (arith, h))
get_view view (y ∷ xs) zero x h is = ap (λ z. Some (view z)) (sym is)
get_view view (y ∷ xs) (suc i) x h is = get_view view xs i x (omega (arith, h)) is

-- one more text
pub texts_more : (files : List File) (ss new : List (List ℕ)) (n : ℕ) (f : File) (s : List ℕ) → slice_get files n ≡ Some f → IsText f s → new ≡ ss ++ s ∷ []
    → (length ss ≡ n) × AllZip IsText (take n files) ss → (length new ≡ n + 1) × AllZip IsText (take (n + 1) files) new
texts_more files ss new n f s at own is so_far =
    let long : length new ≡ n + 1 = omega (arith, ap length is, length-append ss (s ∷ []), so_far.0) in
    let more : AllZip IsText (take (suc n) files) (ss ++ s ∷ []) = zip_push IsText files ss n f s at so_far.1 own in
    (long, subst (λ xs. AllZip IsText (take (n + 1) files) xs) (sym is) (rw add-one more))

-- the next file is no text
pub texts_end : (files : List File) (ss : List (List ℕ)) (n : ℕ) (f : File) (own r : Refusal) → slice_get files n ≡ Some f → IsBadFile f.bytes own → r ≡ in_file n own
    → (length ss ≡ n) × AllZip IsText (take n files) ss → AllZip IsText (take (length ss) files) ss × IsNoText files (length ss) r
texts_end files ss n f own r at bad placed so_far =
    let none : IsNoText files n r = record { file = f; at = at; own = own; bad = bad; placed = placed } in
    (subst (λ k. AllZip IsText (take k files) ss) (sym so_far.0) so_far.1, subst (λ k. IsNoText files k r) (sym so_far.0) none)

-- one more statement
pub statements_more : (ss : List (List ℕ)) (ts new : List Tree) (n : ℕ) (s : List ℕ) (t : Tree) → slice_get ss n ≡ Some s → IsSpelled s t → new ≡ ts ++ t ∷ []
    → AllZip IsSpelled (take n ss) ts → AllZip IsSpelled (take (n + 1) ss) new
statements_more ss ts new n s t at own is so_far =
    let more : AllZip IsSpelled (take (suc n) ss) (ts ++ t ∷ []) = zip_push IsSpelled ss ts n s t at so_far own in
    subst (λ xs. AllZip IsSpelled (take (n + 1) ss) xs) (sym is) (rw add-one more)
