-- The documents of names, one after the other.
use Rattle.std.proofs.Common.{◌≡◌, ◌≤◌, ◌<◌, ◌∙◌, ℕ, ◌+◌, ◌&&◌, Bool, true, false, cond, List, [], ◌∷◌, length, take, refl, sym, ap, arith, leb-true, leb-false}
use Rattle.std.specs.Prelude.{nat_le}
use Rattle.std.specs.Str.{is_utf8, IsUtf8}
use Rattle.std.specs.declared.option.Option.{Option}
use Rattle.std.specs.declared.option.Option.TheVariants.{None, Some}
use Rattle.std.proofs.lemmas.Str.{IsUtf8-from_is_utf8, is_utf8-from_IsUtf8}
use Rattle.std.proofs.lemmas.List.{length-take-le, take_all}
use Rattle.yv_batch.specs.AskedDocument.{AskedDocument, asked_of, ReadResult, reading_of, Unread}
use Rattle.yv_batch.specs.FileStore.{StayKnown, Tells}
use Rattle.yv_batch.specs.NameDocuments.{file_of_name, name_asked, names_asked}
use Rattle.yv_batch.specs.NamesLeft.{names_left}
use Rattle.yv_batch.specs.Pieces.{pieces, TakesPiece}
use Rattle.yv_batch.specs.InnerNames.{IsFetched, IsNamed}
use Rattle.yv_batch.specs.InnerPieces.{IsEnd}
use Rattle.yv_batch.specs.InnerSupply.{IsSame}
use Rattle.yv_batch.specs.Supply.{Takes}
use Rattle.yv_batch.specs.declared.documents.Fetched.{Fetched}
use Rattle.yv_batch.proofs.PieceLemmas.{none_passed}

-- ---- what is had of the file of a name

is_not_utf8 : (name : List ℕ) (b : Bool) → is_utf8 name ≡ b → (IsUtf8 name → ⊥) → b ≡ false
is_not_utf8 name true e h = absurd (h (IsUtf8-from_is_utf8 name e))
is_not_utf8 name false e h = refl

unread_name : (known : Option (List ℕ → ReadResult)) (name : List ℕ) → ((files : List ℕ → ReadResult) → file_of_name files name ≡ Unread) → IsFetched known known name Unread
unread_name None name h = tt
unread_name (Some files) name h = (refl, sym (h files))

too_long : (n : ℕ) (files : List ℕ → ReadResult) (name : List ℕ) → nat_le (length name) n ≡ false → cond (nat_le (length name) n && is_utf8 name) (files name) Unread ≡ Unread
too_long n files name e = ap (λ (b : Bool). cond (b && is_utf8 name) (files name) Unread) e

past : (n m : ℕ) → n < m → nat_le m n ≡ false
past n m lt = grind (arith, leb-false, leb-true)

within : (n m : ℕ) → m ≤ n → nat_le m n ≡ true
within n m le = grind (arith, leb-false, leb-true)

-- one that is too long
pub long_name : (known : Option (List ℕ → ReadResult)) (name : List ℕ) → 4095 < length name → IsFetched known known name Unread
long_name known name lt = unread_name known name (λ files. too_long 4095 files name (past 4095 (length name) lt))

and_false : (b : Bool) → (b && false) ≡ false
and_false true = refl
and_false false = refl

-- one that isn't UTF-8
pub other_name : (known : Option (List ℕ → ReadResult)) (name : List ℕ) → (IsUtf8 name → ⊥) → IsFetched known known name Unread
other_name known name h = unread_name known name (λ files.
    ap (λ (b : Bool). cond (nat_le (length name) 4095 && b) (files name) Unread) (is_not_utf8 name (is_utf8 name) refl h)
    ∙ ap (λ (b : Bool). cond b (files name) Unread) (and_false (nat_le (length name) 4095)))

file_here : (n : ℕ) (files : List ℕ → ReadResult) (name : List ℕ) → nat_le (length name) n ≡ true → is_utf8 name ≡ true → cond (nat_le (length name) n && is_utf8 name) (files name) Unread ≡ files name
file_here n files name le utf8 =
    ap (λ (b : Bool). cond (b && is_utf8 name) (files name) Unread) le ∙ ap (λ (b : Bool). cond b (files name) Unread) utf8

-- one whose file was fetched, by the bytes of the text that it is
pub text_name : (old new : Option (List ℕ → ReadResult)) (name text : List ℕ) (got : ReadResult) → length name ≤ 4095 → IsUtf8 name → text ≡ name → Tells old new text got → IsFetched old new name got
text_name None new name text got le utf8 same h = tt
text_name (Some files) None name text got le utf8 same h = h
text_name (Some files) (Some others) name text got le utf8 same h =
    (h.0, h.1 ∙ ap files same ∙ sym (file_here 4095 files name (within 4095 (length name) le) (is_utf8-from_IsUtf8 name utf8)))

-- ---- by the first bytes of a name

front_at : (n : ℕ) (files : List ℕ → ReadResult) (name : List ℕ) (b : Bool) → nat_le (length name) n ≡ b
    → cond (nat_le (length (take (n + 1) name)) n && is_utf8 (take (n + 1) name)) (files (take (n + 1) name)) Unread ≡ cond (nat_le (length name) n && is_utf8 name) (files name) Unread
front_at n files name true e =
    let le : length name ≤ n = leb-true (length name) n e in
    ap (λ (l : List ℕ). cond (nat_le (length l) n && is_utf8 l) (files l) Unread) (take_all (n + 1) name (omega (arith, le)))
front_at n files name false e =
    let lt : n < length name = omega (arith, leb-false (length name) n e) in
    let long : length (take (n + 1) name) ≡ n + 1 = length-take-le (n + 1) name (omega (arith, lt)) in
    too_long n files (take (n + 1) name) (ap (λ (m : ℕ). nat_le m n) long ∙ past n (n + 1) (omega arith)) ∙ sym (too_long n files name e)

file_front : (files : List ℕ → ReadResult) (name : List ℕ) → file_of_name files (take 4096 name) ≡ file_of_name files name
file_front files name = front_at 4095 files name (nat_le (length name) 4095) refl

-- ---- the documents that are left

named : (files : List ℕ → ReadResult) (name front : List ℕ) (f : Fetched) → front ≡ take 4096 name → f.line ≡ None → reading_of f.content ≡ file_of_name files front → name_asked files name ≡ asked_of front f
named files name front f first line file =
    let same : file_of_name files name ≡ reading_of f.content = sym (file ∙ ap (file_of_name files) first ∙ file_front files name) in
    ap (λ (n : List ℕ). record { name = n; line = None; fetched = file_of_name files name }) (sym first)
    ∙ ap (λ (l : Option ℕ). record { name = front; line = l; fetched = file_of_name files name }) (sym line)
    ∙ ap (λ (r : ReadResult). record { name = front; line = f.line; fetched = r }) same

first_name : (files : List ℕ → ReadResult) (name front : List ℕ) (more : List (List ℕ)) (f : Fetched) → (front ≡ [] → ⊥) → front ≡ take 4096 name → f.line ≡ None → reading_of f.content ≡ file_of_name files front
    → names_asked files (name ∷ more) ≡ asked_of front f ∷ names_asked files more
first_name files [] front more f some first line file = absurd (some first)
first_name files (x ∷ xs) front more f some first line file = ap (λ (d : AskedDocument). d ∷ names_asked files more) (named files (x ∷ xs) front f first line file)

pub name_read : (end : ℕ) (is_lost : Bool) (old new : Option (List ℕ → ReadResult)) (a b : Option (List ℕ)) (front : List ℕ) (f : Fetched) → TakesPiece end 4096 a b front → (front ≡ [] → ⊥) → IsNamed old new front f
    → Takes (names_left end is_lost old a) (names_left end is_lost new b) (Some (asked_of front f))
name_read end true old new a b front f takes some is = tt
name_read end false None new a b front f takes some is = tt
name_read end false (Some files) new None b front f takes some is = tt
name_read end false (Some files) new (Some xs) None front f takes some is = absurd takes.passes
name_read end false (Some files) None (Some xs) (Some ys) front f takes some is = is.file
name_read end false (Some files) (Some others) (Some xs) (Some ys) front f takes some is =
    ap (names_asked files) takes.passes
    ∙ first_name files takes.piece front (pieces end ys) f some takes.first is.line is.file.1
    ∙ ap (λ (g : List ℕ → ReadResult). asked_of front f ∷ names_asked g (pieces end ys)) (sym is.file.0)

no_name : (files : List ℕ → ReadResult) (name : List ℕ) (more : List (List ℕ)) → name ≡ [] → names_asked files (name ∷ more) ≡ names_asked files more
no_name files name more none = ap (λ (l : List ℕ). names_asked files (l ∷ more)) none

pub name_passed : (end : ℕ) (is_lost : Bool) (files : Option (List ℕ → ReadResult)) (a b : Option (List ℕ)) (front : List ℕ) → TakesPiece end 4096 a b front → front ≡ []
    → IsSame (names_left end is_lost files a) (names_left end is_lost files b)
name_passed end true files a b front takes none = tt
name_passed end false None a b front takes none = tt
name_passed end false (Some files) None b front takes none = tt
name_passed end false (Some files) (Some xs) None front takes none = absurd takes.passes
name_passed end false (Some files) (Some xs) (Some ys) front takes none =
    ap (names_asked files) takes.passes ∙ no_name files takes.piece (pieces end ys) (none_passed 4096 takes.piece (omega arith) (sym takes.first ∙ none))

pub names_ended : (end : ℕ) (is_lost : Bool) (files : Option (List ℕ → ReadResult)) (a b : Option (List ℕ)) → IsEnd a b → Takes (names_left end is_lost files a) (names_left end is_lost files b) None
names_ended end true files a b h = tt
names_ended end false None a b h = tt
names_ended end false (Some files) None b h = tt
names_ended end false (Some files) (Some xs) None h = absurd h.1
names_ended end false (Some files) (Some xs) (Some ys) h =
    (ap (λ (l : List ℕ). names_asked files (pieces end l)) h.0, ap (λ (l : List ℕ). names_asked files (pieces end l)) (h.1 ∙ h.0))

-- ---- the files that are known

pub stay_same : (a b : Option (List ℕ → ReadResult)) (o : Option Fetched) → b ≡ a → StayKnown a b o
stay_same None b o e = tt
stay_same (Some f) None o e = absurd (cc e)
stay_same (Some f) (Some g) o e = some_same g f e
  where
    some_same : (g f : List ℕ → ReadResult) → Some g ≡ Some f → g ≡ f
    some_same g f e = cc e

pub stay_named : (a b : Option (List ℕ → ReadResult)) (name : List ℕ) (d : Fetched) → IsNamed a b name d → StayKnown a b (Some d)
stay_named None b name d h = tt
stay_named (Some f) None name d h = h.file
stay_named (Some f) (Some g) name d h = h.file.0
