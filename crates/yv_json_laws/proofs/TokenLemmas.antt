-- What the tokens of a pointer are, and what they stand for.
use Rattle.std.proofs.Common.{◌≡◌, ◌∙◌, ℕ, ◌+◌, ◌/◌, ◌%◌, ◌^◌, ◌<◌, ◌≤◌, ◌==◌, ◌&&◌, ◌||◌, inl, inr, not, List, [], ◌∷◌, ◌++◌, Bool, true, false, cond, refl, sym, ap, arith}
use Rattle.std.specs.Prelude.{decimal}
use Rattle.std.specs.Char.{is_ascii_digit}
use Rattle.std.specs.List.{flat_map, list_all}
use Rattle.std.proofs.lemmas.Bool.{and_parts, cases_lt, cond-false, cond-true}
use Rattle.std.proofs.lemmas.Bool.Decides.{nat_tests}
use Rattle.std.proofs.lemmas.Fmt.{decimal_by_steps, decimal_is_IsNumeral}
use Rattle.serde_json.specs.Data.{Items, Members}
use Rattle.serde_json.specs.Find.{get_item, get_member}
use Rattle.yv_json_lines.specs.Pointer.{pointer_name}
use Rattle.yv_json_laws.specs.Resolution.{escapes, is_escaped, is_index, item_at, member_at, name_of, without_escape, tokens, with_byte}

-- ---- where a token ends

-- no byte of it is `/`
abbrev pub HasNoSlash : List ℕ → Type 0
HasNoSlash [] = Unit {0}
HasNoSlash (b ∷ bs) = ((b == 47) ≡ false) × HasNoSlash bs

-- nothing, or `/` and more
abbrev pub IsPointer : List ℕ → Type 0
IsPointer [] = Unit {0}
IsPointer (b ∷ bs) = b ≡ 47

-- it is one token
pub last_token : (t : List ℕ) → HasNoSlash t → tokens t ≡ t ∷ []
last_token [] h = refl
last_token (b ∷ bs) h = cond-false _ _ _ h.0 ∙ ap (with_byte b) (last_token bs h.1)

-- ---- the token of a name

byte_slash : (tilde slash : Bool) (b : ℕ) (rest : List ℕ) → (b == 47) ≡ slash → HasNoSlash rest
    → HasNoSlash (cond tilde (126 ∷ 48 ∷ []) (cond slash (126 ∷ 49 ∷ []) (b ∷ [])) ++ rest)
byte_slash true slash b rest e h = (refl, (refl, h))
byte_slash false true b rest e h = (refl, (refl, h))
byte_slash false false b rest e h = (e, h)

pub name_slash : (name : List ℕ) → HasNoSlash (pointer_name name)
name_slash [] = tt
name_slash (b ∷ bs) = byte_slash (b == 126) (b == 47) b (pointer_name bs) refl (name_slash bs)

byte_token : (tilde slash : Bool) (b : ℕ) (rest : List ℕ) → (b == 126) ≡ tilde → is_escaped rest ≡ true
    → is_escaped (cond tilde (126 ∷ 48 ∷ []) (cond slash (126 ∷ 49 ∷ []) (b ∷ [])) ++ rest) ≡ true
byte_token true slash b rest e h = h
byte_token false true b rest e h = h
byte_token false false b rest e h = ap (λ (c : Bool). (not c || escapes rest) && is_escaped rest) e ∙ h

name_token : (name : List ℕ) → is_escaped (pointer_name name) ≡ true
name_token [] = refl
name_token (b ∷ bs) = byte_token (b == 126) (b == 47) b (pointer_name bs) refl (name_token bs)

same_number : (a b : ℕ) → (a == b) ≡ true → a ≡ b
same_number a b e = grind (arith, nat_tests)

plain_byte : (digit byte a : ℕ) (text : List ℕ) → (a == 126) ≡ false → without_escape digit byte (a ∷ text) ≡ a ∷ without_escape digit byte text
plain_byte digit byte a [] e = refl
plain_byte digit byte a (b ∷ text) e =
    ap (λ (c : Bool). cond (c && (b == digit)) (byte ∷ without_escape digit byte text) (a ∷ without_escape digit byte (b ∷ text))) e

-- a byte with `~0` for `~` alone
abbrev tilde_byte : ℕ → List ℕ
tilde_byte b = cond (b == 126) (126 ∷ 48 ∷ []) (b ∷ [])

byte_slashes : (tilde slash : Bool) (b : ℕ) (rest more : List ℕ) → (b == 126) ≡ tilde → (b == 47) ≡ slash → without_escape 49 47 rest ≡ more
    → without_escape 49 47 (cond tilde (126 ∷ 48 ∷ []) (cond slash (126 ∷ 49 ∷ []) (b ∷ [])) ++ rest) ≡ cond tilde (126 ∷ 48 ∷ []) (b ∷ []) ++ more
byte_slashes true slash b rest more t s h =
    ap (λ (l : List ℕ). 126 ∷ l) (plain_byte 49 47 48 rest refl ∙ ap (λ (l : List ℕ). 48 ∷ l) h)
byte_slashes false true b rest more t s h =
    ap (λ (l : List ℕ). 47 ∷ l) h ∙ ap (λ (x : ℕ). x ∷ more) (sym (same_number b 47 s))
byte_slashes false false b rest more t s h = plain_byte 49 47 b rest t ∙ ap (λ (l : List ℕ). b ∷ l) h

slashes_back : (name : List ℕ) → without_escape 49 47 (pointer_name name) ≡ flat_map tilde_byte name
slashes_back [] = refl
slashes_back (b ∷ bs) = byte_slashes (b == 126) (b == 47) b (pointer_name bs) (flat_map tilde_byte bs) refl refl (slashes_back bs)

byte_tildes : (tilde : Bool) (b : ℕ) (rest more : List ℕ) → (b == 126) ≡ tilde → without_escape 48 126 rest ≡ more
    → without_escape 48 126 (cond tilde (126 ∷ 48 ∷ []) (b ∷ []) ++ rest) ≡ b ∷ more
byte_tildes true b rest more t h = ap (λ (l : List ℕ). 126 ∷ l) h ∙ ap (λ (x : ℕ). x ∷ more) (sym (same_number b 126 t))
byte_tildes false b rest more t h = plain_byte 48 126 b rest t ∙ ap (λ (l : List ℕ). b ∷ l) h

tildes_back : (name : List ℕ) → without_escape 48 126 (flat_map tilde_byte name) ≡ name
tildes_back [] = refl
tildes_back (b ∷ bs) = byte_tildes (b == 126) b (flat_map tilde_byte bs) bs refl (tildes_back bs)

name_back : (name : List ℕ) → name_of (pointer_name name) ≡ name
name_back name = ap (without_escape 48 126) (slashes_back name) ∙ tildes_back name

-- the token of a name names the member of that name
pub member_back : (name : List ℕ) (ms : Members) → member_at (pointer_name name) ms ≡ get_member name ms
member_back name ms = cond-true _ _ _ (name_token name) ∙ ap (λ (l : List ℕ). get_member l ms) (name_back name)

-- ---- the token of a place in an array

-- digits that write a number: the first is 0 only where the number is
abbrev IsWritten : ℕ → List ℕ → Type 0
IsWritten n [] = ⊥
IsWritten n (b ∷ bs) = (list_all is_ascii_digit (b ∷ bs) ≡ true) × (0 < n → (b == 48) ≡ false) × (n ≡ 0 → bs ≡ [])

digit_passes : (n : ℕ) → n < 10 → is_ascii_digit (48 + n) ≡ true
digit_passes n h = grind (arith, nat_tests)

no_zero : (n : ℕ) → 0 < n → (48 + n == 48) ≡ false
no_zero n h = grind (arith, nat_tests)

both_true : (a b : Bool) → a ≡ true → b ≡ true → (a && b) ≡ true
both_true true b p q = q
both_true false b p q = p

one_digit : (n : ℕ) → n < 10 → IsWritten n ((48 + n) ∷ [])
one_digit n h = (both_true _ true (digit_passes n h) refl, (λ p. no_zero n p), (λ p. refl))

digits_and : (ds : List ℕ) (b : ℕ) → list_all is_ascii_digit ds ≡ true → is_ascii_digit b ≡ true → list_all is_ascii_digit (ds ++ b ∷ []) ≡ true
digits_and [] b p q = both_true (is_ascii_digit b) true q refl
digits_and (d ∷ ds) b p q =
    let parts = and_parts (is_ascii_digit d) (list_all is_ascii_digit ds) p in
    both_true (is_ascii_digit d) (list_all is_ascii_digit (ds ++ b ∷ [])) parts.0 (digits_and ds b parts.1 q)

more_digits : (n : ℕ) (ds : List ℕ) → 10 ≤ n → IsWritten (n / 10) ds → IsWritten n (ds ++ (48 + n % 10) ∷ [])
more_digits n [] h w = absurd w
more_digits n (b ∷ bs) h w =
    let low : n % 10 < 10 = omega arith in
    let high : 0 < n / 10 = omega arith in
    (digits_and (b ∷ bs) (48 + n % 10) w.0 (digit_passes (n % 10) low), (λ p. w.1 high), (λ p. absurd (omega (arith, h, p))))

written : (n : ℕ) → n < 2 ^ 64 → IsWritten n (decimal n)
written n h = decimal_by_steps IsWritten one_digit more_digits n h

written_index : (n : ℕ) (ds : List ℕ) → IsWritten n ds → is_index ds ≡ true
written_index n [] w = absurd w
written_index n (b ∷ []) w = (and_parts (is_ascii_digit b) true w.0).0
written_index n (a ∷ b ∷ bs) w =
    elim (cases_lt 0 n) [
      | inl some ↦ ap (λ (c : Bool). not c && list_all is_ascii_digit (a ∷ b ∷ bs)) (w.1 some) ∙ w.0
      | inr none ↦ let nothing : b ∷ bs ≡ [] = w.2 (omega arith) in absurd (cc)
    ]

digit_slash : (b : ℕ) → is_ascii_digit b ≡ true → (b == 47) ≡ false
digit_slash b e = grind (arith, nat_tests)

digits_slash : (ds : List ℕ) → list_all is_ascii_digit ds ≡ true → HasNoSlash ds
digits_slash [] h = tt
digits_slash (b ∷ bs) h =
    let parts = and_parts (is_ascii_digit b) (list_all is_ascii_digit bs) h in
    (digit_slash b parts.0, digits_slash bs parts.1)

written_slash : (n : ℕ) (ds : List ℕ) → IsWritten n ds → HasNoSlash ds
written_slash n [] w = absurd w
written_slash n (b ∷ bs) w = digits_slash (b ∷ bs) w.0

pub place_slash : (n : ℕ) → n < 2 ^ 64 → HasNoSlash (decimal n)
place_slash n h = written_slash n (decimal n) (written n h)

-- the token of a place names the item at that place
pub item_back : (n : ℕ) (ds : Items) → n < 2 ^ 64 → item_at (decimal n) ds ≡ get_item n ds
item_back n ds h =
    cond-true _ _ _ (written_index n (decimal n) (written n h)) ∙ ap (λ (i : ℕ). get_item i ds) (decimal_is_IsNumeral n h).1
