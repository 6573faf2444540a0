-- Texts character by character, with each run of blanks as one space.
use Rattle.std.proofs.Common.{◌≡◌, ℕ, Bool, true, false, ◌&&◌, List, [], ◌∷◌, ◌++◌, refl, sym, ap, ◌∙◌, append_assoc, append-nil}
use Rattle.std.specs.Prelude.{encode_utf8, encode_utf8_all, if◌then◌else◌}
use Rattle.std.proofs.lemmas.Str.{encodes-append}
use Rattle.yv_text_path.specs.ShownPaths.{is_blank, space_for_blank, single_spaced}

-- the last of these characters, or the one before them, is a blank
abbrev pub ends_blank : Bool → List ℕ → Bool
ends_blank behind [] = behind
ends_blank behind (c ∷ cs) = ends_blank (is_blank c) cs

pub ends_blank-more : (behind : Bool) (cs : List ℕ) (c : ℕ) → ends_blank behind (cs ++ c ∷ []) ≡ is_blank c
ends_blank-more behind [] c = refl
ends_blank-more behind (d ∷ cs) c = ends_blank-more (is_blank d) cs c

-- what one character more adds behind a blank, or behind none
abbrev added_character : Bool → ℕ → List ℕ
added_character behind c = if is_blank c then (if behind then [] else 32 ∷ []) else c ∷ []

single-one : (c : ℕ) → single_spaced (c ∷ []) ≡ added_character false c
single-one c = at (is_blank c)
  where
    at : (t : Bool) → (let none : List ℕ = [] in if t && false then none else (if t then 32 else c) ∷ []) ≡ (if t then 32 ∷ [] else c ∷ [])
    at true = refl
    at false = refl

single-two : (d c : ℕ) → single_spaced (d ∷ c ∷ []) ≡ single_spaced (d ∷ []) ++ added_character (is_blank d) c
single-two d c =
    ap (λ (rest : List ℕ). if is_blank d && is_blank c then rest else space_for_blank d ∷ rest) (single-one c)
    ∙ at (is_blank d) (is_blank c)
    ∙ ap (λ (front : List ℕ). front ++ added_character (is_blank d) c) (sym (single-one d))
  where
    at : (t u : Bool) → (let rest : List ℕ = if u then 32 ∷ [] else c ∷ [] in if t && u then rest else (if t then 32 else d) ∷ rest)
        ≡ (let front : List ℕ = if t then 32 ∷ [] else d ∷ [] in let none : List ℕ = [] in front ++ (if u then (if t then none else 32 ∷ []) else c ∷ []))
    at true true = refl
    at true false = refl
    at false true = refl
    at false false = refl

single-more : (cs : List ℕ) (c : ℕ) → single_spaced (cs ++ c ∷ []) ≡ single_spaced cs ++ added_character (ends_blank false cs) c
single-more [] c = single-one c
single-more (d ∷ []) c = single-two d c
single-more (d ∷ e ∷ cs) c =
    let added = added_character (ends_blank false (e ∷ cs)) c in
    ap (λ (rest : List ℕ). if is_blank d && is_blank e then rest else space_for_blank d ∷ rest) (single-more (e ∷ cs) c)
    ∙ at (is_blank d && is_blank e) (single_spaced (e ∷ cs)) added
  where
    at : (b : Bool) (front back : List ℕ) → (if b then front ++ back else space_for_blank d ∷ (front ++ back)) ≡ (if b then front else space_for_blank d ∷ front) ++ back
    at true front back = refl
    at false front back = refl

-- what is written, where this stands for one character more
abbrev pub written : List ℕ → List ℕ → List ℕ
written start cs = start ++ encode_utf8_all (single_spaced cs)

module _ (start cs : List ℕ) (c : ℕ) (text : List ℕ) (before : text ≡ written start cs) where
  written_more : (stands added : List ℕ) → added_character (ends_blank false cs) c ≡ stands → encode_utf8_all stands ≡ added
      → text ++ added ≡ written start (cs ++ c ∷ [])
  written_more stands added e f =
      let own = single_spaced cs in
      ap (λ (front : List ℕ). front ++ added) before
      ∙ append_assoc start (encode_utf8_all own) added
      ∙ ap (λ rest. start ++ (encode_utf8_all own ++ rest)) (sym f ∙ ap encode_utf8_all (sym e))
      ∙ ap (λ rest. start ++ rest) (sym (encodes-append own (added_character (ends_blank false cs) c)) ∙ ap encode_utf8_all (sym (single-more cs c)))

  -- another character than a blank stands as it is
  pub written_letter : is_blank c ≡ false → text ++ encode_utf8 c ≡ written start (cs ++ c ∷ [])
  written_letter e =
      written_more (c ∷ []) (encode_utf8 c) (ap (λ (t : Bool). if t then (if ends_blank false cs then [] else 32 ∷ []) else c ∷ []) e) (append-nil (encode_utf8 c))

  -- the first blank is a space
  pub written_space : is_blank c ≡ true → ends_blank false cs ≡ false → text ++ encode_utf8 32 ≡ written start (cs ++ c ∷ [])
  written_space e f =
      written_more (32 ∷ []) (encode_utf8 32)
      (ap (λ (t : Bool). if t then (if ends_blank false cs then [] else 32 ∷ []) else c ∷ []) e ∙ ap (λ (t : Bool). let none : List ℕ = [] in if t then none else 32 ∷ []) f)
      (append-nil (encode_utf8 32))

  -- the others are left out
  pub written_nothing : is_blank c ≡ true → ends_blank false cs ≡ true → text ≡ written start (cs ++ c ∷ [])
  written_nothing e f =
      sym (append-nil text)
      ∙ written_more [] []
      (ap (λ (t : Bool). if t then (if ends_blank false cs then [] else 32 ∷ []) else c ∷ []) e ∙ ap (λ (t : Bool). let none : List ℕ = [] in if t then none else 32 ∷ []) f)
      refl
