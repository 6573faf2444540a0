-- Names with their modules, keys and positions.
use Rattle.std.proofs.Common.{◌≡◌, ℕ, suc, ◌+◌, ◌≤◌, ◌==◌, ◌&&◌, ◌||◌, Bool, true, false, not, cond, nat_le, List, [], ◌∷◌, ◌++◌, length, sym, ◌∙◌, ap, refl, arith}
use Rattle.std.specs.List.{All, list_all, list_any, slice_split, onto_first, count_by}
use Rattle.std.proofs.lemmas.Bool.{and_parts, and_from, false≢true, eqb-true}
use Rattle.std.proofs.lemmas.Bool.Decides.{nat_tests}
use Rattle.std.proofs.lemmas.List.Elements.{All-cons}
use Rattle.std.proofs.lemmas.List.Folds.{list_any-append}
use Rattle.std.proofs.lemmas.List.Splits.{length-slice_split, slice_split_at, slice_split_none}
use Rattle.std.proofs.lemmas.List.Sums.{AllPass-from_list_all}
use Rattle.yv_text_if_feature.specs.Bytes.{is_digit}
use Rattle.yv_text_if_feature.specs.Names.{is_identifier, is_name, is_part, is_start}
use Rattle.yv_text_path.specs.Pieces.{is_word_byte}
use Rattle.yv_text_path.proofs.PartsRead.{IsWord}
use Rattle.yv_text_path.proofs.PartsRead as leading
use Rattle.yv_text_instance.specs.QualifiedNames.{IsQualifiedName, qualified}
use Rattle.yv_text_instance.specs.Predicates.{is_position}
use Rattle.yv_text_instance.specs.InnerStates.{is_qualified_name}

abbrev is_colon : ℕ → Bool
is_colon b = b == 58

-- no byte of the text is a colon
abbrev NoColon : List ℕ → Type 0
NoColon bs = All (λ b. is_colon b ≡ false) bs

-- ### texts with and without a colon

part_no_colon : (b : ℕ) → is_part b ≡ true → is_colon b ≡ false
part_no_colon b h = grind (arith, nat_tests)

start_is_part : (b : ℕ) → is_start b ≡ true → is_part b ≡ true
start_is_part b h = rw h refl

identifier_parts : (w : List ℕ) → is_identifier w ≡ true → list_all is_part w ≡ true
identifier_parts [] h = absurd (false≢true h)
identifier_parts (b ∷ bs) h = let p = and_parts _ _ h in and_from _ _ (start_is_part b p.0) p.1

identifier_no_colon : (w : List ℕ) → is_identifier w ≡ true → NoColon w
identifier_no_colon w h k d lt = part_no_colon _ (AllPass-from_list_all is_part w (identifier_parts w h) k d lt)

none_is_colon : (w : List ℕ) → list_any is_colon w ≡ false → NoColon w
none_is_colon [] h = λ k d lt. absurd (omega arith)
none_is_colon (b ∷ bs) h =
    let p = neither (is_colon b) (list_any is_colon bs) h in
    All-cons (λ b. is_colon b ≡ false) b bs p.0 (none_is_colon bs p.1)
  where
    neither : (t u : Bool) → (t || u) ≡ false → (t ≡ false) × (u ≡ false)
    neither true u h = absurd (false≢true (sym h))
    neither false u h = (refl, h)

-- a text in two at its first colon
record Halves (w : List ℕ) : Type 0 where
  owner : List ℕ
  name : List ℕ
  first : NoColon owner
  same : w ≡ owner ++ 58 ∷ name

halves : (w : List ℕ) → list_any is_colon w ≡ true → Halves w
halves [] h = absurd (false≢true h)
halves (b ∷ bs) h =
    let P : Bool → Type 0 = λ t. is_colon b ≡ t → (t || list_any is_colon bs) ≡ true → Halves (b ∷ bs) in
    let at : (t : Bool) → P t = λ t. elim t as P [
      | true ↦ λ e k. record { owner = []; name = bs; first = λ n d lt. absurd (omega arith); same = ap (λ (c : ℕ). c ∷ bs) (eqb-true b 58 e) }
      | false ↦ λ e k.
          let rest = halves bs k in
          record { owner = b ∷ rest.owner; name = rest.name; first = All-cons (λ b. is_colon b ≡ false) b rest.owner e rest.first; same = ap (λ (x : List ℕ). b ∷ x) rest.same }
    ] in
    at (is_colon b) refl h

-- ### names with a colon

at_most_one : (n : ℕ) → n + 1 ≡ 2 → nat_le n 1 ≡ true
at_most_one n e = grind (arith, nat_tests)

is_at_most_one : (n : ℕ) → nat_le n 1 ≡ true → n ≤ 1
is_at_most_one n e = grind (arith, nat_tests)

two_parts : (owner name : List ℕ) → NoColon owner → NoColon name → slice_split is_colon (owner ++ 58 ∷ name) ≡ owner ∷ name ∷ []
two_parts owner name f g = slice_split_at is_colon owner 58 name f refl ∙ ap (λ (ps : List (List ℕ)). owner ∷ ps) (slice_split_none is_colon name g)

named : (owner name : List ℕ) → is_identifier owner ≡ true → is_identifier name ≡ true → is_name (owner ++ 58 ∷ name) ≡ true
unfolding is_name
named owner name h k =
    let text = owner ++ 58 ∷ name in
    let parts = two_parts owner name (identifier_no_colon owner h) (identifier_no_colon name k) in
    let number : count_by is_colon text + 1 ≡ 2 = sym (length-slice_split is_colon text) ∙ ap length parts in
    and_from _ _ (at_most_one (count_by is_colon text) number) (ap (list_all is_identifier) parts ∙ and_from _ _ h (and_from _ _ k refl))

has_colon : (owner name : List ℕ) → list_any is_colon (owner ++ 58 ∷ name) ≡ true
has_colon owner name = list_any-append is_colon owner (58 ∷ name) ∙ last (list_any is_colon owner)
  where
    last : (t : Bool) → (t || true) ≡ true
    last true = refl
    last false = refl

pub qualified_word : {w : List ℕ} → IsQualifiedName w → is_qualified_name w ≡ true
qualified_word (qualified owner name h k same) = ap is_qualified_name same ∙ and_from _ _ (named owner name h k) (has_colon owner name)

-- the second half of a name has no colon
no_more : (owner name : List ℕ) → NoColon owner → is_name (owner ++ 58 ∷ name) ≡ true → list_any is_colon name ≡ false
unfolding is_name
no_more owner name f h =
    let P : Bool → Type 0 = λ t. list_any is_colon name ≡ t → t ≡ false in
    let at : (t : Bool) → P t = λ t. elim t as P [
      | true ↦ λ e.
          let rest = halves name e in
          let text = owner ++ 58 ∷ name in
          let parts : slice_split is_colon text ≡ owner ∷ rest.owner ∷ slice_split is_colon rest.name =
          slice_split_at is_colon owner 58 name f refl
          ∙ ap (λ (x : List ℕ). owner ∷ slice_split is_colon x) rest.same
          ∙ ap (λ (ps : List (List ℕ)). owner ∷ ps) (slice_split_at is_colon rest.owner 58 rest.name rest.first refl) in
          let number = sym (length-slice_split is_colon text) ∙ ap length parts in
          let last = length-slice_split is_colon rest.name in
          let most = is_at_most_one (count_by is_colon text) (and_parts _ _ h).0 in
          absurd (too_many (count_by is_colon text) (length (slice_split is_colon rest.name)) (count_by is_colon rest.name) number last most)
      | false ↦ λ e. refl
    ] in
    at (list_any is_colon name) refl
  where
    too_many : (n m k : ℕ) → n + 1 ≡ suc (suc m) → m ≡ k + 1 → n ≤ 1 → ⊥
    too_many n m k e f g = omega arith

halves_are : (owner name : List ℕ) → NoColon owner → is_name (owner ++ 58 ∷ name) ≡ true → (is_identifier owner ≡ true) × (is_identifier name ≡ true)
unfolding is_name
halves_are owner name f h =
    let parts = two_parts owner name f (none_is_colon name (no_more owner name f h)) in
    let each = sym (ap (list_all is_identifier) parts) ∙ (and_parts _ _ h).1 in
    let p = and_parts (is_identifier owner) _ each in
    (p.0, (and_parts (is_identifier name) _ p.1).0)

pub word_qualified : (w : List ℕ) → is_qualified_name w ≡ true → IsQualifiedName w
word_qualified w h =
    let p = and_parts _ _ h in
    let half = halves w p.1 in
    let are = halves_are half.owner half.name half.first (sym (ap is_name half.same) ∙ p.0) in
    qualified half.owner half.name are.0 are.1 half.same

-- ### positions

pub position_is_word : (w : List ℕ) → is_position w ≡ true → IsWord w
position_is_word [] h = absurd (false≢true h)
position_is_word (b ∷ bs) h =
    let p = and_parts _ _ h in
    leading.bytes (and_from _ _ (digit_word b (and_parts _ _ p.0).0) (digits_word bs p.1))
  where
    digit_word : (b : ℕ) → is_digit b ≡ true → is_word_byte b ≡ true
    digit_word b h = grind (arith, nat_tests)

    digits_word : (bs : List ℕ) → list_all is_digit bs ≡ true → list_all is_word_byte bs ≡ true
    digits_word [] h = refl
    digits_word (b ∷ bs) h = let p = and_parts _ _ h in and_from _ _ (digit_word b p.0) (digits_word bs p.1)

-- a name begins with a letter or `_`
name_start : (b : ℕ) (bs : List ℕ) → is_name (b ∷ bs) ≡ true → is_start b ≡ true
unfolding is_name
name_start b bs h =
    let P : Bool → Type 0 = λ t. list_all is_identifier (cond t ([] ∷ slice_split is_colon bs) (onto_first b (slice_split is_colon bs))) ≡ true → is_start b ≡ true in
    let at : (t : Bool) → P t = λ t. elim t as P [ true ↦ λ k. absurd (false≢true k) | false ↦ λ k. begins (slice_split is_colon bs) k ] in
    at (is_colon b) (and_parts _ _ h).1
  where
    begins : (ps : List (List ℕ)) → list_all is_identifier (onto_first b ps) ≡ true → is_start b ≡ true
    begins [] k = (and_parts (is_start b) _ (and_parts (is_identifier (b ∷ [])) _ k).0).0
    begins (p ∷ ps) k = (and_parts (is_start b) _ (and_parts (is_identifier (b ∷ p)) _ k).0).0

-- so no name is a position
pub name_no_position : (w : List ℕ) → is_name w ≡ true → is_position w ≡ false
name_no_position [] h = refl
name_no_position (b ∷ bs) h = first (is_digit b) (not (b == 48)) (list_all is_digit bs) (no_digit b (name_start b bs h))
  where
    no_digit : (b : ℕ) → is_start b ≡ true → is_digit b ≡ false
    no_digit b h = grind (arith, nat_tests)

    first : (t u v : Bool) → t ≡ false → ((t && u) && v) ≡ false
    first true u v e = absurd (false≢true (sym e))
    first false u v e = refl
