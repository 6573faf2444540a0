-- Parts that were cut one by one.
use Rattle.std.proofs.Common.{◌≡◌, ◌∙◌, ℕ, ◌+◌, ◌-◌, ◌<◌, ◌≤◌, List, [], ◌∷◌, ◌++◌, Bor, All, length, map, get_or, take, drop, refl, sym, ap, subst, add-one}
use Rattle.std.proofs.Math.Seq.{drop-cons}
use Rattle.std.proofs.lemmas.List.{get_or-map, length-map, map_push, take_more, take-append-drop}
use Rattle.yv_call.specs.Parts.{ArePartsFrom}

-- where the last part ends
abbrev pub last_end : (place : ℕ) → (ends : List ℕ) → ℕ
last_end place [] = place
last_end place (end ∷ ends) = last_end end ends

-- one more part
pub part_more : (place : ℕ) (bytes ends : List ℕ) (parts : List (List ℕ)) (end : ℕ) (part : List ℕ)
    → ArePartsFrom place bytes ends parts → last_end place ends ≤ end → end ≤ length bytes
    → part ≡ take (end - last_end place ends) (drop (last_end place ends) bytes)
    → ArePartsFrom place bytes (ends ++ end ∷ []) (parts ++ part ∷ [])
part_more place bytes [] [] end part are rises within is = (rises, within, is, refl)
part_more place bytes [] (p ∷ parts) end part are rises within is = absurd (cc)
part_more place bytes (e ∷ ends) [] end part are rises within is = absurd are
part_more place bytes (e ∷ ends) (p ∷ parts) end part are rises within is =
    (are.0, are.1, are.2, part_more e bytes ends parts end part are.3 rises within is)

-- where parts are cut, the next end neither falls nor lies past the bytes
pub part_next : (place : ℕ) (bytes ends : List ℕ) (end : ℕ) (rest : List ℕ) (parts : List (List ℕ))
    → ArePartsFrom place bytes (ends ++ end ∷ rest) parts
    → (last_end place ends ≤ end) × (end ≤ length bytes)
part_next place bytes [] end rest [] are = absurd are
part_next place bytes [] end rest (p ∷ parts) are = (are.0, are.1)
part_next place bytes (e ∷ ends) end rest [] are = absurd are
part_next place bytes (e ∷ ends) end rest (p ∷ parts) are =
    part_next e bytes ends end rest parts are.3

pub last_more : (place : ℕ) (ends : List ℕ) (end : ℕ) → last_end place (ends ++ end ∷ []) ≡ end
last_more place [] end = refl
last_more place (e ∷ ends) end = last_more e ends end

-- the ends before a place, that at it, and those after it
split_at : (ends : List ℕ) (i : ℕ) → i < length ends
    → ends ≡ take i ends ++ get_or ends i 0 ∷ drop (i + 1) ends
split_at ends i within =
    sym (take-append-drop i ends)
    ∙ ap (λ l. take i ends ++ l) (drop-cons ends i 0 within)
    ∙ ap (λ n. take i ends ++ get_or ends i 0 ∷ drop n ends) (sym (add-one i))

-- the next end falls, or lies past the bytes
pub no_parts : (bytes ends : List ℕ) (i start : ℕ) → i < length ends
    → start ≡ last_end 0 (take i ends)
    → ((start ≤ get_or ends i 0) × (get_or ends i 0 ≤ length bytes) → ⊥)
    → (parts : List (List ℕ)) → ArePartsFrom 0 bytes ends parts → ⊥
no_parts bytes ends i start within last bad parts are =
    let cut = subst (λ es. ArePartsFrom 0 bytes es parts) (split_at ends i within) are in
    let next = part_next 0 bytes (take i ends) (get_or ends i 0) (drop (i + 1) ends) parts cut in
    bad (subst (λ n. n ≤ get_or ends i 0) (sym last) next.0, next.1)

-- one more part was cut
pub parts_more : (bytes ends : List ℕ) (i start : ℕ) (old new : List (Bor (List ℕ)))
    (part : Bor (List ℕ)) → i < length ends → start ≡ last_end 0 (take i ends)
    → ArePartsFrom 0 bytes (take i ends) (map (λ p. p.now) old)
    → start ≤ get_or ends i 0 → get_or ends i 0 ≤ length bytes
    → part.now ≡ take (get_or ends i 0 - start) (drop start bytes) → new ≡ old ++ part ∷ []
    → ArePartsFrom 0 bytes (take (i + 1) ends) (map (λ p. p.now) new)
parts_more bytes ends i start old new part within last are rises fits is more =
    let end = get_or ends i 0 in
    let parts = map (λ (p : Bor (List ℕ)). p.now) old in
    let next : ArePartsFrom 0 bytes (take i ends ++ end ∷ []) (parts ++ part.now ∷ []) =
    part_more 0 bytes (take i ends) parts end part.now are
    (subst (λ n. n ≤ end) last rises) fits
    (is ∙ ap (λ n. take (end - n) (drop n bytes)) last) in
    subst (λ es. ArePartsFrom 0 bytes es (map (λ p. p.now) new)) (sym (take_more ends i 0 within))
    (subst (λ ps. ArePartsFrom 0 bytes (take i ends ++ end ∷ []) ps)
    (sym (ap (map (λ p. p.now)) more ∙ map_push (λ (p : Bor (List ℕ)). p.now) old part)) next)

pub end_more : (ends : List ℕ) (i : ℕ) → i < length ends
    → get_or ends i 0 ≡ last_end 0 (take (i + 1) ends)
end_more ends i within =
    sym (ap (last_end 0) (take_more ends i 0 within)
    ∙ last_more 0 (take i ends) (get_or ends i 0))

-- what holds of all parts holds of one
pub all_at : (P : List ℕ → Type 0) (parts : List (Bor (List ℕ))) (i : ℕ) (d : Bor (List ℕ))
    → i < length parts → All P (map (λ p. p.now) parts) → P (get_or parts i d).now
all_at P parts i d within all =
    subst P (get_or-map (λ (p : Bor (List ℕ)). p.now) parts i d d.now within)
    (all i d.now (subst (λ n. i < n) (sym (length-map parts (λ (p : Bor (List ℕ)). p.now))) within))
