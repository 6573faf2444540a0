-- A list cut into parts, one more part, and one of them.
use Rattle.std.proofs.Common.{◌≡◌, ℕ, ◌-◌, ◌≤◌, ◌<◌, zero, suc, List, [], ◌∷◌, ◌++◌, length, take, drop, get_or, refl, sym, ◌∙◌, ap, arith, length-append, length-drop}
use Rattle.std.specs.List.{slice_range}
use Rattle.std.proofs.lemmas.List.{take_all, take-append-le, drop-append-le, drop_at}
use Rattle.yv_base_tables.specs.InnerParts.{parts, AreEnds, start_of}

pub ends_within : (from all : ℕ) (ends : List ℕ) → AreEnds from ends all → from ≤ all
ends_within from all [] h = omega (arith, h)
ends_within from all (e ∷ ends) h = omega (arith, h.0, ends_within e all ends h.1)

pub ends_more : (from all new : ℕ) (ends : List ℕ) → AreEnds from ends all → all ≤ new → AreEnds from (ends ++ new ∷ []) new
ends_more from all new [] h l = (omega (arith, h, l), refl)
ends_more from all new (e ∷ ends) h l = (h.0, ends_more e all new ends h.1 l)

range_front : (xs ys : List ℕ) (a b : ℕ) → a ≤ b → b ≤ length xs → slice_range (xs ++ ys) a b ≡ slice_range xs a b
range_front xs ys a b h l =
    ap (take (b - a)) (drop-append-le a xs ys (omega (arith, h, l)))
    ∙ take-append-le (b - a) (drop a xs) ys (omega (arith, length-drop a xs, h, l))

pub parts_more : (xs ys : List ℕ) (from new : ℕ) (ends : List ℕ) → AreEnds from ends (length xs) → new ≡ length (xs ++ ys) → parts (xs ++ ys) from (ends ++ new ∷ []) ≡ parts xs from ends ++ ys ∷ []
parts_more xs ys from new [] h e =
    ap (λ l. l ∷ []) (ap (take (new - from)) (drop_at xs ys from (sym h)) ∙ take_all (new - from) ys (omega (arith, e, h, length-append xs ys)))
parts_more xs ys from new (end ∷ ends) h e =
    ap (λ l. l ∷ parts (xs ++ ys) end (ends ++ new ∷ [])) (range_front xs ys from end h.0 (ends_within end (length xs) ends h.1))
    ∙ ap (λ l. slice_range xs from end ∷ l) (parts_more xs ys end new ends h.1 e)

pub part_at : (xs : List ℕ) (from : ℕ) (ends : List ℕ) (p : ℕ) → p < length ends → get_or (parts xs from ends) p [] ≡ slice_range xs (start_of from ends p) (get_or ends p 0)
part_at xs from [] p h = absurd (omega (arith, h))
part_at xs from (e ∷ ends) zero h = refl
part_at xs from (e ∷ ends) (suc zero) h = part_at xs e ends zero (omega (arith, h))
part_at xs from (e ∷ ends) (suc (suc p)) h = part_at xs e ends (suc p) (omega (arith, h))

pub part_within : (from all : ℕ) (ends : List ℕ) (p : ℕ) → AreEnds from ends all → p < length ends → (start_of from ends p ≤ get_or ends p 0) × (get_or ends p 0 ≤ all)
part_within from all [] p h l = absurd (omega (arith, l))
part_within from all (e ∷ ends) zero h l = (h.0, ends_within e all ends h.1)
part_within from all (e ∷ ends) (suc zero) h l = part_within e all ends zero h.1 (omega (arith, l))
part_within from all (e ∷ ends) (suc (suc p)) h l = part_within e all ends (suc p) h.1 (omega (arith, l))

pub part_past : (xs : List ℕ) (from : ℕ) (ends : List ℕ) (p : ℕ) → length ends ≤ p → get_or (parts xs from ends) p [] ≡ []
part_past xs from [] p h = refl
part_past xs from (e ∷ ends) zero h = absurd (omega (arith, h))
part_past xs from (e ∷ ends) (suc p) h = part_past xs e ends p (omega (arith, h))
