-- A text that is made of pieces.
use Rattle.std.proofs.Common.{◌≡◌, ℕ, ◌+◌, ◌<◌, Bool, true, false, ◌&&◌, List, [], ◌∷◌, ◌++◌, map, length, take, drop, get_or, nat_eq, sym, ◌∙◌, ap, refl}
use Rattle.std.proofs.lemmas.Bool.{false≢true}
use Rattle.std.specs.List.{concat}
use Rattle.std.specs.Str.{bytes_eq}
use Rattle.std.proofs.lemmas.List.{drop_more}
use denote.Ref.{Bor}

same_or : (b r s : Bool) → (b && r) ≡ false → (r ≡ false → s ≡ false) → (b && s) ≡ false
same_or true r s h f = f h
same_or false r s h f = refl

-- the first piece isn't at the front
pub strip_none : (text piece more : List ℕ) → bytes_eq (take (length piece) text) piece ≡ false → bytes_eq text (piece ++ more) ≡ false
strip_none text [] more h = absurd (false≢true (sym h))
strip_none [] (x ∷ piece) more h = refl
strip_none (y ∷ text) (x ∷ piece) more h = same_or (nat_eq y x) (bytes_eq (take (length piece) text) piece) (bytes_eq text (piece ++ more)) h (strip_none text piece more)

both : (a b : Bool) → (a && b) ≡ true → (a ≡ true) × (b ≡ true)
both true b h = (refl, h)
both false b h = absurd (false≢true h)

-- the first piece is taken off the front
pub strip_some : (text piece more : List ℕ) → bytes_eq (take (length piece) text) piece ≡ true → bytes_eq text (piece ++ more) ≡ bytes_eq (drop (length piece) text) more
strip_some text [] more h = refl
strip_some [] (x ∷ piece) more h = absurd (false≢true h)
strip_some (y ∷ text) (x ∷ piece) more h =
    let p = both (nat_eq y x) (bytes_eq (take (length piece) text) piece) h in
    ap (λ b. b && bytes_eq text (piece ++ more)) p.0 ∙ strip_some text piece more p.1

abbrev text_of : Bor (List ℕ) → List ℕ
text_of p = p.now

-- the same for the pieces from a place on
pub pieces_none : (text : List ℕ) (ps : List (Bor (List ℕ))) (i : ℕ) (d : Bor (List ℕ)) → i < length ps → bytes_eq (take (length (get_or ps i d).now) text) (get_or ps i d).now ≡ false → bytes_eq text (concat (map text_of (drop i ps))) ≡ false
pieces_none text ps i d lt h =
    ap (λ qs. bytes_eq text (concat (map text_of qs))) (drop_more ps i d lt)
    ∙ strip_none text (get_or ps i d).now (concat (map text_of (drop (i + 1) ps))) h

pub pieces_some : (text : List ℕ) (ps : List (Bor (List ℕ))) (i : ℕ) (d : Bor (List ℕ)) → i < length ps → bytes_eq (take (length (get_or ps i d).now) text) (get_or ps i d).now ≡ true → bytes_eq text (concat (map text_of (drop i ps))) ≡ bytes_eq (drop (length (get_or ps i d).now) text) (concat (map text_of (drop (i + 1) ps)))
pieces_some text ps i d lt h =
    ap (λ qs. bytes_eq text (concat (map text_of qs))) (drop_more ps i d lt)
    ∙ strip_some text (get_or ps i d).now (concat (map text_of (drop (i + 1) ps))) h
