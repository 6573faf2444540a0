-- Texts with commas between them.
use Rattle.std.proofs.Common.{◌≡◌, ℕ, ◌<◌, Bool, true, false, not, cond, List, [], ◌∷◌, ◌++◌, length, map, refl, sym, ap, ◌∙◌, append_assoc, append-nil, arith, length-append}
use Rattle.std.specs.List.{filter, join_with_byte}
use Rattle.std.specs.Prelude.{encode_utf8_all}
use Rattle.std.proofs.lemmas.List.{map-append}
use Rattle.std.proofs.lemmas.List.Elements.{filter-append}
use Rattle.std.proofs.lemmas.Str.{chars-nil}
use Rattle.yv_text_if_feature.specs.Tokens.{is_empty}
use Rattle.yv_node_statements.specs.Features.{join_with_commas, single_spaced, with_single_spaces, with_expressions}
use Rattle.yv_node_statements.specs.InnerTexts.{with_comma}
use Rattle.yv_node_statements.proofs.BlankRuns.{no_length, some_length}

-- it isn't empty
abbrev is_some_text : List ℕ → Bool
is_some_text t = not (is_empty t)

-- those that aren't empty
abbrev texts : List (List ℕ) → List (List ℕ)
texts ts = filter is_some_text ts

abbrev join : List (List ℕ) → List ℕ
join ts = join_with_byte 44 ts

joined_first : (t : List ℕ) (ts us : List (List ℕ)) → join (join (t ∷ ts) ∷ us) ≡ join ((t ∷ ts) ++ us)
joined_first t [] us = refl
joined_first t (v ∷ vs) [] = ap (λ (ws : List (List ℕ)). join (t ∷ ws)) (sym (append-nil (v ∷ vs)))
joined_first t (v ∷ vs) (u ∷ us) =
    append_assoc t (44 ∷ join (v ∷ vs)) (44 ∷ join (u ∷ us))
    ∙ ap (λ (rest : List ℕ). t ++ (44 ∷ rest)) (joined_first v vs (u ∷ us))

some_joined : (t : List ℕ) (ts : List (List ℕ)) → is_some_text t ≡ true → is_empty (join (t ∷ ts)) ≡ false
some_joined t ts h = some_length (join (t ∷ ts)) (at ts)
  where
    some : 0 < length t
    some = no_length t (positive (is_empty t) h)
      where
        positive : (b : Bool) → not b ≡ true → b ≡ false
        positive true k = absurd (cc)
        positive false k = refl

    at : (vs : List (List ℕ)) → 0 < length (join (t ∷ vs))
    at [] = some
    at (v ∷ vs) = let e = length-append t (44 ∷ join (v ∷ vs)) in omega (arith, some, e)

-- the first of those that pass a test passes it
first_passes : {X : Type 0} (test : X → Bool) (xs ys : List X) (y : X) → filter test xs ≡ y ∷ ys → test y ≡ true
first_passes test [] ys y h = absurd (cc)
first_passes test (x ∷ xs) ys y h = at (test x) refl (first_passes test xs ys y) h
  where
    at : (b : Bool) → test x ≡ b → (filter test xs ≡ y ∷ ys → test y ≡ true) → cond b (x ∷ filter test xs) (filter test xs) ≡ y ∷ ys → test y ≡ true
    at true e more g = let same : x ≡ y = cc in ap test (sym same) ∙ e
    at false e more g = more g

-- what is separated may be separated from others
pub separated_first : (ts us : List (List ℕ)) → join_with_commas (join_with_commas ts ∷ us) ≡ join_with_commas (ts ++ us)
separated_first ts us = at (texts ts) refl ∙ ap join (sym (filter-append is_some_text ts us))
  where
    at : (vs : List (List ℕ)) → texts ts ≡ vs → join_with_commas (join_with_commas ts ∷ us) ≡ join (texts ts ++ texts us)
    at [] e = rw e refl
    at (v ∷ vs) e =
        let some = some_joined v vs (first_passes is_some_text ts vs v e) in
        let both : join_with_commas (join (v ∷ vs) ∷ us) ≡ join (join (v ∷ vs) ∷ texts us) = ap (λ (b : Bool). join (cond (not b) (join (v ∷ vs) ∷ texts us) (texts us))) some in
        rw e (both ∙ joined_first v vs (texts us))

pub separated_one : (t : List ℕ) → join_with_commas (t ∷ []) ≡ t
separated_one [] = refl
separated_one (b ∷ bs) = ap (λ (e : Bool). join (cond (not e) ((b ∷ bs) ∷ []) [])) (some_length (b ∷ bs) (omega arith))

-- ### expressions

pub expressions_more : (text : List ℕ) (a b : List (List ℕ)) → with_expressions text (a ++ b) ≡ with_expressions (with_expressions text a) b
expressions_more text a b =
    ap (λ (ts : List (List ℕ)). join_with_commas (text ∷ ts)) (map-append with_single_spaces a b)
    ∙ sym (separated_first (text ∷ map with_single_spaces a) (map with_single_spaces b))

-- an expression that is shown as some text stands behind a comma, where there is text
pub one_added : (text more : List ℕ) → is_empty (with_single_spaces more) ≡ false → with_comma text ++ with_single_spaces more ≡ with_expressions text (more ∷ [])
one_added text more h = at text ∙ ap (λ (b : Bool). join (texts (text ∷ []) ++ cond (not b) (with_single_spaces more ∷ []) [])) (sym h) ∙ ap join (sym (filter-append is_some_text (text ∷ []) (with_single_spaces more ∷ [])))
  where
    at : (front : List ℕ) → with_comma front ++ with_single_spaces more ≡ join (texts (front ∷ []) ++ with_single_spaces more ∷ [])
    at [] = refl
    at (b ∷ bs) =
        append_assoc (b ∷ bs) (44 ∷ []) (with_single_spaces more)
        ∙ ap (λ (e : Bool). join (cond (not e) ((b ∷ bs) ∷ []) [] ++ with_single_spaces more ∷ [])) (sym (some_length (b ∷ bs) (omega arith)))

-- an empty one adds nothing
pub none_added : (text : List ℕ) → text ≡ with_expressions text ([] ∷ [])
none_added text =
    let nothing : with_single_spaces [] ≡ [] = ap (λ (cs : List ℕ). encode_utf8_all (single_spaced cs)) chars-nil in
    sym (ap (λ (t : List ℕ). join_with_commas (text ∷ t ∷ [])) nothing ∙ separated_one text)
