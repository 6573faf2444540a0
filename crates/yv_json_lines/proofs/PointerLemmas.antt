-- The places of a pointer.
use Rattle.std.proofs.Common.{◌≡◌, ◌∙◌, ℕ, true, false, cond, List, [], ◌∷◌, ◌++◌, refl, ap, sym, append-nil}
use Rattle.std.proofs.lemmas.Grind.{flat_map-append}
use Rattle.std.proofs.lemmas.Bool.{cond-true, cond-false}
use Rattle.std.specs.declared.option.Option.TheVariants.{Some}
use Rattle.json.specs.Print.{escape as json_escape, escape_byte}
use Rattle.yv_nodes.specs.Member.{behind}
use Rattle.yv_data_leafrefs.specs.Place.{Place}
use Rattle.yv_data_faults.specs.declared.fault.FaultKind.{FaultKind}
use Rattle.yv_json_lines.specs.Pointer.{is_choice_at, opens, place_pointer, places_pointer, pointer_text, without_choice}

-- the last place of others goes where it is a choice's
split_off : (k : FaultKind) (ps : List Place) (p : Place) → without_choice k (ps ++ p ∷ []) ≡ ps ++ cond (is_choice_at k p.member) [] (p ∷ [])
split_off k [] p = refl
split_off k (q ∷ []) p = refl
split_off k (q ∷ r ∷ ps) p = ap (λ (l : List Place). q ∷ l) (split_off k (r ∷ ps) p)

pub without_last : (k : FaultKind) (ps : List Place) (p : Place) (qs : List Place) → qs ≡ ps ++ p ∷ [] → is_choice_at k p.member ≡ true
    → json_escape (places_pointer ps) ≡ json_escape (pointer_text k qs)
without_last k ps p qs e is =
    ap (λ (l : List Place). json_escape (places_pointer l)) (sym (append-nil ps) ∙ ap (λ (l : List Place). ps ++ l) (sym (cond-true _ _ _ is)) ∙ sym (split_off k ps p) ∙ ap (without_choice k) (sym e))

pub with_last : (k : FaultKind) (ps : List Place) (p : Place) (qs : List Place) → qs ≡ ps ++ p ∷ [] → is_choice_at k p.member ≡ false
    → json_escape (places_pointer ps) ++ json_escape (place_pointer p) ≡ json_escape (pointer_text k qs)
with_last k ps p qs e is =
    sym (flat_map-append escape_byte (places_pointer ps) (place_pointer p))
    ∙ ap (λ (l : List ℕ). json_escape (places_pointer ps ++ l)) (sym (append-nil (place_pointer p)))
    ∙ ap json_escape (sym (flat_map-append place_pointer ps (p ∷ [])))
    ∙ ap (λ (l : List Place). json_escape (places_pointer l)) (ap (λ (l : List Place). ps ++ l) (sym (cond-false _ _ _ is)) ∙ sym (split_off k ps p) ∙ ap (without_choice k) (sym e))

-- a name begins with a parenthesis as its module does, or without one as it does itself
pub opens_behind : (m name : List ℕ) → opens m ≡ opens (behind (Some m) name)
opens_behind [] name = refl
opens_behind (b ∷ bs) name = refl
