-- A text has one translation at most.
use Rattle.std.proofs.Common.{◌≡◌, ℕ, List, [], ◌∷◌, drop, Some, None, refl, sym, ◌∙◌, ap, subst}
use Rattle.std.specs.List.{flat_map}
use Rattle.std.specs.Str.{chars}
use Rattle.yv_pattern.specs.declared.part.FoundPart.{FoundPart}
use Rattle.yv_pattern.specs.declared.place.Place.{Place}
use Rattle.yv_pattern.specs.declared.place.Place.TheVariants.{Outside, First, Inside}
use Rattle.yv_pattern.specs.InnerParts.{part_at, place_after}
use Rattle.yv_pattern.specs.InnerItems.{ReadsAs, nothing, more, Item, item_of}
use Rattle.yv_pattern.specs.Spells.{anchor, Translates}
use Rattle.yv_pattern.proofs.PartCompleteness.{is_read}

nothing_at : (p : Place) → part_at p [] ≡ None
nothing_at Outside = refl
nothing_at First = refl
nothing_at Inside = refl

no_parts : (p : Place) (cs : List ℕ) (is : List Item) → cs ≡ [] → ReadsAs p cs is → is ≡ []
no_parts _ _ _ e nothing = refl
no_parts _ _ _ e (more p cs f is q c) = let n = nothing_at p in let g : part_at p cs ≡ part_at p [] = ap (part_at p) e in absurd (cc)

first_is : (p : Place) (cs : List ℕ) (f : FoundPart) (all : List Item) → part_at p cs ≡ Some f → ReadsAs p cs all → (is : List Item) × (all ≡ item_of p f cs ∷ is) × ReadsAs (place_after p f.part) (drop f.size cs) is
first_is _ _ f _ h nothing = absurd (cc)
first_is _ _ f _ h (more p cs g is q c) =
    let same : g ≡ f = cc in
    (is, ap (λ x. item_of p x cs ∷ is) same, subst (λ (x : FoundPart). ReadsAs (place_after p x.part) (drop x.size cs) is) same c)

cut_one : (p : Place) (cs : List ℕ) (is js : List Item) → ReadsAs p cs is → ReadsAs p cs js → is ≡ js
cut_one _ _ _ js nothing d = sym (no_parts Outside [] js refl d)
cut_one _ _ _ js (more p cs f is q c) d =
    let s = first_is p cs f js q d in
    ap (λ (l : List Item). item_of p f cs ∷ l) (cut_one _ _ is s.0 c s.2) ∙ sym s.1

pub translates_one : (text a b : List ℕ) → Translates text a → Translates text b → a ≡ b
translates_one text a b p q =
    let x = is_read (chars text) p.bytes p.spells in
    let y = is_read (chars text) q.bytes q.spells in
    let parts : x.parts ≡ y.parts = cut_one Outside (chars text) _ _ x.cut y.cut in
    let bytes : p.bytes ≡ q.bytes = x.bytes_are ∙ ap (flat_map (λ (i : Item). i.bytes)) parts ∙ sym y.bytes_are in
    p.source_is ∙ ap anchor bytes ∙ sym q.source_is
