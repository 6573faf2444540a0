-- An instance-identifier is read to its end.
use Rattle.std.proofs.Common.{◌≡◌, ℕ, Bool, true, false, ◌||◌, List, [], ◌∷◌, ◌++◌, append_assoc, ◌∙◌, ap, refl}
use Rattle.std.specs.Prelude.{if◌then◌else◌, codes}
use Rattle.std.specs.Str.{bytes_eq}
use Rattle.std.proofs.lemmas.Bool.{and_parts}
use Rattle.yv_text_if_feature.specs.Names.{is_name}
use Rattle.yv_text_path.specs.Pieces.{pieces}
use Rattle.yv_text_path.specs.SpacedTokens.{AreSpaced}
use Rattle.yv_text_path.proofs.Cuts.{begins_word}
use Rattle.yv_text_path.proofs.PartsRead.{name_is_word, Plain, stops}
use Rattle.yv_text_path.proofs.PartsRead as leading
use Rattle.yv_text_instance.specs.Predicates.{is_position, IsPredicate, ArePredicates}
use Rattle.yv_text_instance.specs.Predicates as made
use Rattle.yv_text_instance.specs.Instances.{AreSteps, IsInstance}
use Rattle.yv_text_instance.specs.Instances as steps
use Rattle.yv_text_instance.specs.InnerStates.{after_word, completes, is_key}
use Rattle.yv_text_instance.specs.declared.state.State.{State}
use Rattle.yv_text_instance.specs.declared.state.State.TheVariants.{Start, FirstName, Name, AfterName, Predicate, AfterKey, Value, Closing, Wrong}
use Rattle.yv_text_instance.proofs.Words.{qualified_word, position_is_word, name_no_position}
use Rattle.yv_text_instance.proofs.PartsRead.{Leads, then_leads, same_text, word_to, mark_leads, quoted_leads, spaced_to, spaced_end}
use Rattle.yv_text_instance.proofs.Tokens.{Left, left_all}
use Rattle.yv_text_instance.proofs.Tokens as left

-- what a test leads to
yes : {A : Type 0} (t : Bool) (x y : A) → t ≡ true → (if t then x else y) ≡ x
yes t x y h = ap (λ (u : Bool). if u then x else y) h

no : {A : Type 0} (t : Bool) (x y : A) → t ≡ false → (if t then x else y) ≡ y
no t x y h = ap (λ (u : Bool). if u then x else y) h

name_is_key : (w : List ℕ) → is_name w ≡ true → is_key w ≡ true
name_is_key w h = either (bytes_eq w (codes ".")) (is_name w) h
  where
    either : (t u : Bool) → u ≡ true → (t || u) ≡ true
    either true u e = refl
    either false u e = e

by_name : (w : List ℕ) → is_name w ≡ true → after_word Predicate w ≡ AfterKey
by_name w h =
    no (is_position w) Closing (if is_key w then AfterKey else Wrong) (name_no_position w h)
    ∙ yes (is_key w) AfterKey Wrong (name_is_key w h)

plain_AfterKey : {ts : List (List ℕ)} → Left AfterKey ts → Plain ts
plain_AfterKey (left.equals l) = leading.mark refl

plain_Closing : {ts : List (List ℕ)} → Left Closing ts → Plain ts
plain_Closing left.end = leading.none

-- what is left of a predicate, and the `]`
within : {q : State} {ts : List (List ℕ)} {text : List ℕ} (tail : List ℕ) → Left q ts → AreSpaced ts text → Leads q (text ++ 93 ∷ tail) AfterName tail
within tail (left.position {w} is l) s =
    let m = spaced_to Predicate Closing (93 ∷ tail) refl (λ rest t. word_to Predicate Closing (rest ++ 93 ∷ tail) (position_is_word w is) (yes (is_position w) Closing _ is) (stops (93 ∷ tail) refl (plain_Closing l) t)) s in
    then_leads m.2 (within tail l m.1)
within tail (left.itself l) s =
    let m = spaced_to Predicate AfterKey (93 ∷ tail) refl (λ rest t. word_to Predicate AfterKey {w = codes "."} (rest ++ 93 ∷ tail) (leading.bytes refl) refl (stops (93 ∷ tail) refl (plain_AfterKey l) t)) s in
    then_leads m.2 (within tail l m.1)
within tail (left.key {w} is l) s =
    let m = spaced_to Predicate AfterKey (93 ∷ tail) refl (λ rest t. word_to Predicate AfterKey (rest ++ 93 ∷ tail) (name_is_word w is) (by_name w is) (stops (93 ∷ tail) refl (plain_AfterKey l) t)) s in
    then_leads m.2 (within tail l m.1)
within tail (left.equals l) s =
    let m = spaced_to AfterKey Value (93 ∷ tail) refl (λ rest t. mark_leads AfterKey 61 (rest ++ 93 ∷ tail) refl) s in
    then_leads m.2 (within tail l m.1)
within tail (left.value q l) s =
    let m = spaced_to Value Closing (93 ∷ tail) refl (λ rest t. quoted_leads (rest ++ 93 ∷ tail) q) s in
    then_leads m.2 (within tail l m.1)
within tail left.end s = then_leads (spaced_end Closing (93 ∷ tail) refl s) (record { ends = refl })

predicate_leads : {text : List ℕ} (tail : List ℕ) → IsPredicate text → Leads AfterName (text ++ tail) AfterName tail
predicate_leads tail (made.predicate {inside} {text} tokens s same) =
    let cut : text ++ tail ≡ 91 ∷ (inside ++ 93 ∷ tail) = ap (λ (x : List ℕ). x ++ tail) same ∙ ap (λ (x : List ℕ). 91 ∷ x) (append_assoc inside (93 ∷ []) tail) in
    let opened : Leads AfterName (91 ∷ (inside ++ 93 ∷ tail)) Predicate (inside ++ 93 ∷ tail) = record { ends = refl } in
    same_text cut (then_leads opened (within tail (left_all tokens) s))

predicates_lead : {text : List ℕ} (tail : List ℕ) → ArePredicates text → Leads AfterName (text ++ tail) AfterName tail
predicates_lead tail made.none = record { ends = refl }
predicates_lead tail (made.more {first} {rest} {text} p ps same) =
    same_text (ap (λ (x : List ℕ). x ++ tail) same ∙ append_assoc first rest tail) (then_leads (predicate_leads (rest ++ tail) p) (predicates_lead tail ps))

predicate_stops : {text : List ℕ} (tail : List ℕ) → IsPredicate text → begins_word (text ++ tail) ≡ false
predicate_stops tail (made.predicate tokens s same) = ap (λ (x : List ℕ). begins_word (x ++ tail)) same

predicates_stop : {text : List ℕ} (tail : List ℕ) → begins_word tail ≡ false → ArePredicates text → begins_word (text ++ tail) ≡ false
predicates_stop tail h made.none = h
predicates_stop tail h (made.more {first} {rest} {text} p ps same) =
    ap (λ (x : List ℕ). begins_word (x ++ tail)) same ∙ ap begins_word (append_assoc first rest tail) ∙ predicate_stops (rest ++ tail) p

steps_stop : {text : List ℕ} → AreSteps text → begins_word text ≡ false
steps_stop steps.none = refl
steps_stop (steps.more name is ps others same) = ap begins_word same

steps_lead : {text : List ℕ} → AreSteps text → Leads AfterName text AfterName []
steps_lead steps.none = record { ends = refl }
steps_lead (steps.more name {predicates} {rest} {text} is ps others same) =
    let slash : Leads AfterName (47 ∷ name ++ (predicates ++ rest)) Name (name ++ (predicates ++ rest)) = record { ends = refl } in
    let word = word_to Name AfterName (predicates ++ rest) (name_is_word name is) (yes (is_name name) AfterName Wrong is) (predicates_stop rest (steps_stop others) ps) in
    same_text same (then_leads slash (then_leads word (then_leads (predicates_lead rest ps) (steps_lead others))))

starts : {text : List ℕ} → IsInstance text → Leads Start text AfterName []
starts (steps.instance {name} {predicates} {steps = rest} {text} is ps others same) =
    let slash : Leads Start (47 ∷ name ++ (predicates ++ rest)) FirstName (name ++ (predicates ++ rest)) = record { ends = refl } in
    let q = qualified_word is in
    let word = word_to FirstName AfterName (predicates ++ rest) (name_is_word name (and_parts _ _ q).0) (yes _ AfterName Wrong q) (predicates_stop rest (steps_stop others) ps) in
    same_text same (then_leads slash (then_leads word (then_leads (predicates_lead rest ps) (steps_lead others))))

pub instance_completes : {text : List ℕ} → IsInstance text → completes Start (pieces text) ≡ true
instance_completes p = (starts p).ends
