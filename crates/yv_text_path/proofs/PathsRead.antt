-- A path is read to its end.
use Rattle.std.proofs.Common.{◌≡◌, ℕ, Bool, true, false, List, [], ◌∷◌, ◌++◌, append_assoc, append-nil, sym, ◌∙◌, ap, refl}
use Rattle.std.specs.Prelude.{if◌then◌else◌, codes}
use Rattle.std.specs.Str.{bytes_eq}
use Rattle.yv_text_if_feature.specs.Names.{is_name}
use Rattle.yv_text_path.specs.Pieces.{pieces}
use Rattle.yv_text_path.specs.SpacedTokens.{AreSpaced}
use Rattle.yv_text_path.specs.Predicates.{IsPredicate, ArePredicates}
use Rattle.yv_text_path.specs.Predicates as made
use Rattle.yv_text_path.specs.Paths.{Descends, IsRelativePath, IsPath}
use Rattle.yv_text_path.specs.Paths as path
use Rattle.yv_text_path.specs.InnerStates.{after_word, completes, names_among}
use Rattle.yv_text_path.specs.declared.state.State.{State}
use Rattle.yv_text_path.specs.declared.state.State.TheVariants.{Start, Dots, UpOrStep, Step, AfterStep, Key, AfterKey, Function, Opening, Closing, FirstSlash, FirstDots, InnerDots, InnerUpOrName, InnerName, AfterInnerName, Wrong}
use Rattle.yv_text_path.proofs.Cuts.{begins_word}
use Rattle.yv_text_path.proofs.WordNames.{dots_no_name}
use Rattle.yv_text_path.proofs.PartsRead.{Leads, then_leads, same_text, IsWord, name_is_word, word_to, spaced_word, spaced_mark, spaced_end, Plain, stops}
use Rattle.yv_text_path.proofs.PartsRead as leading
use Rattle.yv_text_path.proofs.Tokens.{Left, left_key}
use Rattle.yv_text_path.proofs.Tokens as left

current_is_word : IsWord (codes "current")
current_is_word = leading.bytes refl

dots_are_word : IsWord (codes "..")
dots_are_word = leading.bytes refl

-- where a name leads, if it is one
by_name : (w : List ℕ) (r other : State) → is_name w ≡ true → (if is_name w then r else other) ≡ r
by_name w r other h = ap (λ (t : Bool). if t then r else other) h

-- `..` where a name may be as well
dots_inside : after_word InnerUpOrName (codes "..") ≡ InnerDots
dots_inside = ap (λ (t : Bool). if t then AfterInnerName else InnerDots) dots_no_name

dots_outside : after_word UpOrStep (codes "..") ≡ Dots
dots_outside = ap (λ (t : Bool). if t then AfterStep else Dots) dots_no_name

plain_AfterKey : {ts ns : List (List ℕ)} → Left AfterKey ts ns → Plain ts
plain_AfterKey (left.equals l) = leading.mark refl

plain_Opening : {ts ns : List (List ℕ)} → Left Opening ts ns → Plain ts
plain_Opening (left.opening l) = leading.mark refl

plain_InnerDots : {ts ns : List (List ℕ)} → Left InnerDots ts ns → Plain ts
plain_InnerDots (left.up l) = leading.mark refl

plain_AfterInnerName : {ts ns : List (List ℕ)} → Left AfterInnerName ts ns → Plain ts
plain_AfterInnerName (left.slash l) = leading.mark refl
plain_AfterInnerName left.end = leading.none

-- what is left of a predicate, and the `]`
within : {q : State} {ts ns : List (List ℕ)} {text : List ℕ} (tail : List ℕ) → Left q ts ns → AreSpaced ts text → Leads q (text ++ 93 ∷ tail) AfterStep tail ns
within tail (left.key is l) s =
    let m = spaced_word Key AfterKey true (93 ∷ tail) refl (name_is_word _ is) (by_name _ AfterKey Wrong is) refl s (λ rest t. stops (93 ∷ tail) refl (plain_AfterKey l) t) in
    then_leads m.2 (within tail l m.1)
within tail (left.equals l) s = let m = spaced_mark AfterKey 61 (93 ∷ tail) refl refl s in then_leads m.2 (within tail l m.1)
within tail (left.function l) s =
    let m = spaced_word Function Opening false (93 ∷ tail) refl current_is_word refl refl s (λ rest t. stops (93 ∷ tail) refl (plain_Opening l) t) in
    then_leads m.2 (within tail l m.1)
within tail (left.opening l) s = let m = spaced_mark Opening 40 (93 ∷ tail) refl refl s in then_leads m.2 (within tail l m.1)
within tail (left.closing l) s = let m = spaced_mark Closing 41 (93 ∷ tail) refl refl s in then_leads m.2 (within tail l m.1)
within tail (left.first_slash l) s = let m = spaced_mark FirstSlash 47 (93 ∷ tail) refl refl s in then_leads m.2 (within tail l m.1)
within tail (left.first_dots l) s =
    let m = spaced_word FirstDots InnerDots false (93 ∷ tail) refl dots_are_word refl refl s (λ rest t. stops (93 ∷ tail) refl (plain_InnerDots l) t) in
    then_leads m.2 (within tail l m.1)
within tail (left.up l) s = let m = spaced_mark InnerDots 47 (93 ∷ tail) refl refl s in then_leads m.2 (within tail l m.1)
within tail (left.dots l) s =
    let m = spaced_word InnerUpOrName InnerDots false (93 ∷ tail) refl dots_are_word dots_inside refl s (λ rest t. stops (93 ∷ tail) refl (plain_InnerDots l) t) in
    then_leads m.2 (within tail l m.1)
within tail (left.first_name {name} is l) s =
    let m = spaced_word InnerUpOrName AfterInnerName true (93 ∷ tail) refl (name_is_word _ is) (by_name _ AfterInnerName (if bytes_eq name (codes "..") then InnerDots else Wrong) is) refl s (λ rest t. stops (93 ∷ tail) refl (plain_AfterInnerName l) t) in
    then_leads m.2 (within tail l m.1)
within tail (left.name is l) s =
    let m = spaced_word InnerName AfterInnerName true (93 ∷ tail) refl (name_is_word _ is) (by_name _ AfterInnerName Wrong is) refl s (λ rest t. stops (93 ∷ tail) refl (plain_AfterInnerName l) t) in
    then_leads m.2 (within tail l m.1)
within tail (left.slash l) s = let m = spaced_mark AfterInnerName 47 (93 ∷ tail) refl refl s in then_leads m.2 (within tail l m.1)
within tail left.end s = then_leads (spaced_end AfterInnerName (93 ∷ tail) refl s) (record { ends = refl; names = refl })

predicate_leads : {text : List ℕ} {ns : List (List ℕ)} (tail : List ℕ) → IsPredicate text ns → Leads AfterStep (text ++ tail) AfterStep tail ns
predicate_leads tail (made.predicate {inside} {text} tokens s same) =
    let cut : text ++ tail ≡ 91 ∷ (inside ++ 93 ∷ tail) = ap (λ (x : List ℕ). x ++ tail) same ∙ ap (λ (x : List ℕ). 91 ∷ x) (append_assoc inside (93 ∷ []) tail) in
    let opened : Leads AfterStep (91 ∷ (inside ++ 93 ∷ tail)) Key (inside ++ 93 ∷ tail) [] = record { ends = refl; names = refl } in
    same_text cut (then_leads opened (within tail (left_key tokens) s))

predicates_lead : {text : List ℕ} {ns : List (List ℕ)} (tail : List ℕ) → ArePredicates text ns → Leads AfterStep (text ++ tail) AfterStep tail ns
predicates_lead tail made.none = record { ends = refl; names = refl }
predicates_lead tail (made.more {first} {rest} {text} p ps same) =
    same_text (ap (λ (x : List ℕ). x ++ tail) same ∙ append_assoc first rest tail) (then_leads (predicate_leads (rest ++ tail) p) (predicates_lead tail ps))

predicate_stops : {text : List ℕ} {ns : List (List ℕ)} (tail : List ℕ) → IsPredicate text ns → begins_word (text ++ tail) ≡ false
predicate_stops tail (made.predicate tokens s same) = ap (λ (x : List ℕ). begins_word (x ++ tail)) same

predicates_stop : {text : List ℕ} {ns : List (List ℕ)} (tail : List ℕ) → begins_word tail ≡ false → ArePredicates text ns → begins_word (text ++ tail) ≡ false
predicates_stop tail h made.none = h
predicates_stop tail h (made.more {first} {rest} {text} p ps same) =
    ap (λ (x : List ℕ). begins_word (x ++ tail)) same ∙ ap begins_word (append_assoc first rest tail) ∙ predicate_stops (rest ++ tail) p

-- what descends, where a name leads to a step
descends_lead : (q : State) → ((w : List ℕ) → is_name w ≡ true → after_word q w ≡ AfterStep) → {text bare : List ℕ} {ns : List (List ℕ)} → Descends text bare ns → Leads q text AfterStep [] ns
descends_lead q named (path.last {name} {predicates} {text} is preds same) =
    let tail = append-nil predicates in
    let stop : begins_word predicates ≡ false = ap begins_word (sym tail) ∙ predicates_stop [] refl preds in
    same_text same (then_leads (word_to q AfterStep false predicates (name_is_word name is) (named name is) refl stop) (same_text (sym tail) (predicates_lead [] preds)))
descends_lead q named (path.more name {predicates} {rest} {bare} {text} is preds d same) =
    let next : Leads AfterStep (47 ∷ rest) Step rest [] = record { ends = refl; names = refl } in
    let more = descends_lead Step (λ w h. by_name w AfterStep Wrong h) d in
    same_text same
    (then_leads (word_to q AfterStep false (predicates ++ 47 ∷ rest) (name_is_word name is) (named name is) refl (predicates_stop (47 ∷ rest) refl preds))
    (then_leads (predicates_lead (47 ∷ rest) preds) (then_leads next more)))

named_up : (w : List ℕ) → is_name w ≡ true → after_word UpOrStep w ≡ AfterStep
named_up w h = by_name w AfterStep (if bytes_eq w (codes "..") then Dots else Wrong) h

up_again : (text : List ℕ) → Leads UpOrStep (46 ∷ 46 ∷ 47 ∷ text) UpOrStep text []
up_again text = then_leads (word_to UpOrStep Dots false {w = codes ".."} (47 ∷ text) dots_are_word dots_outside refl refl) (record { ends = refl; names = refl })

up_first : (text : List ℕ) → Leads Start (46 ∷ 46 ∷ 47 ∷ text) UpOrStep text []
up_first text = record { ends = refl; names = refl }

climbs : {text bare : List ℕ} {ns : List (List ℕ)} → IsRelativePath text bare ns → Leads UpOrStep text AfterStep [] ns
climbs (path.once {text} d) = then_leads (up_again text) (descends_lead UpOrStep named_up d)
climbs (path.again {text} r) = then_leads (up_again text) (climbs r)

starts : {text bare : List ℕ} {ns : List (List ℕ)} → IsPath text bare ns → Leads Start text AfterStep [] ns
starts (path.absolute {text} d) =
    let first : Leads Start (47 ∷ text) Step text [] = record { ends = refl; names = refl } in
    then_leads first (descends_lead Step (λ w h. by_name w AfterStep Wrong h) d)
starts (path.relative (path.once {text} d)) = then_leads (up_first text) (descends_lead UpOrStep named_up d)
starts (path.relative (path.again {text} r)) = then_leads (up_first text) (climbs r)

pub path_completes : {text bare : List ℕ} {ns : List (List ℕ)} → IsPath text bare ns → completes Start (pieces text) ≡ true
path_completes p = (starts p).ends

pub path_names : {text bare : List ℕ} {ns : List (List ℕ)} → IsPath text bare ns → names_among Start (pieces text) ≡ ns
path_names {text} {bare} {ns} p = (starts p).names ∙ append-nil ns
