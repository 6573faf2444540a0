-- The wants of a root, as its statements are read.
use Rattle.std.proofs.Common.{◌≡◌, ◌+◌, ◌∙◌, ℕ, List, [], ◌∷◌, ◌++◌, refl, sym, ap, map, take, append_assoc, Option, Some, None}
use Rattle.std.specs.List.{slice_get, cons_option}
use Rattle.std.specs.Option.{option_map}
use Rattle.std.proofs.lemmas.List.{map-append}
use Rattle.yv_text_statement.specs.Tree.{Tree}
use Rattle.yv_search.specs.Wants.{Want, want_of, wants_among}
use Rattle.yv_search.specs.InnerWants.{want}
use Rattle.yv_search.specs.declared.wants.Want.{Want as WantValue}
use Rattle.yv_search.proofs.ListSteps.{take_next}

cons_option-append : {X : Type 0} (o : Option X) (xs ys : List X) → cons_option o (xs ++ ys) ≡ cons_option o xs ++ ys
cons_option-append None xs ys = refl
cons_option-append (Some x) xs ys = refl

wants_among-append : (root : Tree) (xs ys : List Tree) → wants_among root (xs ++ ys) ≡ wants_among root xs ++ wants_among root ys
wants_among-append root [] ys = refl
wants_among-append root (x ∷ xs) ys = ap (cons_option (want_of root x)) (wants_among-append root xs ys) ∙ cons_option-append (want_of root x) (wants_among root xs) (wants_among root ys)

-- one more statement
pub want_more : (root : Tree) (ss : List Tree) (i : ℕ) (s : Tree) (start : List Want) (old new : List WantValue) (o : Option WantValue)
    → slice_get ss i ≡ Some s → map want old ≡ start ++ wants_among root (take i ss) → option_map want o ≡ want_of root s → new ≡ old ++ cons_option o [] → map want new ≡ start ++ wants_among root (take (i + 1) ss)
want_more root ss i s start old new o at before is now =
    ap (map want) now ∙ map-append want old (cons_option o []) ∙ ap (λ l. l ++ map want (cons_option o [])) before ∙ ap (λ l. (start ++ wants_among root (take i ss)) ++ l) (one o ∙ ap (λ w. cons_option w []) is)
    ∙ append_assoc start (wants_among root (take i ss)) (cons_option (want_of root s) [])
    ∙ ap (λ l. start ++ l) (sym (ap (wants_among root) (take_next ss i s at) ∙ wants_among-append root (take i ss) (s ∷ [])))
  where
    one : (p : Option WantValue) → map want (cons_option p []) ≡ cons_option (option_map want p) []
    one None = refl
    one (Some w) = refl
