-- What is known of the statements before one, after one more.
use Rattle.std.proofs.Common.{◌≡◌, ℕ, ◌||◌, Bool, true, false, cond, List, [], ◌∷◌, ◌++◌, nat_lt, max, Option, Some, sym, ◌∙◌, ap, refl, arith}
use Rattle.std.specs.List.{list_any, find}
use Rattle.std.specs.Option.{option_map}
use Rattle.std.proofs.lemmas.Bool.Decides.{nat_tests}
use Rattle.std.proofs.lemmas.List.{reverse-append}
use Rattle.std.proofs.lemmas.List.Folds.{list_any-append}
use Rattle.yv_text_statement.specs.Tree.{Tree}
use Rattle.yv_text_statement.specs.declared.keyword.Keyword.{Keyword}
use Rattle.yv_text_statement.specs.declared.keyword.Keyword.TheVariants as word
use Rattle.yv_link_scopes.specs.Files.{tree_name}
use Rattle.yv_lint.specs.Statements.{keyword_at, has_keyword, has_one}
use Rattle.yv_lint.specs.Groups.{group_of, is_of_later}
use Rattle.yv_lint.specs.Dates.{last_revision}
use Rattle.yv_lint.specs.InnerPlaces.{date_after}

or_false : (b : Bool) → (b || false) ≡ b
or_false true = refl
or_false false = refl

any_more : (p : Tree → Bool) (ts : List Tree) (t : Tree) → list_any p (ts ++ t ∷ []) ≡ (list_any p ts || p t)
any_more p ts t = list_any-append p ts (t ∷ []) ∙ ap (λ b. list_any p ts || b) (or_false (p t))

pub has_before : (k : Keyword) (ts : List Tree) (t : Tree) → has_one k ts ≡ true → has_one k (ts ++ t ∷ []) ≡ true
has_before k ts t h = any_more (has_keyword k) ts t ∙ ap (λ b. b || has_keyword k t) h

pub has_last : (k : Keyword) (ts : List Tree) (t : Tree) → has_one k ts ≡ false → has_one k (ts ++ t ∷ []) ≡ has_keyword k t
has_last k ts t h = any_more (has_keyword k) ts t ∙ ap (λ b. b || has_keyword k t) h

lt_max : (n a b : ℕ) → (nat_lt n a || nat_lt n b) ≡ nat_lt n (max a b)
lt_max n a b = grind (arith, nat_tests)

pub group_more : (ts : List Tree) (t : Tree) (n old own new : ℕ) → list_any (is_of_later n) ts ≡ nat_lt n old → own ≡ group_of (keyword_at t) → new ≡ max old own → list_any (is_of_later n) (ts ++ t ∷ []) ≡ nat_lt n new
group_more ts t n old own new h e m =
    any_more (is_of_later n) ts t
    ∙ ap (λ b. b || nat_lt n (group_of (keyword_at t))) h
    ∙ ap (λ x. nat_lt n old || nat_lt n x) (sym e)
    ∙ lt_max n old own
    ∙ ap (nat_lt n) (sym m)

dated : (b : Bool) (t : Tree) (o : Option Tree) → option_map tree_name (cond b (Some t) o) ≡ cond b (Some (tree_name t)) (option_map tree_name o)
dated true t o = refl
dated false t o = refl

pub date_more : (ts : List Tree) (t : Tree) (old new : Option (List ℕ)) → option_map tree_name (last_revision ts) ≡ old → new ≡ date_after old t → option_map tree_name (last_revision (ts ++ t ∷ [])) ≡ new
date_more ts t old new h n =
    ap (λ us. option_map tree_name (find (has_keyword word.Revision) us)) (reverse-append ts (t ∷ []))
    ∙ dated (has_keyword word.Revision t) t (last_revision ts)
    ∙ ap (λ o. date_after o t) h
    ∙ sym n
