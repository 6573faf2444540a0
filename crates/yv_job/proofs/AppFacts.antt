-- The command line is one of those whose matches clap's clauses give exactly.
use Rattle.std.proofs.Common.{◌≡◌, ap, subst, true, refl, arith, codes, ℕ, List, [], ◌∷◌, Result, Ok, Err, IfOk, IfErr}
use Rattle.clap.specs.Words.{App, Text, is_simple, is_simple_and_free, fault_of, FailsBy, HasKind, HasMatchesOf, subcommand_of, subcommand_rows_of}
use Rattle.clap.specs.declared.parser.matches.ArgMatches.{ArgMatches}
use Rattle.clap.specs.declared.error.Error.{Error}
use Rattle.clap.proofs.OnLiterals.{clap_on_literals}
use Rattle.yv_job.specs.CommandLine.{yangcheck_app}

pub app_simple : is_simple yangcheck_app ≡ true
unfolding clap_on_literals
app_simple = refl

pub app_free : is_simple_and_free yangcheck_app ≡ true
unfolding clap_on_literals
app_free = refl

own_matches : (words : List Text) (r : Result ArgMatches Error) → FailsBy (fault_of yangcheck_app words) r → IfOk r (HasMatchesOf yangcheck_app words)
    → IfOk r (λ m. (fault_of yangcheck_app words ≡ []) × (subcommand_rows_of m ≡ subcommand_of yangcheck_app words)) × IfErr r (HasKind (fault_of yangcheck_app words))
own_matches words (Ok m) f h = ((f, (h app_simple).1), tt)
own_matches words (Err e) f h = (tt, f)

-- what a parse by an equal command line says
pub matches_here : (a : App) (words : List Text) (r : Result ArgMatches Error) → a ≡ yangcheck_app → (is_simple_and_free a ≡ true → FailsBy (fault_of a words) r) → IfOk r (HasMatchesOf a words)
    → IfOk r (λ m. (fault_of yangcheck_app words ≡ []) × (subcommand_rows_of m ≡ subcommand_of yangcheck_app words)) × IfErr r (HasKind (fault_of yangcheck_app words))
matches_here a words r e kinds matches =
    own_matches words r
    (subst (λ b. is_simple_and_free b ≡ true → FailsBy (fault_of b words) r) e kinds app_free)
    (subst (λ b. IfOk r (HasMatchesOf b words)) e matches)

abbrev first_letter : Text → ℕ
first_letter [] = 0
first_letter (b ∷ bs) = b

pub tree_is_not_lint : codes "tree" ≡ codes "lint" → ⊥
tree_is_not_lint f = let e : 116 ≡ 108 = ap first_letter f in absurd (omega (arith, e))
