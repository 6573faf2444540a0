-- Which statements are on.
use Rattle.std.proofs.Common.{◌≡◌, ℕ, ◌+◌, ◌==◌, ◌&&◌, ◌||◌, Bool, true, false, List, length, take, Some, refl, sym, ◌∙◌, ap}
use Rattle.std.specs.Prelude.{not}
use Rattle.std.specs.List.{slice_get, list_any}
use Rattle.std.specs.BTreeSet.{BTreeSet, UpdatesBy, contains}
use Rattle.std.specs.Ordering.{nat_cmp}
use Rattle.yv_link_scopes.specs.Rows.{Row, name_in}
use Rattle.yv_link_features.specs.Meaning.{is_if_feature}
use Rattle.yv_type_identities.specs.Values.{Truth}
use Rattle.yv_type_identities.specs.InnerCandidates.{fails}
use Rattle.yv_type_identities.proofs.Numbers.{number_added}
use Rattle.yv_type_identities.proofs.RowLoop.{any_more, all_taken}

-- the numbers of those in whose block one of the first conditions fails
abbrev pub Failing : Truth → List Row → ℕ → BTreeSet ℕ → Type 0
Failing truth rows n set = (number : ℕ) → contains nat_cmp set number ≡ list_any (fails truth number) (take n rows)

abbrev is_false : Truth → Row → Bool
is_false truth s = is_if_feature s && not (truth s.file (name_in s))

when_false : (a b c : Bool) → (a && c) ≡ true → b ≡ (a && b && c)
when_false true true c h = sym h
when_false true false c h = refl
when_false false b c h = cc

when_true : (a b c d : Bool) → (a && c) ≡ false → d ≡ (d || (a && b && c))
when_true a b c true h = refl
when_true false b c false h = refl
when_true true false c false h = refl
when_true true true c false h = sym h

pub failing_more : (truth : Truth) (rows : List Row) (n : ℕ) (s : Row) (old new : BTreeSet ℕ) → slice_get rows n ≡ Some s → is_false truth s ≡ true → UpdatesBy nat_cmp (nat_cmp s.scope) old new true → Failing truth rows n old → Failing truth rows (n + 1) new
failing_more truth rows n s old new at is u before number =
    number_added old new s.scope u number
    ∙ ap (λ b. b || (s.scope == number)) (before number)
    ∙ ap (λ b. list_any (fails truth number) (take n rows) || b) (when_false (is_if_feature s) (s.scope == number) (not (truth s.file (name_in s))) is)
    ∙ sym (any_more (fails truth number) rows n s at)

pub failing_same : (truth : Truth) (rows : List Row) (n : ℕ) (s : Row) (old : BTreeSet ℕ) → slice_get rows n ≡ Some s → is_false truth s ≡ false → Failing truth rows n old → Failing truth rows (n + 1) old
failing_same truth rows n s old at is before number =
    before number
    ∙ when_true (is_if_feature s) (s.scope == number) (not (truth s.file (name_in s))) (list_any (fails truth number) (take n rows)) is
    ∙ sym (any_more (fails truth number) rows n s at)

pub failing_all : (truth : Truth) (rows : List Row) (n : ℕ) (set : BTreeSet ℕ) → n ≡ length rows → Failing truth rows n set → (number : ℕ) → contains nat_cmp set number ≡ list_any (fails truth number) rows
failing_all truth rows n set e before number = before number ∙ ap (list_any (fails truth number)) (all_taken rows n e)
