-- Which nodes augments add to.
use Rattle.std.proofs.Common.{◌≡◌, ℕ, ◌<◌, Bool, true, false, if◌then◌else◌, List, refl, sym, ◌∙◌, ap, length, Option, Some, None}
use Rattle.std.specs.List.{slice_get}
use Rattle.std.proofs.lemmas.Option.{slice_get_within, same_Some}
use Rattle.yv_expand_rounds.specs.declared.label.Label.{Label}
use Rattle.yv_expand_rounds.specs.declared.end.End.{End}
use Rattle.yv_expand_rounds.specs.declared.end.End.TheVariants as end
use Rattle.yv_expand_rounds.specs.Turns.{target, is_some_target}

some_by : (o : Option Label) → is_some_target o ≡ true → (l : Label) × (o ≡ Some l)
some_by None e = absurd (let bad : false ≡ true = e in cc)
some_by (Some l) e = (l, refl)

if_some : (b : Bool) (i j : ℕ) → (if b then Some i else None) ≡ Some j → (b ≡ true) × (i ≡ j)
if_some true i j e = (refl, same_Some i j e)
if_some false i j e = absurd (let bad : None ≡ Some j = e in cc)

-- a target is one of the items
pub target_within : (labels : List Label) (e : End) (i : ℕ) → target labels e ≡ Some i → i < length labels
target_within labels (end.Start g) i h = absurd (let bad : None ≡ Some i = h in cc)
target_within labels (end.ShorthandCase g) i h = absurd (let bad : None ≡ Some i = h in cc)
target_within labels (end.Node n) i h =
    let parts = if_some (is_some_target (slice_get labels n)) n i h in
    let t = some_by (slice_get labels n) parts.0 in
    let at : slice_get labels i ≡ Some t.0 = ap (slice_get labels) (sym parts.1) ∙ t.1 in
    slice_get_within labels i t.0 at

-- a target is the node where the path ends
pub target_is : (labels : List Label) (e : End) (i : ℕ) → target labels e ≡ Some i → e ≡ end.Node i
target_is labels (end.Start g) i h = absurd (let bad : None ≡ Some i = h in cc)
target_is labels (end.ShorthandCase g) i h = absurd (let bad : None ≡ Some i = h in cc)
target_is labels (end.Node n) i h = ap (λ k. end.Node k) (if_some (is_some_target (slice_get labels n)) n i h).1
