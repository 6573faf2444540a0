use Rattle.std.proofs.Common.{◌≡◌, ◌∙◌, ◌+◌, ◌||◌, Bool, List, [], ◌∷◌, ◌++◌, take, ap, sym, subst}
use Rattle.std.proofs.lemmas.List.{take_more}
use Rattle.yv_values.specs.InnerDefaults.{KeepsAlone}
use Rattle.yv_values.specs.Same.{has_same, is_among}
use Rattle.yv_values.specs.Values.{Val}
use Rattle.yv_values.proofs.Alone.{same_more}
use Rattle.yv_values.proofs.defaults.index_many.Goals as goal
use Rattle.yv_values.proofs.defaults.index_many.Goals.{then-repeats, else-repeats}

pub loop-value-preserved : goal.loop-value-preserved
loop-value-preserved c =
    let xs : List Val = c.args.values.now in
    let i = c.loop-value.value-index in
    let v : Val = c.value-item.result in
    let seen : take (i + 1) xs ≡ take i xs ++ v ∷ [] = take_more xs i v c.loop-value-test.true ∙ ap (λ (w : Val). take i xs ++ w ∷ []) (sym c.value-item.is) in
    let total : has_same (take (i + 1) xs) ≡ (c.loop-value.repeats || c.in_ok-is_known.is_known) =
    ap has_same seen ∙ same_more (take i xs) v ∙ ap (λ (b : Bool). b || is_among v (take i xs)) (sym c.loop-value.invariant.repeated)
    ∙ ap (λ (b : Bool). c.loop-value.repeats || b) (sym (c.in_ok-is_known.ensures.knows (take i xs) c.loop-value.invariant.kept)) in
    record {
      kept = subst (λ (vs : List Val). KeepsAlone c.keep.new.index vs) (sym seen) (c.in_ok-is_known.ensures.keeps (take i xs) c.loop-value.invariant.kept);
      repeated = elim c.if-repeats.branch [
        | then-repeats w ↦ w.repeats-is ∙ w.if-repeats.true ∙ sym (total ∙ ap (λ (b : Bool). b || c.in_ok-is_known.is_known) w.if-repeats.true)
        | else-repeats w ↦ w.repeats-is ∙ sym (total ∙ ap (λ (b : Bool). b || c.in_ok-is_known.is_known) w.if-repeats.false)
      ];
    }
