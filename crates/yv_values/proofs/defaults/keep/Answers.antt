use Rattle.std.proofs.Common.{◌≡◌, ◌∙◌, List, [], ◌∷◌, ◌++◌, Ok, ap, subst}
use Rattle.yv_values.specs.Pairs.{AddsIfNone, IsLeast}
use Rattle.yv_values.specs.Values.{Val}
use Rattle.yv_values.proofs.Alone.{found_among, kept_more}
use Rattle.yv_values.proofs.defaults.keep.Goals as goal

pub returns-clause-knows : goal.returns-clause-knows
returns-clause-knows c =
    let v = c.args.value.now in
    let old = c.args.index.now in
    let key : c.push.new.self ≡ v ∷ [] = c.in_ok-push.ensures ∙ ap (λ (ws : List Val). ws ++ c.in_ok-copy.field-0 ∷ []) c.new-key.ensures ∙ ap (λ (w : Val). w ∷ []) c.in_ok-copy.ensures in
    λ vs h. c.is_some.ensures ∙ found_among old vs h v c.in_ok-found.found (subst (λ (k : List Val). IsLeast old k c.in_ok-found.found) key c.in_ok-found.ensures.least)

pub returns-clause-keeps : goal.returns-clause-keeps
returns-clause-keeps c =
    let v = c.args.value.now in
    let old = c.args.index.now in
    let key : c.push.new.self ≡ v ∷ [] = c.in_ok-push.ensures ∙ ap (λ (ws : List Val). ws ++ c.in_ok-copy.field-0 ∷ []) c.new-key.ensures ∙ ap (λ (w : Val). w ∷ []) c.in_ok-copy.ensures in
    λ vs h. kept_more old vs h c.find_or_keep.new.self v c.in_ok-found.found (subst (λ (k : List Val). IsLeast old k c.in_ok-found.found) key c.in_ok-found.ensures.least)
    (subst (λ (k : List Val). AddsIfNone (Ok c.in_ok-found.found) old c.find_or_keep.new.self k 0) key c.in_ok-found.ensures.keeps)
