use Rattle.std.proofs.Common.{◌≡◌, ◌∙◌, ℕ, ◌+◌, ◌-◌, ◌<◌, List, ◌∷◌, Bool, false, Option, None, Some, drop, get_or, length, replicate, is_some, suc, ap, arith, refl, sym}
use Rattle.std.proofs.lemmas.Bool.{false≢true}
use Rattle.std.proofs.lemmas.List.{drop_more}
use Rattle.yv_nodes.specs.Link.{Link}
use Rattle.yv_nodes.proofs.link.count_to_last.Goals as goal

none_there : (o : Option Link) → is_some o ≡ false → o ≡ None
none_there None h = refl
none_there (Some x) h = absurd (false≢true (sym h))

rest_before : (xs : List (Option Link)) (k : ℕ) (o : Option Link) → k < length xs → o ≡ get_or xs k o → o ≡ None
    → drop (k + 1) xs ≡ replicate (length xs - (k + 1)) None → drop k xs ≡ replicate (length xs - k) None
rest_before xs k o lt is none rest =
    let more : suc (length xs - (k + 1)) ≡ length xs - k = omega (arith, lt) in
    drop_more xs k o lt ∙ ap (λ (x : Option Link). x ∷ drop (k + 1) xs) (sym is ∙ none) ∙ ap (λ (l : List (Option Link)). None ∷ l) rest
    ∙ ap (λ (m : ℕ). replicate m None) more

pub loop-count-preserved : goal.loop-count-preserved
loop-count-preserved c =
    let xs : List (Option Link) = c.args.links.now in
    let n : ℕ = c.loop-count.count in
    let e : n - 1 + 1 ≡ n = omega arith in
    record {
      within = omega arith;
      rest = rest_before xs (n - 1) c.index-links-count.result (omega arith) c.index-links-count.is
          (none_there c.index-links-count.result (sym c.is_some.ensures ∙ c.if-is_some.false))
          (ap (λ (m : ℕ). drop m xs) e ∙ c.loop-count.invariant.rest ∙ ap (λ (m : ℕ). replicate (length xs - m) None) (sym e));
    }
