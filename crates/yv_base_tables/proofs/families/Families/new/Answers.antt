use Rattle.std.proofs.Common.{◌≡◌, ℕ, ◌++◌, ◌∷◌, [], List, Option, length, sym, ◌∙◌, ap, subst, arith, length-append, add-one}
use Rattle.yv_base_tables.specs.Families.{numbers_at, by_place}
use Rattle.yv_base_tables.specs.InnerParts.{AreEnds, parts}
use Rattle.yv_base_tables.proofs.ListParts.{parts_more, ends_more}
use Rattle.yv_base_tables.proofs.families.Families.new.Goals as goal

pub write-requires-clause-chain : goal.write-requires-clause-chain
write-requires-clause-chain c = (numbers_at c.args.places.now c.loop-place.place, c.in_ok-chains.ensures.leads c.loop-place.place c.loop-place-test.true)

pub loop-place-preserved : goal.loop-place-preserved
loop-place-preserved c =
    let places : List (Option ℕ) = c.args.places.now in
    let place : ℕ = c.loop-place.place in
    let old : List ℕ = c.loop-place.numbers.items in
    let more : List ℕ = numbers_at places place in
    let now : c.write.new.numbers.items ≡ old ++ more = c.in_ok-write.ensures more (c.in_ok-chains.ensures.leads place c.loop-place-test.true) in
    let end : c.len.result ≡ length c.write.new.numbers.items = omega (arith, c.len.ensures) in
    let n : ℕ = c.len.result in
    let long : n ≡ length (old ++ more) = end ∙ ap length now in
    record {
      ends = subst (λ (l : List ℕ). AreEnds 0 l (length c.write.new.numbers.items)) (sym c.in_ok-push.ensures.items) (subst (λ (m : ℕ). AreEnds 0 (c.loop-place.ends.items ++ n ∷ []) m) end (ends_more 0 (length old) n c.loop-place.ends.items c.loop-place.invariant.ends (omega (arith, long, length-append old more))));
      parts =
          ap (parts c.write.new.numbers.items 0) c.in_ok-push.ensures.items
          ∙ ap (λ l. parts l 0 (c.loop-place.ends.items ++ n ∷ [])) now
          ∙ parts_more old more 0 n c.loop-place.ends.items c.loop-place.invariant.ends long
          ∙ ap (λ l. l ++ more ∷ []) c.loop-place.invariant.parts
          ∙ ap (by_place places) (sym (add-one place));
    }
