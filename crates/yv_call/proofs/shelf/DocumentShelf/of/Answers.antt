use Rattle.std.proofs.Common.{rules, arith, ◌≡◌, ◌∙◌, ◌<◌, length, Bor, List, ℕ, false, true, ap, refl, string_bytes}
use Rattle.yv_call.specs.ShelfDocuments.{document_of}
use Rattle.yv_call.proofs.ShelfLemmas.{forced_more, named_more, none_named}
use Rattle.yv_call.proofs.shelf.DocumentShelf.of.Goals as goal

pub returns-then-not-branch : goal.returns-then-not-branch
returns-then-not-branch c = λ (lookup, are).
    let there : c.loop-place.place < length c.args.documents.now = omega arith in
    let lost : c.in_ok-put.field-0 ≡ false = search rules in
    none_named string_bytes (λ (d : Bor (List ℕ)). d.now) c.args.names.now c.args.documents.now
    c.loop-place.place _ _ _ _ c.loop-place-test.true there
    (c.as_str.ensures.value ∙ ap string_bytes c.index-names-place.is) refl
    (document_of c.loop-place.shelf) (document_of c.put.new.self) _ lost c.in_ok-put.ensures
    c.loop-place.invariant.forced lookup are

pub loop-place-preserved : goal.loop-place-preserved
loop-place-preserved c =
    let there : c.loop-place.place < length c.args.documents.now = omega arith in
    let kept : c.in_ok-put.field-0 ≡ true = search rules in record {
      are = named_more string_bytes (λ (d : Bor (List ℕ)). d.now) c.args.names.now
          c.args.documents.now c.loop-place.place _ _ _ _ c.loop-place-test.true there
          (c.as_str.ensures.value ∙ ap string_bytes c.index-names-place.is) refl
          (document_of c.loop-place.shelf) (document_of c.put.new.self) _ kept c.in_ok-put.ensures
          c.loop-place.invariant.are;
      forced = forced_more string_bytes (λ (d : Bor (List ℕ)). d.now) c.args.names.now
          c.args.documents.now c.loop-place.place _ _ _ _ c.loop-place-test.true there
          (c.as_str.ensures.value ∙ ap string_bytes c.index-names-place.is) refl
          (document_of c.loop-place.shelf) (document_of c.put.new.self) _ kept c.in_ok-put.ensures
          c.loop-place.invariant.forced;
    }
