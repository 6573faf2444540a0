use Rattle.std.proofs.Common.{◌∙◌, ◌++◌, ℕ, List, Bor, map, append_assoc, append-nil, sym, ap, arith}
use Rattle.std.proofs.lemmas.List.{drop_all}
use Rattle.yv_values.specs.Texts.{choose}
use Rattle.yv_values.specs.Values.{texts}
use Rattle.yv_values.proofs.BitSets.{rest_is, next_word, chosen_none}
use Rattle.yv_values.proofs.bits.choose_names.Goals as goal

pub loop-word-preserved : goal.loop-word-preserved
loop-word-preserved c =
    let i = c.loop-word.word-index in
    let left = rest_is c.args.words.now i _ c.as_bytes.result.now (omega arith) c.as_bytes.ensures.value in
    let more = next_word c.args.names.now _ _ c.as_bytes.result.now left c.equal_to.ensures.order c.loop-word.invariant.order c.loop-word.invariant.distinct in
    record {
      same = rw (c.in_ok-add_copies.ensures, c.equal_to.ensures.names, append_assoc, ← more.0) c.loop-word.invariant.same;
      order = more.1;
      distinct = more.2;
    }

pub returns : goal.returns
returns c =
    let found = texts c.loop-word.found.items in
    let none = ap (map (λ (w : Bor (List ℕ)). w.now)) (drop_all c.loop-word.word-index c.args.words.now c.loop-word-test.false) in
    let end = ap (choose c.args.names.now) none ∙ chosen_none c.args.names.now in
    sym (append-nil found) ∙ ap (λ (xs : List (List ℕ)). found ++ xs) (sym end) ∙ c.loop-word.invariant.same
