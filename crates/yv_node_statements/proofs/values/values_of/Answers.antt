use Rattle.std.proofs.Common.{◌≡◌, ◌+◌, ◌++◌, ◌∷◌, List, drop, map, append_assoc, sym, ap, ◌∙◌, arith}
use Rattle.std.proofs.lemmas.List.{at_drop_more}
use Rattle.yv_values.specs.Types.{Plain, plain_of}
use Rattle.yv_values.specs.Values.{Val}
use Rattle.yv_text_statement.specs.TextInFile.{written_of}
use Rattle.yv_text_statement.specs.declared.written_text.WrittenText.{WrittenText}
use Rattle.yv_node_statements.specs.Values.{alone, value_of, values_of}
use Rattle.yv_node_statements.proofs.values.values_of.Goals as goal

pub loop-written-preserved : goal.loop-written-preserved
loop-written-preserved c =
    let texts : List WrittenText = c.args.texts.now in
    let types : List Plain = map plain_of c.args.types.now in
    let i = c.loop-written.written-index in
    let w : WrittenText = c.written-item.result in
    let before : List Val = c.loop-written.values.items in
    record {
      values = λ files are.
          let all : List WrittenText → List Val = λ ws. before ++ values_of files types (map written_of ws) in
          let rest : List Val = values_of files types (map written_of (drop (i + 1) texts)) in
          ap (λ (vs : List Val). vs ++ rest) (c.in_ok-push_value.ensures.values files are)
          ∙ append_assoc before (alone (value_of files types (written_of w))) rest
          ∙ ap (λ (x : WrittenText). all (x ∷ drop (i + 1) texts)) c.written-item.is
          ∙ sym (at_drop_more all texts i w c.loop-written-test.true)
          ∙ c.loop-written.invariant.values files are;
      few = omega (arith, c.in_ok-push_value.ensures.few, c.loop-written.invariant.few);
    }
