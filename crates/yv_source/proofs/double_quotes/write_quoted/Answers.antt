use Rattle.std.proofs.Common.{◌≡◌, ℕ, ◌+◌, List, sym, ap, ◌∙◌, subst}
use Rattle.std.specs.Prelude.{IfOk, string_bytes, String, Result, Ok, Err}
use Rattle.yv_source.specs.Quotes.{quoted_value}
use Rattle.yv_source.specs.Inner.Writer.{WriterState, all_of}
use Rattle.yv_source.proofs.Runs.{WritesTo, writes_boundary, writes_each, writes_run, writes_char, writes_all}
use Rattle.yv_source.proofs.StrippedBlanks.{stripped_pairs}
use Rattle.yv_source.proofs.double_quotes.write_quoted.Goals as goal

said_by : {E Z : Type 0} (r : Result (String Z) E) (w : WriterState) (column : ℕ) (text : List ℕ) → IfOk r (λ s. string_bytes s ≡ all_of w) → all_of w ≡ quoted_value column text → IfOk r (λ s. string_bytes s ≡ quoted_value column text)
said_by (Ok s) w column text h e = h ∙ e
said_by (Err x) w column text h e = tt

pub range_from-requires : goal.range_from-requires
range_from-requires c = λ some. writes_boundary c.loop-writer.invariant

pub returns-in_err-at-clause-pairs : goal.returns-in_err-at-clause-pairs
returns-in_err-at-clause-pairs c = stripped_pairs c.args.column c.args.text.now c.utf8.text

pub returns-in_err-trail-clause-pairs : goal.returns-in_err-trail-clause-pairs
returns-in_err-trail-clause-pairs c = stripped_pairs c.args.column c.args.text.now c.utf8.text

pub returns-in_default-clause-pairs : goal.returns-in_default-clause-pairs
returns-in_default-clause-pairs c = stripped_pairs c.args.column c.args.text.now c.utf8.text

pub returns-in_err-take_in-clause-pairs : goal.returns-in_err-take_in-clause-pairs
returns-in_err-take_in-clause-pairs c = stripped_pairs c.args.column c.args.text.now c.utf8.text

pub range_from-requires-in-loop-writer : goal.range_from-requires-in-loop-writer
range_from-requires-in-loop-writer c =
    let escaped = writes_each c.loop-writer.invariant _ c.in_ok-at.field-0 c.take_escapes.new.self c.range_from.ensures.value c.in_ok-at.ensures.within c.in_ok-at.ensures.takes in
    λ some. writes_boundary escaped

pub returns-in_err-at-2-clause-pairs : goal.returns-in_err-at-2-clause-pairs
returns-in_err-at-2-clause-pairs c = stripped_pairs c.args.column c.args.text.now c.utf8.text

pub returns-in_default-clause-says : goal.returns-in_default-clause-says
returns-in_default-clause-says c =
    let escaped = writes_each c.loop-writer.invariant _ c.in_ok-at.field-0 c.take_escapes.new.self c.range_from.ensures.value c.in_ok-at.ensures.within c.in_ok-at.ensures.takes in
    let here = writes_run escaped _ c.in_ok-at-2.field-0 c.take_run.new.self c.range_from-in-loop-writer.ensures.value c.in_ok-at-2.ensures.boundary c.in_ok-at-2.ensures.run in
    let all = writes_all c.args.column here (sym c.range_from-in-loop-writer-2.ensures.value ∙ c.in_default.ensures.none) in
    said_by c.end.result c.trail.new.self c.args.column c.args.text.now c.end.ensures (ap all_of c.in_ok-trail.ensures ∙ all)

pub loop-writer-preserved : goal.loop-writer-preserved
loop-writer-preserved c =
    let escaped = writes_each c.loop-writer.invariant _ c.in_ok-at.field-0 c.take_escapes.new.self c.range_from.ensures.value c.in_ok-at.ensures.within c.in_ok-at.ensures.takes in
    let here = writes_run escaped _ c.in_ok-at-2.field-0 c.take_run.new.self c.range_from-in-loop-writer.ensures.value c.in_ok-at-2.ensures.boundary c.in_ok-at-2.ensures.run in
    let next = writes_char here c.in-Some.c _ (sym c.range_from-in-loop-writer-2.ensures.value ∙ c.in-Some.ensures.some) in
    let P : ℕ × WriterState → Type 0 = λ x. WritesTo (c.args.column + 1) c.args.text.now (c.loop-writer.at + c.in_ok-at.field-0 + c.in_ok-at-2.field-0 + x.0) x.1 in
    subst P (λ i. (sym c.len_utf8.ensures.value i, sym c.in_ok-take_in.ensures i)) next
