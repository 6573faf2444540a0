use Rattle.std.proofs.Common.{◌≡◌, ◌∙◌, ◌-◌, ◌^◌, ◌++◌, ℕ, List, Bor, ap, length, map, min, refl}
use Rattle.yv_call.specs.Front.{front_of}
use Rattle.yv_call.specs.FrontText.{initial_of, mark_of, name_of, text_of}
use Rattle.yv_call_run.specs.NoteParts.{note_text}
use Rattle.yv_call_run.proofs.FillLemmas.{written}
use Rattle.yv_call_run.proofs.buffer_fill.fill_front.Goals as goal

pub returns-clause-fills : goal.returns-clause-fills
returns-clause-fills c = λ given words files documents.
    let w = c.answer-answered.ensures given words files documents in
    let kept = written c.new.result c.into_inner-front.result w.0 c.new.ensures.text
    (ap mark_of c.into_inner-front.ensures ∙ w.1
    ∙ ap (λ f. mark_of f ++ w.0) c.new-writer.ensures.inner) in
    let note : List ℕ = note_text c.answer-answered.result.note in
    let text : text_of c.push-note_length.new.front ≡ w.0 ++ note =
    c.push-note_length.ensures.text ∙ ap (λ t. t ++ note) kept.2 in
    let initial : initial_of c.push-note_length.new.front ≡ c.args.buffer.now =
    c.push-note_length.ensures.initial ∙ kept.1 ∙ c.new.ensures.initial in
    let now : c.into_buffer.result.now ≡ front_of (w.0 ++ note) c.args.buffer.now =
    c.into_buffer.ensures.now
    ∙ ap (λ t. front_of t (initial_of c.push-note_length.new.front)) text
    ∙ ap (λ i. front_of (w.0 ++ note) i) initial in
    record {
      output = w.0;
      note = note;
      answers = w.2;
      output_is = c.count-output_length.ensures ∙ ap (λ t. min (length t) (2 ^ 64 - 1)) kept.2;
      note_is = c.push-note_length.ensures.length;
      fills = now;
    }

pub returns-clause-name : goal.returns-clause-name
returns-clause-name c =
    let moved : name_of c.new.result ≡ c.args.buffer.ghost_name = c.new.ensures.name in
    let passed : name_of c.push-note_length.new.front ≡ name_of c.into_inner-front.result =
    c.push-note_length.ensures.name in
    let these = c.answer-answered.ensures (record {
      words = map (λ (w : Bor (List ℕ)). w.now) c.args.words.now;
      files = map (λ (f : Bor (List ℕ)). f.now) c.args.files.now;
      documents = map (λ (d : Bor (List ℕ)). d.now) c.args.documents.now;
    }) refl refl refl in
    let kept = written c.new.result c.into_inner-front.result these.0 c.new.ensures.text
    (ap mark_of c.into_inner-front.ensures ∙ these.1
    ∙ ap (λ f. mark_of f ++ these.0) c.new-writer.ensures.inner) in
    c.into_buffer.ensures.name ∙ passed ∙ kept.0 ∙ moved
