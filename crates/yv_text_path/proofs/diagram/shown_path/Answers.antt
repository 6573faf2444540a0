use Rattle.std.proofs.Common.{◌≡◌, [], false, string_bytes, sym, ap, ◌∙◌}
use Rattle.std.specs.Str.{chars}
use Rattle.std.proofs.lemmas.Iterator.{YieldsList-from_chars}
use Rattle.std.proofs.lemmas.List.{map-id}
use Rattle.std.proofs.lemmas.Iterator.Consumers.{YieldsList-end}
use Rattle.yv_text_path.proofs.BlankRuns.{ends_blank-more, written, written_letter, written_nothing, written_space}
use Rattle.yv_text_path.proofs.diagram.shown_path.Goals as goal

pub loop-character-preserved-in_ok-push : goal.loop-character-preserved-in_ok-push
loop-character-preserved-in_ok-push c = record {
  text = c.in_ok-push.ensures.bytes ∙ written_letter [] c.loop-character.yielded c.in-Some.character (string_bytes c.loop-character.path) c.loop-character.invariant.text
      (sym c.is_blank-blank.ensures ∙ c.if-not-blank.true);
  behind = c.is_blank-blank.ensures ∙ sym (ends_blank-more false c.loop-character.yielded c.in-Some.character);
}

pub loop-character-preserved-in_ok-push-2 : goal.loop-character-preserved-in_ok-push-2
loop-character-preserved-in_ok-push-2 c = record {
  text = c.in_ok-push-2.ensures.bytes ∙ written_space [] c.loop-character.yielded c.in-Some.character (string_bytes c.loop-character.path) c.loop-character.invariant.text
      (sym c.is_blank-blank.ensures ∙ c.if-not-blank.false) (sym c.loop-character.invariant.behind ∙ c.if-not-is_behind.true);
  behind = c.is_blank-blank.ensures ∙ sym (ends_blank-more false c.loop-character.yielded c.in-Some.character);
}

pub loop-character-preserved : goal.loop-character-preserved
loop-character-preserved c = record {
  text = written_nothing [] c.loop-character.yielded c.in-Some.character (string_bytes c.loop-character.path) c.loop-character.invariant.text
      (sym c.is_blank-blank.ensures ∙ c.if-not-blank.false) (sym c.loop-character.invariant.behind ∙ c.if-not-is_behind.false);
  behind = c.is_blank-blank.ensures ∙ sym (ends_blank-more false c.loop-character.yielded c.in-Some.character);
}

pub returns : goal.returns
returns c =
    let t = YieldsList-end (YieldsList-from_chars c.args.text.now c.utf8.text cc) c.loop-character.yielded _ c.loop-character.yielded_by _ _ c.in-None.is c.next.ensures.steps in
    let all : c.loop-character.yielded ≡ chars c.args.text.now = sym (map-id c.loop-character.yielded) ∙ t.0 in
    c.loop-character.invariant.text ∙ ap (written []) all
