use Rattle.std.proofs.Common.{string_bytes}
use Rattle.yv_note_text.proofs.QuotedWords.{further, as_before}
use Rattle.yv_note_text.proofs.quotes.push_rest.Goals as goal

pub returns-in_err-push_str-clause-grows : goal.returns-in_err-push_str-clause-grows
returns-in_err-push_str-clause-grows c =
    as_before (string_bytes c.args.text.now) (string_bytes c.push_shown.new.text) (string_bytes c.push_str.new.self) c.push_shown.ensures.grows c.in_err-push_str.ensures.bytes

pub returns-in_err-push_str-2-clause-grows : goal.returns-in_err-push_str-2-clause-grows
returns-in_err-push_str-2-clause-grows c =
    as_before (string_bytes c.args.text.now) (string_bytes c.push_str.new.self) (string_bytes c.push_str-2.new.self)
    (further (string_bytes c.args.text.now) (string_bytes c.push_shown.new.text) (string_bytes c.push_str.new.self) c.push_shown.ensures.grows (_, c.in_ok-push_str.ensures.bytes))
    c.in_err-push_str-2.ensures.bytes

pub returns-clause-grows : goal.returns-clause-grows
returns-clause-grows c =
    further (string_bytes c.args.text.now) (string_bytes c.push_str.new.self) (string_bytes c.push_str-2.new.self)
    (further (string_bytes c.args.text.now) (string_bytes c.push_shown.new.text) (string_bytes c.push_str.new.self) c.push_shown.ensures.grows (_, c.in_ok-push_str.ensures.bytes))
    (_, c.in_ok-push_str-2.ensures.bytes)
