use Rattle.std.proofs.Common.{◌≡◌, ◌<◌, ◌+◌, ◌++◌, ◌∙◌, ap, arith, refl, subst, string_bytes, IfSome}
use Rattle.yv_base_streams.specs.Files.{file_of}
use Rattle.yv_note_refusals.specs.OtherRefusals.{IsOtherLine}
use Rattle.yv_note_refusals.proofs.OtherLines.{no_line, one_line}
use Rattle.yv_note_refusals.proofs.other_files.OtherLines.take.Goals as goal

pub returns-then-self-ge-MOST_LINES : goal.returns-then-self-ge-MOST_LINES
returns-then-self-ge-MOST_LINES c = λ files held. no_line c.args.phase files (file_of c.args.input.now) c.args.self.now held

pub returns-in_ok-push_str : goal.returns-in_ok-push_str
returns-in_ok-push_str c = λ files held.
    let file = file_of c.args.input.now in
    let few : c.args.self.now.count < 20 = omega (arith, c.if-self-ge-MOST_LINES.false) in
    let told = subst (λ l. IfSome l (λ s. IsOtherLine c.args.phase file (string_bytes s))) c.in-Some.is c.in_ok-line.ensures in
    let pushed : string_bytes c.push_str.new.self ≡ string_bytes c.args.self.now.text ++ string_bytes c.in-Some.line =
    c.in_ok-push_str.ensures.bytes ∙ ap (λ t. string_bytes c.args.self.now.text ++ t) c.as_str.ensures.value in
    one_line c.args.phase files file c.args.self.now (record { text = c.push_str.new.self; count = c.args.self.now.count + 1 }) (string_bytes c.in-Some.line) held few told pushed refl

pub returns-in_default : goal.returns-in_default
returns-in_default c = λ files held. no_line c.args.phase files (file_of c.args.input.now) c.args.self.now held
