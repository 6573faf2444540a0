use Rattle.std.proofs.Common.{List, ℕ, ◌++◌, subst}
use Rattle.yv_base_streams.specs.Pages.{IsPaged, paged_output}
use Rattle.yv_json_lines.proofs.ByteLemmas.{short, control, plain}
use Rattle.yv_json_lines.proofs.strings.put_byte_inside.Goals as goal

pub returns-then-letter-gt0 : goal.returns-then-letter-gt0
returns-then-letter-gt0 g c = λ start text h.
    subst (λ (l : List ℕ). IsPaged start (text ++ l) (paged_output g.W.Write.contents c.put.new.writer c.put.new.self))
    (short c.args.byte c.letter_of-letter.result c.letter_of-letter.ensures c.if-letter-gt0.true) (c.put.ensures start text h)

pub returns-then-byte-lt32 : goal.returns-then-byte-lt32
returns-then-byte-lt32 g c = λ start text h.
    subst (λ (l : List ℕ). IsPaged start (text ++ l) (paged_output g.W.Write.contents c.put-then-byte-lt32.new.writer c.put-then-byte-lt32.new.self))
    (control c.args.byte c.digit.result c.digit-then-byte-lt32.result c.letter_of-letter.result c.letter_of-letter.ensures c.if-letter-gt0.false c.if-byte-lt32.true c.digit.ensures c.digit-then-byte-lt32.ensures)
    (c.put-then-byte-lt32.ensures start text h)

pub returns-else-byte-lt32 : goal.returns-else-byte-lt32
returns-else-byte-lt32 g c = λ start text h.
    subst (λ (l : List ℕ). IsPaged start (text ++ l) (paged_output g.W.Write.contents c.put_byte.new.writer c.put_byte.new.self))
    (plain c.args.byte c.letter_of-letter.result c.letter_of-letter.ensures c.if-letter-gt0.false c.if-byte-lt32.false) (c.put_byte.ensures start text h)
