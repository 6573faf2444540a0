use Rattle.std.proofs.Common.{◌≡◌, ◌+◌, ◌||◌, ℕ, rules, subst, sym, string_bytes}
use Rattle.yv_batch.specs.InnerLine.{IsRead}
use Rattle.yv_batch.specs.InnerLines.{IsLine}
use Rattle.yv_batch.specs.LinesLeft.{lines_left, lines_of}
use Rattle.yv_batch.specs.PiecesLeft.{left_of}
use Rattle.yv_batch.proofs.LineLemmas.{ended, line_read}
use Rattle.yv_batch.proofs.lines.Lines.next_line.Goals as goal

pub returns-in_default-clause-line : goal.returns-in_default-clause-line
returns-in_default-clause-line g c = c.lose.ensures.line (lines_of g.R.Read.remaining c.args.self.now)

pub returns-in-Ok-None-clause-line : goal.returns-in-Ok-None-clause-line
returns-in-Ok-None-clause-line g c =
    let l = c.args.self.now in
    ended (string_bytes l.source) l.number c.in-Some.number (l.has_lost || l.is_broken) (left_of g.R.Read.remaining l.pieces) (left_of g.R.Read.remaining c.next.new.self) (rw c.in-Ok-None.field-0-is at c.in-Ok-None.ensures.gives)

pub returns-in-Ok-Some-clause-line : goal.returns-in-Ok-Some-clause-line
returns-in-Ok-Some-clause-line g c =
    let l = c.args.self.now in
    let next : c.in-Some.number ≡ l.number + 1 = search rules in
    let old = left_of g.R.Read.remaining l.pieces in
    let new = left_of g.R.Read.remaining c.next.new.self in
    let lost = l.has_lost || l.is_broken in
    let front = c.in-Ok-Some.front.items in
    subst (λ (n : ℕ). IsLine (string_bytes l.source) (lines_left (string_bytes l.source) l.number lost old) (lines_left (string_bytes l.source) n lost new) c.line_of.result) (sym next)
    (line_read (string_bytes l.source) l.number lost old new front c.line_of.result (rw c.in-Ok-Some.field-0-is at c.in-Ok-Some.ensures.gives)
    (subst (λ (n : ℕ). IsRead n front c.line_of.result) next c.line_of.ensures))

pub returns-in-Err-clause-line : goal.returns-in-Err-clause-line
returns-in-Err-clause-line g c = c.lose-in-Err.ensures.line (lines_of g.R.Read.remaining c.args.self.now)
