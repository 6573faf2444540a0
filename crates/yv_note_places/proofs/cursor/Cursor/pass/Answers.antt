use Rattle.std.proofs.Common.{◌<◌, length, arith}
use Rattle.yv_note_places.proofs.PlaceLemmas.{behind_feed, behind_other, column_fits, line_fits}
use Rattle.yv_note_places.proofs.cursor.Cursor.pass.Goals as goal

pub returns-then-byte-eq10 : goal.returns-then-byte-eq10
returns-then-byte-eq10 c = λ before.
    let lt : c.args.self.now.offset < length c.args.text.now = omega arith in
    behind_feed c.args.text.now c.args.self.now.offset lt c.args.self.now.place _ before c.if-byte-eq10.true
    (let fits = line_fits c.args.text.now c.args.self.now.offset lt c.args.self.now.place before in omega (arith, fits))

pub returns-else-byte-eq10 : goal.returns-else-byte-eq10
returns-else-byte-eq10 c = λ before.
    let lt : c.args.self.now.offset < length c.args.text.now = omega arith in
    behind_other c.args.text.now c.args.self.now.offset lt c.args.self.now.place c.saturating_add-self-else-byte-eq10.result before c.if-byte-eq10.false
    (let fits = column_fits c.args.text.now c.args.self.now.offset lt c.args.self.now.place before in omega (arith, fits))
