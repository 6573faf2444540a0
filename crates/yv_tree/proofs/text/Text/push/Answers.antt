use Rattle.std.proofs.Common.{rules, ◌≡◌, ◌++◌, is_err, string_bytes, true, false}
use Rattle.yv_tree.proofs.Texts.{pushed}
use Rattle.yv_tree.proofs.text.Text.push.Goals as goal

pub returns : goal.returns
returns c = λ start text h.
    let more : is_err c.push_str-self.result ≡ false → string_bytes c.push_str-self.new.self ≡ string_bytes c.args.self.now.text ++ c.args.piece.now = search rules in
    let same : is_err c.push_str-self.result ≡ true → string_bytes c.push_str-self.new.self ≡ string_bytes c.args.self.now.text = search rules in
    pushed start text (string_bytes c.args.self.now.text) (string_bytes c.push_str-self.new.self) c.args.piece.now (is_err c.args.self.now.room) (is_err c.push_str-self.result) c.requires more same h
