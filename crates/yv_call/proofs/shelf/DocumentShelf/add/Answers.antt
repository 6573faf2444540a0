use Rattle.std.proofs.Common.{◌∙◌, Some, ap, option_map, string_bytes}
use Rattle.std.specs.Str.{bytes_eq}
use Rattle.std.proofs.lemmas.Map.Text.{btree_map_updates_text}
use Rattle.yv_call.proofs.ShelfLemmas.{found_of}
use Rattle.yv_call.proofs.shelf.DocumentShelf.add.Goals as goal

pub returns : goal.returns
returns c = λ n.
    ap (option_map (λ d. d.now))
    (btree_map_updates_text (string_bytes c.args.name) c.args.self.now.documents
    c.insert.new.self (Some c.args.document) c.in_ok-insert.ensures.updates n)
    ∙ found_of (λ d. d.now) (bytes_eq (string_bytes c.args.name) n) c.args.document _
