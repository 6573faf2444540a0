use Rattle.std.proofs.Common.{◌≡◌, map, take}
use Rattle.std.specs.List.{filter}
use Rattle.yv_text_statement.specs.Tree.{Tree, trees}
use Rattle.yv_link_scopes.specs.Files.{has_word}
use Rattle.yv_type_enums.specs.Entries.{entry_word}
use Rattle.yv_type_enums.proofs.entries.listing.Given as goal

abbrev pub invariant-loop-child : goal.invariant-loop-child
invariant-loop-child l = map (λ line. line.now) l.lines.items ≡ filter (λ (c : Tree). has_word (entry_word l.kind) c.head) (take l.child-index (trees l.statement.children))
