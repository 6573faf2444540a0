use Rattle.std.proofs.Common.{◌≡◌, drop}
use Rattle.std.specs.List.{find}
use Rattle.yv_text_statement.specs.Tree.{trees}
use Rattle.yv_link_scopes.specs.Files.{has_word}
use Rattle.yv_type_enums.specs.Entries.{number_word}
use Rattle.yv_type_enums.proofs.entries.first_number.Given as goal

abbrev pub invariant-loop-child : goal.invariant-loop-child
invariant-loop-child l = find (λ c. has_word (number_word l.kind) c.head) (drop l.child-index (trees l.line.children)) ≡ find (λ c. has_word (number_word l.kind) c.head) (trees l.line.children)
