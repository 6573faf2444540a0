use Rattle.std.proofs.Common.{◌≡◌, codes, drop}
use Rattle.std.specs.List.{find}
use Rattle.yv_text_statement.specs.Tree.{trees}
use Rattle.yv_link_scopes.specs.Files.{has_word}
use Rattle.yv_lint.proofs.definitions.module_name.Given as goal

abbrev pub invariant-loop-one : goal.invariant-loop-one
invariant-loop-one l = find (λ c. has_word (codes "belongs-to") c.head) (drop l.one-index (trees l.root.children)) ≡ find (λ c. has_word (codes "belongs-to") c.head) (trees l.root.children)
