-- Whether all conditions in a block hold (RFC 7950, section 7.20.2).
use Rattle.std.specs.Prelude.{ℕ, Bool, not, ◌||◌, List, codes}
use Rattle.std.specs.List.{list_all}
use Rattle.yv_text_statement.specs.Tree.{Tree, name_of}
use Rattle.yv_link_scopes.specs.Files.{has_word}

-- each statement of a block is no `if-feature`, or its expression is true
abbrev pub all_hold : (is_true : List ℕ → Bool) → List Tree → Bool
all_hold is_true ss =
    list_all (λ s. not (has_word (codes "if-feature") s.head) || is_true (name_of s.head)) ss
