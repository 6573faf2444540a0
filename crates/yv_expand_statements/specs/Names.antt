-- The names of schema nodes as numbers.
use Rattle.std.specs.Prelude.{ℕ, ◌||◌, List, if◌then◌else◌, codes}
use Rattle.yv_text_statement.specs.Tree.{Head, name_of}
use Rattle.yv_link_scopes.specs.Files.{has_word}

-- the name of the node that a statement gives: its argument, or of an operation's input or output,
-- which has none, its keyword (RFC 7950, section 7.14)
abbrev pub node_name : Head → List ℕ
node_name head = if has_word (codes "input") head || has_word (codes "output") head
    then head.keyword else name_of head
