-- How a statement grows while it is read.
use Rattle.std.specs.Prelude.{ℕ, List, ◌++◌, Option, Some, None}
use Rattle.yv_text_statement.specs.Tree.{Forest, End, Then, Tree}

-- two lists of statements, one after the other
abbrev pub join_forests : Forest → Forest → Forest
join_forests End g = g
join_forests (Then h c o) g = Then h c (join_forests o g)

-- a statement with one more child after the others
abbrev pub push_child : Tree → Tree → Tree
push_child p t =
    record { head = p.head; children = join_forests p.children (Then t.head t.children End) }

-- a keyword only, at its place
abbrev pub bare : ℕ → ℕ → List ℕ → Tree
bare line offset keyword =
    record {
      head = record { keyword = keyword; argument = None; line = line; offset = offset };
      children = End;
    }

-- a statement with another argument
abbrev pub with_argument : List ℕ → Tree → Tree
with_argument text t =
    record {
      head = record {
        keyword = t.head.keyword;
        argument = Some text;
        line = t.head.line;
        offset = t.head.offset;
      };
      children = t.children;
    }

-- an argument with more text after it; the text, where there was none
abbrev pub extend : Option (List ℕ) → List ℕ → List ℕ
extend None text = text
extend (Some front) text = front ++ text

-- a statement with more of an argument
abbrev pub with_more : List ℕ → Tree → Tree
with_more text t = with_argument (extend t.head.argument text) t
