-- What contracts see of a statement.
use Rattle.std.specs.Cow.{cow_str_bytes}
use Rattle.std.specs.Option.{option_map}
use Rattle.yv_text_statement.specs.Tree.{Tree, forest}
use Rattle.yv_text_statement.specs.declared.statement.Statement.TheInside.{Inside}

-- the statement that a value of the code is
abbrev pub tree_of : Inside → Tree
tree_of a = record {
  head = record {
    keyword = a.keyword.now;
    argument = option_map (λ s. cow_str_bytes s) a.argument;
    line = a.line;
    offset = a.offset;
  };
  children = forest a.children.items;
}
