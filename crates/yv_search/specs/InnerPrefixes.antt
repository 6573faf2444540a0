-- Only private clauses cite this: the table of a file's prefixes, as it is made.
use Rattle.std.specs.Prelude.{ℕ, ◌&&◌, List, Option, Some, None, if◌then◌else◌, codes}
use Rattle.std.specs.List.{find}
use Rattle.std.specs.Option.{option_map, option_and_then, option_or}
use Rattle.yv_text_statement.specs.Tree.{Tree}
use Rattle.yv_search.specs.Wants.{has_word}
use Rattle.yv_search.specs.Prefixes.{has_prefix, gives_prefix, module_meant}
use Rattle.yv_search.specs.declared.table.ModuleRef.{ModuleRef}

-- modules by their names
abbrev pub Refs : Type 0
Refs = List ℕ → Option ModuleRef

-- the module of a statement's argument
abbrev pub ref_in : Refs → Tree → Option ModuleRef
ref_in refs s = option_and_then refs s.head.argument

-- what a word had, or else what a statement says of it as its prefix
abbrev pub row_of : Refs → Option (Option ModuleRef) → Tree → List ℕ → Option (Option ModuleRef)
row_of refs old s q = option_or old (if has_prefix q s then Some (ref_in refs s) else None)

-- what a root says of a prefix as its own
abbrev pub own_row : Refs → Tree → List ℕ → Option (Option ModuleRef)
own_row refs root q =
    if has_word (codes "module") root && has_prefix q root then Some (ref_in refs root) else None

-- what a root says of a prefix, or else the first of some statements
abbrev pub row_among : Refs → Tree → List Tree → List ℕ → Option (Option ModuleRef)
row_among refs root ss q =
    option_or (own_row refs root q) (option_map (ref_in refs) (find (gives_prefix q) ss))

-- the module that a prefix means
abbrev pub refs_of : Refs → Tree → List ℕ → Option ModuleRef
refs_of refs root q = option_and_then refs (module_meant root q)
