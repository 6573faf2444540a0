-- What prefixes mean in a file, and the modules that a statement names (RFC 7950, sections 7.1.4,
-- 7.1.5 and 7.2.2).
use Rattle.std.specs.Prelude.{◌≡◌, ℕ, ◌==◌, ◌&&◌, ◌||◌, Bool, false, List, Option, None, Some, if◌then◌else◌, codes}
use Rattle.std.specs.List.{find, Contains, slice_split}
use Rattle.std.specs.Option.{option_and_then}
use Rattle.std.specs.Str.{bytes_eq}
use Rattle.yv_text_statement.specs.Tree.{Head, Tree, trees}
use Rattle.yv_link_scopes.specs.Names.{prefix_of}
use Rattle.yv_search.specs.Listing.{slash}
use Rattle.yv_search.specs.Wants.{has_word, argument_of}

-- a text that may be there is this one
abbrev pub is_text : List ℕ → Option (List ℕ) → Bool
is_text text None = false
is_text text (Some t) = bytes_eq t text

-- the first `prefix` in the block of a statement has this argument
abbrev pub has_prefix : List ℕ → Tree → Bool
has_prefix prefix t = is_text prefix (argument_of (codes "prefix") t)

-- an `import` or a `belongs-to`, which gives a prefix to the module of its argument
abbrev pub is_link : Tree → Bool
is_link s = has_word (codes "import") s || has_word (codes "belongs-to") s

-- a statement gives this prefix to a module
abbrev pub gives_prefix : List ℕ → Tree → Bool
gives_prefix prefix s = is_link s && has_prefix prefix s

-- the argument of the first of some statements that gives a prefix
abbrev pub module_among : List Tree → List ℕ → Option (List ℕ)
module_among ss prefix =
    option_and_then (λ (s : Tree). s.head.argument) (find (gives_prefix prefix) ss)

-- the module that a prefix means in a file: the argument of a module's root for its own prefix,
-- else the argument of the first `import` or `belongs-to` with the prefix
abbrev pub module_meant : Tree → List ℕ → Option (List ℕ)
module_meant root prefix =
    if has_word (codes "module") root && has_prefix prefix root then root.head.argument
    else module_among (trees root.children) prefix

-- a prefix means a module
abbrev pub Means : Tree → List ℕ → List ℕ → Type 0
Means root prefix m = module_meant root prefix ≡ Some m

-- the parts of an argument: it is cut at each `/`
abbrev pub parts_of : List ℕ → List (List ℕ)
parts_of argument = slice_split (λ b. b == slash) argument

-- the argument of a statement has a part `p:..`, and p means the module
pub record Names (root : Tree) (s : Head) (m : List ℕ) : Type 0 where
  pub argument : List ℕ
  pub has : s.argument ≡ Some argument
  pub part : List ℕ
  pub among : Contains (parts_of argument) part
  pub prefix : List ℕ
  pub begins : prefix_of part ≡ Some prefix
  pub means : Means root prefix m
