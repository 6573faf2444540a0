-- The defaults of a node (RFC 7950, sections 7.6.1 and 7.7.2).
use Rattle.std.specs.Prelude.{ℕ, List, [], ◌∷◌, length, max, Bool, true, false, ◌||◌, if◌then◌else◌}
use Rattle.yv_values.specs.Values.{Val}
use Rattle.yv_nodes.specs.Tree.{Label}

-- the values that a node has by its defaults: none, where it is a key or mandatory
abbrev pub defaults_of : Label → List Val
defaults_of l = if l.is_key || l.defined.is_mandatory then [] else l.defined.defaults

-- there are no values
abbrev pub are_none : List Val → Bool
are_none [] = true
are_none (v ∷ vs) = false

-- its defaults give it no value
abbrev pub has_no_value : Label → Bool
has_no_value l = are_none (defaults_of l)

-- how many values these are, and 1 where there are fewer: for so many nodes it counts
abbrev pub width : Label → ℕ
width l = max 1 (length (defaults_of l))
