-- The tree diagrams of several modules.
use Rattle.std.specs.Prelude.{ℕ, List, [], ◌∷◌, Bool, true, false, Option, Some, None, Ok, Err, Result, filter, map, nat_lt}
use Rattle.yv_nodes.specs.Rows.{Rows, Module, whole}
use Rattle.yv_tree.specs.Diagram.{module_in, text_of}
use Rattle.yv_tree.specs.DrawnDiagram.{drawn_lines}
use Rattle.yv_tree.specs.Lines.{between}
use Rattle.yv_tree.specs.Part.{leads}
use Rattle.yv_tree.specs.declared.diagrams.Missing.{Missing}
use Rattle.yv_tree.specs.declared.diagrams.Missing.TheVariants as missing
use Rattle.yv_tree_drawing.specs.Steps.{Step}
use Rattle.yv_tree_drawing.specs.Trees.{DrawingAsked, TreeAsked}

-- a module before others, where none is missing
abbrev pub with_first : Option Module → Result (List Module) Missing → Result (List Module) Missing
with_first None rest = Err missing.Module
with_first (Some m) (Err e) = Err e
with_first (Some m) (Ok ms) = Ok (m ∷ ms)

-- the implemented modules of these names
abbrev pub modules_named : List Module → (names : List (List ℕ)) → Result (List Module) Missing
modules_named modules [] = Ok []
modules_named modules (name ∷ names) =
    with_first (module_in modules name) (modules_named modules names)

-- some modules, or that there is none
abbrev pub if_any : List Module → Result (List Module) Missing
if_any [] = Err missing.Module
if_any (m ∷ ms) = Ok (m ∷ ms)

-- the own file of a module is among the first files, which are so many
abbrev pub is_in_first : (files : ℕ) → Module → Bool
is_in_first files m = nat_lt m.module_file files

-- the one module of a way: where it isn't there, neither is the node to which the way leads
abbrev pub module_of_way : Option Module → Result (List Module) Missing
module_of_way None = Err missing.Node
module_of_way (Some m) = Ok (m ∷ [])

-- the implemented module of this name, where there is a name
abbrev pub module_if : List Module → (name : Option (List ℕ)) → Option Module
module_if modules None = None
module_if modules (Some name) = module_in modules name

-- the modules that are drawn where none was named: the one that the way begins with, or without a
-- way those whose own files were named
abbrev pub usual_modules : List Module → (files : ℕ) → (below : List Step)
    → Result (List Module) Missing
usual_modules modules files [] = if_any (filter (is_in_first files) modules)
usual_modules modules files (x ∷ xs) = module_of_way (module_if modules x.module)

-- the modules that are drawn
abbrev pub drawn_modules : List Module → TreeAsked → (names : List (List ℕ))
    → Result (List Module) Missing
drawn_modules modules t [] = usual_modules modules t.named_files t.drawing.below
drawn_modules modules t (name ∷ names) = modules_named modules (name ∷ names)

-- the diagram of a module
abbrev pub module_text : Rows → DrawingAsked → Module → List ℕ
module_text s d m = text_of (drawn_lines s m.name m.module_file d)

-- texts with an empty line between two of them
abbrev pub joined_texts : List (List ℕ) → List ℕ
joined_texts texts = between (10 ∷ []) texts

-- the diagrams of modules, where the way of the drawing leads to a node
abbrev pub drawn_if : Rows → DrawingAsked → List Module → (is_there : Bool)
    → Result (List ℕ) Missing
drawn_if s d ms false = Err missing.Node
drawn_if s d ms true = Ok (joined_texts (map (module_text s d) ms))

-- the diagrams of modules that were found
abbrev pub diagrams_if : Rows → DrawingAsked → Result (List Module) Missing
    → Result (List ℕ) Missing
diagrams_if s d (Err e) = Err e
diagrams_if s d (Ok ms) = drawn_if s d ms (leads None d.below (whole s))

-- the diagrams that are asked for, or what is missing
abbrev pub diagrams_of : Rows → TreeAsked → Result (List ℕ) Missing
diagrams_of s t = diagrams_if s t.drawing (drawn_modules s.modules t t.modules)
