-- Why "the first node of a name" has to be the first in order. The module a has a container t.
-- Three augments of the module b, which are the statements 1 to 3: the first adds a leaf x to
-- /a:t/b:p, the second a leaf s to /a:t/b:p/b:x, and the third a container p with a container x to
-- /a:t. In the first round only the third is applied. File 0 is that of a, and file 1 is that of b.
use Rattle.std.specs.Prelude.{refl, ℕ, false, List, [], ◌∷◌, Option, Some, None, codes}
use Rattle.yv_expand_statements.specs.declared.origin.Origin.TheVariants.{Statement}
use Rattle.yv_expand_statements.specs.declared.statement_kind.StatementKind.TheVariants as kind
use Rattle.yv_expand_definition.specs.Nodes.{Forest, Node, none, node, nodes_given, insert}
use Rattle.yv_expand_definition.specs.Paths.{Leads, Step, at}

abbrev pub container : (module_file statement : ℕ) → List ℕ → Option ℕ → Node
container module_file k name giver =
    record { origin = Statement k; under = []; module_file = module_file; kind = kind.Container; name = name; refines = []; giver = giver }

abbrev pub leaf : (statement : ℕ) → List ℕ → Option ℕ → Node
leaf k name giver =
    record { origin = Statement k; under = []; module_file = 1; kind = kind.Leaf; name = name; refines = []; giver = giver }

abbrev pub step : (module_file : ℕ) → List ℕ → Step
step module_file name = record { module_file = Some module_file; name = name }

-- a:t
abbrev pub t : Node
t = container 0 10 (codes "t") None

-- b:p, which the augment 3 gives, and its own b:x
abbrev pub p : Node
p = container 1 31 (codes "p") (Some 3)

abbrev pub own : Node
own = container 1 32 (codes "x") None

-- what the augments 1 and 2 give
abbrev pub given : Node
given = leaf 11 (codes "x") (Some 1)

abbrev pub s : Node
s = leaf 21 (codes "s") (Some 2)

-- after the first round: 1 and 2 wait, 3 is applied
abbrev pub first : Forest
first = node t (node p (node own none none) none) none

-- in the second round 1 has its turn: its x stands behind the own one
abbrev pub second : Forest
second = node t (node p (node own none (node given none none)) none) none

pub turn_of_1 : Leads false (step 0 (codes "t") ∷ step 1 (codes "p") ∷ []) first
    (at p (node own none none) p (insert 1 (nodes_given 1 (node (leaf 11 (codes "x") None) none none)) (node own none none))) second
turn_of_1 = Leads.into refl refl (Leads.to refl refl)

-- and then 2: the first x in order is the own one, a container, which takes s
pub turn_of_2 : Leads false (step 0 (codes "t") ∷ step 1 (codes "p") ∷ step 1 (codes "x") ∷ []) second
    (at own none own (insert 2 (nodes_given 2 (node (leaf 21 (codes "s") None) none none)) none))
    (node t (node p (node own (node s none none) (node given none none)) none) none)
turn_of_2 = Leads.into refl refl (Leads.into refl refl (Leads.to refl refl))
