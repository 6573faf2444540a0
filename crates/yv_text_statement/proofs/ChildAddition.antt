-- One more child is one more statement behind the others.
use Rattle.std.proofs.Common.{◌≡◌, List, [], ◌∷◌, ◌++◌, refl, ap}
use Rattle.yv_text_statement.specs.Tree.{Tree, Forest, Then, End, forest}
use Rattle.yv_text_statement.specs.Builder.{join_forests}

pub forest-append : (ts : List Tree) (t : Tree) → forest (ts ++ t ∷ []) ≡ join_forests (forest ts) (Then t.head t.children End)
forest-append [] t = refl
forest-append (u ∷ ts) t = ap (λ (f : Forest). Then u.head u.children f) (forest-append ts t)
