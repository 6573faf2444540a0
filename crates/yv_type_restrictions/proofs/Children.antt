-- The first substatement with a keyword, by the keyword's text.
use Rattle.std.proofs.Common.{◌≡◌, ℕ, Bool, List, [], ◌∷◌, Option, Some, None, refl, ◌∙◌, IfSome}
use Rattle.std.specs.List.{find}
use Rattle.yv_text_statement.specs.Keywords.{keyword_of, same, spelling}
use Rattle.yv_text_statement.specs.Tree.{Tree, trees}
use Rattle.yv_text_statement.specs.declared.keyword.Keyword.{Keyword}
use Rattle.yv_text_statement.proofs.KeywordTexts.{is_by_text}
use Rattle.yv_type_restrictions.specs.Facets.{child, has_word}

abbrev pub has_keyword : Keyword → Tree → Bool
has_keyword k t = same (keyword_of t.head.keyword) k

found_by : (cs : List Tree) (k : Keyword) (w : List ℕ) → spelling k ≡ Some w → find (has_keyword k) cs ≡ find (has_word w) cs
found_by [] k w is = refl
found_by (c ∷ cs) k w is = rw (is_by_text c.head.keyword w k is, found_by cs k w is) refl

pub child_by : (t : Tree) (k : Keyword) (o : Option Tree) → o ≡ find (has_keyword k) (trees t.children) → IfSome (spelling k) (λ w. o ≡ child w t)
child_by t k o e = by (spelling k) refl
  where
    by : (x : Option (List ℕ)) → spelling k ≡ x → IfSome x (λ w. o ≡ child w t)
    by None is = tt
    by (Some w) is = e ∙ found_by (trees t.children) k w is
