-- What stands in a statement is of three kinds.
use Rattle.std.proofs.Common.{◌≡◌, ◌≢◌, ◌⊎◌, inl, inr, ⊎_elim, Option, None, length}
use Rattle.std.proofs.lemmas.Option.{slice_get_within}
use Rattle.yv_text_statement.specs.Order.{Among, IsLeast, IsLesser}
use Rattle.yv_text_grammar.specs.Refusals.{Faulty, own, number, below, CountsBadly, OwnRefusal, keyword_at}
use Rattle.yv_text_statement.specs.Tree.{Tree, trees}
use Rattle.yv_text_grammar.specs.declared.xpath.Xpath.{Xpath}
use Rattle.yv_text_statement.specs.declared.refusal.Refusal.{Refusal}
use Rattle.yv_text_statement.specs.declared.keyword.Keyword.{Keyword}
use Rattle.yv_text_statement.specs.declared.keyword.Keyword.TheVariants as word
use Rattle.yv_text_statement.proofs.Least.{least_lesser, least_same}

-- what stands in one of the children
abbrev pub Inner : Xpath → Tree → Refusal → Type 0
Inner x s = Among (trees s.children) (λ k c. Faulty x (keyword_at s) c) (length (trees s.children))

kinds : {x : Xpath} {parent : Keyword} {s : Tree} {f : Refusal} → Faulty x parent s f → (OwnRefusal x parent s f ⊎ CountsBadly s f) ⊎ Inner x s f
kinds (own plain h) = inl (inl h)
kinds (number plain h) = inl (inr h)
kinds {x} {s} (below k c plain at_k h) = inr (k, slice_get_within (trees s.children) k c at_k, c, at_k, h)

plain_of : {x : Xpath} {parent : Keyword} {s : Tree} {f : Refusal} → Faulty x parent s f → keyword_at s ≢ word.Extended
plain_of (own plain h) = plain
plain_of (number plain h) = plain
plain_of (below k c plain at_k h) = plain

pub nothing_inside : (x : Xpath) (parent : Keyword) (s : Tree) → keyword_at s ≡ word.Extended → IsLeast (Faulty x parent s) None
nothing_inside x parent s e f h = plain_of h e

pub least_inside : (x : Xpath) (parent : Keyword) (s : Tree) (own_least number_least outer inner all : Option Refusal) → IsLesser own_least number_least outer → IsLesser outer inner all → keyword_at s ≢ word.Extended → IsLeast (OwnRefusal x parent s) own_least → IsLeast (CountsBadly s) number_least → IsLeast (Inner x s) inner → IsLeast (Faulty x parent s) all
least_inside x parent s a b o d r l m plain first second third =
    least_same (λ f. (OwnRefusal x parent s f ⊎ CountsBadly s f) ⊎ Inner x s f) (Faulty x parent s) r
    (λ f. ⊎_elim (⊎_elim (own plain) (number plain)) (λ h. below h.0 h.2 plain h.3 h.4))
    (λ f. kinds)
    (least_lesser (λ f. OwnRefusal x parent s f ⊎ CountsBadly s f) (Inner x s) o d r m (least_lesser (OwnRefusal x parent s) (CountsBadly s) a b o l first second) third)
