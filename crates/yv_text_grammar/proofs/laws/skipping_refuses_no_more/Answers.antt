use Rattle.std.proofs.Common.{inl, inr, ◌≡◌, Bool, true, false, ◌||◌, List, Option, ℕ, ⊎_elim, refl}
use Rattle.yv_text_statement.specs.Tree.{Tree}
use Rattle.yv_text_statement.specs.declared.refusal.Refusal.{Refusal}
use Rattle.yv_text_statement.specs.declared.keyword.Keyword.{Keyword}
use Rattle.yv_text_grammar.specs.Conditions.{is_beyond, is_unsupported}
use Rattle.yv_text_grammar.specs.Refusals.{Faulty, OwnRefusal, keyword_at, own, number, below}
use Rattle.yv_text_grammar.specs.declared.xpath.Xpath.{Xpath}
use Rattle.yv_text_grammar.specs.declared.xpath.Xpath.TheVariants.{Skip}
use Rattle.yv_text_grammar.proofs.laws.skipping_refuses_no_more.Goals as goal

more : (a b : Bool) → (a || false) ≡ true → (a || b) ≡ true
more true b h = refl
more false b h = cc

unsupported : (x : Xpath) (k : Keyword) (argument : Option (List ℕ)) → is_unsupported Skip k argument ≡ true → is_unsupported x k argument ≡ true
unsupported x k argument h = more (is_beyond k argument) _ h

own_refused : (x : Xpath) (parent : Keyword) (s : Tree) (f : Refusal) → OwnRefusal Skip parent s f → OwnRefusal x parent s f
own_refused x parent s f = ⊎_elim (λ h. inl (unsupported x (keyword_at s) s.head.argument h.0, h.1)) inr

refused : {parent : Keyword} {s : Tree} {f : Refusal} (x : Xpath) → Faulty Skip parent s f → Faulty x parent s f
refused {parent} {s} {f} x (own plain h) = own plain (own_refused x parent s f h)
refused x (number plain h) = number plain h
refused x (below k c plain at h) = below k c plain at (refused x h)

pub returns : goal.returns
returns c x t r = ⊎_elim inl (λ h. inr (refused x h))
