-- Refusals of a file as such, and how they are told of its number.
use Rattle.std.proofs.Common.{◌≡◌, ℕ, inl, inr, Option, Some, None, refl, sym, ◌∙◌, subst, arith}
use Rattle.std.specs.Option.{option_map}
use Rattle.yv_text_statement.specs.Tree.{Head, Tree}
use Rattle.yv_text_statement.specs.Codes.{phase_of}
use Rattle.yv_text_statement.specs.declared.refusal.Refusal.{Refusal}
use Rattle.yv_text_statement.specs.declared.refusal.Code.{Code}
use Rattle.yv_text_statement.specs.declared.refusal.Code.TheVariants as code
use Rattle.yv_text_statement.specs.Order.{IsLeast, IsUpTo, Stands, refusal_at}
use Rattle.yv_text_statement.specs.declared.keyword.Keyword.{Keyword}
use Rattle.yv_text_grammar.specs.Refusals.{Bad, Faulty, own, number, below}
use Rattle.yv_text_grammar.specs.declared.xpath.Xpath.{Xpath}
use Rattle.yv_text_grammar.specs.declared.xpath.Xpath.TheVariants.{Refuse}
use Rattle.yv_schema.specs.Refusals.{BadFile, in_file}

-- it is of the second phase, and names the file as 0
pub record IsOwn (r : Refusal) : Type 0 where
  pub first : r.file ≡ 0
  pub phase : phase_of r.code ≡ 2

own_at : (P : Type 0) (c : Code) (h : Head) (f : Refusal) → phase_of c ≡ 2 → Stands P (refusal_at c 0 h) f → IsOwn f
own_at P c h f phase s = subst IsOwn (sym s.1) (record { first = refl; phase = phase })

faulty_own : {x : Xpath} {parent : Keyword} {s : Tree} {f : Refusal} → Faulty x parent s f → IsOwn f
faulty_own {x} {parent} {s} {f} (own plain h) = elim h [
  | inl y ↦ own_at _ code.Unsupported s.head f refl y
  | inr y ↦ elim y [ inl z ↦ own_at _ code.UnknownStatement s.head f refl z | inr z ↦ own_at _ code.BadArgument s.head f refl z ]
]
faulty_own {x} {parent} {s} {f} (number plain h) = elim h [
  | inl y ↦ own_at _ code.Cardinality y.2.head f refl y.4
  | inr y ↦ own_at _ code.Cardinality s.head f refl y
]
faulty_own (below k c plain at_k h) = faulty_own h

-- what stands in a file as such is
pub is_own : (t : Tree) (f : Refusal) → Bad Refuse t f → IsOwn f
is_own t f h = elim h [ inl y ↦ own_at _ code.Cardinality t.head f refl y | inr y ↦ faulty_own y ]

up_to_told : (n : ℕ) (r s : Refusal) → r.file ≡ s.file → IsUpTo r s → IsUpTo (in_file n r) (in_file n s)
up_to_told n r s same (inl phase) = inl phase
up_to_told n r s same (inr (phase, inl file)) = absurd (omega (arith, same, file))
up_to_told n r s same (inr (phase, inr (file, rest))) = inr (phase, inr (refl, rest))

-- the least of a file's refusals is the least as they are told of its number
pub least_told : (n : ℕ) (t : Tree) (o : Option Refusal) → IsLeast (Bad Refuse t) o → IsLeast (BadFile n t) (option_map (in_file n) o)
least_told n t None h = λ s b. h b.own b.stands
least_told n t (Some r) h = (
  record { own = r; stands = h.0; is = refl },
  λ s b.
      let same : r.file ≡ b.own.file = (is_own t r h.0).first ∙ sym (is_own t b.own b.stands).first in
      subst (λ (x : Refusal). IsUpTo (in_file n r) x) (sym b.is) (up_to_told n r b.own same (h.1 b.own b.stands)),
)
