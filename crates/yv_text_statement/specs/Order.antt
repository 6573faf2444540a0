-- The order of refusals, and the least one.
use Rattle.std.specs.Prelude.{◌≡◌, ℕ, ◌<◌, ◌⊎◌, List, [], ◌∷◌, Option, Some, None, slice_get}
use Rattle.yv_text_statement.specs.Codes.{phase_of, number_of}
use Rattle.yv_text_statement.specs.Tree.{Head}
use Rattle.yv_text_statement.specs.declared.refusal.Code.{Code}
use Rattle.yv_text_statement.specs.declared.refusal.Refusal.{Refusal}

-- the first difference decides
abbrev pub IsUpToBy : List ℕ → List ℕ → Type 0
IsUpToBy [] ys = Unit {0}
IsUpToBy (x ∷ xs) [] = ⊥
IsUpToBy (x ∷ xs) (y ∷ ys) = (x < y) ⊎ ((x ≡ y) × IsUpToBy xs ys)

-- what is compared of refusals, the first difference first
abbrev pub keys_of : Refusal → List ℕ
keys_of r = phase_of r.code ∷ r.file ∷ r.offset ∷ number_of r.code ∷ r.line ∷ []

-- by phase, file, offset and code; the line, which an offset of a file determines, comes last, so
-- that no two refusals are up to each other
abbrev pub IsUpTo : Refusal → Refusal → Type 0
IsUpTo r s = IsUpToBy (keys_of r) (keys_of s)

-- the least refusal that is, or none where none does
abbrev pub IsLeast : (Refusal → Type 0) → Option Refusal → Type 0
IsLeast Stands None = (s : Refusal) → Stands s → ⊥
IsLeast Stands (Some r) = Stands r × ((s : Refusal) → Stands s → IsUpTo r s)

-- the lesser of two answers
abbrev pub IsLesser : Option Refusal → Option Refusal → Option Refusal → Type 0
IsLesser None b c = c ≡ b
IsLesser (Some r) None c = c ≡ Some r
IsLesser (Some r) (Some s) c = ((c ≡ Some r) × IsUpTo r s) ⊎ ((c ≡ Some s) × IsUpTo s r)

-- a refusal at a statement of a file
abbrev pub refusal_at : Code → ℕ → Head → Refusal
refusal_at c file head = record { code = c; file = file; offset = head.offset; line = head.line }

-- f is this refusal, which is where P holds
abbrev pub Stands : Type 0 → Refusal → Refusal → Type 0
Stands P r f = P × (f ≡ r)

-- f is what P says of one of the first n of these
abbrev pub Among : {X : Type 0} → List X → (ℕ → X → Refusal → Type 0) → ℕ → Refusal → Type 0
Among {X} xs P n f = (k : ℕ) × (k < n) × (x : X) × (slice_get xs k ≡ Some x) × P k x f
