-- Only private clauses cite this: the form of a pattern, of marks that stand for its parts.
use Rattle.std.specs.Prelude.{ℕ, suc, List, [], ◌∷◌, ◌++◌}
use Rattle.yv_pattern.specs.declared.mark.Mark.{Mark}
use Rattle.yv_pattern.specs.declared.mark.Mark.TheVariants.{Atom, Times, Opening, Closing, Bar}

mutual
  -- branches with bars between; groups nest at most so deep
  pub data IsPattern : ℕ → List Mark → Type 0 where
    branch : {k : ℕ} (ms : List Mark) → IsBranch k ms → IsPattern k ms
    either : {k : ℕ} (ms ns : List Mark) → IsBranch k ms → IsPattern k ns
        → IsPattern k (ms ++ Bar ∷ ns)

  -- pieces, perhaps none; a piece is an atom, or an atom and how often it is there
  pub data IsBranch : ℕ → List Mark → Type 0 where
    none : {k : ℕ} → IsBranch k []
    piece : {k : ℕ} (ms ns : List Mark) → IsAtom k ms → IsBranch k ns → IsBranch k (ms ++ ns)
    repetition : {k : ℕ} (ms ns : List Mark) → IsAtom k ms → IsBranch k ns
        → IsBranch k (ms ++ Times ∷ ns)

  -- a plain one, or a pattern in parentheses
  pub data IsAtom : ℕ → List Mark → Type 0 where
    plain : {k : ℕ} → IsAtom k (Atom ∷ [])
    group : {k : ℕ} (ms : List Mark) → IsPattern k ms
        → IsAtom (suc k) (Opening ∷ ms ++ Closing ∷ [])
