-- Tests on keywords.
use Rattle.std.proofs.Common.{◌≡◌, Bool, true, false, not, MatchBool, sym, refl}
use Rattle.std.proofs.lemmas.Bool.{false≢true}
use denote.Enum.Bare.{same_true, true_same, same_false}
use Rattle.yv_text_statement.specs.Keywords.{same}
use Rattle.yv_text_statement.specs.contracts.keyword.Keyword.{the_type}
use Rattle.yv_text_statement.specs.declared.keyword.Keyword.{Keyword}

pub one : (a b : Keyword) → same a b ≡ true → a ≡ b
one a b h = same_true the_type tt a b h

pub is_same : (a b : Keyword) → a ≡ b → same a b ≡ true
is_same a b h = true_same the_type a b h

pub other : (a b : Keyword) → same a b ≡ false → a ≡ b → ⊥
other a b h = same_false the_type a b h

-- a test that failed, and one that holds only where it failed
pub failed : (F : Type 0) (b : Bool) → MatchBool b F (F → ⊥) → not b ≡ true → F → ⊥
failed F true h e = absurd (false≢true e)
failed F false h e = h

pub fails : (F : Type 0) (b : Bool) → MatchBool b F (F → ⊥) → (F → ⊥) → not b ≡ true
fails F true h wrong = absurd (wrong h)
fails F false h wrong = refl

pub passed : (F : Type 0) (b : Bool) → MatchBool b F (F → ⊥) → not b ≡ false → F
passed F true h e = h
passed F false h e = absurd (false≢true (sym e))
