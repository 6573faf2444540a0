-- Identities, the names that mean them, and the bases that they name (RFC 7950, sections 7.18 and
-- 6.2.1).
use Rattle.std.specs.Prelude.{◌≡◌, ℕ, Bool, true, List, Option, Some, codes, slice_get}
use Rattle.std.specs.Option.{option_and_then}
use Rattle.yv_link_scopes.specs.Names.{local_of}
use Rattle.yv_link_scopes.specs.Files.{Briefs, has_word}
use Rattle.yv_link_scopes.specs.Rows.{Row, name_in}
use Rattle.yv_link_scopes.specs.Tables.{first_of, word_of}
use Rattle.yv_link_scopes.specs.Scopes.{block_of}
use Rattle.yv_link_scopes.specs.declared.kind.NameKind.TheVariants.{Identity}

-- a statement is an `identity`
abbrev pub is_identity : Row → Bool
is_identity r = has_word (word_of Identity) r.head

-- a statement is a `base`
abbrev pub is_base : Row → Bool
is_base r = has_word (codes "base") r.head

-- the number of the identity that a name means in a file: the first of that name in the file's
-- module, or in the module that the prefix refers to
abbrev pub meaning_of : Briefs → List Row → ℕ → List ℕ → Option ℕ
meaning_of files rows file name =
    option_and_then (λ block. first_of Identity rows block (local_of name))
    (block_of files rows file name)

-- what the name of a statement means as an identity
abbrev pub identity_meant : Briefs → List Row → Row → Option ℕ
identity_meant files rows r = meaning_of files rows r.file (name_in r)

-- an identity names a base: one of the base statements in its block has a name that means it
pub record HasBase (files : Briefs) (rows : List Row) (identity base : ℕ) : Type 0 where
  pub own : Row
  pub own_at : slice_get rows identity ≡ Some own
  pub is_one : is_identity own ≡ true
  pub number : ℕ
  pub statement : Row
  pub stands : slice_get rows number ≡ Some statement
  pub names : is_base statement ≡ true
  pub inside : statement.scope ≡ identity
  pub means : identity_meant files rows statement ≡ Some base
