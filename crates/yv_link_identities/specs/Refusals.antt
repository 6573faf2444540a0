-- What is wrong with identities.
use Rattle.std.specs.Prelude.{◌≡◌, ℕ, ◌⊎◌, ◌&&◌, Bool, true, is_none, List, length}
use Rattle.yv_text_statement.specs.Order.{Stands, Among, refusal_at}
use Rattle.yv_text_statement.specs.declared.refusal.Refusal.{Refusal}
use Rattle.yv_text_statement.specs.declared.refusal.Code.TheVariants as code
use Rattle.yv_link_scopes.specs.Files.{Briefs}
use Rattle.yv_link_scopes.specs.Rows.{Row}
use Rattle.yv_link_identities.specs.Names.{is_base, identity_meant}
use Rattle.yv_link_identities.specs.Derivation.{IsDerivedFrom}

-- a base, of an identity or of a type, whose name means nothing
abbrev pub is_unknown : Briefs → List Row → Row → Bool
is_unknown files rows r = is_base r && is_none (identity_meant files rows r)

-- what is wrong with the statement of number k: an identity may not be derived from itself (RFC
-- 7950, section 7.18.2)
abbrev pub BadRow : Briefs → List Row → ℕ → Row → Refusal → Type 0
BadRow files rows k r f =
    Stands (is_unknown files rows r ≡ true) (refusal_at code.UnknownIdentity r.file r.head) f
    ⊎ Stands (IsDerivedFrom files rows k k) (refusal_at code.IdentityCycle r.file r.head) f

-- what is wrong with identities and bases
abbrev pub BadIdentities : Briefs → List Row → Refusal → Type 0
BadIdentities files rows f = Among rows (BadRow files rows) (length rows) f
