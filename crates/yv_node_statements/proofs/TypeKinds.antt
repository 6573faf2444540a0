-- The plain types and the defaults of the `type` statements of files.
use Rattle.std.proofs.Common.{◌≡◌, ℕ, List, [], Option, Some, None, inl, inr, codes, refl, sym, ◌∙◌}
use Rattle.std.specs.Option.{unwrap_or}
use Rattle.yv_text_statement.specs.Selection.{ModuleChoice}
use Rattle.yv_link_scopes.specs.Files.{Files}
use Rattle.yv_link_scopes.specs.RowList.{rows_of}
use Rattle.yv_link_definitions.specs.References.{number_at}
use Rattle.yv_values.specs.Types.{Plain}
use Rattle.yv_types.specs.Spaces.{Space}
use Rattle.yv_types.specs.Types.{IsTold}
use Rattle.yv_type_enums.specs.Types.{Truth}
use Rattle.yv_text_statement.specs.TextInFile.{TextInFile}
use Rattle.yv_types.specs.Defaults.{HasDefault}
use Rattle.yv_types.specs.Defaults.{IsDefault}
use Rattle.yv_types.specs.Referrals.{IsReferring}
use Rattle.yv_types.specs.Referrals.{HasReferral}
use Rattle.yv_types.specs.declared.leafref_path.TypeLeafref.{TypeLeafref}
use Rattle.yv_node_statements.specs.Kinds.{AreKinds, AreTypeDefaults, AreTyped, AreTypeReferrals, IsKind, IsKindOf, Kinds, TypeDefaults, TypeReferrals, TypeMeanings}

-- types that agree everywhere are one
pub same_kinds : (a b : Kinds) → ((file offset : ℕ) → a file offset ≡ b file offset) → a ≡ b
same_kinds a b h = λ i file offset. h file offset i

-- a type has one list of plain types
abbrev pub HasOneSpace : Type 0
HasOneSpace = (files : Files) (choice : ModuleChoice) (truth : Truth) (k : ℕ) (ps qs : List Plain) → Space files truth choice k ps
    → Space files truth choice k qs → ps ≡ qs

module _ (files : Files) (choice : ModuleChoice) (truth : Truth) where
  -- what is told of a statement's types is so
  told_kind : (number : Option ℕ) (told : Option (List Plain)) → IsTold files choice truth number told → IsKindOf files choice truth number (unwrap_or told [])
  told_kind None None h = refl
  told_kind None (Some ps) h = absurd h
  told_kind (Some k) None h = inr (h, refl)
  told_kind (Some k) (Some ps) h = inl h

  pub told_kinds : (told : ℕ → ℕ → Option (List Plain)) → ((file offset : ℕ) → IsTold files choice truth (number_at (rows_of files) (codes "type") file offset) (told file offset))
      → AreKinds files choice truth (λ file offset. unwrap_or (told file offset) [])
  told_kinds told h = λ file offset. told_kind (number_at (rows_of files) (codes "type") file offset) (told file offset) (h file offset)

  module _ (one : HasOneSpace) where
    one_kind : (k : ℕ) (ps qs : List Plain) → IsKind files choice truth k ps → IsKind files choice truth k qs → ps ≡ qs
    one_kind k ps qs (inl a) (inl b) = one files choice truth k ps qs a b
    one_kind k ps qs (inl a) (inr b) = absurd (b.0 ps a)
    one_kind k ps qs (inr a) (inl b) = absurd (a.0 qs b)
    one_kind k ps qs (inr a) (inr b) = a.1 ∙ sym b.1

    one_kind_of : (number : Option ℕ) (ps qs : List Plain) → IsKindOf files choice truth number ps → IsKindOf files choice truth number qs → ps ≡ qs
    one_kind_of None ps qs a b = a ∙ sym b
    one_kind_of (Some k) ps qs a b = one_kind k ps qs a b

    pub one_kinds : (a b : Kinds) → AreKinds files choice truth a → AreKinds files choice truth b → a ≡ b
    one_kinds a b p q =
        same_kinds a b (λ file offset. one_kind_of (number_at (rows_of files) (codes "type") file offset) (a file offset) (b file offset) (p file offset) (q file offset))

-- a type has one default
abbrev pub HasOneDefault : Type 0
HasOneDefault = (files : Files) (k : ℕ) (v w : Option TextInFile) → HasDefault files k v → HasDefault files k w → v ≡ w

-- defaults that agree everywhere are one
same_defaults : (a b : TypeDefaults) → ((file offset : ℕ) → a file offset ≡ b file offset) → a ≡ b
same_defaults a b h = λ i file offset. h file offset i

module _ (files : Files) (one : HasOneDefault) where
  one_default_of : (number : Option ℕ) (v w : Option TextInFile) → IsDefault files number v → IsDefault files number w → v ≡ w
  one_default_of None v w a b = a ∙ sym b
  one_default_of (Some k) v w a b = one files k v w a b

  one_defaults : (a b : TypeDefaults) → AreTypeDefaults files a → AreTypeDefaults files b → a ≡ b
  one_defaults a b p q =
      same_defaults a b (λ file offset. one_default_of (number_at (rows_of files) (codes "type") file offset) (a file offset) (b file offset) (p file offset) (q file offset))

-- a type says one thing as a leafref
abbrev pub SaysOneThing : Type 0
SaysOneThing = (files : Files) (k : ℕ) (v w : Option TypeLeafref) → HasReferral files k v → HasReferral files k w → v ≡ w

-- what agrees everywhere is one
same_referrals : (a b : TypeReferrals) → ((file offset : ℕ) → a file offset ≡ b file offset) → a ≡ b
same_referrals a b h = λ i file offset. h file offset i

module _ (files : Files) (one : SaysOneThing) where
  one_referral_of : (number : Option ℕ) (v w : Option TypeLeafref) → IsReferring files number v → IsReferring files number w → v ≡ w
  one_referral_of None v w a b = a ∙ sym b
  one_referral_of (Some k) v w a b = one files k v w a b

  one_referrals : (a b : TypeReferrals) → AreTypeReferrals files a → AreTypeReferrals files b → a ≡ b
  one_referrals a b p q =
      same_referrals a b (λ file offset. one_referral_of (number_at (rows_of files) (codes "type") file offset) (a file offset) (b file offset) (p file offset) (q file offset))

pub one_typing : (files : Files) (choice : ModuleChoice) (truth : Truth) → HasOneSpace → HasOneDefault → SaysOneThing → (a b : TypeMeanings) → AreTyped files choice truth a
    → AreTyped files choice truth b → a ≡ b
one_typing files choice truth spaces defaults says a b p q =
    let kinds : a.kinds ≡ b.kinds = one_kinds files choice truth spaces a.kinds b.kinds p.kinds q.kinds in
    let told : a.defaults ≡ b.defaults = one_defaults files defaults a.defaults b.defaults p.defaults q.defaults in
    let said : a.referrals ≡ b.referrals = one_referrals files says a.referrals b.referrals p.referrals q.referrals in
    λ i. record { kinds = kinds i; defaults = told i; referrals = said i }
