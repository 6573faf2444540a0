-- The names of the built-in types by their first bytes.
use Rattle.std.proofs.Common.{◌≡◌, ℕ, false, nat_eq, List, [], ◌∷◌, codes, None, Some, refl, sym, subst, eqb-true}
use Rattle.std.specs.List.{slice_get}
use Rattle.yv_text_statement.specs.Words.{is_among}
use Rattle.yv_link_definitions.specs.BuiltIn.{is_built_in}
use Rattle.yv_link_definitions.proofs.Words.{not_true}

-- of the names that begin with a byte these words are those of built-in types
abbrev pub Begin : List (List ℕ) → ℕ → Type 0
Begin words byte = (rest : List ℕ) → is_among words (byte ∷ rest) ≡ is_built_in (byte ∷ rest)

abbrev pub in_b : List (List ℕ)
in_b = codes "binary" ∷ codes "bits" ∷ codes "boolean" ∷ []

pub begin_b : (byte : ℕ) → byte ≡ 98 → Begin in_b byte
unfolding is_built_in
begin_b byte e = subst (Begin in_b) (sym e) (λ rest. refl)

abbrev pub in_d : List (List ℕ)
in_d = codes "decimal64" ∷ []

pub begin_d : (byte : ℕ) → byte ≡ 100 → Begin in_d byte
unfolding is_built_in
begin_d byte e = subst (Begin in_d) (sym e) (λ rest. refl)

abbrev pub in_e : List (List ℕ)
in_e = codes "empty" ∷ codes "enumeration" ∷ []

pub begin_e : (byte : ℕ) → byte ≡ 101 → Begin in_e byte
unfolding is_built_in
begin_e byte e = subst (Begin in_e) (sym e) (λ rest. refl)

abbrev pub in_i : List (List ℕ)
in_i = codes "identityref" ∷ codes "instance-identifier" ∷ codes "int8" ∷ codes "int16" ∷ codes "int32" ∷ codes "int64" ∷ []

pub begin_i : (byte : ℕ) → byte ≡ 105 → Begin in_i byte
unfolding is_built_in
begin_i byte e = subst (Begin in_i) (sym e) (λ rest. refl)

abbrev pub in_l : List (List ℕ)
in_l = codes "leafref" ∷ []

pub begin_l : (byte : ℕ) → byte ≡ 108 → Begin in_l byte
unfolding is_built_in
begin_l byte e = subst (Begin in_l) (sym e) (λ rest. refl)

abbrev pub in_s : List (List ℕ)
in_s = codes "string" ∷ []

pub begin_s : (byte : ℕ) → byte ≡ 115 → Begin in_s byte
unfolding is_built_in
begin_s byte e = subst (Begin in_s) (sym e) (λ rest. refl)

abbrev pub in_u : List (List ℕ)
in_u = codes "uint8" ∷ codes "uint16" ∷ codes "uint32" ∷ codes "uint64" ∷ codes "union" ∷ []

pub begin_u : (byte : ℕ) → byte ≡ 117 → Begin in_u byte
unfolding is_built_in
begin_u byte e = subst (Begin in_u) (sym e) (λ rest. refl)

differs : (a b : ℕ) → (b ≡ a → ⊥) → nat_eq a b ≡ false
differs a b h = not_true (nat_eq a b) (λ e. h (let same : a ≡ b = eqb-true a b e in cc))

-- no built-in type's name begins with another byte
pub begin_otherwise : (byte : ℕ) → (byte ≡ 98 → ⊥) → (byte ≡ 100 → ⊥) → (byte ≡ 101 → ⊥) → (byte ≡ 105 → ⊥) → (byte ≡ 108 → ⊥) → (byte ≡ 115 → ⊥) → (byte ≡ 117 → ⊥) → Begin [] byte
unfolding is_built_in
begin_otherwise byte b d e i l s u rest =
    simp (differs 98 byte b, differs 100 byte d, differs 101 byte e, differs 105 byte i, differs 108 byte l, differs 115 byte s, differs 117 byte u) refl

pub begin_nowhere : (name : List ℕ) → slice_get name 0 ≡ None → is_built_in name ≡ false
unfolding is_built_in
begin_nowhere [] e = refl
begin_nowhere (x ∷ xs) e = absurd (let bad : Some x ≡ None = e in cc)
