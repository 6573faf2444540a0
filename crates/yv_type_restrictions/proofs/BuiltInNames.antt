-- What has a plain type by its name is a built-in type.
use Rattle.std.proofs.Common.{◌≡◌, ℕ, Bool, true, false, cond, List, Option, Some, None, codes, refl}
use Rattle.std.specs.Option.{option_and_then}
use Rattle.std.specs.Str.{bytes_eq}
use Rattle.std.proofs.lemmas.Slice.Eq.{bytes_eq-Decides}
use Rattle.yv_text_statement.specs.Tree.{Tree, name_of}
use Rattle.yv_link_definitions.specs.BuiltIn.{is_built_in}
use Rattle.yv_values.specs.Types.{Plain}
use Rattle.yv_type_restrictions.specs.BuiltIn.{built_in, whole_type}
use Rattle.yv_type_restrictions.specs.Types.{digits_of_type, named_type}

no_type : (p : Plain) → None ≡ Some p → ⊥
no_type p e = cc

-- one word more
by_word : (name word : List ℕ) (b : Bool) (x o : Option Plain) (p : Plain) → (b ≡ true → bytes_eq name word ≡ true) → is_built_in word ≡ true → cond b x o ≡ Some p → (o ≡ Some p → is_built_in name ≡ true) → is_built_in name ≡ true
by_word name word true x o p same is e rest = let s : name ≡ word = (bytes_eq-Decides name word).0 (same refl) in rw (s) is
by_word name word false x o p same is e rest = rest e

word : (name w : List ℕ) (x o : Option Plain) (p : Plain) → is_built_in w ≡ true → (o ≡ Some p → is_built_in name ≡ true) → cond (bytes_eq name w) x o ≡ Some p → is_built_in name ≡ true
word name w x o p is rest e = by_word name w (bytes_eq name w) x o p (λ h. h) is e rest

whole_is : (name : List ℕ) (p : Plain) → whole_type name ≡ Some p → is_built_in name ≡ true
unfolding is_built_in
whole_is name p =
    word name (codes "int8") _ _ p refl
    (word name (codes "int16") _ _ p refl
    (word name (codes "int32") _ _ p refl
    (word name (codes "int64") _ _ p refl
    (word name (codes "uint8") _ _ p refl
    (word name (codes "uint16") _ _ p refl
    (word name (codes "uint32") _ _ p refl
    (word name (codes "uint64") _ _ p refl
    (λ e. absurd (no_type p e)))))))))

pub named_is : (name : List ℕ) (digits : ℕ) (p : Plain) → built_in name digits ≡ Some p → is_built_in name ≡ true
unfolding is_built_in
named_is name digits p =
    word name (codes "decimal64") _ _ p refl
    (word name (codes "string") _ _ p refl
    (word name (codes "binary") _ _ p refl
    (word name (codes "boolean") _ _ p refl
    (word name (codes "empty") _ _ p refl
    (whole_is name p)))))

digits_by : (name : List ℕ) (p : Plain) (o : Option ℕ) → option_and_then (built_in name) o ≡ Some p → (d : ℕ) × (built_in name d ≡ Some p)
digits_by name p (Some d) e = (d, e)
digits_by name p None e = absurd (no_type p e)

-- what is the plain type of a statement by its name is that of the built-in type with some digits
pub has_digits : (t : Tree) (p : Plain) → named_type t ≡ Some p → (d : ℕ) × (built_in (name_of t.head) d ≡ Some p)
has_digits t p e = digits_by (name_of t.head) p (digits_of_type t) e

pub names_built_in : (t : Tree) (p : Plain) → named_type t ≡ Some p → is_built_in (name_of t.head) ≡ true
names_built_in t p e =
    let given : (d : ℕ) × (built_in (name_of t.head) d ≡ Some p) = has_digits t p e in
    named_is (name_of t.head) given.0 p given.1
