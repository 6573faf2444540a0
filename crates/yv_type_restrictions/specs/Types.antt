-- The plain types of `type` statements that lead along typedefs to numbers, texts, octets, a truth
-- value or empty: each statement on the way narrows what it follows (RFC 7950, sections 7.3.4, 9.2
-- to 9.5, 9.8 and 9.11).
use Rattle.std.specs.Prelude.{◌≡◌, ℕ, nat_le, ℤ, pos, true, map, Option, Some, None, codes, if◌then◌else◌, slice_get}
use Rattle.std.specs.Option.{option_and_then}
use Rattle.std.specs.Str.{bytes_eq}
use Rattle.yv_text_statement.specs.Tree.{Tree, trees, name_of}
use Rattle.yv_link_scopes.specs.Files.{Files, brief_of}
use Rattle.yv_link_scopes.specs.RowList.{rows_of, statements_of}
use Rattle.yv_type_chains.specs.Types.{Follows}
use Rattle.yv_base_numbers.specs.Numbers.{integer_of}
use Rattle.yv_type_restrictions.specs.BuiltIn.{built_in}
use Rattle.yv_type_restrictions.specs.Facets.{child, has_word, Narrows}
use Rattle.yv_type_restrictions.specs.FacetRefusals.{HasPattern}
use Rattle.yv_values.specs.Types.{Plain}

-- a number of digits that decimal64 may have after the point (section 9.3.4)
abbrev pub few_digits : Option ℤ → Option ℕ
few_digits (Some (pos n)) = if nat_le n 18 then Some n else None
few_digits _ = None

-- the digits after the point that a type statement states by its first `fraction-digits`
abbrev pub stated_digits : Tree → Option ℕ
stated_digits t = few_digits
    (option_and_then (λ (c : Tree). integer_of (name_of c.head))
    (child (codes "fraction-digits") t))

-- the digits with which the built-in type is meant that a type statement names: those of decimal64
-- have to be stated, the others have none
abbrev pub digits_of_type : Tree → Option ℕ
digits_of_type t = if bytes_eq (name_of t.head) (codes "decimal64") then stated_digits t else Some 0

-- the plain type of the built-in type that a type statement names. A decimal64 that states no
-- digits has none, so that nothing that is derived from it is judged by it
abbrev pub named_type : Tree → Option Plain
named_type t = option_and_then (built_in (name_of t.head)) (digits_of_type t)

-- the numbered statement is this type
abbrev pub IsTypeAt : Files → ℕ → Tree → Type 0
IsTypeAt files k t =
    (slice_get (statements_of files) k ≡ Some t) × (has_word (codes "type") t ≡ true)

mutual
  -- what type k narrows: the built-in type that it names, or the plain type of the type that it
  -- follows
  pub data StartsFrom (files : Files) : ℕ → Tree → Plain → Type 0 where
    first : {k : ℕ} {t : Tree} {p : Plain} → IsTypeAt files k t → named_type t ≡ Some p
        → StartsFrom files k t p
    through_typedef : {k j : ℕ} {t : Tree} {p : Plain} → IsTypeAt files k t
        → Follows (map brief_of files) (rows_of files) k j → HasPlainType files j p
        → StartsFrom files k t p

  -- what is left of that is the plain type of type k; an enumeration, bits, an identityref, an
  -- instance-identifier, a leafref or a union has none here
  pub data HasPlainType (files : Files) : ℕ → Plain → Type 0 where
    after_restriction : {k : ℕ} {t : Tree} {p q : Plain} → StartsFrom files k t p → Narrows t p q
        → HasPlainType files k q

-- a type statement of the files has a `pattern` in the dialect
abbrev pub HasTypePattern : Files → Type 0
HasTypePattern files = (k : ℕ) × (t : Tree) × IsTypeAt files k t × HasPattern (trees t.children)
