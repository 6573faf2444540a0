-- The phases of what is wrong with the names of definitions, and with types.
use Rattle.std.proofs.Common.{◌≡◌, ℕ, inl, inr, Option, Some, None, List, refl, ap, ◌∙◌}
use Rattle.yv_text_statement.specs.Tree.{Head, Tree, trees}
use Rattle.yv_text_statement.specs.Codes.{phase_of}
use Rattle.yv_text_statement.specs.declared.refusal.Refusal.{Refusal}
use Rattle.yv_text_statement.specs.declared.refusal.Code.{Code}
use Rattle.yv_text_statement.specs.declared.refusal.Code.TheVariants as code
use Rattle.yv_text_statement.specs.Order.{Stands, refusal_at}
use Rattle.yv_link_scopes.specs.Files.{Files}
use Rattle.yv_link_definitions.specs.Refusals.{BadNames}
use Rattle.yv_type_chains.specs.Refusals.{BadKinds}
use Rattle.yv_base_numbers.specs.Intervals.{Interval}
use Rattle.yv_values.specs.Types.{Plain, wholes, decimals, strings, octets}
use Rattle.yv_type_restrictions.specs.FacetRefusals.{BadFacets, BadPatterns, BadRestriction}
use Rattle.yv_type_restrictions.specs.Refusals.{BadFaceted}
use Rattle.yv_type_enums.specs.Types.{IsFaultBy, Start, Truth, new, from}
use Rattle.yv_type_enums.specs.Refusals.{BadLists}
use Rattle.yv_types.specs.Refusals.{BadTypes}

at_phase : (n : ℕ) (P : Type 0) (c : Code) (file : ℕ) (h : Head) (f : Refusal) → phase_of c ≡ n → Stands P (refusal_at c file h) f → phase_of f.code ≡ n
at_phase n P c file h f phase s = ap (λ (r : Refusal). phase_of r.code) s.1 ∙ phase

pub names_phase : (files : Files) (f : Refusal) → BadNames files f → phase_of f.code ≡ 6
names_phase files f h = elim h.4 [
  | inl x ↦ at_phase 6 _ code.DuplicateName h.2.file h.2.head f refl x
  | inr x ↦ elim x [
    | inl y ↦ at_phase 6 _ code.UnknownType h.2.file h.2.head f refl y
    | inr y ↦ elim y [
      | inl z ↦ at_phase 6 _ code.TypeCycle h.2.file h.2.head f refl z
      | inr z ↦ elim z [
        | inl w ↦ at_phase 6 _ code.UnknownGrouping h.2.file h.2.head f refl w
        | inr w ↦ at_phase 6 _ code.GroupingCycle h.2.file h.2.head f refl w
      ]
    ]
  ]
]

kinds_phase : (files : Files) (f : Refusal) → BadKinds files f → phase_of f.code ≡ 9
kinds_phase files f h = elim h.4 [
  | inl x ↦ at_phase 9 _ code.BadType h.2.file h.2.head f refl x
  | inr x ↦ at_phase 9 _ code.TooManyMembers h.2.file h.2.head f refl x
]

restriction_phase : (file : ℕ) (digits : Option ℕ) (base : List Interval) (c : Option Tree) (f : Refusal) → BadRestriction file digits base c f → phase_of f.code ≡ 9
restriction_phase file digits base None f h = absurd h
restriction_phase file digits base (Some c) f h = at_phase 9 _ code.BadRestriction file c.head f refl h

patterns_phase : (file : ℕ) (cs : List Tree) (f : Refusal) → BadPatterns file cs f → phase_of f.code ≡ 9
patterns_phase file cs f h = at_phase 9 _ code.BadPattern file h.2.head f refl h.4

facets_phase : (file : ℕ) (t : Tree) (p : Plain) (f : Refusal) → BadFacets file t p f → phase_of f.code ≡ 9
facets_phase file t (wholes is_text is) f h = restriction_phase file None is _ f h
facets_phase file t (decimals digits is) f h = restriction_phase file (Some digits) is _ f h
facets_phase file t (strings lengths tests) f (inl h) = restriction_phase file None lengths _ f h
facets_phase file t (strings lengths tests) f (inr h) = patterns_phase file (trees t.children) f h
facets_phase file t (octets lengths) f h = restriction_phase file None lengths _ f h
facets_phase file t p f h = absurd h

faceted_phase : (files : Files) (f : Refusal) → BadFaceted files f → phase_of f.code ≡ 9
faceted_phase files f h = facets_phase h.2.file h.4.0 h.4.1 f h.4.3

fault_phase : (file : ℕ) (t : Tree) (s : Start) (f : Refusal) → IsFaultBy file t s (Some f) → phase_of f.code ≡ 9
fault_phase file t (new kind) f h = ap (λ (r : Refusal). phase_of r.code) h.4
fault_phase file t (from base) f h = ap (λ (r : Refusal). phase_of r.code) h.4

lists_phase : (files : Files) (truth : Truth) (f : Refusal) → BadLists files truth f → phase_of f.code ≡ 9
lists_phase files truth f h = fault_phase h.2.file h.4.1 h.4.0 f h.4.4

pub types_phase : (files : Files) (truth : Truth) (f : Refusal) → BadTypes files truth f → phase_of f.code ≡ 9
types_phase files truth f (inl h) = kinds_phase files f h
types_phase files truth f (inr (inl h)) = faceted_phase files f h
types_phase files truth f (inr (inr h)) = lists_phase files truth f h
