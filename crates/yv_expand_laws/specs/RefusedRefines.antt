-- What is refused of the refines of a uses (RFC 7950, section 7.13.2).
use Rattle.std.specs.Prelude.{◌≡◌, ◌⊎◌, List, [], ◌∷◌, None}
use Rattle.std.specs.List.{Contains}
use Rattle.yv_text_statement.specs.declared.refusal.Code.TheVariants as code
use Rattle.yv_link_scopes.specs.Files.{Files}
use Rattle.yv_expand_refines.specs.Targets.{RefineMeaning}
use Rattle.yv_expand_uses.specs.declared.spot.Spot.{Spot}
use Rattle.yv_expand_changes.specs.Refusals.{IsUnfit}
use Rattle.yv_expand_definition.specs.Gives.{Wrong}

-- a refine is refused so: it means no item, or one for which it isn't fit
abbrev pub IsRefused : Files → List Spot → RefineMeaning → Wrong → Type 0
IsRefused files spots x e =
    (e.statement ≡ x.refine)
    × (((e.code ≡ code.RefineTarget) × (x.target ≡ None))
    ⊎ ((e.code ≡ code.BadRefine) × IsUnfit files spots x))

-- one of these is
abbrev pub IsAnyRefused : Files → List Spot → List RefineMeaning → Wrong → Type 0
IsAnyRefused files spots [] e = ⊥
IsAnyRefused files spots (x ∷ xs) e = IsRefused files spots x e ⊎ IsAnyRefused files spots xs e

-- of what is refused in the end these refines are refused, and all else was before
abbrev pub Refuse : Files → List Spot → List RefineMeaning → (old last : List Wrong) → Type 0
Refuse files spots xs old last =
    (e : Wrong) → (Contains last e → Contains old e ⊎ IsAnyRefused files spots xs e)
    × (Contains old e ⊎ IsAnyRefused files spots xs e → Contains last e)
