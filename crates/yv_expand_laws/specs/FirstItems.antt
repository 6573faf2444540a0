-- What is where before any augment of a module has its turn: the items of the modules at the top,
-- and what each of their augments gives in a group of its own, with the turns of the augments of
-- uses (RFC 7950, sections 7.13 and 7.17).
use Rattle.std.specs.Prelude.{ℕ, ◌≤◌, Bool, List, length}
use Rattle.yv_expand_rounds.specs.declared.label.Label.{Label}
use Rattle.yv_expand_rounds.specs.Groups.{group_of_augment}
use Rattle.yv_expand_rounds.specs.Placements.{nothing}
use Rattle.yv_expand_rounds.specs.Turns.{State}
use Rattle.yv_expand_definition.specs.Nodes.{Forest}
use Rattle.yv_expand_laws.specs.Blocks.{Augments, Block, augment, no_augments, enter_block, run_all}
use Rattle.yv_expand_laws.specs.Comes.{Comes, MarksBlock}
use Rattle.yv_expand_laws.specs.Shows.{Items, Shows}

-- what is in the groups of the blocks has the marks of these
abbrev pub BlocksMarked : List Label → (given mark : ℕ → Bool) → {lo hi c e k own : ℕ}
    → Augments lo hi c e k own → Type 0
BlocksMarked labels given mark no_augments = Unit {0}
BlocksMarked labels given mark {k = k} (augment mid d names block others) =
    MarksBlock labels given mark (group_of_augment labels k) block
    × BlocksMarked labels given mark others

-- each augment's group shows what its block gives
abbrev pub AllShow : List Label → Items → State → {lo hi c e k own : ℕ} → Augments lo hi c e k own
    → Type 0
AllShow labels its st no_augments = Unit {0}
AllShow labels its st {lo = lo} {k = k} (augment mid d names block others) =
    ((f : Forest) → Comes labels its _ _ _ _ block f
    → Shows its st.groups (group_of_augment labels k) lo mid f) × AllShow labels its st others

-- the items of the modules and, after them, those of the blocks of their augments have entered, the
-- last ones first
abbrev pub first_state : List Label → {n hi d e own : ℕ} → Block 0 n own d → Augments n hi d e 0 own
    → State
first_state labels {e = e} block augments =
    enter_block labels 0 block (run_all labels augments (nothing (length labels) e))

-- then the top shows what the modules give, and the group of each augment what its block gives
abbrev pub BeginningShows : List Label → Items → (mark : ℕ → Bool) → Type 0
BeginningShows labels its mark =
    (n hi d e own : ℕ) (block : Block 0 n own d) (augments : Augments n hi d e 0 own)
    → hi ≤ length labels → MarksBlock labels its.given mark 0 block
    → BlocksMarked labels its.given mark augments
    → ((f : Forest) → Comes labels its _ _ _ _ block f
    → Shows its (first_state labels block augments).groups 0 0 n f)
    × AllShow labels its (first_state labels block augments) augments
