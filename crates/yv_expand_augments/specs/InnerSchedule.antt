-- Only private clauses cite this: the augments of `uses` statements in order, worked out once for
-- all copies in one module.
use Rattle.std.specs.Prelude.{◌≡◌, ℕ, ◌+◌, ◌<◌, ◌≤◌, ◌==◌, Bool, true, false, List, [], ◌∷◌, length, Option, Some, None, slice_get}
use Rattle.std.specs.Option.{option_and_then}
use Rattle.std.specs.Ordering.{nat_cmp}
use Rattle.std.specs.BTreeMap.{get}
use Rattle.std.specs.BTreeSet.{contains}
use Rattle.yv_text_statement.specs.Order.{Among, IsUpTo}
use Rattle.yv_text_statement.specs.declared.refusal.Code.TheVariants as code
use Rattle.yv_text_statement.specs.declared.refusal.Refusal.{Refusal}
use Rattle.yv_link_scopes.specs.Rows.{Row}
use Rattle.yv_base_tables.specs.InnerTree.{IsPathTree}
use Rattle.yv_expand_rounds.specs.declared.end.End.TheVariants.{Start}
use Rattle.yv_expand_rounds.specs.declared.augmentation.Augmentation.{Augmentation}
use Rattle.yv_expand_rounds.specs.declared.label.Label.{Label}
use Rattle.yv_expand_rounds.specs.InnerState.{IsAugmentation}
use Rattle.yv_expand_rounds.specs.Paths.{path_end}
use Rattle.yv_expand_rounds.specs.Turns.{State, target}
use Rattle.yv_expand_augments.specs.Refusals.{RefusesIf}
use Rattle.yv_expand_uses.specs.AugmentOrder.{augments_giving, is_giving}
use Rattle.yv_expand_uses.specs.Paths.{path_in}
use Rattle.yv_expand_uses.specs.Spots.{Whole}
use Rattle.yv_expand_augments.specs.MissingTargets.{MissesInTurn, after_turns, next_number}
use Rattle.yv_expand_uses.specs.AugmentOrder.{augments_in}
use Rattle.yv_expand_augments.specs.declared.schedule.AddressedAugment.{AddressedAugment}
use Rattle.yv_expand_augments.specs.declared.schedule.ScheduleDraft.{ScheduleDraft}
use Rattle.yv_expand_augments.specs.declared.schedule.Schedule.{Schedule}
use Rattle.yv_expand_augments.specs.declared.schedule.Schedules.{Schedules}
use Rattle.yv_expand_augments.specs.declared.schedule.Stretch.{Stretch}
use Rattle.yv_expand_uses.specs.declared.spot.Spot.{Spot}

-- an augment is refused so if it adds to no node
abbrev pub IsRefusalOf : List Row → (augment : ℕ) → Refusal → Type 0
IsRefusalOf rows a f = RefusesIf rows code.AugmentTarget (Unit {0}) a f

-- of these augments an earlier one isn't refused after a later one
abbrev pub AreOrdered : List Row → List AddressedAugment → Type 0
AreOrdered rows idle = (i k : ℕ) (x y : AddressedAugment) (f g : Refusal) → i < k
    → slice_get idle i ≡ Some x → slice_get idle k ≡ Some y
    → IsRefusalOf rows x.augment f → IsRefusalOf rows y.augment g → IsUpTo f g

-- one of the augments of a `uses` from one place to another, with its path in the module of the
-- file `module_file`
pub record IsFrom (w : Whole) (statement module_file from to : ℕ)
    (x : AddressedAugment) : Type 0 where
  pub place : ℕ
  pub from_on : from ≤ place
  pub before : place < to
  pub at : slice_get (augments_in w.rows statement) place ≡ Some x.augment
  pub path : x.path.items ≡ path_in w module_file x.augment
  pub refusal : Refusal
  pub refused : IsRefusalOf w.rows x.augment refusal

-- one of these augments has this path, and isn't refused after this refusal
pub record IsCovered (rows : List Row) (idle : List AddressedAugment) (path : List ℕ)
    (f : Refusal) : Type 0 where
  pub place : ℕ
  pub addressed : AddressedAugment
  pub at : slice_get idle place ≡ Some addressed
  pub path_is : addressed.path.items ≡ path
  pub refusal : Refusal
  pub refused : IsRefusalOf rows addressed.augment refusal
  pub first : IsUpTo refusal f

-- the augments of a `uses` from one place to another give nothing, and these are the first of each
-- path
pub record AreIdle (w : Whole) (statement module_file from to : ℕ)
    (idle : List AddressedAugment) : Type 0 where
  pub ascend : from ≤ to
  pub within : to ≤ length (augments_in w.rows statement)
  pub quiet : (k a : ℕ) → from ≤ k → k < to → slice_get (augments_in w.rows statement) k ≡ Some a
      → is_giving w.rows statement a ≡ false
  pub among : (i : ℕ) (x : AddressedAugment) → slice_get idle i ≡ Some x
      → IsFrom w statement module_file from to x
  pub each : (k a : ℕ) (f : Refusal) → from ≤ k → k < to
      → slice_get (augments_in w.rows statement) k ≡ Some a → IsRefusalOf w.rows a f
      → IsCovered w.rows idle (path_in w module_file a) f
  pub ordered : AreOrdered w.rows idle

-- the augment at a place gives something, and has this path
pub record IsSource (w : Whole) (statement module_file place : ℕ)
    (x : AddressedAugment) : Type 0 where
  pub at : slice_get (augments_in w.rows statement) place ≡ Some x.augment
  pub gives : is_giving w.rows statement x.augment ≡ true
  pub path : x.path.items ≡ path_in w module_file x.augment

-- at a place comes one that gives something, and then the next place, or nothing
abbrev pub IsEnded : Whole → (statement module_file place next : ℕ) → Option AddressedAugment
    → Type 0
IsEnded w statement module_file place next None = place ≡ next
IsEnded w statement module_file place next (Some x) =
    (place + 1 ≡ next) × IsSource w statement module_file place x

-- the augments of a `uses` from one place to another are those of a stretch
pub record IsStretch (w : Whole) (statement module_file from to : ℕ)
    (stretch : Stretch) : Type 0 where
  pub place : ℕ
  pub idle : AreIdle w statement module_file from place stretch.idle.items
  pub ended : IsEnded w statement module_file place to stretch.giving

-- they are those of stretches
abbrev pub AreStretches : Whole → (statement module_file from to : ℕ) → List Stretch → Type 0
AreStretches w statement module_file from to [] = from ≡ to
AreStretches w statement module_file from to (x ∷ xs) =
    (next : ℕ) × IsStretch w statement module_file from next x
    × AreStretches w statement module_file next to xs

-- all augments of a `uses` are
abbrev pub IsSchedule : Whole → (statement : ℕ) → Schedule → Type 0
IsSchedule w statement s =
    AreStretches w statement s.module_file 0
    (length (augments_in w.rows statement)) s.stretches.items

pub record AreSchedules (w : Whole) (schedules : Schedules) : Type 0 where
  pub known : (statement : ℕ) (s : Schedule) → get nat_cmp schedules.known statement ≡ Some s
      → IsSchedule w statement s

abbrev pub is_of_module : (module_file : ℕ) → Option Schedule → Bool
is_of_module module_file None = false
is_of_module module_file (Some s) = s.module_file == module_file

abbrev pub stretches_of : Option Schedule → List Stretch
stretches_of None = []
stretches_of (Some s) = s.stretches.items

-- the stretches that are kept
abbrev pub stretches_in : Schedules → (statement : ℕ) → List Stretch
stretches_in schedules statement = stretches_of (get nat_cmp schedules.known statement)

-- the last refusal, if there is one, isn't after this one of the same code
abbrev pub IsFollowed : Option Refusal → Refusal → Type 0
IsFollowed None g = Unit {0}
IsFollowed (Some f) g = f.code ≡ g.code → IsUpTo f g

-- there is a last refusal, and this one isn't after it
abbrev pub IsPassed : Option Refusal → Refusal → Type 0
IsPassed None f = ⊥
IsPassed (Some l) f = IsUpTo f l

-- of these paths the numbered one is that of one of these augments
pub record IsPathOf (all : List (List ℕ)) (idle : List AddressedAugment) (number : ℕ) : Type 0 where
  pub place : ℕ
  pub addressed : AddressedAugment
  pub at : slice_get idle place ≡ Some addressed
  pub path : slice_get all number ≡ Some addressed.path.items

-- the first augments of a `uses`, so many, are those of stretches and some after them
pub record IsGathering (w : Whole) (statement module_file count : ℕ)
    (g : ScheduleDraft) : Type 0 where
  pub from : ℕ
  pub done : AreStretches w statement module_file 0 from g.stretches.items
  pub idle : AreIdle w statement module_file from count g.idle.items
  pub all : List (List ℕ)
  pub tree : IsPathTree all g.paths
  pub known : (number : ℕ) → contains nat_cmp g.known number ≡ true
      → IsPathOf all g.idle.items number
  pub passed : (k : ℕ) (x : AddressedAugment) (f : Refusal) → slice_get g.idle.items k ≡ Some x
      → IsRefusalOf w.rows x.augment f
      → IsPassed g.last f
  pub code : (l : Refusal) → g.last ≡ Some l → l.code ≡ code.AugmentTarget

-- the next augment of a `uses` gives nothing, and has this path and this refusal
pub record IsNext (w : Whole) (statement module_file place : ℕ) (x : AddressedAugment)
    (f : Refusal) : Type 0 where
  pub at : slice_get (augments_in w.rows statement) place ≡ Some x.augment
  pub quiet : is_giving w.rows statement x.augment ≡ false
  pub path : x.path.items ≡ path_in w module_file x.augment
  pub refused : IsRefusalOf w.rows x.augment f

-- the node to which an augment adds whose path begins in a group
abbrev pub added_to : List Label → State → (limit group : ℕ) → List ℕ → Option ℕ
added_to labels st limit group path =
    option_and_then (target labels) (path_end labels st.groups limit path (Start group))

-- one of these augments adds to no node, where their paths lead so
abbrev pub MissesIdle : List Row → (lead : List ℕ → Option ℕ) → List AddressedAugment → Refusal
    → Type 0
MissesIdle rows lead idle f =
    Among idle (λ place x. RefusesIf rows code.AugmentTarget (lead x.path.items ≡ None) x.augment)
    (length idle) f

-- one of the augments of a `uses` from one place to another adds to no node in its turn
abbrev pub MissesBetween : Whole → List Label → Spot → (end : ℕ) → State → (from to : ℕ) → Refusal
    → Type 0
MissesBetween w labels s end st from to f =
    (k : ℕ) × (from ≤ k) × (k < to) × (a : ℕ)
    × (slice_get (augments_in w.rows s.statement) k ≡ Some a) × MissesInTurn w labels s end st k a f

-- the first augments of a copy had their turns, and this is the number of the next copy of one that
-- gives something
pub record IsReady (w : Whole) (labels : List Label) (s : Spot) (st : State) (count number : ℕ)
    (g : Augmentation) : Type 0 where
  pub augmentation : IsAugmentation labels (after_turns w labels s count st) g
  pub long : length labels ≡ w.items
  pub next : number ≡ next_number w.rows s count
  pub room : s.first + length (augments_giving w.rows s.statement) ≤ length st.ends
