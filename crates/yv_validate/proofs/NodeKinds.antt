-- What is met at a node, by its kind, and how a walk grows by it.
use Rattle.std.proofs.Common.{◌≡◌, ℕ, ◌+◌, List, [], ◌∷◌, ◌++◌, Bool, true, false, cond, ◌&&◌, Option, Some, None, refl, sym, ap, ◌∙◌, subst}
use Rattle.std.proofs.lemmas.Bool.{true≢false}
use Rattle.serde_json.specs.Data.{Data, Members}
use Rattle.serde_json.specs.Find.{get_member}
use Rattle.yv_node_content.specs.Kinds.{is_data, is_operation_or_notification}
use Rattle.yv_node_content.specs.declared.kind.NodeKind.{NodeKind}
use Rattle.yv_node_content.specs.declared.kind.NodeKind.TheVariants as kind
use Rattle.yv_text_statement.specs.declared.document_kind.Kind.{Kind}
use Rattle.yv_values.specs.Values.{Val}
use Rattle.yv_nodes.specs.declared.node.NodeId.{NodeId}
use Rattle.yv_nodes.specs.Defaults.{defaults_of}
use Rattle.yv_nodes.specs.Rows.{below, rank, Rows, row_at}
use Rattle.yv_nodes.specs.Tree.{Forest, Label}
use Rattle.yv_walk.specs.Existence.{count_standing}
use Rattle.yv_data_leafrefs.specs.declared.scope.RuleScope.{RuleScope}
use Rattle.yv_data_leafrefs.specs.Findings.{Findings, Finds, first_of}
use Rattle.yv_data_leafrefs.specs.InUse.{in_use, is_asked, is_empty_at, uses_defaults}
use Rattle.yv_data_leafrefs.specs.Meetings.{Below, found_of, is_left, kind_met, Meeting, at_node, Node, Spot}
use Rattle.yv_validate.specs.Faults.{array_faults, choice_faults, kind_faults, leaf_faults, state_faults}
use Rattle.yv_data_faults.specs.Flaw.{Flaw}
use Rattle.yv_validate.specs.InnerWalk.{below_from, cases_met, children_met, Closes, data_met, defaults_found, empty_found, Grows, GrowsWith, inside_at, leaf_at, leaf_list_at, node_at, one_met, ProgressView, Writes}
use Rattle.yv_validate.proofs.Beneath.{choice_told, kind_same, quiet_faults}
use Rattle.yv_validate.proofs.WalkGrowth.{asked_faults, Behind, closes, Defaults, entered_absent, entered_asked, grows_alone, grows_only, in_use_empty, in_use_items, in_use_other, in_use_unasked, in_use_written, left_written, Quiet, quiet_node, unasked_faults, with_as}

-- ---- all that is met at a node

-- a node, by its kind
abbrev of_kind : Kind → Rows → RuleScope → NodeId → Members → Spot → ℕ → Option Data → NodeKind → List Meeting
of_kind k s scope n ms spot next found K =
    cond (is_operation_or_notification K) [] (cond (is_left K scope found) [] (kind_met K n (row_at s n).label (below s n) spot scope next found (below_from k s scope spot next n (rank n) ms))
    ++ at_node (node_at s scope n ms spot) ∷ [])

pub at_operation : (k : Kind) (s : Rows) (scope : RuleScope) (n : NodeId) (ms : Members) (spot : Spot) (next : ℕ) → is_operation_or_notification (row_at s n).label.defined.kind ≡ true
    → one_met k s scope n ms spot next ≡ []
at_operation k s scope n ms spot next e =
    let l : Label = (row_at s n).label in
    let found : Option Data = get_member l.member ms in
    let K : NodeKind = l.defined.kind in
    ap (λ (b : Bool). cond b [] (cond (is_left K scope found) [] (kind_met K n l (below s n) spot scope next found (below_from k s scope spot next n (rank n) ms))
    ++ at_node (node_at s scope n ms spot) ∷ [])) e

no_operation : (K : NodeKind) (xs : List Meeting) → is_operation_or_notification K ≡ false → xs ≡ cond (is_operation_or_notification K) [] xs
no_operation K xs e = sym (ap (λ (b : Bool). cond b [] xs) e)

pub at_data : (k : Kind) (s : Rows) (scope : RuleScope) (n : NodeId) (ms : Members) (found : Option Data) (spot : Spot) (next : ℕ) → is_operation_or_notification (row_at s n).label.defined.kind ≡ false
    → is_data (row_at s n).label.defined.kind ≡ true → Writes s n found ms
    → data_met k s scope n found spot next ++ at_node (node_at s scope n ms spot) ∷ [] ≡ one_met k s scope n ms spot next
at_data k s scope n ms found spot next plain is_one writes =
    let l : Label = (row_at s n).label in
    let K : NodeKind = l.defined.kind in
    let own : List Meeting = at_node (node_at s scope n ms spot) ∷ [] in
    let b : Below = below_from k s scope spot next n (rank n) ms in
    ap (λ (xs : List Meeting). cond (is_left K scope found) [] xs ++ own) (sym (kind_same K n l (below s n) spot scope next found b.inside b.cases b.nodes is_one))
    ∙ ap (λ (o : Option Data). cond (is_left K scope o) [] (kind_met K n l (below s n) spot scope next o b) ++ own) (sym writes)
    ∙ no_operation K (cond (is_left K scope (get_member l.member ms)) [] (kind_met K n l (below s n) spot scope next (get_member l.member ms) b) ++ own) plain

pub at_choice : (k : Kind) (s : Rows) (scope : RuleScope) (n : NodeId) (ms : Members) (spot : Spot) (next : ℕ) → (row_at s n).label.defined.kind ≡ kind.Choice
    → cases_met k s n ms spot next ++ at_node (node_at s scope n ms spot) ∷ [] ≡ one_met k s scope n ms spot next
at_choice k s scope n ms spot next is = sym (ap (of_kind k s scope n ms spot next (get_member (row_at s n).label.member ms)) is)

pub at_case : (k : Kind) (s : Rows) (scope : RuleScope) (n : NodeId) (ms : Members) (spot : Spot) (next : ℕ) → (row_at s n).label.defined.kind ≡ kind.Case
    → children_met k s scope n ms spot next ++ at_node (node_at s scope n ms spot) ∷ [] ≡ one_met k s scope n ms spot next
at_case k s scope n ms spot next is = sym (ap (of_kind k s scope n ms spot next (get_member (row_at s n).label.member ms)) is)

of_other : (k : Kind) (s : Rows) (scope : RuleScope) (n : NodeId) (ms : Members) (spot : Spot) (next : ℕ) (found : Option Data) (K : NodeKind) → is_operation_or_notification K ≡ false → is_data K ≡ false
    → (K ≡ kind.Choice → ⊥) → (K ≡ kind.Case → ⊥) → at_node (node_at s scope n ms spot) ∷ [] ≡ of_kind k s scope n ms spot next found K
of_other k s scope n ms spot next found kind.Input plain none a b = refl
of_other k s scope n ms spot next found kind.Output plain none a b = refl
of_other k s scope n ms spot next found kind.Choice plain none a b = absurd (a refl)
of_other k s scope n ms spot next found kind.Case plain none a b = absurd (b refl)
of_other k s scope n ms spot next found kind.Rpc plain none a b = absurd (true≢false plain)
of_other k s scope n ms spot next found kind.Action plain none a b = absurd (true≢false plain)
of_other k s scope n ms spot next found kind.Notification plain none a b = absurd (true≢false plain)
of_other k s scope n ms spot next found _ plain none a b = absurd (true≢false none)

pub at_other : (k : Kind) (s : Rows) (scope : RuleScope) (n : NodeId) (ms : Members) (spot : Spot) (next : ℕ) → is_operation_or_notification (row_at s n).label.defined.kind ≡ false
    → is_data (row_at s n).label.defined.kind ≡ false → ((row_at s n).label.defined.kind ≡ kind.Choice → ⊥) → ((row_at s n).label.defined.kind ≡ kind.Case → ⊥)
    → at_node (node_at s scope n ms spot) ∷ [] ≡ one_met k s scope n ms spot next
at_other k s scope n ms spot next plain none a b = of_other k s scope n ms spot next (get_member (row_at s n).label.member ms) (row_at s n).label.defined.kind plain none a b

-- ---- how the walk grows there

not_leaf : (K : NodeKind) → is_data K ≡ false → (K ≡ kind.Leaf → ⊥)
not_leaf K none e = true≢false (sym (ap is_data e) ∙ none)

not_leaf_list : (K : NodeKind) → is_data K ≡ false → (K ≡ kind.LeafList → ⊥)
not_leaf_list K none e = true≢false (sym (ap is_data e) ∙ none)

pub no_default : (K : NodeKind) (l : Label) (scope : RuleScope) (found : Option Data) → is_data K ≡ false → in_use K l scope found ≡ []
no_default K l scope found none = in_use_other K l scope found (not_leaf K none) (not_leaf_list K none)

-- a case, or what isn't in documents: nothing is told of it
pub other_closes : Defaults → Quiet → Behind → (k : Kind) (s : Rows) (scope : RuleScope) (n : NodeId) (ms : Members) (spot : Spot) (a b : ProgressView) (xs : List Meeting) → is_data (row_at s n).label.defined.kind ≡ false
    → ((row_at s n).label.defined.kind ≡ kind.Choice → ⊥) → Grows k s a b xs → Closes k s a b xs (node_at s scope n ms spot)
other_closes defaults quiet behind k s scope n ms spot a b xs none other h =
    let m : Node = node_at s scope n ms spot in
    closes behind k s a b xs [] m b.found (grows_alone k s a b xs h) (quiet_faults m.label.defined.kind m (found_of m) none other)
    (quiet_node defaults quiet s b.found m (no_default m.label.defined.kind m.label scope (found_of m) none))

-- a choice
pub choice_closes : Defaults → Quiet → Behind → (k : Kind) (s : Rows) (scope : RuleScope) (n : NodeId) (ms : Members) (spot : Spot) (a b : ProgressView) (xs : List Meeting) (existing : ℕ) → (row_at s n).label.defined.kind ≡ kind.Choice
    → rank n ≡ n.0 + 1 → existing ≡ count_standing (rank n) (below s n) ms
    → GrowsWith k s a b xs (cond (is_asked scope) (choice_faults (node_at s scope n ms spot) existing) []) → Closes k s a b xs (node_at s scope n ms spot)
choice_closes defaults quiet behind k s scope n ms spot a b xs existing is first count h =
    let m : Node = node_at s scope n ms spot in
    closes behind k s a b xs (cond (is_asked scope) (choice_faults m existing) []) m b.found h
    (choice_told k s m is ∙ ap (λ (e : ℕ). cond (is_asked scope) (choice_faults m e) [])
    (sym (count ∙ ap (λ (r : ℕ). count_standing r (below s n) ms) first)))
    (quiet_node defaults quiet s b.found m (no_default m.label.defined.kind m.label scope (found_of m) (ap is_data is)))

-- what is met at a data node for which some rule holds
pub data_asked : (k : Kind) (s : Rows) (scope : RuleScope) (n : NodeId) (found : Option Data) (spot : Spot) (next : ℕ) (K : NodeKind) → (row_at s n).label.defined.kind ≡ K → is_asked scope ≡ true
    → kind_met K n (row_at s n).label (below s n) spot scope next found (inside_at k s n) ≡ data_met k s scope n found spot next
data_asked k s scope n found spot next K is asked =
    let l : Label = (row_at s n).label in
    ap (λ (x : NodeKind). kind_met x n l (below s n) spot scope next found (inside_at k s n)) (sym is)
    ∙ sym (ap (λ (b : Bool). cond b [] (kind_met l.defined.kind n l (below s n) spot scope next found (inside_at k s n))) (entered_asked l.defined.kind scope found asked))

-- and at one that isn't written
pub data_absent : (k : Kind) (s : Rows) (scope : RuleScope) (n : NodeId) (spot : Spot) (next : ℕ) (K : NodeKind) → (row_at s n).label.defined.kind ≡ K
    → kind_met K n (row_at s n).label (below s n) spot scope next None (inside_at k s n) ≡ data_met k s scope n None spot next
data_absent k s scope n spot next K is =
    let l : Label = (row_at s n).label in
    ap (λ (x : NodeKind). kind_met x n l (below s n) spot scope next None (inside_at k s n)) (sym is)
    ∙ sym (ap (λ (b : Bool). cond b [] (kind_met l.defined.kind n l (below s n) spot scope next None (inside_at k s n))) (entered_absent l.defined.kind scope))

-- state that is written isn't looked into
pub data_left : (k : Kind) (s : Rows) (scope : RuleScope) (n : NodeId) (d : Data) (spot : Spot) (next : ℕ) → is_data (row_at s n).label.defined.kind ≡ true → is_asked scope ≡ false
    → [] ≡ data_met k s scope n (Some d) spot next
data_left k s scope n d spot next is_one unasked =
    let l : Label = (row_at s n).label in
    sym (ap (λ (b : Bool). cond b [] (kind_met l.defined.kind n l (below s n) spot scope next (Some d) (inside_at k s n))) (left_written l.defined.kind scope d is_one unasked))

-- what isn't written, and is no container
absent_kind : (K : NodeKind) (n : NodeId) (l : Label) (kids : Forest) (spot : Spot) (scope : RuleScope) (next : ℕ) (below : Below) → is_data K ≡ true → (K ≡ kind.Container → ⊥)
    → [] ≡ kind_met K n l kids spot scope next None below
absent_kind kind.Container n l kids spot scope next below is_one other = absurd (other refl)
absent_kind kind.Choice n l kids spot scope next below is_one other = absurd (true≢false (sym is_one))
absent_kind kind.Case n l kids spot scope next below is_one other = absurd (true≢false (sym is_one))
absent_kind _ n l kids spot scope next below is_one other = refl

pub data_nothing : (k : Kind) (s : Rows) (scope : RuleScope) (n : NodeId) (spot : Spot) (next : ℕ) → is_data (row_at s n).label.defined.kind ≡ true → ((row_at s n).label.defined.kind ≡ kind.Container → ⊥)
    → [] ≡ data_met k s scope n None spot next
data_nothing k s scope n spot next is_one other =
    let l : Label = (row_at s n).label in
    absent_kind l.defined.kind n l (below s n) spot scope next (inside_at k s n) is_one other ∙ data_absent k s scope n spot next l.defined.kind refl

-- a data node of some kind for which some rule holds: its faults are those of the kind
pub arm_closes : Defaults → Quiet → Behind → (k : Kind) (s : Rows) (scope : RuleScope) (n : NodeId) (ms : Members) (found : Option Data) (spot : Spot) (next : ℕ) (a b : ProgressView) (K : NodeKind) → (row_at s n).label.defined.kind ≡ K
    → is_asked scope ≡ true → (K ≡ kind.Leaf → ⊥) → (K ≡ kind.LeafList → ⊥) → Writes s n found ms
    → GrowsWith k s a b (kind_met K n (row_at s n).label (below s n) spot scope next found (inside_at k s n)) (kind_faults K (node_at s scope n ms spot) found)
    → Closes k s a b (data_met k s scope n found spot next) (node_at s scope n ms spot)
arm_closes defaults quiet behind k s scope n ms found spot next a b K is asked other another writes h =
    let m : Node = node_at s scope n ms spot in
    closes behind k s a b (data_met k s scope n found spot next) (kind_faults K m found) m b.found
    (with_as k s a b _ _ _ (data_asked k s scope n found spot next K is asked) h)
    (asked_faults k s m K found is asked writes)
    (quiet_node defaults quiet s b.found m (ap (λ (x : NodeKind). in_use x m.label scope (found_of m)) is ∙ in_use_other K m.label scope (found_of m) other another))

-- and one for which none does
pub state_closes : Defaults → Quiet → Behind → (k : Kind) (s : Rows) (scope : RuleScope) (n : NodeId) (ms : Members) (found : Option Data) (spot : Spot) (next : ℕ) (a b : ProgressView) (xs : List Meeting)
    → is_asked scope ≡ false → Writes s n found ms → xs ≡ data_met k s scope n found spot next
    → GrowsWith k s a b xs (state_faults (row_at s n).label.defined.kind (node_at s scope n ms spot) found)
    → Closes k s a b (data_met k s scope n found spot next) (node_at s scope n ms spot)
state_closes defaults quiet behind k s scope n ms found spot next a b xs unasked writes same h =
    let m : Node = node_at s scope n ms spot in
    let K : NodeKind = m.label.defined.kind in
    closes behind k s a b (data_met k s scope n found spot next) (state_faults K m found) m b.found
    (with_as k s a b _ _ _ same h) (unasked_faults k s m K found refl unasked writes)
    (quiet_node defaults quiet s b.found m (in_use_unasked K m.label scope (found_of m) unasked))

-- ---- leafs

-- one that isn't written
pub absent_closes : Defaults → Behind → Quiet → (k : Kind) (s : Rows) (scope : RuleScope) (n : NodeId) (ms : Members) (spot : Spot) (a : ProgressView) (faults : List Flaw) (found : Findings) → (row_at s n).label.defined.kind ≡ kind.Leaf
    → is_asked scope ≡ true → Writes s n None ms → faults ≡ a.faults ++ leaf_faults (node_at s scope n ms spot) None
    → Finds a.found found (empty_found s scope n (first_of spot.around))
    → Closes k s a (record { faults = faults; found = found; steps = a.steps }) [] (node_at s scope n ms spot)
absent_closes defaults behind quiet k s scope n ms spot a faults found is asked writes told used =
    let m : Node = node_at s scope n ms spot in
    let l : Label = m.label in
    let here : ℕ = first_of spot.around in
    closes behind k s a (record { faults = faults; found = a.found; steps = a.steps }) [] (leaf_faults m None) m found
    (grows_only quiet k s a faults (leaf_faults m None) told) (asked_faults k s m kind.Leaf None is asked writes)
    (subst (λ x. Finds a.found found x)
    (sym (defaults s m ∙ ap (λ (K : NodeKind). defaults_found s n here (in_use K l scope (found_of m))) is
    ∙ ap (λ (o : Option Data). defaults_found s n here (in_use kind.Leaf l scope o)) writes
    ∙ ap (λ (vs : List Val). defaults_found s n here vs) (in_use_empty kind.Leaf l scope None refl))) used)

-- one that is
pub written_closes : Defaults → Quiet → Behind → (k : Kind) (s : Rows) (scope : RuleScope) (n : NodeId) (ms : Members) (d : Data) (spot : Spot) (next : ℕ) (a b : ProgressView) → (row_at s n).label.defined.kind ≡ kind.Leaf
    → is_asked scope ≡ true → Writes s n (Some d) ms → Grows k s a b (leaf_at s n (Some d) spot next)
    → Closes k s a b (leaf_at s n (Some d) spot next) (node_at s scope n ms spot)
written_closes defaults quiet behind k s scope n ms d spot next a b is asked writes h =
    let m : Node = node_at s scope n ms spot in
    closes behind k s a b (leaf_at s n (Some d) spot next) [] m b.found (grows_alone k s a b _ h) (asked_faults k s m kind.Leaf (Some d) is asked writes)
    (quiet_node defaults quiet s b.found m
    (ap (λ (K : NodeKind). in_use K m.label scope (found_of m)) is ∙ ap (λ (o : Option Data). in_use kind.Leaf m.label scope o) writes ∙ in_use_written m.label scope d))

-- ---- leaf-lists

-- one that has items, or whose defaults aren't used
pub items_close : Defaults → Quiet → Behind → (k : Kind) (s : Rows) (scope : RuleScope) (n : NodeId) (ms : Members) (found : Option Data) (spot : Spot) (next : ℕ) (a b : ProgressView) → (row_at s n).label.defined.kind ≡ kind.LeafList
    → is_asked scope ≡ true → Writes s n found ms → (uses_defaults scope && is_empty_at kind.LeafList found) ≡ false
    → GrowsWith k s a b (leaf_list_at s n found spot next) (array_faults (node_at s scope n ms spot) found)
    → Closes k s a b (leaf_list_at s n found spot next) (node_at s scope n ms spot)
items_close defaults quiet behind k s scope n ms found spot next a b is asked writes unused h =
    let m : Node = node_at s scope n ms spot in
    closes behind k s a b (leaf_list_at s n found spot next) (array_faults m found) m b.found h (asked_faults k s m kind.LeafList found is asked writes)
    (quiet_node defaults quiet s b.found m
    (ap (λ (K : NodeKind). in_use K m.label scope (found_of m)) is ∙ ap (λ (o : Option Data). in_use kind.LeafList m.label scope o) writes ∙ in_use_items m.label scope found unused))

-- one whose defaults are
pub empty_closes : Defaults → Behind → (k : Kind) (s : Rows) (scope : RuleScope) (n : NodeId) (ms : Members) (found : Option Data) (spot : Spot) (next : ℕ) (a b : ProgressView) (used : Findings) → (row_at s n).label.defined.kind ≡ kind.LeafList
    → is_asked scope ≡ true → Writes s n found ms → (uses_defaults scope && is_empty_at kind.LeafList found) ≡ true
    → GrowsWith k s a b (leaf_list_at s n found spot next) (array_faults (node_at s scope n ms spot) found)
    → Finds b.found used (defaults_found s n (first_of spot.around) (defaults_of (row_at s n).label))
    → Closes k s a (record { faults = b.faults; found = used; steps = b.steps }) (leaf_list_at s n found spot next) (node_at s scope n ms spot)
empty_closes defaults behind k s scope n ms found spot next a b used is asked writes uses h finds =
    let m : Node = node_at s scope n ms spot in
    let here : ℕ = first_of spot.around in
    closes behind k s a b (leaf_list_at s n found spot next) (array_faults m found) m used h (asked_faults k s m kind.LeafList found is asked writes)
    (subst (λ x. Finds b.found used x)
    (sym (defaults s m ∙ ap (λ (K : NodeKind). defaults_found s n here (in_use K m.label scope (found_of m))) is
    ∙ ap (λ (o : Option Data). defaults_found s n here (in_use kind.LeafList m.label scope o)) writes
    ∙ ap (λ (b : Bool). defaults_found s n here (cond b (defaults_of m.label) [])) uses)) finds)
