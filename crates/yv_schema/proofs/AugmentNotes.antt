-- The notes of the augments that add nodes.
use Rattle.std.proofs.Common.{◌≡◌, ℕ, zero, suc, ◌+◌, ◌<◌, ◌≤◌, Bool, true, false, cond, List, [], ◌∷◌, ◌++◌, length, get_or, drop, map, refl, sym, ap, ◌∙◌, subst, arith, add-one, append_assoc, append-nil, inl, inr, Option, Some, None}
use Rattle.std.specs.List.{slice_get, slice_index_or, All}
use Rattle.std.specs.Option.{option_and_then}
use Rattle.std.proofs.Math.Seq.{drop-cons}
use Rattle.std.proofs.lemmas.Bool.{false≢true}
use Rattle.std.proofs.lemmas.Bool.Decides.{nat_tests}
use Rattle.std.proofs.lemmas.List.{at_drop_all}
use Rattle.std.proofs.lemmas.Option.{same_Some, slice_get-get_or, slice_get_within}
use Rattle.yv_base_tables.proofs.Listing.{family_at}
use Rattle.yv_base_tables.specs.Families.{by_place, is_place, numbers_at, numbers_from}
use Rattle.yv_link_scopes.specs.Files.{brief_of, module_file_at}
use Rattle.yv_link_scopes.specs.RowList.{rows_of}
use Rattle.yv_link_scopes.specs.Rows.{Row as Statement, name_in}
use Rattle.yv_expand.specs.Tree.{Node}
use Rattle.yv_expand_uses.specs.declared.spot.Spot.{Spot}
use Rattle.yv_expand_tree.specs.Final.{spots_of}
use Rattle.yv_expand_tree.specs.FinalTree.{source_at, targets_of}
use Rattle.yv_nodes.specs.declared.node.NodeId.{NodeId}
use Rattle.yv_nodes.specs.Rows.{Note, Rows, blank_row, is_root, rank}
use Rattle.yv_schema_tables.specs.Sound.{IsChild, IsNote}
use Rattle.yv_schema.specs.InnerRows.{number_at, parent_of}
use Rattle.yv_schema.specs.InnerRows as rowing
use Rattle.yv_schema.specs.InnerBasis.{NumberedBasis, nodes_in}
use Rattle.yv_schema.specs.InnerNotes.{nodes_added, note_of_augment, notes_from, notes_of, target_of}
use Rattle.yv_schema.proofs.ParentNodes.{in_one, made_at, parent_first}
use Rattle.yv_schema.proofs.AugmentTargets.{target_known}

at_place : (place : ℕ) (p : Option ℕ) → is_place place p ≡ true → p ≡ Some place
at_place place None h = absurd (false≢true h)
at_place place (Some q) h = let same : q ≡ place = grind (arith, nat_tests) in ap Some same

each_from : (place number : ℕ) (ps : List (Option ℕ)) (k n : ℕ) → slice_get (numbers_from place number ps) k ≡ Some n → (i : ℕ) × (n ≡ number + i) × (slice_get ps i ≡ Some (Some place))
each_from place number [] k n at = cc
each_from place number (p ∷ ps) k n at = by (is_place place p) refl (each_from place (number + 1) ps) k at
  where
    later : (i : ℕ) × (n ≡ number + 1 + i) × (slice_get ps i ≡ Some (Some place)) → (i : ℕ) × (n ≡ number + i) × (slice_get (p ∷ ps) i ≡ Some (Some place))
    later (i, is, there) = (suc i, omega (arith, is), there)

    by : (b : Bool) → is_place place p ≡ b
        → ((k n : ℕ) → slice_get (numbers_from place (number + 1) ps) k ≡ Some n → (i : ℕ) × (n ≡ number + 1 + i) × (slice_get ps i ≡ Some (Some place))) → (k : ℕ)
        → slice_get (cond b (number ∷ numbers_from place (number + 1) ps) (numbers_from place (number + 1) ps)) k ≡ Some n
        → (i : ℕ) × (n ≡ number + i) × (slice_get (p ∷ ps) i ≡ Some (Some place))
    by true is others zero at = let same : number ≡ n = same_Some number n at in (0, omega (arith, same), ap Some (at_place place p is))
    by true is others (suc k) at = later (others k n at)
    by false is others k at = later (others k n at)

-- the numbers at a place are of what has that place
pub each_at : (ps : List (Option ℕ)) (place k n : ℕ) → slice_get (numbers_at ps place) k ≡ Some n → slice_get ps n ≡ Some (Some place)
each_at ps place k n at =
    let found = each_from place 0 ps k n at in
    let same : found.0 ≡ n = omega (arith, found.1) in
    subst (λ (m : ℕ). slice_get ps m ≡ Some (Some place)) same found.2

-- an augment of which nothing is left isn't noted
pub none_noted : (b : NumberedBasis) (o : Option Statement) (target : Option ℕ) → note_of_augment b o target [] ≡ []
none_noted b None target = refl
none_noted b (Some r) None = refl
none_noted b (Some r) (Some target) = refl

pub untold : (b : NumberedBasis) (o : Option Statement) (target : Option ℕ) (nodes : List NodeId) → o ≡ None → note_of_augment b o target nodes ≡ []
untold b o target nodes none = ap (λ (o : Option Statement). note_of_augment b o target nodes) none

pub untargeted : (b : NumberedBasis) (o : Option Statement) (target : Option ℕ) (nodes : List NodeId) → target ≡ None → note_of_augment b o target nodes ≡ []
untargeted b None target nodes none = refl
untargeted b (Some r) target nodes none = ap (λ (t : Option ℕ). note_of_augment b (Some r) t nodes) none

-- one that adds nodes is noted so
pub noted : (b : NumberedBasis) (o : Option Statement) (r : Statement) (target : Option ℕ) (place : ℕ) (nodes : List ℕ) (module_file : ℕ) (argument : List ℕ) (at : NodeId) (adds : List NodeId) → o ≡ Some r → target ≡ Some place
    → (nodes ≡ [] → ⊥) → module_file ≡ module_file_at (map brief_of b.files) r.file → argument ≡ name_in r → at ≡ number_at place → adds ≡ rowing.numbers_at nodes
    → record { module_file = module_file; argument = argument; target = at; nodes = adds } ∷ [] ≡ note_of_augment b o target (rowing.numbers_at nodes)
noted b o r target place [] module_file argument at adds is to filled at_module_file told there are = absurd (filled refl)
noted b o r target place (n ∷ ns) module_file argument at adds is to filled at_module_file told there are =
    let all : List NodeId = rowing.numbers_at (n ∷ ns) in
    ap (λ (m : ℕ). let x : Note = record { module_file = m; argument = argument; target = at; nodes = adds } in x ∷ []) at_module_file
    ∙ ap (λ (text : List ℕ). let x : Note = record { module_file = module_file_at (map brief_of b.files) r.file; argument = text; target = at; nodes = adds } in x ∷ []) told
    ∙ ap (λ (p : NodeId). let x : Note = record { module_file = module_file_at (map brief_of b.files) r.file; argument = name_in r; target = p; nodes = adds } in x ∷ []) there
    ∙ ap (λ (cs : List NodeId). let x : Note = record { module_file = module_file_at (map brief_of b.files) r.file; argument = name_in r; target = number_at place; nodes = cs } in x ∷ []) are
    ∙ ap (λ (t : Option ℕ). note_of_augment b (Some r) t all) (sym to)
    ∙ ap (λ (o : Option Statement). note_of_augment b o target all) (sym is)

pub rank_up_to : (p : NodeId) (n : ℕ) → p.0 < n → rank p ≤ n
rank_up_to p n lt = by (is_root p)
  where
    by : (root : Bool) → cond root 0 (p.0 + 1) ≤ n
    by true = omega arith
    by false = omega (arith, lt)

-- what the laws of final trees say of a basis
pub record Follows (b : NumberedBasis) : Type 0 where
  pub given : (place giver : ℕ) (x : Node) → slice_get (nodes_in b) place ≡ Some x → source_at (spots_of b.files b.final) b.final.augments x.origin ≡ Some giver
      → (target : ℕ) × (node : Node) × (x.parent ≡ Some target) × (slice_get (nodes_in b) target ≡ Some node)
      × (slice_index_or (targets_of b.files b.final) giver None ≡ Some node.origin)
  pub once : (i k : ℕ) (x y : Node) → slice_get (nodes_in b) i ≡ Some x → slice_get (nodes_in b) k ≡ Some y → x.origin ≡ y.origin → i ≡ k

module _ (b : NumberedBasis) (follows : Follows b) where
  abbrev pub givers : List (Option ℕ)
  givers = map (λ (x : Node). source_at (spots_of b.files b.final) b.final.augments x.origin) (nodes_in b)

  -- a node that an augment adds
  added : (place k n : ℕ) → slice_get (numbers_at givers place) k ≡ Some n → (x : Node) × (q : ℕ) × (slice_get (nodes_in b) n ≡ Some x) × (x.parent ≡ Some q) × (target_of b place ≡ Some q)
  added place k n at =
      let (x, there, is) = made_at (λ (x : Node). source_at (spots_of b.files b.final) b.final.augments x.origin) (nodes_in b) n (Some place) (each_at givers place k n at) in
      let (q, parent, target) = target_known b follows.given follows.once n place x there is in
      (x, q, there, parent, target)

  -- the node above the first that an augment adds is its target
  pub first_above : (o : Option Statement) (place : ℕ) (nodes : List ℕ) → nodes ≡ numbers_at givers place
      → note_of_augment b o (option_and_then (λ (x : Node). x.parent) (option_and_then (slice_get (nodes_in b)) (slice_get nodes 0))) (rowing.numbers_at nodes)
      ≡ note_of_augment b o (target_of b place) (nodes_added b place)
  first_above o place [] are = none_noted b o _ ∙ sym (none_noted b o (target_of b place)) ∙ ap (λ (ns : List ℕ). note_of_augment b o (target_of b place) (rowing.numbers_at ns)) are
  first_above o place (n ∷ ns) are =
      let (x, q, there, parent, target) = added place 0 n (ap (λ (ms : List ℕ). slice_get ms 0) (sym are)) in
      let same : option_and_then (λ (x : Node). x.parent) (slice_get (nodes_in b) n) ≡ target_of b place = ap (option_and_then (λ (x : Node). x.parent)) there ∙ parent ∙ sym target in
      ap (λ (t : Option ℕ). note_of_augment b o t (rowing.numbers_at (n ∷ ns))) same ∙ ap (λ (ms : List ℕ). note_of_augment b o (target_of b place) (rowing.numbers_at ms)) are

  -- the notes so far and those behind
  pub notes_more : (augments : List ℕ) (i a : ℕ) (old new one all : List Note) → i < length augments → a ≡ get_or augments i 0 → new ≡ old ++ one
      → one ≡ note_of_augment b (slice_get (rows_of b.files) a) (target_of b i) (nodes_added b i) → old ++ notes_from b i (drop i augments) ≡ all → new ++ notes_from b (i + 1) (drop (i + 1) augments) ≡ all
  notes_more augments i a old new one all lt is grew made so_far =
      let behind : List Note = notes_from b (i + 1) (drop (i + 1) augments) in
      let next : drop i augments ≡ a ∷ drop (i + 1) augments =
      drop-cons augments i 0 lt ∙ ap (λ (x : ℕ). x ∷ drop (suc i) augments) (sym is) ∙ ap (λ (n : ℕ). a ∷ drop n augments) (sym (add-one i)) in
      ap (λ (ns : List Note). ns ++ behind) grew ∙ append_assoc old one behind ∙ ap (λ (ns : List Note). old ++ (ns ++ behind)) made
      ∙ ap (λ (ns : List Note). old ++ ns) (sym (ap (notes_from b i) next)) ∙ so_far

  pub notes_end : (augments : List ℕ) (i : ℕ) (found all : List Note) → length augments ≤ i → found ++ notes_from b i (drop i augments) ≡ all → found ≡ all
  notes_end augments i found all over so_far = sym (append-nil found) ∙ ap (λ (ns : List Note). found ++ ns) (sym (at_drop_all (notes_from b i) augments i over)) ∙ so_far

  -- in a schema with a row for each node that is left, below the row of the node above
  module _ (s : Rows) (long : length s.nodes ≡ length (nodes_in b))
      (above : (k : ℕ) (x : Node) → slice_get (nodes_in b) k ≡ Some x → (get_or s.nodes k blank_row).parent ≡ parent_of x.parent) where
    child : (place k n t : ℕ) → slice_get (numbers_at givers place) k ≡ Some n → target_of b place ≡ Some t → IsChild s (number_at t) (number_at n)
    child place k n t at to =
        let (x, q, there, parent, target) = added place k n at in
        let same : q ≡ t = same_Some q t (sym target ∙ to) in
        let lt : q < n = parent_first b n x q there parent in
        record {
          behind = rank_up_to (number_at t) n (omega (arith, lt, same));
          within = omega (arith, long, slice_get_within (nodes_in b) n x there);
          above = above n x there ∙ ap parent_of (parent ∙ ap Some same);
        }

    within : (place k n t : ℕ) → slice_get (numbers_at givers place) k ≡ Some n → target_of b place ≡ Some t → t < length s.nodes
    within place k n t at to =
        let (x, q, there, parent, target) = added place k n at in
        let same : q ≡ t = same_Some q t (sym target ∙ to) in
        let lt : q < n = parent_first b n x q there parent in
        omega (arith, lt, same, long, slice_get_within (nodes_in b) n x there)

    children : (place t : ℕ) → target_of b place ≡ Some t → All (IsChild s (number_at t)) (rowing.numbers_at (numbers_at givers place))
    children place t to k d lt =
        let all : List NodeId = rowing.numbers_at (numbers_at givers place) in
        let (n, there, is) = made_at number_at (numbers_at givers place) k (get_or all k d) (slice_get-get_or all k d lt) in
        subst (IsChild s (number_at t)) is (child place k n t there to)

    one_note : (o : Option Statement) (place : ℕ) (target : Option ℕ) (nodes : List ℕ) → target ≡ target_of b place → nodes ≡ numbers_at givers place
        → (k : ℕ) (n : Note) → slice_get (note_of_augment b o target (rowing.numbers_at nodes)) k ≡ Some n → IsNote s n
    one_note None place target nodes to are k n at = cc
    one_note (Some r) place None nodes to are k n at = cc
    one_note (Some r) place (Some t) [] to are k n at = cc
    one_note (Some r) place (Some t) (m ∷ ms) to are (suc k) n at = cc
    one_note (Some r) place (Some t) (m ∷ ms) to are zero n at =
        let made : Note = record { module_file = module_file_at (map brief_of b.files) r.file; argument = name_in r; target = number_at t; nodes = rowing.numbers_at (m ∷ ms) } in
        let first : slice_get (numbers_at givers place) 0 ≡ Some m = ap (λ (ns : List ℕ). slice_get ns 0) (sym are) in
        let note : IsNote s made = record {
          target = within place 0 m t first (sym to);
          given = subst (λ (ns : List ℕ). All (IsChild s (number_at t)) (rowing.numbers_at ns)) (sym are) (children place t (sym to));
        } in
        subst (IsNote s) (same_Some made n at) note

    each_note : (place : ℕ) (augments : List ℕ) (k : ℕ) (n : Note) → slice_get (notes_from b place augments) k ≡ Some n → IsNote s n
    each_note place [] k n at = cc
    each_note place (a ∷ others) k n at =
        elim (in_one (note_of_augment b (slice_get (rows_of b.files) a) (target_of b place) (nodes_added b place)) (notes_from b (place + 1) others) k n at) [
          | inl here ↦ one_note (slice_get (rows_of b.files) a) place (target_of b place) (numbers_at givers place) refl refl k n here
          | inr there ↦ each_note (place + 1) others there.0 n there.2
        ]

    -- the notes of augments are sound
    pub are_notes : (notes : List Note) → notes ≡ notes_of b → All (IsNote s) notes
    are_notes notes are =
        subst (λ (ns : List Note). All (IsNote s) ns) (sym are)
        (λ k d lt. each_note 0 b.final.augments k (get_or (notes_of b) k d) (slice_get-get_or (notes_of b) k d lt))

-- what is kept of a final tree is of a basis of which it tells
pub record Kept (b : NumberedBasis) (spots : List Spot) (augments : List ℕ) (left : List Node) : Type 0 where
  pub spots_are : spots ≡ spots_of b.files b.final
  pub augments_are : augments ≡ b.final.augments
  pub left_are : left ≡ nodes_in b

pub givers_kept : (b : NumberedBasis) (follows : Follows b) (spots : List Spot) (augments : List ℕ) (left : List Node) → Kept b spots augments left
    → map (λ (x : Node). source_at spots augments x.origin) left ≡ givers b follows
givers_kept b follows spots augments left k =
    ap (λ (ss : List Spot). map (λ (x : Node). source_at ss augments x.origin) left) k.spots_are
    ∙ ap (λ (ns : List ℕ). map (λ (x : Node). source_at (spots_of b.files b.final) ns x.origin) left) k.augments_are
    ∙ ap (map (λ (x : Node). source_at (spots_of b.files b.final) b.final.augments x.origin)) k.left_are

-- the nodes that an augment adds, as they are found by place
pub family_is : (b : NumberedBasis) (follows : Follows b) (found : List (Option ℕ)) (count place : ℕ) (families : List (List ℕ)) (nodes : List ℕ) → found ≡ givers b follows → families ≡ by_place found count
    → place < count → nodes ≡ get_or families place [] → nodes ≡ numbers_at (givers b follows) place
family_is b follows found count place families nodes are by_places lt is =
    is ∙ ap (λ (fs : List (List ℕ)). get_or fs place []) by_places ∙ family_at found count place lt ∙ ap (λ (gs : List (Option ℕ)). numbers_at gs place) are

any_default : (xs : List ℕ) (i d e : ℕ) → i < length xs → get_or xs i d ≡ get_or xs i e
any_default [] i d e lt = absurd (omega (arith, lt))
any_default (x ∷ xs) zero d e lt = refl
any_default (x ∷ xs) (suc i) d e lt = any_default xs i d e (omega (arith, lt))

-- the note of the augment at a place
pub note_is : (b : NumberedBasis) (so : Follows b) (rows : List Statement) (list : List ℕ) (i d : ℕ) (left : List Node) (target : Option ℕ) (nodes : List ℕ) (one : List Note) → rows_of b.files ≡ rows
    → list ≡ b.final.augments → i < length list → left ≡ nodes_in b → target ≡ option_and_then (λ (x : Node). x.parent) (option_and_then (slice_get left) (slice_get nodes 0))
    → nodes ≡ numbers_at (givers b so) i → one ≡ note_of_augment b (slice_get rows (get_or list i d)) target (rowing.numbers_at nodes)
    → one ≡ note_of_augment b (slice_get (rows_of b.files) (get_or b.final.augments i 0)) (target_of b i) (nodes_added b i)
note_is b so rows list i d left target nodes one of_files are lt left_are to adds told =
    told
    ∙ ap (λ (rs : List Statement). note_of_augment b (slice_get rs (get_or list i d)) target (rowing.numbers_at nodes)) (sym of_files)
    ∙ ap (λ (a : ℕ). note_of_augment b (slice_get (rows_of b.files) a) target (rowing.numbers_at nodes)) (any_default list i d 0 lt ∙ ap (λ (ns : List ℕ). get_or ns i 0) are)
    ∙ ap (λ (t : Option ℕ). note_of_augment b (slice_get (rows_of b.files) (get_or b.final.augments i 0)) t (rowing.numbers_at nodes))
    (to ∙ ap (λ (xs : List Node). option_and_then (λ (x : Node). x.parent) (option_and_then (slice_get xs) (slice_get nodes 0))) left_are)
    ∙ first_above b so (slice_get (rows_of b.files) (get_or b.final.augments i 0)) i nodes adds
