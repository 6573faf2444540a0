-- What a uses gives lies in a block: what it copies, and what its augments give.
use Rattle.std.proofs.Common.{◌≡◌, ℕ, ◌+◌, ◌<◌, Bool, true, false, cond, if◌then◌else◌, List, [], ◌∷◌, ◌++◌, length, map, length-append, append_assoc, refl, sym, ◌∙◌, ap, subst, arith, Option, Some}
use Rattle.std.specs.List.{Contains, filter, flat_map, slice_get}
use Rattle.std.specs.Option.{is_some}
use Rattle.std.proofs.lemmas.Bool.{false≢true}
use Rattle.std.proofs.lemmas.List.{append-nil}
use Rattle.std.proofs.lemmas.Option.{same_Some}
use Rattle.yv_link_scopes.specs.Rows.{Row}
use Rattle.yv_link_definitions.specs.Refers as refers
use Rattle.yv_link_definitions.specs.Refers.{RefersTo}
use Rattle.yv_expand_statements.specs.StatementBlocks.{block_of, is_at, is_augment, is_node_or_uses, those}
use Rattle.yv_expand.specs.Tree.{Item, Tree, count, item, join, item_list, none}
use Rattle.yv_expand_statements.specs.declared.origin.Origin.TheVariants.{Statement}
use Rattle.yv_expand_rounds.specs.declared.label.Label.{Label}
use Rattle.yv_expand_rounds.specs.Groups.{group_of_augment}
use Rattle.yv_expand.specs.Expands.{blocks_of}
use Rattle.yv_expand_uses.specs.AugmentOrder.{augments_giving, is_giving, ordinal}
use Rattle.yv_expand_uses.specs.AugmentOrder as augmented_giving
use Rattle.yv_expand_uses.specs.Paths.{path_in}
use Rattle.yv_expand_statements.specs.Kinds.{is_uses}
use Rattle.yv_expand_uses.specs.Kinds.{kind_at}
use Rattle.yv_expand_uses.specs.Spots.{LayoutView, Whole, copy_group, group_below, laid_from, spot_at, spot_of, used_group}
use Rattle.yv_expand_uses.specs.AugmentOrder.{augments_in}
use Rattle.yv_expand_uses.specs.declared.spot.Spot.{Spot}
use Rattle.yv_expand_augments.proofs.AugmentTurns.{giving_filtered}
use Rattle.yv_expand_laws.specs.Blocks.{augment, no_augments}
use Rattle.yv_expand_laws.specs.Expansions.{spot_view}
use Rattle.yv_expand_laws.proofs.BlockStatements.{augments_are, block_scope, filter_in, no_augment_gives, nothing_given, ordinal_is, row_at}
use Rattle.yv_expand_laws.proofs.FoundItems.{there_first, there_later}
use Rattle.yv_expand_laws.proofs.JoinedBlocks.{count_joined, laid_append, listed_joined}
use Rattle.yv_expand_laws.proofs.KeywordKinds.{item_kind, refers_uses, statement_kind, uses_no_augment}
use Rattle.yv_expand_laws.proofs.LaidBlocks.{AllLies, Lies, Part, Parts, all_lie, laid_as, last_at, map_append, map_length, no_parts, one_part, parts_split, still_at, uses_lies}

module _ (w : Whole) (labels : List Label) (each : length labels ≡ w.items) where
  -- no part is left where none is an item
  none_given : {ks : List ℕ} {t : Tree} → Parts w labels ks t → ((k : ℕ) → Contains ks k → (r : Row) × (slice_get w.rows k ≡ Some r) × (is_node_or_uses r ≡ false)) → t ≡ none
  none_given no_parts all = refl
  none_given (one_part {k = k} {ks = ks} {u = u} P rest) all =
      let r = all k (there_first k ks) in
      ap (λ x. join x u) (P.nothing r.0 r.1 r.2) ∙ none_given rest (λ j h. all j (there_later k j ks h))

  -- an item is one for both
  pub no_item : (r : Row) → augmented_giving.is_node_or_uses r ≡ false → is_node_or_uses r ≡ false
  no_item r h = by (is_node_or_uses r) refl
    where
      by : (b : Bool) → is_node_or_uses r ≡ b → is_node_or_uses r ≡ false
      by false is = is
      by true is = (let kd = item_kind r is in absurd (false≢true (sym h ∙ ap is_some kd.1)))

  pub group_of_used : (r : Option Row) (p : ℕ) (o : Option Spot) (s : Spot) → o ≡ Some s → is_uses s.label.kind ≡ true → group_below w r (Some p) o ≡ used_group w s r
  group_of_used r p o s at of_uses = ap (group_below w r (Some p)) at ∙ ap (λ (b : Bool). if b then used_group w s r else p + 1) of_uses

  module _ (s : Spot) (of_uses : is_uses s.label.kind ≡ true) (p : ℕ) where
    -- what the augments from one on give, where those before it are done
    all_given : (others done : List ℕ) {t : Tree} → Parts w labels (flat_map (block_of w.rows) others) t
        → ((a : ℕ) → Contains others a → (q : Row) × (slice_get w.rows a ≡ Some q) × (is_augment q ≡ true) × (q.scope ≡ s.statement))
        → augments_giving w.rows s.statement ≡ done ++ filter (is_giving w.rows s.statement) others
        → (l : LayoutView) (n hi c k own : ℕ) → k ≡ s.first + length done → own ≡ s.first + length (augments_giving w.rows s.statement) → length l.spots ≡ n → l.copies ≡ c → n + count t ≡ hi
        → p < n → slice_get l.spots p ≡ Some s
        → (e : ℕ) × AllLies w labels l (item_list (Some p) n t) n hi c e k own (map (path_in w s.module_file) (filter (is_giving w.rows s.statement) others))
    all_given [] done no_parts augs gives l n hi c k own k_is own_is long copies ends less at = (
      c,
      subst (λ (h : ℕ). AllLies w labels l [] n h c c k own []) (let e : n ≡ hi = omega (arith, ends) in e)
          (subst (λ (o : ℕ). AllLies w labels l [] n n c c k o [])
          (let e : k ≡ own = (let f = ap length gives in let h = length-append done [] in omega (arith, f, h, k_is, own_is)) in e) (record {
            new = [];
            laid = ap (λ z. laid_as w labels z l.copies) (sym (append-nil l.spots)) ∙ ap (laid_as w labels (l.spots ++ [])) copies;
            long = omega arith;
            augments = no_augments;
            lie = refl;
            paths_are = refl;
          })),
    )
    all_given (a ∷ others) done {t = t} P augs gives l n hi c k own k_is own_is long copies ends less at =
        let sp = parts_split w labels (block_of w.rows a) (flat_map (block_of w.rows) others) P in
        by (is_giving w.rows s.statement a) refl sp.0 sp.1 sp.2 sp.3 sp.4
        (λ more u R gives l n c k k_is long copies ends less at. all_given others more {t = u} R (λ b h. augs b (there_later a b others h)) gives l n hi c k own k_is own_is long copies ends less at)
      where
        chosen : (b : Bool) → is_giving w.rows s.statement a ≡ b → filter (is_giving w.rows s.statement) (a ∷ others) ≡ cond b (a ∷ filter (is_giving w.rows s.statement) others) (filter (is_giving w.rows s.statement) others)
        chosen b is = ap (λ (b : Bool). cond b (a ∷ filter (is_giving w.rows s.statement) others) (filter (is_giving w.rows s.statement) others)) is

        by : (b : Bool) → is_giving w.rows s.statement a ≡ b → (x y : Tree) → t ≡ join x y → Parts w labels (block_of w.rows a) x → Parts w labels (flat_map (block_of w.rows) others) y
            → ((more : List ℕ) (u : Tree) → Parts w labels (flat_map (block_of w.rows) others) u → augments_giving w.rows s.statement ≡ more ++ filter (is_giving w.rows s.statement) others
            → (l : LayoutView) (n c k : ℕ) → k ≡ s.first + length more → length l.spots ≡ n → l.copies ≡ c → n + count u ≡ hi → p < n → slice_get l.spots p ≡ Some s
            → (e : ℕ) × AllLies w labels l (item_list (Some p) n u) n hi c e k own (map (path_in w s.module_file) (filter (is_giving w.rows s.statement) others)))
            → (e : ℕ) × AllLies w labels l (item_list (Some p) n t) n hi c e k own (map (path_in w s.module_file) (filter (is_giving w.rows s.statement) (a ∷ others)))
        by false is x y whole A R later =
            let q = augs a (there_first a others) in
            let empty : x ≡ none = none_given A (λ j h. (let r = block_scope w.rows a j h in
            (r.0, r.1, no_item r.0 (nothing_given w.rows s.statement a q.0 q.1 q.2 q.3 is j r.0 r.1 r.2)))) in
            let same : t ≡ y = whole ∙ ap (λ z. join z y) empty in
            let b = later done y R (gives ∙ ap (λ z. done ++ z) (chosen false is)) l n c k k_is long copies (ap (λ z. n + count z) (sym same) ∙ ends) less at in (
              b.0,
              subst (λ z. AllLies w labels l (item_list (Some p) n z) n hi c b.0 k own (map (path_in w s.module_file) (filter (is_giving w.rows s.statement) (a ∷ others)))) (sym same)
                  (subst (λ z. AllLies w labels l (item_list (Some p) n y) n hi c b.0 k own (map (path_in w s.module_file) z)) (sym (chosen false is)) b.1),
            )
        by true is x y whole A R later =
            let mid : ℕ = n + count x in
            let here : augments_giving w.rows s.statement ≡ done ++ a ∷ filter (is_giving w.rows s.statement) others = gives ∙ ap (λ z. done ++ z) (chosen true is) in
            let place : ordinal w.rows a ≡ length done = ordinal_is w.rows s.statement done a (filter (is_giving w.rows s.statement) others) here in
            let one = all_lie w labels A l (Some p) (group_of_augment labels k) n mid c long copies refl (λ q e. subst (λ (m : ℕ). m < n) (same_Some p q e) less)
            (λ j r there row. group_of_used (Some r) p (slice_get l.spots p) s at of_uses ∙ own_group j r there row k_is place) in
            let F = one.1 in
            let two = later (done ++ a ∷ []) y R (here ∙ sym (append_assoc done (a ∷ []) (filter (is_giving w.rows s.statement) others))) (laid_as w labels (l.spots ++ F.new) one.0) mid one.0 (k + 1)
            (let f = length-append done (a ∷ []) in omega (arith, f, k_is)) (let f = length-append l.spots F.new in let h = F.long in omega (arith, f, h, long)) refl
            (let f = count_joined x y in let h : count t ≡ count (join x y) = ap count whole in omega (arith, f, h, ends)) (omega (arith, less))
            (still_at l.spots F.new p (omega (arith, less, long)) ∙ at) in
            let G = two.1 in (
              two.0,
              subst (λ z. AllLies w labels l (item_list (Some p) n z) n hi c two.0 k own (map (path_in w s.module_file) (filter (is_giving w.rows s.statement) (a ∷ others)))) (sym whole)
                  (subst (λ z. AllLies w labels l (item_list (Some p) n (join x y)) n hi c two.0 k own (map (path_in w s.module_file) z)) (sym (chosen true is))
                  (subst (λ items. AllLies w labels l items n hi c two.0 k own (path_in w s.module_file a ∷ map (path_in w s.module_file) (filter (is_giving w.rows s.statement) others))) (sym (listed_joined (Some p) n x y)) (record {
                    new = F.new ++ G.new;
                    laid = laid_append w (item_list (Some p) n x) (item_list (Some p) mid y) l ∙ (ap (laid_from w (item_list (Some p) mid y)) F.laid ∙ (G.laid ∙ ap (λ z. laid_as w labels z two.0) (append_assoc l.spots F.new G.new)));
                    long = (let f = length-append F.new G.new in let h = F.long in let i = G.long in omega (arith, f, h, i));
                    augments = augment mid one.0 (path_in w s.module_file a) F.block G.augments;
                    lie = (map (spot_view w) F.new, map (spot_view w) G.new, map_append (spot_view w) F.new G.new, F.lie, G.lie, (let f = map_length (spot_view w) F.new in let h = F.long in omega (arith, f, h)));
                    paths_are = ap (λ z. path_in w s.module_file a ∷ z) G.paths_are;
                  }))),
            )
          where
            own_group : (j : ℕ) (r : Row) → Contains (block_of w.rows a) j → slice_get w.rows j ≡ Some r → k ≡ s.first + length done → ordinal w.rows a ≡ length done
                → used_group w s (Some r) ≡ group_of_augment labels k
            own_group j r there row k_is place =
                let b = block_scope w.rows a j there in
                let scope : r.scope ≡ a = ap (λ (z : Row). z.scope) (same_Some r b.0 (sym row ∙ b.1)) ∙ b.2 in
                ap (λ (z : ℕ). if is_giving w.rows s.statement z then copy_group w (s.first + ordinal w.rows z) else s.group) scope
                ∙ (ap (λ (z : Bool). if z then copy_group w (s.first + ordinal w.rows a) else s.group) is
                ∙ (let e : w.items + 1 + (s.first + ordinal w.rows a) ≡ length labels + 1 + k = omega (arith, each, place, k_is) in e))

  pub uses_part : (k d : ℕ) (r : Row) (copies given : Tree) → slice_get w.rows k ≡ Some r → is_node_or_uses r ≡ true → RefersTo w.files w.rows k d → Parts w labels (block_of w.rows d) copies
      → Parts w labels (blocks_of w.rows (block_of w.rows k)) given → Part w labels k (item (Statement k) (join copies given) none)
  uses_part k d r copied given at is_one meant C G = record {
    lies = lies;
    nothing = λ q row none_is. absurd (false≢true (sym none_is ∙ (ap is_node_or_uses (same_Some q r (sym row ∙ at)) ∙ is_one)));
  }
    where
      facts : (refers.is_uses r ≡ true) × ((q : Row) × (slice_get w.rows d ≡ Some q) × (is_augment q ≡ false))
      facts = refers_uses w.files w.rows k d r at is_one meant

      of_uses : is_uses (kind_at (slice_get w.rows k)) ≡ true
      of_uses = statement_kind w.rows k r at is_one ∙ facts.0

      augs_are : augments_in w.rows k ≡ those is_augment w.rows (block_of w.rows k)
      augs_are = augments_are w.rows k (λ q row. ap is_augment (same_Some q r (sym row ∙ at)) ∙ uses_no_augment r facts.0)

      gives : augments_giving w.rows k ≡ [] ++ filter (is_giving w.rows k) (those is_augment w.rows (block_of w.rows k))
      gives = giving_filtered w.rows k ∙ ap (filter (is_giving w.rows k)) augs_are

      augs : (a : ℕ) → Contains (those is_augment w.rows (block_of w.rows k)) a → (q : Row) × (slice_get w.rows a ≡ Some q) × (is_augment q ≡ true) × (q.scope ≡ k)
      augs a h =
          let f = filter_in (is_at is_augment w.rows) (block_of w.rows k) a h in
          let row = row_at is_augment w.rows a f.1 in
          let b = block_scope w.rows k a f.0 in
          (row.0, row.1, row.2, ap (λ (z : Row). z.scope) (same_Some row.0 b.0 (sym row.1 ∙ b.1)) ∙ b.2)

      lies : (l : LayoutView) (parent : Option ℕ) (g n hi c : ℕ) → length l.spots ≡ n → l.copies ≡ c → n + count (item (Statement k) (join copied given) none) ≡ hi
          → ((p : ℕ) → parent ≡ Some p → p < n) → ((q : Row) → slice_get w.rows k ≡ Some q → group_below w (Some q) parent (spot_at l.spots parent) ≡ g)
          → (e : ℕ) × Lies w labels l (item_list parent n (item (Statement k) (join copied given) none)) g n hi c e
      lies l parent g n hi c long copies ends less group =
          let x : Item = record { origin = Statement k; parent = parent } in
          let s : Spot = spot_of w l.spots l.copies x in
          let at_g : s.group ≡ g = ap (λ o. group_below w o parent (spot_at l.spots parent)) at ∙ group r at in
          let own : ℕ = c + length (augments_giving w.rows k) in
          let mid : ℕ = n + 1 + count copied in
          let counts = count_joined copied given in
          let more = length-append l.spots (s ∷ []) in
          let one = all_lie w labels C (laid_as w labels (l.spots ++ s ∷ []) own) (Some n) g (n + 1) mid own (omega (arith, more, long)) refl refl
          (λ q e. subst (λ (m : ℕ). m < n + 1) (same_Some n q e) (omega arith))
          (λ j q there row. group_of_used (Some q) n (slice_get (l.spots ++ s ∷ []) n) s (last_at l.spots s n long) of_uses ∙ (copy_stays s j q there row ∙ at_g)) in
          let F = one.1 in
          let two = all_given s of_uses n (those is_augment w.rows (block_of w.rows k)) [] G augs gives (laid_as w labels ((l.spots ++ s ∷ []) ++ F.new) one.0) mid hi one.0 c own
          (omega (arith, copies)) (omega (arith, copies))
          (let f = length-append (l.spots ++ s ∷ []) F.new in let h = F.long in omega (arith, f, h, more, long)) refl (omega (arith, counts, ends)) (omega arith)
          (still_at (l.spots ++ s ∷ []) F.new n (omega (arith, more, long)) ∙ last_at l.spots s n long) in (
            two.0,
            subst (λ items. Lies w labels l items g n hi c two.0)
                (ap (λ z. x ∷ z) (sym (append-nil (item_list (Some n) (n + 1) (join copied given)) ∙ listed_joined (Some n) (n + 1) copied given)))
                (uses_lies w labels l x (item_list (Some n) (n + 1) copied) (item_list (Some n) mid given) g n mid hi c own one.0 two.0 long copies of_uses at_g refl F
                (subst (λ z. AllLies w labels (laid_as w labels ((l.spots ++ s ∷ []) ++ F.new) one.0) (item_list (Some n) mid given) mid hi one.0 two.0 c own (map (path_in w s.module_file) z)) (sym gives) two.1)),
          )
        where
          -- what is copied stands where the uses does
          copy_stays : (s : Spot) (j : ℕ) (q : Row) → Contains (block_of w.rows d) j → slice_get w.rows j ≡ Some q → used_group w s (Some q) ≡ s.group
          copy_stays s j q there row =
              let b = block_scope w.rows d j there in
              let scope : q.scope ≡ d = ap (λ (z : Row). z.scope) (same_Some q b.0 (sym row ∙ b.1)) ∙ b.2 in
              ap (λ (z : ℕ). if is_giving w.rows s.statement z then copy_group w (s.first + ordinal w.rows z) else s.group) scope
              ∙ ap (λ (z : Bool). if z then copy_group w (s.first + ordinal w.rows d) else s.group) (no_augment_gives w.rows s.statement d facts.1.0 facts.1.1 facts.1.2)
