-- What an augment of a module gives stands among what is there by the order of items as it does by
-- that of nodes.
use Rattle.std.proofs.Common.{◌⊎◌, inl, inr, ◌≡◌, ℕ, ◌+◌, Bool, true, false, if◌then◌else◌, List, [], ◌∷◌, ◌++◌, refl, sym, ◌∙◌, ap, subst, Some}
use Rattle.std.specs.List.{Contains}
use Rattle.std.proofs.lemmas.Bool.{false≢true}
use Rattle.std.proofs.lemmas.List.Elements.{Contains-append_cases, Contains-append_left, Contains-append_right}
use Rattle.yv_expand_rounds.specs.Groups.{Groups, members_of}
use Rattle.yv_expand_definition.specs.Nodes.{Forest, Node, nodes_given, insert, is_later, join, none, node}
use Rattle.yv_expand_laws.specs.Order.{comes_before}
use Rattle.yv_expand_laws.specs.Shows.{Ascend, Items, Orders, Stand}
use Rattle.yv_expand_laws.specs.Shows.Ascend.{one_more}
use Rattle.yv_expand_laws.specs.Shows.Stand.{no_items as none_stand, not_a_node, shown_node}
use Rattle.yv_expand_laws.proofs.FoundItems.{there_first, there_later}
use Rattle.yv_expand_laws.proofs.FrameSequences.{nothing_stands}
use Rattle.yv_expand_laws.proofs.BlockNodes.{first_or}
use Rattle.yv_expand_laws.proofs.PathAgreement.{not_so}
use Rattle.yv_expand_laws.proofs.StableItems.{ascend_joined, either, or_cases, or_left, or_none, or_right, stands_joined, stands_wider}

-- what is told of items but which node one shows: where this is told alike of all that are owned,
-- they show the same
pub stands_by : (groups : Groups) (its new : Items) → new.given ≡ its.given → ((i : ℕ) → new.is_node i ≡ its.is_node i) → {owns : ℕ → Bool} {items : List ℕ} {f : Forest}
    → ((i : ℕ) → owns i ≡ true → new.node_of i ≡ its.node_of i) → Stand its groups owns items f → Stand new groups owns items f
stands_by groups its new marks nodes same none_stand = none_stand
stands_by groups its new marks nodes same (not_a_node {i = i} has no_node rest) = not_a_node has (nodes i ∙ no_node) (stands_by groups its new marks nodes same rest)
stands_by groups its new marks nodes {owns = owns} same (shown_node {i = i} {items = items} {others = others} {below = below} {behind = behind} low rest is_node s o B F) =
    subst (λ (g : Node). Stand new groups owns (i ∷ others) (node g below behind)) (same i s.has)
    (shown_node low rest (nodes i ∙ is_node) s (subst (λ given. Orders given (Contains (members_of groups (i + 1))) items) (sym marks) o)
    (stands_by groups its new marks nodes (λ j h. same j (s.below_in j h)) B) (stands_by groups its new marks nodes (λ j h. same j (s.behind_in j h)) F))

-- where the first items of a block are told to be given by an augment, and others as before, they
-- show what the augment gives
pub given_shown : (groups : Groups) (a : ℕ) (its new : Items) → new.given ≡ its.given → ((i : ℕ) → new.is_node i ≡ its.is_node i) → {owns : ℕ → Bool} {items : List ℕ} {f : Forest}
    → ((i : ℕ) → Contains items i → new.node_of i ≡ record (its.node_of i) { giver = Some a })
    → ((x i : ℕ) → owns x ≡ true → Contains (members_of groups (x + 1)) i → new.node_of i ≡ its.node_of i) → Stand its groups owns items f
    → Stand new groups owns items (nodes_given a f)
given_shown groups a its new marks nodes first deep none_stand = none_stand
given_shown groups a its new marks nodes first deep (not_a_node {i = i} {others = others} has no_node rest) =
    not_a_node has (nodes i ∙ no_node) (given_shown groups a its new marks nodes (λ j h. first j (there_later i j others h)) deep rest)
given_shown groups a its new marks nodes {owns = owns} first deep (shown_node {i = i} {items = items} {others = others} {below = below} {behind = behind} low rest is_node s o B F) =
    subst (λ (g : Node). Stand new groups owns (i ∷ others) (node g below (nodes_given a behind))) (first i (there_first i others))
    (shown_node low rest (nodes i ∙ is_node) s (subst (λ given. Orders given (Contains (members_of groups (i + 1))) items) (sym marks) o)
    (below_same (λ j h. deep i j s.has (o.only j h)) (λ x j h. deep x j (s.below_in x h)) B)
    (given_shown groups a its new marks nodes (λ j h. first j (there_later i j others h)) (λ x j h. deep x j (s.behind_in x h)) F))
  where
    below_same : {owns : ℕ → Bool} {items : List ℕ} {f : Forest} → ((i : ℕ) → Contains items i → new.node_of i ≡ its.node_of i)
        → ((x i : ℕ) → owns x ≡ true → Contains (members_of groups (x + 1)) i → new.node_of i ≡ its.node_of i) → Stand its groups owns items f → Stand new groups owns items f
    below_same first deep none_stand = none_stand
    below_same first deep (not_a_node {i = i} {others = others} has no_node rest) = not_a_node has (nodes i ∙ no_node) (below_same (λ j h. first j (there_later i j others h)) deep rest)
    below_same {owns = owns} first deep (shown_node {i = i} {items = items} {others = others} {below = below} {behind = behind} low rest is_node s o B F) =
        subst (λ (g : Node). Stand new groups owns (i ∷ others) (node g below behind)) (first i (there_first i others))
        (shown_node low rest (nodes i ∙ is_node) s (subst (λ given. Orders given (Contains (members_of groups (i + 1))) items) (sym marks) o)
        (below_same (λ j h. deep i j s.has (o.only j h)) (λ x j h. deep x j (s.below_in x h)) B)
        (below_same (λ j h. first j (there_later i j others h)) (λ x j h. deep x j (s.behind_in x h)) F))

-- items, with others among them in order, show nodes among others
pub record Merged (its : Items) (groups : Groups) (owns : ℕ → Bool) (xs ys : List ℕ) (f : Forest) : Type 0 where
  pub items : List ℕ
  pub ascend : Ascend its.given items
  pub from : (i : ℕ) → Contains items i → Contains xs i ⊎ Contains ys i
  pub into_first : (i : ℕ) → Contains xs i → Contains items i
  pub into_second : (i : ℕ) → Contains ys i → Contains items i
  pub stand : Stand its groups owns items f

module _ (its : Items) (groups : Groups) (a : ℕ) (extra : ℕ → Bool) (ys : List ℕ) (given : Forest) (up : Ascend its.given ys) (S : Stand its groups extra ys given)
    (late : ℕ → Bool) (told : (i : ℕ) → its.is_node i ≡ true → is_later a (its.node_of i).giver ≡ late i)
    (grows : (i j : ℕ) → comes_before its.given i j ≡ true → late i ≡ true → late j ≡ true) where
  -- where all are later the others stand in front
  all_late : {owns : ℕ → Bool} {xs : List ℕ} {f : Forest} → Stand its groups owns xs f → ((i : ℕ) → Contains xs i → late i ≡ true) → insert a given f ≡ join given f
  all_late none_stand all = none_joined given
    where
      none_joined : (f : Forest) → f ≡ join f none
      none_joined none = refl
      none_joined (node g below behind) = ap (node g below) (none_joined behind)
  all_late (not_a_node {i = i} {others = others} has no_node rest) all = all_late rest (λ j h. all j (there_later i j others h))
  all_late (shown_node {i = i} {others = others} {below = below} {behind = behind} low rest is_node s o B F) all =
      ap (λ (b : Bool). if b then join given (node (its.node_of i) below behind) else node (its.node_of i) below (insert a given behind)) (told i is_node ∙ all i (there_first i others))

  in_front : {owns : ℕ → Bool} (xs : List ℕ) {f : Forest} → Stand its groups owns xs f → Ascend its.given xs → ((x : ℕ) → extra x ≡ true → owns x ≡ false)
      → ((i j : ℕ) → Contains ys i → Contains xs j → comes_before its.given i j ≡ true) → ((i : ℕ) → Contains xs i → late i ≡ true)
      → Merged its groups (either owns extra) xs ys (insert a given f)
  in_front {owns = owns} xs {f = f} T ascend apart less all = record {
    items = ys ++ xs;
    ascend = ascend_joined up ascend less;
    from = λ i h. elim (Contains-append_cases ys xs i h) [ inl x ↦ inr x | inr y ↦ inl y ];
    into_first = λ i h. Contains-append_right ys xs i h;
    into_second = λ i h. Contains-append_left ys xs i h;
    stand = subst (λ x. Stand its groups (either owns extra) (ys ++ xs) x) (sym (all_late T all))
        (stands_wider (λ x h. elim (or_cases (extra x) (owns x) h) [ inl p ↦ or_right (owns x) (extra x) p | inr p ↦ or_left (owns x) (extra x) p ]) (stands_joined apart S T));
  }

  pub merged : {owns : ℕ → Bool} {xs : List ℕ} {f : Forest} → Stand its groups owns xs f → Ascend its.given xs → ((x : ℕ) → extra x ≡ true → owns x ≡ false)
      → ((i j : ℕ) → Contains ys i → Contains xs j → late j ≡ true → comes_before its.given i j ≡ true)
      → ((i j : ℕ) → Contains ys i → Contains xs j → late j ≡ false → comes_before its.given j i ≡ true)
      → Merged its groups (either owns extra) xs ys (insert a given f)
  merged none_stand ascend apart before behind = in_front [] none_stand ascend apart (λ i j h k. absurd (nothing_stands j k)) (λ i h. absurd (nothing_stands i h))
  merged {owns = owns} {f = f} (not_a_node {i = x} {others = others} has no_node rest) (one_more first ascend) apart before behind =
      by (late x) refl (merged rest ascend apart (λ i j h k. before i j h (there_later x j others k)) (λ i j h k. behind i j h (there_later x j others k)))
    where
      all : late x ≡ true → (j : ℕ) → Contains (x ∷ others) j → late j ≡ true
      all is j h = elim (first_or x others j h) [ inl same ↦ ap late (sym same) ∙ is | inr r ↦ grows x j (first j r) is ]

      by : (b : Bool) → late x ≡ b → Merged its groups (either owns extra) others ys (insert a given f) → Merged its groups (either owns extra) (x ∷ others) ys (insert a given f)
      by true is m = in_front (x ∷ others) (not_a_node has no_node rest) (one_more first ascend) apart (λ i j h k. before i j h k (all is j k)) (all is)
      by false is m = record {
        items = x ∷ m.items;
        ascend = one_more (λ j h. elim (m.from j h) [ inl r ↦ first j r | inr y ↦ behind j x y (there_first x others) is ]) m.ascend;
        from = λ j h. elim (first_or x m.items j h) [
          | inl same ↦ inl (subst (λ n. Contains (x ∷ others) n) same (there_first x others))
          | inr r ↦ elim (m.from j r) [ inl p ↦ inl (there_later x j others p) | inr q ↦ inr q ]
        ];
        into_first = λ j h. elim (first_or x others j h) [
          | inl same ↦ subst (λ n. Contains (x ∷ m.items) n) same (there_first x m.items)
          | inr r ↦ there_later x j m.items (m.into_first j r)
        ];
        into_second = λ j h. there_later x j m.items (m.into_second j h);
        stand = not_a_node (or_left (owns x) (extra x) has) no_node m.stand;
      }
  merged {owns = owns} (shown_node {i = x} {items = kids} {others = others} {below = below} {behind = later} low rest is_node s o B F) (one_more first ascend) apart before behind =
      by (late x) refl (merged F ascend (λ y h. not_rest y (apart y h)) (λ i j h k. before i j h (there_later x j others k)) (λ i j h k. behind i j h (there_later x j others k)))
    where
      not_rest : (y : ℕ) → owns y ≡ false → rest y ≡ false
      not_rest y is = not_so (rest y) (λ r. false≢true (sym is ∙ s.behind_in y r))

      not_extra : (y : ℕ) → owns y ≡ true → extra y ≡ false
      not_extra y is = not_so (extra y) (λ e. false≢true (sym (apart y e) ∙ is))

      all : late x ≡ true → (j : ℕ) → Contains (x ∷ others) j → late j ≡ true
      all is j h = elim (first_or x others j h) [ inl same ↦ ap late (sym same) ∙ is | inr r ↦ grows x j (first j r) is ]

      put : (b : Bool) → late x ≡ b → insert a given (node (its.node_of x) below later) ≡ (if b then join given (node (its.node_of x) below later) else node (its.node_of x) below (insert a given later))
      put b is = ap (λ (b : Bool). if b then join given (node (its.node_of x) below later) else node (its.node_of x) below (insert a given later)) (told x is_node ∙ is)

      by : (b : Bool) → late x ≡ b → Merged its groups (either rest extra) others ys (insert a given later)
          → Merged its groups (either owns extra) (x ∷ others) ys (insert a given (node (its.node_of x) below later))
      by true is m = in_front (x ∷ others) (shown_node low rest is_node s o B F) (one_more first ascend) apart (λ i j h k. before i j h k (all is j k)) (all is)
      by false is m = record {
        items = x ∷ m.items;
        ascend = one_more (λ j h. elim (m.from j h) [ inl r ↦ first j r | inr y ↦ behind j x y (there_first x others) is ]) m.ascend;
        from = λ j h. elim (first_or x m.items j h) [
          | inl same ↦ inl (subst (λ n. Contains (x ∷ others) n) same (there_first x others))
          | inr r ↦ elim (m.from j r) [ inl p ↦ inl (there_later x j others p) | inr q ↦ inr q ]
        ];
        into_first = λ j h. elim (first_or x others j h) [
          | inl same ↦ subst (λ n. Contains (x ∷ m.items) n) same (there_first x m.items)
          | inr r ↦ there_later x j m.items (m.into_first j r)
        ];
        into_second = λ j h. there_later x j m.items (m.into_second j h);
        stand = subst (λ g. Stand its groups (either owns extra) (x ∷ m.items) g) (sym (put false is)) (shown_node low (either rest extra) is_node (record {
          has = or_left (owns x) (extra x) s.has;
          below_in = λ y h. or_left (owns y) (extra y) (s.below_in y h);
          behind_in = λ y h. elim (or_cases (rest y) (extra y) h) [ inl p ↦ or_left (owns y) (extra y) (s.behind_in y p) | inr q ↦ or_right (owns y) (extra y) q ];
          apart = λ y h. or_none (rest y) (extra y) (s.apart y h) (not_extra y (s.below_in y h));
          not_below = s.not_below;
          not_behind = or_none (rest x) (extra x) s.not_behind (not_extra x s.has);
        }) o B m.stand);
      }
