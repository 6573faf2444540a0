-- Nodes that differ by their refines alone: paths lead to the same places among them, and blocks
-- give them in the same order.
use Rattle.std.proofs.Common.{◌⊎◌, inl, inr, ◌≡◌, ℕ, ◌+◌, ◌<◌, ◌≤◌, ◌&&◌, not, Bool, true, false, List, [], ◌∷◌, refl, sym, ◌∙◌, ap, subst, arith}
use Rattle.std.specs.List.{Contains}
use Rattle.std.specs.Str.{bytes_eq}
use Rattle.std.proofs.lemmas.Bool.{false≢true}
use Rattle.yv_expand_statements.specs.declared.statement_kind.StatementKind.{StatementKind}
use Rattle.yv_expand_rounds.specs.declared.label.Label.{Label}
use Rattle.yv_expand_rounds.specs.Groups.{Groups, members_of}
use Rattle.yv_expand_statements.specs.Kinds.{is_choice, may_be_target}
use Rattle.yv_expand_statements.specs.Kinds as kinds_are
use Rattle.yv_expand_definition.specs.Nodes.{Forest, Node, join, none, node}
use Rattle.yv_expand_definition.specs.Paths.{Leads, Step, answers, at, is_module_file, is_shorthand}
use Rattle.yv_expand_definition.specs.Paths.Leads.{past, to, into, into_case}
use Rattle.yv_expand_laws.specs.Blocks.{Augments, Block}
use Rattle.yv_expand_laws.specs.Comes.{Adds, Comes, Misses}
use Rattle.yv_expand_laws.specs.Comes.Comes.{no_items as none_come, of_uses, one_node}
use Rattle.yv_expand_laws.specs.Comes.Adds.{adds, misses, none_left}
use Rattle.yv_expand_laws.specs.Shows.{Agree, AreLabels, Items, Orders, Shows, Stand}
use Rattle.yv_expand_laws.specs.Shows.Stand.{no_items as none_stand, not_a_node, shown_node}
use Rattle.yv_expand_laws.specs.Under.{Keeps, KeepsAdded}
use Rattle.yv_expand_laws.proofs.BlockFrame.{all_go_up, goes_up}
use Rattle.yv_expand_laws.proofs.Trees.{one_order}

-- a node is as another but for its refines
pub record IsLike (g h : Node) : Type 0 where
  pub module_file : g.module_file ≡ h.module_file
  pub kind : g.kind ≡ h.kind
  pub name : g.name ≡ h.name

pub data Alike : Forest → Forest → Type 0 where
  none_alike : Alike none none
  node_alike : {g h : Node} {below behind low last : Forest} → IsLike g h → Alike below low → Alike behind last → Alike (node g below behind) (node h low last)

pub like_back : {g h : Node} → IsLike g h → IsLike h g
like_back l = record { module_file = sym l.module_file; kind = sym l.kind; name = sym l.name }

pub alike_back : {f g : Forest} → Alike f g → Alike g f
alike_back none_alike = none_alike
alike_back (node_alike l b f) = node_alike (like_back l) (alike_back b) (alike_back f)

pub joined_alike : {a b x y : Forest} → Alike a b → Alike x y → Alike (join a x) (join b y)
joined_alike none_alike q = q
joined_alike (node_alike l b f) q = node_alike l b (joined_alike f q)

answers_alike : (s : Step) (g h : Node) (b : Bool) → IsLike g h → answers s g ≡ b → answers s h ≡ b
answers_alike s g h b l is =
    ap (λ (x : ℕ). is_module_file s.module_file x && bytes_eq s.name h.name) (sym l.module_file) ∙ (ap (λ x. is_module_file s.module_file g.module_file && bytes_eq s.name x) (sym l.name) ∙ is)

shorthand_alike : (c : Bool) (g h : Node) (b : Bool) → IsLike g h → is_shorthand c g ≡ b → is_shorthand c h ≡ b
shorthand_alike c g h b l is = ap (λ (k : StatementKind). c && not (kinds_are.is_case k)) (sym l.kind) ∙ is

-- what a path means among nodes that are alike, and what becomes of them there
pub record LikeEnd (c : Bool) (ss : List Step) (nodes : Forest) (target : Node) (below : Forest) (is : Node) (put there : Forest) : Type 0 where
  pub meant : Node
  pub low : Forest
  pub is_like : IsLike target meant
  pub alike : Alike below low
  pub leads : (other : Node) (other_put : Forest) → IsLike is other → Alike put other_put
      → (last : Forest) × Leads c ss nodes (at meant low other other_put) last × Alike there last

pub leads_alike : {c : Bool} {ss : List Step} {f there : Forest} {t h : Node} {below put : Forest} → Leads c ss f (at t below h put) there → (nodes : Forest) → Alike f nodes
    → LikeEnd c ss nodes t below h put there
leads_alike {c = c} (past {s = s} {ss = ss} {g = g} {below = under} {behind = behind} {there = there} isnt l) _ (node_alike {h = k} {low = low} {last = last} like B F) =
    let q = leads_alike l last F in
    record {
      meant = q.meant;
      low = q.low;
      is_like = q.is_like;
      alike = q.alike;
      leads = λ other other_put o p. (let x = q.leads other other_put o p in (node k low x.0, past (answers_alike s g k false like isnt) x.1, node_alike like B x.2));
    }
leads_alike {c = c} (to {s = s} {g = g} {h = h} {below = below} {behind = behind} {there = there} meets short) _ (node_alike {h = k} {low = low} {last = last} like B F) = record {
  meant = k;
  low = low;
  is_like = like;
  alike = B;
  leads = λ other other_put o p. (
    node other other_put last,
    to (answers_alike s g k true like meets) (shorthand_alike c g k false like short),
    node_alike o p F,
  );
}
leads_alike {c = c} (into {s = s} {t = t} {ss = ss} {g = g} {below = under} {behind = behind} {there = there} meets short l) _ (node_alike {h = k} {low = low} {last = last} like B F) =
    let q = leads_alike l low B in
    record {
      meant = q.meant;
      low = q.low;
      is_like = q.is_like;
      alike = q.alike;
      leads = λ other other_put o p. (let x = q.leads other other_put o p in (
        node k x.0 last,
        into (answers_alike s g k true like meets) (shorthand_alike c g k false like short)
            (subst (λ (d : StatementKind). Leads (is_choice d) (t ∷ ss) low (at q.meant q.low other other_put) x.0) like.kind x.1),
        node_alike like x.2 F,
      ));
    }
leads_alike (into_case {s = s} {t = t} {ss = ss} {g = g} {below = under} {behind = behind} {there = there} meets short l) _ (node_alike {h = k} {low = low} {last = last} like B F) =
    let q = leads_alike l (node k low none) (node_alike like B none_alike) in
    record {
      meant = q.meant;
      low = q.low;
      is_like = q.is_like;
      alike = q.alike;
      leads = λ other other_put o p. (let x = q.leads other other_put o p in (
        join x.0 last,
        into_case (answers_alike s g k true like meets) (shorthand_alike true g k true like short) x.1,
        joined_alike x.2 F,
      ));
    }

-- something holds of the same numbers as something else
abbrev pub Same : (P Q : ℕ → Type 0) → Type 0
Same P Q = (x : ℕ) → (P x → Q x) × (Q x → P x)

pub same_then : (P Q R : ℕ → Type 0) → Same P Q → Same Q R → Same P R
same_then P Q R p q x = (λ h. (q x).0 ((p x).0 h), λ h. (p x).1 ((q x).1 h))

pub either : {A B C D : Type 0} → (A → B) → (C → D) → A ⊎ C → B ⊎ D
either f g h = elim h [ inl a ↦ inl (f a) | inr c ↦ inr (g c) ]

pub same_two : (P Q R S : ℕ → Type 0) → Same P Q → Same R S → Same (λ x. P x ⊎ R x) (λ x. Q x ⊎ S x)
same_two P Q R S p r x = (either (p x).0 (r x).0, either (p x).1 (r x).1)

pub same_more : (lo : ℕ) (P Q : ℕ → Type 0) → Same P Q → Same (λ x. (x ≡ lo) ⊎ P x) (λ x. (x ≡ lo) ⊎ Q x)
same_more lo P Q p x = (either (λ e. e) (p x).0, either (λ e. e) (p x).1)

pub same_uses : (lo : ℕ) (P Q A B R S : ℕ → Type 0) → Same P Q → Same A B → Same R S
    → Same (λ x. (x ≡ lo) ⊎ ((P x ⊎ A x) ⊎ R x)) (λ x. (x ≡ lo) ⊎ ((Q x ⊎ B x) ⊎ S x))
same_uses lo P Q A B R S p a r =
    same_more lo (λ x. (P x ⊎ A x) ⊎ R x) (λ x. (Q x ⊎ B x) ⊎ S x)
    (same_two (λ x. P x ⊎ A x) (λ x. Q x ⊎ B x) R S (same_two P Q A B p a) r)

-- what is told of items is told alike
pub record AreAlike (its new : Items) : Type 0 where
  pub given : new.given ≡ its.given
  pub node : (i : ℕ) → new.is_node i ≡ its.is_node i
  pub like : (i : ℕ) → IsLike (its.node_of i) (new.node_of i)

pub agree_alike : (labels : List Label) (its new : Items) → AreAlike its new → (names : List ℕ) (ss : List Step) → Agree labels its names ss → Agree labels new names ss
agree_alike labels its new are [] [] agree = agree
agree_alike labels its new are [] (s ∷ ss) agree = agree
agree_alike labels its new are (n ∷ ns) [] agree = agree
agree_alike labels its new are (n ∷ ns) (s ∷ ss) (agree, more) = (
  λ i. agree i ∙ (ap (λ (b : Bool). b && answers s (its.node_of i)) (sym (are.node i))
      ∙ ap (λ (b : Bool). new.is_node i && b) (sym (answers_alike s (its.node_of i) (new.node_of i) (answers s (its.node_of i)) (are.like i) refl))),
  agree_alike labels its new are ns ss more,
)

module _ (labels : List Label) (its new : Items) (are : AreAlike its new) where
  misses_alike : (ss : List Step) (m n : Forest) → Alike m n → Misses ss m → Misses ss n
  misses_alike ss m n alike missed target below there hit =
      let q = leads_alike hit.0 m (alike_back alike) in
      let x = q.leads q.meant q.low q.is_like q.alike in
      missed q.meant q.low x.0 (x.1, ap may_be_target (sym q.is_like.kind) ∙ hit.1)

  mutual
    -- a block gives nodes that are alike, and keeps the same items
    pub comes_alike : {lo hi c e : ℕ} {block : Block lo hi c e} {f : Forest} (C : Comes labels its _ _ _ _ block f)
        → (g : Forest) × (D : Comes labels new _ _ _ _ block g) × Alike f g × Same (λ x. Keeps D x) (λ x. Keeps C x)
    comes_alike none_come = (none, none_come, none_alike, λ x. (λ h. h, λ h. h))
    comes_alike (one_node {lo = lo} is_node B F) =
        let b = comes_alike B in
        let f = comes_alike F in (
          node (new.node_of lo) b.0 f.0,
          one_node (are.node lo ∙ is_node) b.1 f.1,
          node_alike (are.like lo) b.2 f.2,
          same_more lo (λ x. Keeps b.1 x ⊎ Keeps f.1 x) (λ x. Keeps B x ⊎ Keeps F x) (same_two (λ x. Keeps b.1 x) (λ x. Keeps B x) (λ x. Keeps f.1 x) (λ x. Keeps F x) b.3 f.3),
        )
    comes_alike (of_uses {lo = lo} no_node M A F) =
        let m = comes_alike M in
        let a = adds_alike A m.0 m.2 in
        let f = comes_alike F in (
          join a.0 f.0,
          of_uses (are.node lo ∙ no_node) m.1 a.1 f.1,
          joined_alike a.2 f.2,
          same_uses lo (λ x. Keeps m.1 x) (λ x. Keeps M x) (λ x. KeepsAdded a.1 x) (λ x. KeepsAdded A x) (λ x. Keeps f.1 x) (λ x. Keeps F x) m.3 a.3 f.3,
        )

    pub adds_alike : {lo hi c e k own : ℕ} {augments : Augments lo hi c e k own} {m last : Forest} (A : Adds labels its _ _ _ _ _ _ augments m last)
        → (n : Forest) → Alike m n → (g : Forest) × (D : Adds labels new _ _ _ _ _ _ augments n g) × Alike last g × Same (λ x. KeepsAdded D x) (λ x. KeepsAdded A x)
    adds_alike none_left n alike = (n, none_left, alike, λ x. (λ h. h, λ h. h))
    adds_alike (adds {names = names} {b = b} {below = below} {there = there} {target = target} ss agree l comes hits later) n alike =
        let x = comes_alike comes in
        let q = leads_alike hits.0 n alike in
        let y = q.leads q.meant (join q.low x.0) q.is_like (joined_alike q.alike x.2) in
        let z = adds_alike later y.0 y.2 in (
          z.0,
          adds ss (agree_alike labels its new are names ss agree) l x.1 (y.1, ap may_be_target (sym q.is_like.kind) ∙ hits.1) z.1,
          z.2,
          same_two (λ i. Keeps x.1 i) (λ i. Keeps comes i) (λ i. KeepsAdded z.1 i) (λ i. KeepsAdded later i) x.3 z.3,
        )
    adds_alike (misses {names = names} {m = m} ss agree l missed later) n alike =
        let z = adds_alike later n alike in
        (z.0, misses ss (agree_alike labels its new are names ss agree) l (misses_alike ss m n alike missed) z.1, z.2, z.3)

  mutual
    -- and the same, where what is told of its own items is the same
    pub comes_kept : {lo hi c e : ℕ} {block : Block lo hi c e} {f : Forest} → ((i : ℕ) → lo ≤ i → i < hi → new.node_of i ≡ its.node_of i)
        → (C : Comes labels its _ _ _ _ block f) → (D : Comes labels new _ _ _ _ block f) × Same (λ x. Keeps D x) (λ x. Keeps C x)
    comes_kept same none_come = (none_come, λ x. (λ h. h, λ h. h))
    comes_kept same (one_node {lo = lo} {hi = hi} {c = c} {e = e} {mid = mid} {d = d} {below = below} {behind = behind} {b = b} {f = f} is_node B F) =
        let up = goes_up below in let lm = up.0 in
        let up' = goes_up behind in let mh = up'.0 in
        let x = comes_kept (λ i l h. same i (omega (arith, l)) (omega (arith, h, mh))) B in
        let y = comes_kept (λ i l h. same i (omega (arith, l, lm)) h) F in
        subst (λ (g : Node). (D : Comes labels new _ _ _ _ (Block.item {lo = lo} {hi = hi} {c = c} {e = e} mid d below behind) (node g b f))
        × Same (λ x. Keeps D x) (λ x. (x ≡ lo) ⊎ (Keeps B x ⊎ Keeps F x))) (same lo (omega arith) (omega (arith, lm, mh))) (
          one_node (are.node lo ∙ is_node) x.0 y.0,
          same_more lo (λ i. Keeps x.0 i ⊎ Keeps y.0 i) (λ i. Keeps B i ⊎ Keeps F i) (same_two (λ i. Keeps x.0 i) (λ i. Keeps B i) (λ i. Keeps y.0 i) (λ i. Keeps F i) x.1 y.1),
        )
    comes_kept same (of_uses {lo = lo} {mid = mid} {copies = copies} {augments = augments} {behind = behind} no_node M A F) =
        let up = goes_up copies in let lm = up.0 in
        let up' = all_go_up augments in let me = up'.0 in
        let up'' = goes_up behind in let eh = up''.0 in
        let x = comes_kept (λ i l h. same i (omega (arith, l)) (omega (arith, h, me, eh))) M in
        let y = adds_kept (λ i l h. same i (omega (arith, l, lm)) (omega (arith, h, eh))) A in
        let z = comes_kept (λ i l h. same i (omega (arith, l, lm, me)) h) F in (
          of_uses (are.node lo ∙ no_node) x.0 y.0 z.0,
          same_uses lo (λ i. Keeps x.0 i) (λ i. Keeps M i) (λ i. KeepsAdded y.0 i) (λ i. KeepsAdded A i) (λ i. Keeps z.0 i) (λ i. Keeps F i) x.1 y.1 z.1,
        )

    pub adds_kept : {lo hi c e k own : ℕ} {augments : Augments lo hi c e k own} {m last : Forest} → ((i : ℕ) → lo ≤ i → i < hi → new.node_of i ≡ its.node_of i)
        → (A : Adds labels its _ _ _ _ _ _ augments m last) → (D : Adds labels new _ _ _ _ _ _ augments m last) × Same (λ x. KeepsAdded D x) (λ x. KeepsAdded A x)
    adds_kept same none_left = (none_left, λ x. (λ h. h, λ h. h))
    adds_kept same (adds {names = names} {block = block} {others = others} ss agree l comes hits later) =
        let up = goes_up block in let lm = up.0 in
        let up' = all_go_up others in let mh = up'.0 in
        let x = comes_kept (λ i x h. same i x (omega (arith, h, mh))) comes in
        let y = adds_kept (λ i x h. same i (omega (arith, x, lm)) h) later in (
          adds ss (agree_alike labels its new are names ss agree) l x.0 hits y.0,
          same_two (λ i. Keeps x.0 i) (λ i. Keeps comes i) (λ i. KeepsAdded y.0 i) (λ i. KeepsAdded later i) x.1 y.1,
        )
    adds_kept same (misses {names = names} {block = block} ss agree l missed later) =
        let up = goes_up block in let lm = up.0 in
        let y = adds_kept (λ i x h. same i (omega (arith, x, lm)) h) later in
        (misses ss (agree_alike labels its new are names ss agree) l missed y.0, y.1)

  pub comes_same : {lo hi c e : ℕ} {block : Block lo hi c e} {f : Forest} → ((i : ℕ) → lo ≤ i → i < hi → new.node_of i ≡ its.node_of i) → Comes labels its _ _ _ _ block f
      → Comes labels new _ _ _ _ block f
  comes_same same C = (comes_kept same C).0

-- items show one forest
module _ (labels : List Label) (its : Items) (are : AreLabels labels its) (groups : Groups) where
  kids_one : (holds : ℕ → Type 0) (xs ys : List ℕ) → Orders its.given holds xs → Orders its.given holds ys → xs ≡ ys
  kids_one holds xs ys o p = one_order its.given labels are.given xs ys o.ascend p.ascend (λ i h. p.all i (o.only i h)) (λ i h. o.all i (p.only i h))

  stand_one : {owns more : ℕ → Bool} {items : List ℕ} {f g : Forest} → Stand its groups owns items f → Stand its groups more items g → f ≡ g
  stand_one none_stand none_stand = refl
  stand_one (not_a_node has no_node S) (not_a_node has' no_node' T) = stand_one S T
  stand_one (not_a_node has no_node S) (shown_node low rest is_node s o B F) = absurd (false≢true (sym no_node ∙ is_node))
  stand_one (shown_node low rest is_node s o B F) (not_a_node has no_node T) = absurd (false≢true (sym no_node ∙ is_node))
  stand_one (shown_node {i = i} {items = kids} {below = below} {behind = behind} low rest is_node s o B F) (shown_node {items = others} {below = under} {behind = last} low' rest' is_node' s' p C G) =
      let same : others ≡ kids = kids_one (Contains (members_of groups (i + 1))) others kids p o in
      ap (λ x. node (its.node_of i) x behind) (stand_one B (subst (λ l. Stand its groups low' l under) same C)) ∙ ap (λ x. node (its.node_of i) under x) (stand_one F G)

  pub shows_one : (g lo hi : ℕ) (f h : Forest) → Shows its groups g lo hi f → Shows its groups g lo hi h → f ≡ h
  shows_one g lo hi f h S T =
      let same : T.items ≡ S.items = kids_one _ T.items S.items T.orders S.orders in
      stand_one S.stand (subst (λ l. Stand its groups T.owns l h) same T.stand)
