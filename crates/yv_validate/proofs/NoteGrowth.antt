-- What is noted, one node more at a time.
use Rattle.std.proofs.Common.{◌≡◌, ℕ, ◌==◌, ◌<◌, Bool, true, false, cond, Option, Some, None, List, [], ◌∷◌, ◌++◌, map, length, get_or, drop, drop-cons, add-one, arith, suc, ◌+◌, ◌-◌, refl, sym, ap, ◌∙◌, append_assoc, eqb-true}
use Rattle.std.specs.List.{slice_get}
use Rattle.std.specs.Ordering.{nat_cmp}
use Rattle.std.specs.BTreeMap.{BTreeMap, UpdatesBy, get_by}
use Rattle.std.proofs.lemmas.Bool.Decides.{nat_tests}
use Rattle.yv_values.specs.Reads.{or_else}
use Rattle.yv_values.specs.Values.{Val}
use Rattle.yv_nodes.specs.declared.node.NodeId.{NodeId}
use Rattle.yv_nodes.specs.Rows.{Rows}
use Rattle.yv_data_leafrefs.specs.InUse.{is_number}
use Rattle.yv_data_quiet.specs.NamedLeafs.{are_named, is_named}
use Rattle.yv_validate.specs.InnerNotes.{Gains, last_of, note_value, noted_at}
use Rattle.yv_validate.specs.Values.{all_values, join, leaf_at, tuple_of}
use Rattle.yv_validate.specs.declared.notes.Notes.{Notes}
use Rattle.yv_data_quiet.proofs.ListLeafs.{is_eq_nat, or_left, or_right}
use Rattle.yv_data_quiet.proofs.Leafs.{leafs_drop, named_leafs}

pub or_else_assoc : (a b c : Option Val) → or_else (or_else a b) c ≡ or_else a (or_else b c)
or_else_assoc (Some v) b c = refl
or_else_assoc None b c = refl

-- no values of leafs that are named
pub gains_unnamed : (s : Rows) (x : Notes) (f : ℕ → Option Val) → ((n : ℕ) → is_named s n ≡ true → f n ≡ None) → Gains s x x f
gains_unnamed s x f none = record { each = λ n named. ap (λ v. or_else v (noted_at s x n)) (sym (none n named)) }

-- no values
pub gains_nothing : (s : Rows) (x : Notes) (f : ℕ → Option Val) → ((n : ℕ) → f n ≡ None) → Gains s x x f
gains_nothing s x f none = gains_unnamed s x f (λ n named. none n)

-- the same values
pub gains_as : (s : Rows) (old new : Notes) (f g : ℕ → Option Val) → Gains s old new f → ((n : ℕ) → f n ≡ g n) → Gains s old new g
gains_as s old new f g gains same = record { each = λ n named. gains.each n named ∙ ap (λ v. or_else v (noted_at s old n)) (same n) }

-- one more turn of a loop
pub gains_on : (old new here from left all : Option Val) → new ≡ or_else here old → from ≡ or_else left here → or_else from old ≡ all → or_else left new ≡ all
gains_on old new here from left all gained split whole =
    ap (or_else left) gained ∙ sym (or_else_assoc left here old) ∙ ap (λ v. or_else v old) (sym split) ∙ whole

either_none : (b : Bool) (v : Option Val) → v ≡ None → cond b v None ≡ None
either_none true v e = e
either_none false v e = refl

-- a leaf without a value
pub gains_none_at : (s : Rows) (x : Notes) (number : ℕ) (v : Option Val) → v ≡ None → Gains s x x (λ n. cond (number == n) v None)
gains_none_at s x number v none = gains_nothing s x (λ n. cond (number == n) v None) (λ n. either_none (number == n) v none)

-- ---- tuples of what is noted

itself : (n : ℕ) → (n == n) ≡ true
itself n = grind (arith, nat_tests)

same_leaf : (f g : ℕ → Option Val) (o : Option NodeId) → ((n : ℕ) → is_number o n ≡ true → f n ≡ g n) → leaf_at f o ≡ leaf_at g o
same_leaf f g None same = refl
same_leaf f g (Some n) same = same n.0 (itself n.0)

same_all : (f g : ℕ → Option Val) (ns : List (Option NodeId)) → ((n : ℕ) → are_named ns n ≡ true → f n ≡ g n) → all_values f ns ≡ all_values g ns
same_all f g [] same = refl
same_all f g (o ∷ ns) same =
    ap (λ v. join v (all_values f ns)) (same_leaf f g o (λ n e. same n (or_left (is_number o n) (are_named ns n) e)))
    ∙ ap (join (leaf_at g o)) (same_all f g ns (λ n e. same n (or_right (is_number o n) (are_named ns n) e)))

-- leafs that have the same values
pub same_tuple : (f g : ℕ → Option Val) (ns : List (Option NodeId)) → ((n : ℕ) → are_named ns n ≡ true → f n ≡ g n) → tuple_of f ns ≡ tuple_of g ns
same_tuple f g [] same = refl
same_tuple f g (n ∷ ns) same = same_all f g (n ∷ ns) same

or_none : (a : Option Val) → or_else a None ≡ a
or_none (Some v) = refl
or_none None = refl

-- what is noted in new notes
pub noted_fresh : (s : Rows) (old new : Notes) (f : ℕ → Option Val) → ((n : ℕ) → noted_at s old n ≡ None) → Gains s old new f → (n : ℕ) → is_named s n ≡ true
    → noted_at s new n ≡ f n
noted_fresh s old new f fresh gains n named = gains.each n named ∙ ap (or_else (f n)) (fresh n) ∙ or_none (f n)

-- these parts, and then those
abbrev pub behind : List Val → Option (List Val) → Option (List Val)
behind vs None = None
behind vs (Some ws) = Some (vs ++ ws)

behind_joined : (vs : List Val) (v : Val) (o : Option (List Val)) → behind (vs ++ v ∷ []) o ≡ behind vs (join (Some v) o)
behind_joined vs v None = refl
behind_joined vs v (Some ws) = ap Some (append_assoc vs (v ∷ []) ws)

pub parts_step : (f : ℕ → Option Val) (vs new : List Val) (v : Val) (ids : List NodeId) (i : ℕ) (d : NodeId) (all : Option (List Val)) → i < length ids
    → new ≡ vs ++ v ∷ [] → f (get_or ids i d).0 ≡ Some v → behind vs (all_values f (named_leafs (drop i ids))) ≡ all
    → behind new (all_values f (named_leafs (drop (i + 1) ids))) ≡ all
parts_step f vs new v ids i d all lt added here before =
    let left : Option (List Val) = all_values f (named_leafs (drop (i + 1) ids)) in
    ap (λ ws. behind ws left) added ∙ behind_joined vs v left ∙ ap (λ o. behind vs (join o left)) (sym here)
    ∙ ap (λ ns. behind vs (all_values f ns)) (sym (leafs_drop ids i d lt)) ∙ before

pub parts_stop : (f : ℕ → Option Val) (vs : List Val) (ids : List NodeId) (i : ℕ) (d : NodeId) (all : Option (List Val)) → i < length ids
    → f (get_or ids i d).0 ≡ None → behind vs (all_values f (named_leafs (drop i ids))) ≡ all → None ≡ all
parts_stop f vs ids i d all lt here before =
    ap (λ o. behind vs (join o (all_values f (named_leafs (drop (i + 1) ids))))) (sym here)
    ∙ ap (λ ns. behind vs (all_values f ns)) (sym (leafs_drop ids i d lt)) ∙ before

-- ---- one note more

chosen : (s : Rows) (b : Bool) (n : ℕ) (o w : Option Val) (old : Option (Option Val)) → (b ≡ true → note_value s n (Some o) ≡ w) → ((x : Option Val) → or_else w x ≡ w)
    → note_value s n (cond b (Some o) old) ≡ or_else (cond b w None) (note_value s n old)
chosen s true n o w old is wins = is refl ∙ sym (wins (note_value s n old))
chosen s false n o w old is wins = refl

-- a note that says a value
pub noted_more : (s : Rows) (old new : BTreeMap ℕ (Option Val)) (number : ℕ) (o w : Option Val) → ((n : ℕ) → number ≡ n → note_value s n (Some o) ≡ w) → ((x : Option Val) → or_else w x ≡ w)
    → UpdatesBy nat_cmp (λ k. nat_cmp number k) old new (Some o)
    → (n : ℕ) → note_value s n (get_by (nat_cmp n) new) ≡ or_else (cond (number == n) w None) (note_value s n (get_by (nat_cmp n) old))
noted_more s old new number o w is wins u n =
    ap (note_value s n) (u.0 n ∙ ap (λ b. cond b (Some o) (get_by (nat_cmp n) old)) (is_eq_nat number n))
    ∙ chosen s (number == n) n o w (get_by (nat_cmp n) old) (λ e. is n (eqb-true number n e)) wins

-- the last of values, where there are some
last_some : (o x : Option Val) (v : Val) → or_else (or_else o (Some v)) x ≡ or_else o (Some v)
last_some (Some w) x v = refl
last_some None x v = refl

pub last_wins : (vs : List Val) → (length vs == 0) ≡ false → (x : Option Val) → or_else (last_of vs) x ≡ last_of vs
last_wins [] some x = absurd (cc)
last_wins (v ∷ vs) some x = last_some (last_of vs) x v

-- it is the one with the last number
pub last_is : (vs : List Val) → slice_get vs (length vs - 1) ≡ last_of vs
last_is [] = refl
last_is (v ∷ []) = refl
last_is (v ∷ w ∷ ws) =
    let far : suc (suc (length ws)) - 1 ≡ suc (length ws) = omega arith in
    let near : suc (length ws) - 1 ≡ length ws = omega arith in
    ap (λ i. slice_get (v ∷ w ∷ ws) i) far
    ∙ ap (λ i. slice_get (w ∷ ws) i) (sym near)
    ∙ last_is (w ∷ ws) ∙ sym (last_some (last_of ws) (Some v) w)
