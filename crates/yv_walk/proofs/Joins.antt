-- Standings together: a union, in any order, in which a row may come twice.
use Rattle.std.proofs.Common.{◌≡◌, ◌==◌, ◌||◌, Bool, true, false, cond, refl, sym, ap, ◌∙◌, eqb-true, eq-eqb}
use Rattle.yv_nodes.specs.declared.node.NodeId.{NodeId}
use Rattle.yv_walk.specs.declared.existence.Existence.{Existence}
use Rattle.yv_walk.specs.declared.existence.Existence.TheVariants.{Nothing, Only, Several}
use Rattle.yv_walk.specs.Existence.{both}
use Rattle.yv_walk.specs.Marks.{with_node}

pub one_number : (c d : NodeId) → c.0 ≡ d.0 → c ≡ d
one_number c d e = λ i. record { 0 = e i }

pub self_same : (n : NodeId) → (n.0 == n.0) ≡ true
self_same n = eq-eqb n.0 n.0 refl

pub both_none : (a : Existence) → both a Nothing ≡ a
both_none Nothing = refl
both_none (Only n) = refl
both_none Several = refl

several_last : (a : Existence) → both a Several ≡ Several
several_last Nothing = refl
several_last (Only n) = refl
several_last Several = refl

comm_by : (n m : NodeId) (p q : Bool) → (n.0 == m.0) ≡ p → (m.0 == n.0) ≡ q → cond p (Only n) Several ≡ cond q (Only m) Several
comm_by n m true true e f = ap Only (one_number n m (eqb-true n.0 m.0 e))
comm_by n m false false e f = refl
comm_by n m true false e f = absurd (let g : (m.0 == n.0) ≡ true = eq-eqb m.0 n.0 (sym (eqb-true n.0 m.0 e)) in cc)
comm_by n m false true e f = absurd (let g : (n.0 == m.0) ≡ true = eq-eqb n.0 m.0 (sym (eqb-true m.0 n.0 f)) in cc)

pub both_comm : (a b : Existence) → both a b ≡ both b a
both_comm Nothing b = sym (both_none b)
both_comm Several b = sym (several_last b)
both_comm (Only n) Nothing = refl
both_comm (Only n) Several = refl
both_comm (Only n) (Only m) = comm_by n m (n.0 == m.0) (m.0 == n.0) refl refl

again_by : (n : NodeId) (p : Bool) (l : NodeId) → (n.0 == l.0) ≡ p → both (Only n) (Only l) ≡ both (Only n) (cond p (Only n) Several)
again_by n true l e = rw (e, self_same n) refl
again_by n false l e = rw e refl

differ_by : (n m : NodeId) (q : Bool) → (n.0 == m.0) ≡ false → Several ≡ both (Only n) (cond q (Only m) Several)
differ_by n m true e = rw e refl
differ_by n m false e = refl

assoc_by : (n m l : NodeId) (p : Bool) → (n.0 == m.0) ≡ p → both (both (Only n) (Only m)) (Only l) ≡ both (Only n) (both (Only m) (Only l))
assoc_by n m l true e =
    ap (λ x. both (both (Only n) (Only x)) (Only l)) (sym (one_number n m (eqb-true n.0 m.0 e)))
    ∙ ap (λ b. both (cond b (Only n) Several) (Only l)) (self_same n)
    ∙ again_by n (n.0 == l.0) l refl
    ∙ ap (λ x. both (Only n) (both (Only x) (Only l))) (one_number n m (eqb-true n.0 m.0 e))
assoc_by n m l false e = ap (λ b. both (cond b (Only n) Several) (Only l)) e ∙ differ_by n m (m.0 == l.0) e

pub both_assoc : (a b c : Existence) → both (both a b) c ≡ both a (both b c)
both_assoc Nothing b c = refl
both_assoc Several b c = refl
both_assoc (Only n) Nothing c = refl
both_assoc (Only n) Several c = refl
both_assoc (Only n) (Only m) Nothing = both_none (both (Only n) (Only m))
both_assoc (Only n) (Only m) Several = several_last (both (Only n) (Only m))
both_assoc (Only n) (Only m) (Only l) = assoc_by n m l (n.0 == m.0) refl

-- a row that is there already adds nothing
pub both_again : (a : Existence) (n : NodeId) → both (both a (Only n)) (Only n) ≡ both a (Only n)
both_again a n = both_assoc a (Only n) (Only n) ∙ ap (λ b. both a (cond b (Only n) Several)) (self_same n)

swap_last : (a b c : Existence) → both (both a c) b ≡ both (both a b) c
swap_last a b c = both_assoc a c b ∙ ap (both a) (both_comm c b) ∙ sym (both_assoc a b c)

-- two groups with one row more, where it is among them
pub joined_both : (p q : Bool) (a b : Existence) (n : NodeId) → both (with_node p a n) (with_node q b n) ≡ with_node (p || q) (both a b) n
joined_both true true a b n =
    swap_last a (both b (Only n)) (Only n)
    ∙ ap (λ x. both x (Only n)) (sym (both_assoc a b (Only n)))
    ∙ both_again (both a b) n
joined_both true false a b n = swap_last a b (Only n)
joined_both false true a b n = sym (both_assoc a b (Only n))
joined_both false false a b n = refl

pub joined_other : (p : Bool) (a b : Existence) (n : NodeId) → both (with_node p a n) b ≡ both a (with_node p b n)
joined_other true a b n = swap_last a b (Only n) ∙ both_assoc a b (Only n)
joined_other false a b n = refl
