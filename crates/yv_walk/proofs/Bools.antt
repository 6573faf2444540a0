-- Small facts on truth values, and on nodes by their numbers.
use Rattle.std.proofs.Common.{◌≡◌, ◌||◌, ◌&&◌, Bool, true, false, cond, ◌⊎◌, inl, inr, refl, sym}
use Rattle.std.proofs.lemmas.Bool.{false≢true}
use Rattle.yv_node_content.specs.declared.kind.NodeKind.{NodeKind}
use Rattle.yv_node_content.specs.declared.kind.NodeKind.TheVariants as kind
use Rattle.yv_node_content.specs.Kinds.{is_data, is_passed}

pub or_true : (a b : Bool) → (a || b) ≡ true → (a ≡ true) ⊎ (b ≡ true)
or_true true b e = inl refl
or_true false b e = inr e

pub or_left : (a b : Bool) → a ≡ true → (a || b) ≡ true
or_left true b e = refl
or_left false b e = absurd (false≢true e)

pub or_right : (a b : Bool) → b ≡ true → (a || b) ≡ true
or_right true b e = refl
or_right false b e = e

pub and_true : (a b : Bool) → (a && b) ≡ true → (a ≡ true) × (b ≡ true)
and_true true b e = (refl, e)
and_true false b e = absurd (false≢true e)

pub and_of : (a b : Bool) → a ≡ true → b ≡ true → (a && b) ≡ true
and_of true b e f = f
and_of false b e f = absurd (false≢true e)

pub same_bool : (a b : Bool) → (a ≡ true → b ≡ true) → (b ≡ true → a ≡ true) → a ≡ b
same_bool true true f g = refl
same_bool false false f g = refl
same_bool true false f g = sym (f refl)
same_bool false true f g = g refl

pub is_false : (a : Bool) → (a ≡ true → ⊥) → a ≡ false
is_false true f = absurd (f refl)
is_false false f = refl

pub cond_true : (b c : Bool) → cond b false c ≡ true → (b ≡ false) × (c ≡ true)
cond_true true c e = absurd (false≢true e)
cond_true false c e = (refl, e)

-- no choice or case is a data node
pub passed_no_data : (k : NodeKind) → is_passed k ≡ true → is_data k ≡ false
passed_no_data kind.Choice h = refl
passed_no_data kind.Case h = refl
passed_no_data _ h = absurd (false≢true h)

pub data_not_passed : (k : NodeKind) → is_data k ≡ true → is_passed k ≡ false
data_not_passed kind.Choice h = absurd (false≢true h)
data_not_passed kind.Case h = absurd (false≢true h)
data_not_passed _ h = refl
