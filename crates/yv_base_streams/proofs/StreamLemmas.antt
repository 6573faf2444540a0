-- What the loops over readers and writers have done so far.
use lib.Seq.{take-add, take-take}
use Rattle.std.proofs.Math.Nat.{eq-or-lt_of_le}
use Rattle.std.proofs.Common.{◌≡◌, ◌≤◌, ◌<◌, inl, inr, ◌+◌, ◌-◌, ◌++◌, length-take, length-append, ℕ, List, IfSome, length, take, drop, sym, ap, subst, ◌∙◌, arith, take_all}
use Rattle.std.proofs.lemmas.List.{take-append-le, append-nil}
use Rattle.std.specs.declared.option.Option.{Option}
use Rattle.std.specs.declared.option.Option.TheVariants.{None, Some}
use Rattle.std.specs.Io.{StartsWith}
use Rattle.std.specs.Io.KnownBytes.{Consumes, Appends, IsAtEnd}
use Rattle.std.proofs.KnownBytes.{Consumes-trans, Appends-trans, starts_with_rest}
use Rattle.yv_base_streams.specs.Stream.{TakesAtMost}

-- a reader gave its first bytes up to a number, where it gave as many or is at its end
pub gave_up_to : (a b : Option (List ℕ)) (bs : List ℕ) (limit : ℕ) → Consumes a b bs → length bs ≤ limit → (length bs < limit → IsAtEnd b) → IfSome a (λ xs. bs ≡ take limit xs)
gave_up_to None b bs limit p h end = tt
gave_up_to (Some x) None bs limit p h end = absurd p
gave_up_to (Some x) (Some y) bs limit p h end = elim (eq-or-lt_of_le h) [
  | inl full ↦
      let within : limit ≤ length bs = omega arith in
      rw (p, take-append-le limit bs y) (sym (take_all limit bs h))
  | inr short ↦
      let whole : x ≡ bs = p ∙ ap (λ l. bs ++ l) (end short) ∙ append-nil bs in
      rw whole (sym (take_all limit bs h))
]

-- one more read
pub gave_more : (a b c : Option (List ℕ)) (old new : List ℕ) → Consumes a b old → StartsWith new old → Consumes b c (drop (length old) new) → Consumes a c new
gave_more a b c old new p f q =
    subst (Consumes a c) (sym (starts_with_rest new old f)) (Consumes-trans a b c old (drop (length old) new) p q)

-- a read that ended by an error, behind what was read before
pub took_more : (a b c : Option (List ℕ)) (old : List ℕ) (room limit : ℕ) → Consumes a b old → length old + room ≤ limit → TakesAtMost room b c → TakesAtMost limit a c
took_more a b c old room limit p fits more = record {
  taken = old ++ more.taken;
  consumed = Consumes-trans a b c old more.taken p more.consumed;
  few = omega (arith, length-append old more.taken, more.few);
}

-- one more write
pub held_more : (a b c : Option (List ℕ)) (xs : List ℕ) (done n : ℕ) → Appends a b (take done xs) → done ≤ length xs
    → n ≤ length (take (length xs - done) (drop done xs))
    → Appends b c (take n (take (length xs - done) (drop done xs))) → Appends a c (take (done + n) xs)
held_more a b c xs done n before h fits after =
    let most = length-take (length xs - done) (drop done xs) in
    let joined = ap (λ l. take done xs ++ l) (take-take n (length xs - done) (drop done xs) (omega arith)) ∙ sym (take-add done n xs) in
    subst (Appends a c) joined (Appends-trans a b c _ _ before after)
