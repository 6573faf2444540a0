-- The way to a node: a text has one list of steps.
use Rattle.std.proofs.Common.{◌≡◌, ◌<◌, ◌++◌, ◌≢◌, ℕ, true, false, List, [], ◌∷◌, length, map, refl, sym, ap, ap₂, ◌∙◌, subst, arith}
use Rattle.std.specs.declared.option.Option.{Option}
use Rattle.std.specs.declared.option.Option.TheVariants.{None, Some}
use Rattle.std.specs.List.{AllByRecursion, AllZip, slice_split, join_with_byte}
use Rattle.std.proofs.lemmas.List.{append_cancel_left}
use Rattle.std.proofs.lemmas.List.Elements.{recursion_from_All, All-from_recursion, All-cons, All-append}
use Rattle.std.proofs.lemmas.List.Splits.{slice_split_at}
use Rattle.std.proofs.Math.Dec.{eqb}
use Rattle.yv_job.specs.Names.{IsIdentifier, AreStepNames, HasStepNames, step_text_in, step_text, IsStep, StartsInModule, IsWay}
use Rattle.yv_job.proofs.NameLemmas.{Free, free_name, Joins, joins_taken, joins_refused, same_joins, read_zip, zip_read}
use Rattle.yv_tree_drawing.specs.Steps.{Step}

-- a name has no colon inside
colon_inside : (before after : List ℕ) → AllByRecursion (λ b. eqb b 58 ≡ false) (before ++ 58 ∷ after) → ⊥
colon_inside [] after a = let e : true ≡ false = a.0 in cc
colon_inside (b ∷ bs) after a = colon_inside bs after a.1

pub no_name : (before after : List ℕ) → IsIdentifier (before ++ 58 ∷ after) → ⊥
no_name before after h = colon_inside before after (recursion_from_All _ (before ++ 58 ∷ after) (free_name 58 refl (before ++ 58 ∷ after) h))

-- a step has no slash
free_step_in : (m : Option (List ℕ)) (a : List ℕ) → AreStepNames m a → Free 47 (step_text_in m a)
free_step_in None a h = free_name 47 refl a h
free_step_in (Some m) a h = All-append (λ x. eqb x 47 ≡ false) m _ (free_name 47 refl m h.0) (All-cons (λ x. eqb x 47 ≡ false) 58 _ refl (free_name 47 refl a h.1))

free_step : (x : Step) → HasStepNames x → Free 47 (step_text x)
free_step x h = free_step_in x.module x.name h

step_made : (x : Step) → HasStepNames x → IsStep (step_text x) x
step_made x h = record { spelled = refl; names = h }

-- a module's name ends at the first colon
pub module_first : (m rest : List ℕ) → IsIdentifier m → slice_split (λ b. eqb b 58) (m ++ 58 ∷ rest) ≡ m ∷ slice_split (λ b. eqb b 58) rest
module_first m rest h = slice_split_at _ m 58 rest (free_name 58 refl m h) refl

same_step_in : (m n : Option (List ℕ)) (a b : List ℕ) → AreStepNames m a → AreStepNames n b → step_text_in m a ≡ step_text_in n b → (m ≡ n) × (a ≡ b)
same_step_in None None a b h i same = (refl, same)
same_step_in None (Some n) a b h i same = absurd (no_name n b (subst IsIdentifier same h))
same_step_in (Some m) None a b h i same = absurd (no_name m a (subst IsIdentifier (sym same) i))
same_step_in (Some m) (Some n) a b h i same =
    let parts = sym (module_first m a h.0) ∙ ap (slice_split (λ b. eqb b 58)) same ∙ module_first n b i.0 in
    let modules : m ≡ n = cc (parts) in
    let tails = append_cancel_left n (58 ∷ a) (58 ∷ b) (subst (λ x. x ++ 58 ∷ a ≡ n ++ 58 ∷ b) modules same) in
    (ap (λ (x : List ℕ). Some x) modules, cc (tails))

same_step : (x y : Step) → HasStepNames x → HasStepNames y → step_text x ≡ step_text y → x ≡ y
same_step x y h i same =
    let both = same_step_in x.module y.module x.name y.name h i same in
    ap₂ (λ (m : Option (List ℕ)) (a : List ℕ). record { «module» = m; name = a }) both.0 both.1

-- steps that begin in a module are some
some_steps : (xs : List Step) → StartsInModule xs → 0 < length xs
some_steps [] h = absurd h
some_steps (x ∷ xs) h = omega arith

-- what a way joins, after its first slash
way_joins : (rest : List ℕ) (xs : List Step) → IsWay (47 ∷ rest) xs → Joins step_text HasStepNames rest xs
way_joins rest xs w = record {
  spelled = let e = w.spelled in cc (e);
  each = recursion_from_All HasStepNames xs w.each;
  some = some_steps xs w.start;
}

joins_way : (rest : List ℕ) (xs : List Step) → Joins step_text HasStepNames rest xs → StartsInModule xs → IsWay (47 ∷ rest) xs
joins_way rest xs j start = record {
  spelled = ap (λ (l : List ℕ). 47 ∷ l) j.spelled;
  each = All-from_recursion HasStepNames xs j.each;
  start = start;
}

-- a text that is a way begins with a slash
pub slash_first : (t : List ℕ) → ((rest : List ℕ) → t ≢ 47 ∷ rest) → (xs : List Step) → IsWay t xs → ⊥
slash_first t none xs w = none _ (sym w.spelled)

-- a text is a way of one list of steps
same_way_after : (rest : List ℕ) (xs ys : List Step) → IsWay (47 ∷ rest) xs → IsWay (47 ∷ rest) ys → xs ≡ ys
same_way_after rest xs ys w v = same_joins step_text HasStepNames free_step same_step rest xs ys (way_joins rest xs w) (way_joins rest ys v)

pub same_way : (t : List ℕ) (xs ys : List Step) → IsWay t xs → IsWay t ys → xs ≡ ys
same_way t xs ys w v =
    let rest = join_with_byte 47 (map step_text xs) in
    same_way_after rest xs ys (subst (λ x. IsWay x xs) (sym w.spelled) w) (subst (λ x. IsWay x ys) (sym w.spelled) v)

-- the steps that the parts of a text are
parts_join : {X : Type 0} (now : X → List ℕ) (parts : List X) (rest : List ℕ) (xs : List Step) → map now parts ≡ slice_split (λ b. eqb b 47) rest → AllZip (λ p x. IsStep (now p) x) parts xs
    → Joins step_text HasStepNames rest xs
parts_join now parts rest xs e z =
    joins_taken step_text HasStepNames IsStep (λ p x i. (i.spelled, i.names)) rest xs (subst (λ l. AllZip IsStep l xs) e (zip_read now IsStep parts xs z))

pub way_taken : {X : Type 0} (now : X → List ℕ) (parts : List X) (t rest : List ℕ) (xs : List Step) → t ≡ 47 ∷ rest → map now parts ≡ slice_split (λ b. eqb b 47) rest
    → AllZip (λ p x. IsStep (now p) x) parts xs → StartsInModule xs → IsWay t xs
way_taken now parts t rest xs slash e z start = subst (λ x. IsWay x xs) (sym slash) (joins_way rest xs (parts_join now parts rest xs e z) start)

-- parts that are no steps are no way
pub no_steps : {X : Type 0} (now : X → List ℕ) (parts : List X) (t rest : List ℕ) → t ≡ 47 ∷ rest → map now parts ≡ slice_split (λ b. eqb b 47) rest
    → ((xs : List Step) → AllZip (λ p x. IsStep (now p) x) parts xs → ⊥) → (xs : List Step) → IsWay t xs → ⊥
no_steps now parts t rest slash e none xs w =
    let refused = λ (ys : List Step) (z : AllZip IsStep (slice_split (λ b. eqb b 47) rest) ys). none ys (read_zip now IsStep parts ys (subst (λ l. AllZip IsStep l ys) (sym e) z)) in
    joins_refused step_text HasStepNames IsStep free_step step_made rest refused xs (way_joins rest xs (subst (λ x. IsWay x xs) slash w))

-- nor are steps of which the first gives no module
pub no_start : {X : Type 0} (now : X → List ℕ) (parts : List X) (t rest : List ℕ) (ys : List Step) → t ≡ 47 ∷ rest → map now parts ≡ slice_split (λ b. eqb b 47) rest
    → AllZip (λ p x. IsStep (now p) x) parts ys → (StartsInModule ys → ⊥) → (xs : List Step) → IsWay t xs → ⊥
no_start now parts t rest ys slash e z none xs w =
    let same = same_joins step_text HasStepNames free_step same_step rest xs ys (way_joins rest xs (subst (λ x. IsWay x xs) slash w)) (parts_join now parts rest ys e z) in
    none (subst StartsInModule same w.start)
