-- The nodes of a row are marked.
use Rattle.std.proofs.Common.{◌≡◌, ℕ, ◌+◌, ◌<◌, ◌⊎◌, inl, inr, Bool, true, false, List, [], ◌∷◌, ◌++◌, length, get_or, set, refl, arith, cond, length-append, get_or-set_same, get_or-set_other, ◌∙◌}
use Rattle.std.proofs.lemmas.List.{get_or_default}
use Rattle.std.specs.List.{Contains, count_by}
use Rattle.std.proofs.lemmas.Grind.{common_steps}
use Rattle.std.proofs.lemmas.List.Elements.{All-push, All-nil, All-weaker, Contains-push, Contains-append_left}
use Rattle.std.proofs.lemmas.Bool.{cases_eq}
use Rattle.std.proofs.lemmas.List.Sums.{sum_by-set}
use Rattle.yv_base_graph.specs.Graph.{IsMarked}
use Rattle.yv_base_graph.specs.InnerMarks.{MarksRow}

pub marks_none : (old : List Bool) (before : List ℕ) → MarksRow [] old before old before
marks_none old before = record {
  each = refl;
  kept = λ k h. h;
  marked = All-nil (IsMarked old);
  listed = λ k h. inl h;
  added = ([], grind (arith, common_steps), All-nil (Contains []));
  counted = refl;
}

pub marks_seen : (row : List ℕ) (n : ℕ) (old : List Bool) (before : List ℕ) (new : List Bool) (after : List ℕ) (row' : List ℕ) (new' : List Bool) (after' : List ℕ) → MarksRow row old before new after → n < length new → get_or new n true ≡ true → row' ≡ row ++ n ∷ [] → new' ≡ new → after' ≡ after → MarksRow row' old before new' after'
marks_seen row n old before new after row' new' after' m within h e f g = rw (e, f, g) (record {
  each = m.each;
  kept = m.kept;
  marked = All-push (IsMarked new) row n m.marked (get_or_default new n false true within ∙ h);
  listed = m.listed;
  added = (m.added.0, m.added.1, All-weaker (Contains row) (Contains (row ++ n ∷ [])) (λ x. Contains-append_left row (n ∷ []) x) m.added.0 m.added.2);
  counted = m.counted;
})

mark_cases : (new : List Bool) (n k : ℕ) → n < length new → IsMarked (set new n true) k → IsMarked new k ⊎ (k ≡ n)
mark_cases new n k h m = elim (cases_eq k n) [ inl e ↦ inr e | inr ne ↦ inl (rw get_or-set_other at m) ]

mark_kept : (new : List Bool) (n k : ℕ) → n < length new → IsMarked new k → IsMarked (set new n true) k
mark_kept new n k h m = elim (cases_eq k n) [ inl e ↦ rw e (get_or-set_same new n true false h) | inr ne ↦ rw get_or-set_other m ]

count_set : (new : List Bool) (n : ℕ) → n < length new → get_or new n false ≡ false → count_by (λ b. b) (set new n true) ≡ count_by (λ b. b) new + 1
count_set new n h e =
    let s = sum_by-set (λ b. cond b 1 0) new n true false h in
    let t = rw e at s in
    omega (arith, t)

marks_new_at : (row : List ℕ) (n : ℕ) (old : List Bool) (before : List ℕ) (new : List Bool) (after : List ℕ) → MarksRow row old before new after → n < length new → get_or new n false ≡ false → MarksRow (row ++ n ∷ []) old before (set new n true) (after ++ n ∷ [])
marks_new_at row n old before new after m within h = record {
  each = grind (arith, common_steps, m.each);
  kept = λ k o. mark_kept new n k within (m.kept k o);
  marked = All-push (IsMarked (set new n true)) row n (All-weaker (IsMarked new) (IsMarked (set new n true)) (λ k. mark_kept new n k within) row m.marked) (get_or-set_same new n true false within);
  listed = λ k o. elim (mark_cases new n k within o) [ inl was ↦ elim (m.listed k was) [ inl i ↦ inl i | inr c ↦ inr (Contains-append_left after (n ∷ []) k c) ] | inr e ↦ inr (rw e (Contains-push after n)) ];
  added = (m.added.0 ++ n ∷ [], grind (arith, common_steps, m.added.1), All-push (Contains (row ++ n ∷ [])) m.added.0 n (All-weaker (Contains row) (Contains (row ++ n ∷ [])) (λ x. Contains-append_left row (n ∷ []) x) m.added.0 m.added.2) (Contains-push row n));
  counted = rw count_set (simp length-append (omega (arith, m.counted)));
}

pub marks_new : (row : List ℕ) (n : ℕ) (old : List Bool) (before : List ℕ) (new : List Bool) (after : List ℕ) (row' : List ℕ) (new' : List Bool) (after' : List ℕ) → MarksRow row old before new after → n < length new → get_or new n false ≡ false → row' ≡ row ++ n ∷ [] → new' ≡ set new n true → after' ≡ after ++ n ∷ [] → MarksRow row' old before new' after'
marks_new row n old before new after row' new' after' m within h e f g = rw (e, f, g) (marks_new_at row n old before new after m within h)
