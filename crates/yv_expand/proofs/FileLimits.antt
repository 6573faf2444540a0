-- The files, as they are gone over.
use Rattle.std.proofs.lemmas.Bool.{cases_lt}
use Rattle.std.proofs.Common.{inl, inr, IfNone, ◌≡◌, ◌↔◌, ◌==◌, ◌&&◌, ℕ, zero, suc, ◌+◌, ◌<◌, ◌≤◌, Bool, true, false, IsTrue, cond, if◌then◌else◌, List, [], ◌∷◌, ◌++◌, length, map, get_or, refl, sym, ◌∙◌, ap, subst, arith, add-one, Option, Some, None}
use Rattle.std.specs.List.{slice_get}
use Rattle.std.specs.Option.{option_map}
use Rattle.std.specs.declared.vec.Vec.{Vec}
use Rattle.std.specs.declared.alloc.Global.{Global}
use Rattle.std.proofs.lemmas.Option.{slice_get_within, slice_get-map, same_Some}
use Rattle.yv_text_statement.specs.Tree.{Tree}
use Rattle.yv_text_statement.specs.Order.{IsLeast, IsLesser, Stands, Among, refusal_at}
use Rattle.yv_text_statement.specs.declared.refusal.Refusal.{Refusal}
use Rattle.yv_text_statement.specs.declared.refusal.Code.TheVariants as code
use Rattle.yv_text_statement.proofs.Least.{least_more, least_refused, least_same}
use Rattle.yv_link_scopes.specs.Files.{Brief, Briefs, Files, brief_of, module_file_at}
use Rattle.yv_link_scopes.specs.Rows.{Row}
use Rattle.yv_link_scopes.specs.RowList.{rows_of}
use Rattle.yv_expand_statements.specs.Units.{saturate}
use Rattle.yv_expand_statements.specs.Weigh.{Weigh, nothing, other, node, uses}
use Rattle.yv_expand_statements.specs.StatementBlocks.{stands_in, given_at, given_before}
use Rattle.yv_expand_statements.specs.Limit.{Fits, Passes}
use Rattle.yv_expand.specs.InnerLists.{Lists, ArePlaced, is_place, sum_at, top_place, top_sum}
use Rattle.yv_expand.specs.InnerSteps.{AreSettled}
use Rattle.yv_expand.proofs.SettledValues.{list_sum, top_split}

module _ {files : Briefs} {rows : List Row} where
  pub weigh_append : {numbers more : List ℕ} {n m : ℕ} → Weigh files rows numbers n → Weigh files rows more m → Weigh files rows (numbers ++ more) (n + m)
  weigh_append {more = more} {m = m} nothing v = subst (λ (t : ℕ). Weigh files rows more t) (let e : m ≡ 0 + m = omega arith in e) v
  weigh_append (other at e w) v = other at e (weigh_append w v)
  weigh_append {more = more} {m = p} (node {k = k} {own = own} {n = n} {m = m} {others = others} at e none b w) v =
      subst (λ (t : ℕ). Weigh files rows (k ∷ others ++ more) t) (let s : own + n + (m + p) ≡ own + n + m + p = omega arith in s) (node at e none b (weigh_append w v))
  weigh_append {more = more} {m = p} (uses {k = k} {own = own} {g = g} {n = n} {m = m} {others = others} at e refers h b w) v =
      subst (λ (t : ℕ). Weigh files rows (k ∷ others ++ more) t) (let s : own + g + n + (m + p) ≡ own + g + n + m + p = omega arith in s) (uses at e refers h b (weigh_append w v))

there : (lists : Lists) (i : ℕ) → i < length lists → (v : Vec ℕ Global) × (slice_get lists i ≡ Some v)
there [] i h = absurd (omega (arith, h))
there (v ∷ vs) zero h = (v, refl)
there (v ∷ vs) (suc i) h = there vs i (omega (arith, h))

-- the units of one file
pub file_weighs : (files : Briefs) (rows : List Row) (values : List ℕ) (tops : Lists) (marks : List Bool) (count f u : ℕ) → AreSettled files rows values → ArePlaced (top_place files) rows count tops → f < count → u ≡ (if get_or marks f false then top_sum values (slice_get tops f) else 0) → (m : ℕ) × Weigh files rows (given_at files rows marks f) m × (u ≡ saturate m)
file_weighs files rows values tops marks count f u settled placed within e = by (get_or marks f false) refl
  where
    here : (j : ℕ) (r : Row) → slice_get rows j ≡ Some r → slice_get rows (0 + j) ≡ Some r
    here j r h = ap (slice_get rows) (let z : 0 + j ≡ j = omega arith in z) ∙ h

    by : (b : Bool) → get_or marks f false ≡ b → (m : ℕ) × Weigh files rows (given_at files rows marks f) m × (u ≡ saturate m)
    by true h =
        let p = there tops f (omega (arith, within, placed.each)) in
        let sum = list_sum files rows values (λ k r. stands_in (module_file_at files f) k r && (r.file == f)) (λ k r. is_place f (top_place files k r)) (top_split files f) 0 rows here (λ j r at passes. settled j r at) in
        rw h (sum.0, sum.1, e ∙ ap (λ b. if b then top_sum values (slice_get tops f) else 0) h ∙ ap (top_sum values) p.1 ∙ ap (λ l. saturate (sum_at values l)) (placed.items f p.0 p.1) ∙ sum.2)
    by false h = rw h (0, nothing, e ∙ rw h refl)

-- what a file with its head passes
abbrev pub PassesAt : Files → List Bool → ℕ → ℕ → Tree → Refusal → Type 0
PassesAt files marks limit n t f = Stands (Passes (map brief_of files) (rows_of files) marks limit n) (refusal_at code.TooManyNodes n t.head) f

pub record Limiting (H : Type 0) (files : Files) (marks : List Bool) (limit i total : ℕ) (least : Option Refusal) : Type 0 where
  pub runs : H → (s : ℕ) × Weigh (map brief_of files) (rows_of files) (given_before (map brief_of files) (rows_of files) marks i) s × (total ≡ saturate s)
  pub leasts : H → IsLeast (Among files (PassesAt files marks limit) i) least
  pub fits : least ≡ None → total ≤ limit

-- neither of two where there is no lesser one
neither : (a b c : Option Refusal) → IsLesser a b c → c ≡ None → (a ≡ None) × (b ≡ None)
neither None b c l e = (refl, sym l ∙ e)
neither (Some r) None c l e = absurd (let bad : Some r ≡ None = sym l ∙ e in cc)
neither (Some r) (Some s) c (inl l) e = absurd (let bad : Some r ≡ None = sym l.0 ∙ e in cc)
neither (Some r) (Some s) c (inr l) e = absurd (let bad : Some s ≡ None = sym l.0 ∙ e in cc)

-- a test fails where nothing is refused
not_passed : (b : Bool) (r : Refusal) → cond b (Some r) None ≡ None → b ≡ true → ⊥
not_passed true r e h = let bad : Some r ≡ None = e in cc
not_passed false r e h = cc

module _ (H : Type 0) (files : Files) (marks : List Bool) (limit : ℕ) where
  abbrev Before : ℕ → List ℕ
  Before i = given_before (map brief_of files) (rows_of files) marks i

  abbrev pub WeighOne : Type 0
  WeighOne = (bs : Briefs) (rows : List Row) (numbers : List ℕ) (n m : ℕ) → Weigh bs rows numbers n → Weigh bs rows numbers m → n ≡ m

  pub limiting_none : Limiting H files marks limit 0 0 None
  limiting_none = record { runs = λ h. (0, nothing, refl); leasts = λ h f p. omega (arith, p.1); fits = λ e. omega arith }

  -- one more file
  pub limiting_more : (i total units after : ℕ) (least fault next : Option Refusal) (t : Tree) (b : Bool) → WeighOne → limit < 4294967296 → Limiting H files marks limit i total least → slice_get files i ≡ Some t → (H → (m : ℕ) × Weigh (map brief_of files) (rows_of files) (given_at (map brief_of files) (rows_of files) marks i) m × (units ≡ saturate m)) → after ≡ saturate (total + units) → IsTrue b ↔ ((total ≤ limit) × (limit < after)) → fault ≡ cond b (Some (refusal_at code.TooManyNodes i t.head)) None → IsLesser least fault next → Limiting H files marks limit (i + 1) after next
  limiting_more i total units after least fault next t b one small old at weighs sum passes is lesser = record {
    runs = λ h.
        let s = old.runs h in
        let m = weighs h in
        (s.0 + m.0, all s.0 m.0 s.1 m.1, omega (arith, sum, s.2, m.2));
    leasts = λ h.
        let s = old.runs h in
        let m = weighs h in
        let to : b ≡ true → Passes (map brief_of files) (rows_of files) marks limit i = λ e.
        let p = passes.0 e in
        record {
          before = s.0;
          weigh_before = s.1;
          fits = omega (arith, p.0, s.2, small);
          all = s.0 + m.0;
          weigh_all = all s.0 m.0 s.1 m.1;
          passes = omega (arith, p.1, sum, s.2, m.2);
        } in
        let from : Passes (map brief_of files) (rows_of files) marks limit i → b ≡ true = λ p.
        let first : p.before ≡ s.0 = one (map brief_of files) (rows_of files) (Before i) p.before s.0 p.weigh_before s.1 in
        let both : p.all ≡ s.0 + m.0 = one (map brief_of files) (rows_of files) (Before (i + 1)) p.all (s.0 + m.0) p.weigh_all (all s.0 m.0 s.1 m.1) in
        passes.1 (omega (arith, first, p.fits, s.2), omega (arith, both, p.passes, sum, s.2, m.2, small)) in
        let here : IsLeast (PassesAt files marks limit i t) fault = subst (λ (o : Option Refusal). IsLeast (PassesAt files marks limit i t) o) (sym is) (least_refused (Passes (map brief_of files) (rows_of files) marks limit i) b (refusal_at code.TooManyNodes i t.head) to from) in
        least_more files (PassesAt files marks limit) i t least fault next at lesser (old.leasts h) here;
    fits = λ e.
        let none = neither least fault next lesser e in
        let before : total ≤ limit = old.fits none.0 in
        elim (cases_lt limit after) [
          | inl past ↦ absurd (not_passed b (refusal_at code.TooManyNodes i t.head) (sym is ∙ none.1) (passes.1 (before, past)))
          | inr fits ↦ omega (arith, fits)
        ];
  }
    where
      all : (s m : ℕ) → Weigh (map brief_of files) (rows_of files) (Before i) s → Weigh (map brief_of files) (rows_of files) (given_at (map brief_of files) (rows_of files) marks i) m → Weigh (map brief_of files) (rows_of files) (Before (i + 1)) (s + m)
      all s m w v = subst (λ (n : ℕ). Weigh (map brief_of files) (rows_of files) (Before n) (s + m)) (sym (add-one i)) (weigh_append w v)

  pub limiting_all : (i total : ℕ) (least : Option Refusal) → length files ≤ i → Limiting H files marks limit i total least → H → IsLeast (Among files (PassesAt files marks limit) (length files)) least
  limiting_all i total least past old h = least_same (Among files (PassesAt files marks limit) i) (Among files (PassesAt files marks limit) (length files)) least
      (λ r a. (a.0, slice_get_within files a.0 a.2 a.3, a.2, a.3, a.4))
      (λ r a. (a.0, omega (arith, a.1, past), a.2, a.3, a.4)) (old.leasts h)

-- how many units all files take that are given
pub limiting_fits : (H : Type 0) (files : Files) (marks : List Bool) (limit i total : ℕ) (least : Option Refusal) → limit < 4294967296 → i ≡ length files → Limiting H files marks limit i total least → H → IfNone least (Fits files marks limit)
limiting_fits H files marks limit i total None small all old h =
    let s = old.runs h in
    let fits : total ≤ limit = old.fits refl in
    (s.0, subst (λ (n : ℕ). Weigh (map brief_of files) (rows_of files) (given_before (map brief_of files) (rows_of files) marks n) s.0) all s.1, omega (arith, fits, s.2, small))
limiting_fits H files marks limit i total (Some r) small all old h = tt

-- the file of a brief
pub brief_at : (files : Files) (i : ℕ) (b : Brief) → slice_get (map brief_of files) i ≡ Some b → (t : Tree) × (slice_get files i ≡ Some t) × (t.head ≡ b.head)
brief_at files i b at = by (slice_get files i) refl (sym (slice_get-map brief_of files i) ∙ at)
  where
    by : (o : Option Tree) → slice_get files i ≡ o → option_map brief_of o ≡ Some b → (t : Tree) × (slice_get files i ≡ Some t) × (t.head ≡ b.head)
    by None e h = absurd (let bad : None ≡ Some b = h in cc)
    by (Some t) e h = (t, e, ap (λ (x : Brief). x.head) (same_Some (brief_of t) b h))
