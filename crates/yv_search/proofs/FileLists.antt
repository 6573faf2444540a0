-- Files with their texts and their roots, one by one.
use Rattle.std.proofs.Common.{◌≡◌, ◌+◌, ◌<◌, ◌∙◌, ℕ, zero, suc, List, [], ◌∷◌, ◌++◌, length, drop, refl, sym, ap, subst, arith, append_assoc, drop-cons, Bool, nat_lt, Option, Some, None}
use Rattle.std.specs.List.{slice_get}
use Rattle.std.proofs.lemmas.Option.{slice_get_within, get_or_from_slice_get}
use Rattle.yv_base_streams.specs.Files.{File}
use Rattle.yv_text_statement.specs.Tree.{Tree}
use Rattle.yv_source.specs.File.{File as Text}
use Rattle.yv_search.specs.Roots.{HasRoot, HoldsText}
use Rattle.yv_search.specs.PlainJob.{AreRoots, word_for, line_of, lines_from}
use Rattle.yv_search.specs.InnerPlainJob.{AreTexts}

pub texts_more : (fs : List File) (ts : List (Option Text)) (f : File) (t : Option Text) → AreTexts fs ts → HoldsText f.bytes t → AreTexts (fs ++ f ∷ []) (ts ++ t ∷ [])
texts_more [] [] f t h x = (x, tt)
texts_more [] (u ∷ ts) f t h x = absurd h
texts_more (g ∷ fs) [] f t h x = absurd h
texts_more (g ∷ fs) (u ∷ ts) f t h x = (h.0, texts_more fs ts f t h.1 x)

pub roots_more : (fs : List File) (rs : List (Option Tree)) (f : File) (r : Option Tree) → AreRoots fs rs → HasRoot f.bytes r → AreRoots (fs ++ f ∷ []) (rs ++ r ∷ [])
roots_more [] [] f r h x = (x, tt)
roots_more [] (u ∷ rs) f r h x = absurd h
roots_more (g ∷ fs) [] f r h x = absurd h
roots_more (g ∷ fs) (u ∷ rs) f r h x = (h.0, roots_more fs rs f r h.1 x)

-- the file with a text
pub record HasText (fs : List File) (i : ℕ) (t : Option Text) : Type 0 where
  pub file : File
  pub at : slice_get fs i ≡ Some file
  pub holds : HoldsText file.bytes t

pub text_at : (fs : List File) (ts : List (Option Text)) (i : ℕ) (t : Option Text) → AreTexts fs ts → slice_get ts i ≡ Some t → HasText fs i t
text_at [] [] i t h e = absurd (cc)
text_at [] (u ∷ ts) i t h e = absurd h
text_at (f ∷ fs) [] i t h e = absurd h
text_at (f ∷ fs) (u ∷ ts) zero t h e = record { file = f; at = refl; holds = subst (λ (o : Option Text). HoldsText f.bytes o) (let s : u ≡ t = cc in s) h.0 }
text_at (f ∷ fs) (u ∷ ts) (suc i) t h e = let r : HasText fs i t = text_at fs ts i t h.1 e in record { file = r.file; at = r.at; holds = r.holds }

pub texts_each : (fs : List File) (ts : List (Option Text)) → AreTexts fs ts → length fs ≡ length ts
texts_each [] [] h = refl
texts_each [] (t ∷ ts) h = absurd h
texts_each (f ∷ fs) [] h = absurd h
texts_each (f ∷ fs) (t ∷ ts) h = ap (λ n. suc n) (texts_each fs ts h.1)

pub roots_each : (fs : List File) (rs : List (Option Tree)) → AreRoots fs rs → length fs ≡ length rs
roots_each [] [] h = refl
roots_each [] (r ∷ rs) h = absurd h
roots_each (f ∷ fs) [] h = absurd h
roots_each (f ∷ fs) (r ∷ rs) h = ap (λ n. suc n) (roots_each fs rs h.1)

-- a list goes on with its item at a place
pub drop_at : {X : Type 0} (xs : List X) (i : ℕ) (x : X) → slice_get xs i ≡ Some x → drop i xs ≡ x ∷ drop (i + 1) xs
drop_at xs i x e =
    let next : suc i ≡ i + 1 = omega arith in
    drop-cons xs i x (slice_get_within xs i x e) ∙ ap (λ z. z ∷ drop (suc i) xs) (get_or_from_slice_get xs i x x e) ∙ ap (λ n. x ∷ drop n xs) next

-- one more line
pub line_more : (test : List ℕ → Bool) (named i : ℕ) (fs : List File) (rs : List (Option Tree)) (f : File) (r : Option Tree) (word old new whole : List ℕ) → slice_get fs i ≡ Some f → slice_get rs i ≡ Some r → word ≡ word_for test (nat_lt i named) r
    → old ++ lines_from test named i (drop i fs) (drop i rs) ≡ whole → new ≡ old ++ line_of word f.name → new ++ lines_from test named (i + 1) (drop (i + 1) fs) (drop (i + 1) rs) ≡ whole
line_more test named i fs rs f r word old new whole f_at r_at word_is before now =
    let later : List ℕ = lines_from test named (i + 1) (drop (i + 1) fs) (drop (i + 1) rs) in
    ap (λ t. t ++ later) (now ∙ ap (λ w. old ++ line_of w f.name) word_is)
    ∙ append_assoc old (line_of (word_for test (nat_lt i named) r) f.name) later
    ∙ ap (λ ls. old ++ lines_from test named i ls (r ∷ drop (i + 1) rs)) (sym (drop_at fs i f f_at))
    ∙ ap (λ ls. old ++ lines_from test named i (drop i fs) ls) (sym (drop_at rs i r r_at))
    ∙ before
