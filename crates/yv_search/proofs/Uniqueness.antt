-- The files that a search finds are determined.
use Rattle.std.proofs.Common.{◌≡◌, ◌⊎◌, ◌∙◌, inl, inr, ℕ, suc, List, [], ◌∷◌, refl, sym, ap, subst, map, arith, Option, Some, None}
use Rattle.std.specs.List.{All}
use Rattle.std.proofs.lemmas.Option.{same_Some}
use Rattle.yv_base_streams.specs.Files.{File}
use Rattle.yv_text_statement.specs.Tree.{Tree}
use Rattle.yv_source.proofs.Once.{one_spelled}
use Rattle.yv_search.specs.Listing.{ListedFile, found_name}
use Rattle.yv_search.specs.Wants.{Want}
use Rattle.yv_search.specs.Choice.{Candidate, choice_of}
use Rattle.yv_search.specs.Roots.{HasRoot}
use Rattle.yv_search.specs.Search.{RootedFile, State, Step, Steps, passed, found, none_yet, onward, next, seek, with_file}
use Rattle.yv_search.specs.FoundFiles.{IsStart, AreGathered, file_in}

-- a file has one root at most
root_same : (bytes : List ℕ) (a b : Option Tree) → HasRoot bytes a → HasRoot bytes b → a ≡ b
root_same bytes None None h k = refl
root_same bytes None (Some t) h k = absurd (h t k)
root_same bytes (Some t) None h k = absurd (k t h)
root_same bytes (Some t) (Some u) h k = ap (λ (x : Tree). Some x) (one_spelled bytes t u h.spelled k.spelled)

-- files determine their roots
rooteds_same : (xs ys : List RootedFile) → map file_in xs ≡ map file_in ys → All (λ f. HasRoot f.file.bytes f.root) xs → All (λ f. HasRoot f.file.bytes f.root) ys → xs ≡ ys
rooteds_same [] [] e a b = refl
rooteds_same [] (y ∷ ys) e a b = absurd (cc)
rooteds_same (x ∷ xs) [] e a b = absurd (cc)
rooteds_same (x ∷ xs) (y ∷ ys) e a b =
    let file : x.file ≡ y.file = cc in
    let files : map file_in xs ≡ map file_in ys = cc in
    let root : x.root ≡ y.root = root_same y.file.bytes x.root y.root (subst (λ (f : File). HasRoot f.bytes x.root) file (a 0 x (omega arith))) (b 0 y (omega arith)) in
    let rest : xs ≡ ys = rooteds_same xs ys files (λ k d h. a (suc k) d (omega arith)) (λ k d h. b (suc k) d (omega arith)) in
    λ i. record { file = file i; root = root i } ∷ rest i

starts_same : (named : List File) (s t : State) → IsStart named s → IsStart named t → s ≡ t
starts_same named s t a b =
    let files : s.files ≡ t.files = rooteds_same s.files t.files (a.files ∙ sym b.files) a.roots b.roots in
    let sought : s.sought ≡ t.sought = a.sought ∙ sym b.sought in
    λ i. record { files = files i; sought = sought i }

module _ (listing : List ListedFile) (shelf : List ℕ → Option (List ℕ)) where
  step_same : (s t u : State) → Step listing (Some shelf) s t → Step listing (Some shelf) s u → t ≡ u
  step_same _ _ _ (passed s w n c) (passed _ v m d) = ap (λ (x : Want). seek s x.name) (same_Some w v (sym n ∙ m))
  step_same _ _ _ (passed s w n c) (found _ v d f asks is gives has) =
      let e : choice_of v listing ≡ None = subst (λ (x : Want). choice_of x listing ≡ None) (same_Some w v (sym n ∙ asks.next)) c in
      let g : choice_of v listing ≡ Some d = asks.chosen in
      absurd (cc)
  step_same _ _ _ (found s w c f asks is gives has) (passed _ v m d) =
      let e : choice_of w listing ≡ None = subst (λ (x : Want). choice_of x listing ≡ None) (same_Some v w (sym m ∙ asks.next)) d in
      let g : choice_of w listing ≡ Some c = asks.chosen in
      absurd (cc)
  step_same _ _ _ (found s w c f asks is gives has) (found _ v d g asks2 is2 gives2 has2) =
      let want : w ≡ v = same_Some w v (sym asks.next ∙ asks2.next) in
      let taken : c ≡ d = same_Some c d (sym asks.chosen ∙ ap (λ (x : Want). choice_of x listing) want ∙ asks2.chosen) in
      let name : f.file.name ≡ g.file.name = is ∙ ap (λ (x : Candidate). found_name x.file) taken ∙ sym is2 in
      let bytes : f.file.bytes ≡ g.file.bytes = same_Some f.file.bytes g.file.bytes (sym gives ∙ ap shelf name ∙ gives2) in
      let root : f.root ≡ g.root = root_same g.file.bytes f.root g.root (subst (λ (bs : List ℕ). HasRoot bs f.root) bytes has) has2 in
      λ i. with_file (seek s (want i).name) (record { file = record { name = name i; bytes = bytes i }; root = root i })

  no_step : (s t : State) → Step listing (Some shelf) s t → next s ≡ None → ⊥
  no_step _ _ (passed s w n c) e = absurd (cc)
  no_step _ _ (found s w c f asks is gives has) e = let n : next s ≡ Some w = asks.next in absurd (cc)

  record First (s t : State) : Type 0 where
    pub mid : State
    pub step : Step listing (Some shelf) s mid
    pub rest : Steps listing (Some shelf) mid t

  -- a run is empty, or it has a first step
  first_of : (s t : State) → Steps listing (Some shelf) s t → (t ≡ s) ⊎ First s t
  first_of s _ none_yet = inl refl
  first_of s _ (onward u v run step) = by (first_of s u run)
    where
      by : (u ≡ s) ⊎ First s u → (v ≡ s) ⊎ First s v
      by (inl e) = inr (record { mid = v; step = subst (λ (x : State). Step listing (Some shelf) x v) e step; rest = none_yet })
      by (inr f) = inr (record { mid = f.mid; step = f.step; rest = onward u v f.rest step })

  -- of two runs one goes on with the other
  meet : (start s t : State) → Steps listing (Some shelf) start s → Steps listing (Some shelf) start t → Steps listing (Some shelf) s t ⊎ Steps listing (Some shelf) t s
  meet start _ t none_yet other = inl other
  meet start _ t (onward u v run step) other = by (meet start u t run other)
    where
      longer : (t ≡ u) ⊎ First u t → Steps listing (Some shelf) v t ⊎ Steps listing (Some shelf) t v
      longer (inl e) = inr (subst (λ (x : State). Steps listing (Some shelf) x v) (sym e) (onward u v none_yet step))
      longer (inr f) = inl (subst (λ (x : State). Steps listing (Some shelf) x t) (step_same u f.mid v f.step step) f.rest)

      by : Steps listing (Some shelf) u t ⊎ Steps listing (Some shelf) t u → Steps listing (Some shelf) v t ⊎ Steps listing (Some shelf) t v
      by (inl p) = longer (first_of u t p)
      by (inr p) = inr (onward u v p step)

  ended : (s t : State) → Steps listing (Some shelf) s t → next s ≡ None → t ≡ s
  ended s t run done = by (first_of s t run)
    where
      by : (t ≡ s) ⊎ First s t → t ≡ s
      by (inl e) = e
      by (inr f) = absurd (no_step s f.mid f.step done)

  ends_same : (start s t : State) → Steps listing (Some shelf) start s → next s ≡ None → Steps listing (Some shelf) start t → next t ≡ None → s ≡ t
  ends_same start s t a done b over = by (meet start s t a b)
    where
      by : Steps listing (Some shelf) s t ⊎ Steps listing (Some shelf) t s → s ≡ t
      by (inl p) = sym (ended s t p done)
      by (inr p) = ended t s p over

  pub gathered_once : (named files others : List File) → AreGathered listing (Some shelf) named files → AreGathered listing (Some shelf) named others → files ≡ others
  gathered_once named files others a b =
      let p = a.reached in
      let q = b.reached in
      let start : q.start ≡ p.start = starts_same named q.start p.start q.begins p.begins in
      let run : Steps listing (Some shelf) p.start b.end = subst (λ (x : State). Steps listing (Some shelf) x b.end) start q.steps in
      a.files_are ∙ ap (λ (x : State). map file_in x.files) (ends_same p.start a.end b.end p.steps a.done run b.done) ∙ sym b.files_are
