-- What is left of a text that is put piece by piece.
use Rattle.std.proofs.Common.{◌≡◌, ℕ, true, List, ◌++◌, sym, ap, ◌∙◌, append_assoc, subst}
use Rattle.std.specs.declared.option.Option.{Option}
use Rattle.std.proofs.lemmas.Bool.{false≢true}
use Rattle.yv_base_streams.specs.Pages.{Adds, Output, IsPaged}
use Rattle.yv_tree.specs.InnerDraw.{Leaves}

-- the first of what was left was put
pub left_less : (all first rest : List ℕ) (old mid new : Output) → Leaves all (first ++ rest) old mid → Adds first mid new → Leaves all rest old new
left_less all first rest old mid new before put = λ last a. before last
    (λ start text h. subst (λ (l : List ℕ). IsPaged start l last) (append_assoc text first rest) (a start (text ++ first) (put start text h)))

-- once a paper has failed, any bytes may be put
pub lost : (start : Option (List ℕ)) (text bytes : List ℕ) (h : Output) → h.has_failed ≡ true → IsPaged start text h → IsPaged start (text ++ bytes) h
lost start text bytes h fails paged = record {
  written = paged.written;
  others = paged.others ++ bytes;
  parts = ap (λ (l : List ℕ). l ++ bytes) paged.parts ∙ append_assoc paged.written paged.others bytes;
  appended = paged.appended;
  once = paged.once;
  in_page = λ e. absurd (false≢true (sym e ∙ fails));
}
