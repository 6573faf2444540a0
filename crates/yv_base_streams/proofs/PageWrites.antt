-- What becomes of a text on its way through a page.
use lib.Seq.{take-add, take-take}
use Rattle.std.proofs.Common.{◌≡◌, ℕ, ◌≤◌, ◌<◌, not, Bool, true, false, List, [], ◌∷◌, ◌++◌, drop, take, length, length-take, refl, sym, ap, subst, ◌∙◌, append_assoc, arith, ltb, ◌||◌, ◌+◌, ◌-◌}
use Rattle.std.specs.declared.option.Option.{Option}
use Rattle.std.specs.Io.KnownBytes.{Appends}
use Rattle.std.proofs.KnownBytes.{Appends-nil, Appends-trans}
use Rattle.std.proofs.lemmas.Bool.{false≢true, ltb-false}
use Rattle.std.proofs.lemmas.List.{append-nil, take-append-drop}
use Rattle.std.proofs.Math.Seq.{take-append_seam}
use Rattle.yv_base_streams.specs.declared.counted_stream.Counted.{Counted}
use Rattle.yv_base_streams.specs.Stream.{has_failed, stream_failures, stream_faults, stream_interrupts}
use Rattle.yv_base_streams.specs.Pages.{Output, output_of, IsPaged}

module _ (start : Option (List ℕ)) (text : List ℕ) where
  -- all of the page was written
  pub wholly : (before after : Option (List ℕ)) (had has : Bool) (wrong failures : ℕ) (page : List ℕ) → had ≡ false → IsPaged start text (output_of before had wrong page)
      → Appends before after page → failures ≤ 1 → IsPaged start text (output_of after has failures [])
  wholly before after had has wrong failures page works h more once = record {
    written = h.written ++ page;
    others = [];
    parts = h.parts ∙ ap (λ (l : List ℕ). h.written ++ l) (sym (h.in_page works)) ∙ sym (append-nil (h.written ++ page));
    appended = Appends-trans start before after h.written page h.appended more;
    once = once;
    in_page = λ e. refl;
  }

  -- its first bytes were, and then the writer failed
  pub partly : (before after : Option (List ℕ)) (had has : Bool) (wrong failures : ℕ) (page : List ℕ) (n : ℕ) → had ≡ false → has ≡ true
      → IsPaged start text (output_of before had wrong page) → Appends before after (take n page) → failures ≤ 1 → IsPaged start text (output_of after has failures page)
  partly before after had has wrong failures page n works fails h more once = record {
    written = h.written ++ take n page;
    others = drop n page;
    parts = h.parts ∙ ap (λ (l : List ℕ). h.written ++ l) (sym (h.in_page works) ∙ sym (take-append-drop n page)) ∙ sym (append_assoc h.written (take n page) (drop n page));
    appended = Appends-trans start before after h.written (take n page) h.appended more;
    once = once;
    in_page = λ e. absurd (false≢true (sym e ∙ fails));
  }

  -- one byte more
  pub pushed : (contents : Option (List ℕ)) (has : Bool) (failures : ℕ) (page new : List ℕ) (byte : ℕ) → IsPaged start text (output_of contents has failures page) → (has ≡ false → length page < 8192)
      → (length page < 8192 → new ≡ page ++ byte ∷ []) → IsPaged start (text ++ byte ∷ []) (output_of contents has failures new)
  pushed contents has failures page new byte h room put = record {
    written = h.written;
    others = h.others ++ byte ∷ [];
    parts = ap (λ (l : List ℕ). l ++ byte ∷ []) h.parts ∙ append_assoc h.written h.others (byte ∷ []);
    appended = h.appended;
    once = h.once;
    in_page = λ e. put (room e) ∙ ap (λ (l : List ℕ). l ++ byte ∷ []) (h.in_page e);
  }

-- more of some bytes was put behind the first of them
pub put_more : (start : Option (List ℕ)) (text xs : List ℕ) (count n : ℕ) (after : Output) → count ≤ length xs → n ≤ length (take (length xs - count) (drop count xs))
    → IsPaged start (text ++ take count xs ++ take n (take (length xs - count) (drop count xs))) after → IsPaged start (text ++ take (count + n) xs) after
put_more start text xs count n after within fits h =
    let most = length-take (length xs - count) (drop count xs) in
    let joined : take count xs ++ take n (take (length xs - count) (drop count xs)) ≡ take (count + n) xs =
    ap (λ (l : List ℕ). take count xs ++ l) (take-take n (length xs - count) (drop count xs) (omega arith)) ∙ sym (take-add count n xs) in
    let same : text ++ take count xs ++ take n (take (length xs - count) (drop count xs)) ≡ text ++ take (count + n) xs =
    append_assoc text (take count xs) (take n (take (length xs - count) (drop count xs))) ∙ ap (λ (l : List ℕ). text ++ l) joined in
    subst (λ (l : List ℕ). IsPaged start l after) same h

-- what was written of a text, where nothing else is to be written and where the writer has failed
pub all_written : (start contents : Option (List ℕ)) (text page : List ℕ) (has : Bool) (failures : ℕ) → IsPaged start text (output_of contents has failures page) → has ≡ false → page ≡ [] → Appends start contents text
all_written start contents text page has failures h works empty =
    subst (Appends start contents) (sym (h.parts ∙ ap (λ (l : List ℕ). h.written ++ l) (sym (h.in_page works) ∙ empty) ∙ append-nil h.written)) h.appended

pub front_written : (start contents : Option (List ℕ)) (text page : List ℕ) (has : Bool) (failures : ℕ) → IsPaged start text (output_of contents has failures page) → (n : ℕ) × Appends start contents (take n text)
front_written start contents text page has failures h =
    (length h.written, subst (Appends start contents) (sym (ap (take (length h.written)) h.parts ∙ take-append_seam h.written h.others)) h.appended)

-- at the start nothing is written, and the page is empty
pub none_written : (start : Option (List ℕ)) (has : Bool) (failures : ℕ) (page : List ℕ) → page ≡ [] → failures ≤ 1 → IsPaged start [] (output_of start has failures page)
none_written start has failures page empty once =
    record { written = []; others = []; parts = refl; appended = Appends-nil start; once = once; in_page = λ e. empty }

pub not_failed : (b : Bool) → not b ≡ true → b ≡ false
not_failed false e = refl
not_failed true e = absurd (false≢true e)

-- one call of the writer failed at most
pub once_written : (start contents : Option (List ℕ)) (text page : List ℕ) (has : Bool) (failures : ℕ) → IsPaged start text (output_of contents has failures page) → failures ≤ 1
once_written start contents text page has failures h = h.once

none_failed : (faults interrupts : ℕ) (a b : Bool) → ltb 0 faults ≡ a → ltb 1000 interrupts ≡ b → (a || b) ≡ false → faults + (interrupts - 1000) ≤ 1
none_failed faults interrupts true b p q works = absurd (false≢true (sym works))
none_failed faults interrupts false true p q works = absurd (false≢true (sym works))
none_failed faults interrupts false false p q works =
    let no_fault : faults ≤ 0 = ltb-false 0 faults p in
    let borne : interrupts ≤ 1000 = ltb-false 1000 interrupts q in
    omega arith

-- no call of a writer that hasn't failed did
pub not_failed_yet : {T : Type 0} (w : Counted T) → has_failed w ≡ false → stream_failures w ≤ 1
not_failed_yet w works =
    none_failed (stream_faults w) (stream_interrupts w) (ltb 0 (stream_faults w)) (ltb 1000 (stream_interrupts w)) refl refl works
