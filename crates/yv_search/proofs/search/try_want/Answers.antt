use Rattle.std.proofs.Common.{◌≡◌, ◌∙◌, ◌||◌, ℕ, List, Bool, true, false, refl, sym, ap, subst, string_bytes}
use Rattle.std.specs.Str.{bytes_eq}
use Rattle.std.specs.BTreeSet.{contains_text}
use Rattle.std.specs.Option.{option_map}
use Rattle.std.proofs.lemmas.Slice.Eq.{bytes_eq-Decides}
use Rattle.std.proofs.lemmas.Bool.{false≢true}
use Rattle.yv_search.specs.Choice.{Candidate, choice_of}
use Rattle.yv_search.proofs.search.try_want.Goals as goal

-- what is settled already doesn't become more
same_set : (old : List ℕ → Bool) (name q : List ℕ) → old name ≡ true → old q ≡ (bytes_eq name q || old q)
same_set old name q e = by (bytes_eq name q) refl
  where
    by : (b : Bool) → bytes_eq name q ≡ b → old q ≡ (b || old q)
    by true h = subst (λ (n : List ℕ). old n ≡ true) ((bytes_eq-Decides name q).0 h) e
    by false h = refl

pub returns-then-contains : goal.returns-then-contains
returns-then-contains c = λ listing kept.
    let name : List ℕ = string_bytes c.args.wanted.now.name in
    let is_in : contains_text c.args.settled.now name ≡ true = ap (contains_text c.args.settled.now) (sym c.as_str.ensures.value) ∙ sym c.contains.ensures ∙ c.if-contains.true in
    record {
      settles = λ q. same_set (contains_text c.args.settled.now) name q is_in;
      known = λ h. refl;
      chosen = λ h. absurd (false≢true (sym h ∙ is_in));
    }

pub returns : goal.returns
returns c = λ listing kept.
    let name : List ℕ = string_bytes c.args.wanted.now.name in
    let is_out : contains_text c.args.settled.now name ≡ false = ap (contains_text c.args.settled.now) (sym c.as_str.ensures.value) ∙ sym c.contains.ensures ∙ c.if-contains.false in
    record {
      settles = λ q. c.in_ok-settle.ensures q ∙ ap (λ (n : List ℕ). bytes_eq n q || contains_text c.args.settled.now q) c.as_str-2.ensures.value;
      known = λ h. absurd (false≢true (sym is_out ∙ h));
      chosen = λ h. c.choose.ensures listing kept ∙ ap (λ w. option_map (λ (x : Candidate). x.file) (choice_of w listing)) (λ i. record { name = c.as_bytes.ensures.value i; date = c.date_of.ensures i });
    }
