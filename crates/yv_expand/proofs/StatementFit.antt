-- The numbered statements of files that conform fit, each in the block of some parent.
use Rattle.std.proofs.Common.{◌≡◌, ◌≢◌, ℕ, zero, suc, Bool, true, false, List, [], ◌∷◌, ◌++◌, if◌then◌else◌, Some, refl, sym, ap, ◌∙◌, subst, ◌||◌}
use Rattle.std.specs.List.{list_any, slice_get}
use Rattle.std.specs.Str.{bytes_eq}
use Rattle.std.proofs.lemmas.Bool.{false≢true}
use Rattle.std.proofs.lemmas.Option.{same_Some}
use Rattle.yv_text_statement.specs.Tree.{Tree, Forest, Then, End, trees}
use Rattle.yv_text_statement.specs.declared.keyword.Keyword.{Keyword}
use Rattle.yv_text_statement.specs.declared.keyword.Keyword.TheVariants as word
use Rattle.yv_text_statement.specs.Keywords.{keyword_in, keyword_of, names}
use Rattle.yv_text_grammar.specs.Refusals.{is_module, keyword_at}
use Rattle.yv_text_grammar.specs.Fits.{FitsIn, extension, plain}
use Rattle.yv_text_grammar.specs.declared.xpath.Xpath.TheVariants.{Skip}
use Rattle.yv_link_scopes.specs.Files.{Files}
use Rattle.yv_link_scopes.specs.Rows.{is_extended}
use Rattle.yv_link_scopes.specs.RowList.{inner_statements, statements_in, statements_of}
use Rattle.yv_expand.specs.Conformance.{Conform}

first : (a b : Bool) → (a || b) ≡ false → a ≡ false
first true b h = h
first false b h = refl

second : (a b : Bool) → (a || b) ≡ false → b ≡ false
second true b h = absurd (false≢true (sym h))
second false b h = h

abbrev AllFit : List Tree → Type 0
AllFit [] = Unit {0}
AllFit (c ∷ cs) = ((parent : Keyword) × FitsIn Skip parent c) × AllFit cs

both_fit : (xs ys : List Tree) → AllFit xs → AllFit ys → AllFit (xs ++ ys)
both_fit [] ys p q = q
both_fit (x ∷ xs) ys p q = (p.0, both_fit xs ys p.1 q)

fits_at : (xs : List Tree) (k : ℕ) (c : Tree) → AllFit xs → slice_get xs k ≡ Some c → (parent : Keyword) × FitsIn Skip parent c
fits_at [] k c p at = cc
fits_at (x ∷ xs) zero c p at = subst (λ (y : Tree). (parent : Keyword) × FitsIn Skip parent y) (same_Some x c at) p.0
fits_at (x ∷ xs) (suc k) c p at = fits_at xs k c p.1 at

abbrev is_of_extension : Keyword → Bool
is_of_extension word.Extended = true
is_of_extension _ = false

not_in : (ns : List (List ℕ × Keyword)) (text : List ℕ) → list_any (λ n. is_of_extension n.1) ns ≡ false → keyword_in ns text ≢ word.Extended
not_in [] text none e = false≢true (ap is_of_extension e)
not_in (n ∷ ns) text none e =
    by (bytes_eq n.0 text) (not_in ns text (second (is_of_extension n.1) (list_any (λ m. is_of_extension m.1) ns) none)) e
  where
    by : (b : Bool) → keyword_in ns text ≢ word.Extended → (if b then n.1 else keyword_in ns text) ≡ word.Extended → ⊥
    by true others same = false≢true (sym (first (is_of_extension n.1) (list_any (λ m. is_of_extension m.1) ns) none) ∙ ap is_of_extension same)
    by false others same = others same

-- a keyword without a colon is no extension's
not_extended : (text : List ℕ) → is_extended text ≡ false → keyword_of text ≢ word.Extended
unfolding keyword_of
not_extended text no_colon e = not_in names text refl (sym (ap (λ b. if b then word.Extended else keyword_in names text) no_colon) ∙ e)

inner_fit : (extended : Bool) (text : List ℕ) (cs : Forest) → is_extended text ≡ extended → (is_extended text ≡ false → AllFit (statements_in cs))
    → AllFit (if extended then [] else statements_in cs)
inner_fit true text cs e all = tt
inner_fit false text cs e all = all e

children_fit : (parent : Keyword) (t : Tree) → FitsIn Skip parent t → keyword_at t ≢ word.Extended → (k : ℕ) (c : Tree)
    → slice_get (trees t.children) k ≡ Some c → FitsIn Skip (keyword_at t) c
children_fit parent t (extension e) other k c at = absurd (other e)
children_fit parent t (plain own counted each) other k c at = each k c at

-- all numbered statements of a block
block_fits : (parent : Keyword) (block : Forest) → ((k : ℕ) (c : Tree) → slice_get (trees block) k ≡ Some c → FitsIn Skip parent c) → AllFit (statements_in block)
block_fits parent End fit = tt
block_fits parent (Then h c o) fit =
    let s : Tree = record { head = h; children = c } in (
      (parent, fit 0 s refl),
      both_fit (if is_extended h.keyword then [] else statements_in c) (statements_in o)
          (inner_fit (is_extended h.keyword) h.keyword c refl (λ no_colon. block_fits (keyword_of h.keyword) c
          (children_fit parent s (fit 0 s refl) (not_extended h.keyword no_colon))))
          (block_fits parent o (λ k x at. fit (suc k) x at)),
    )

-- a root that fits is a module or a submodule
module_word : (t : Tree) → is_module (keyword_at t) ≡ true → keyword_at t ≢ word.Extended
module_word t is e = false≢true (sym (ap is_module e) ∙ is)

inner_all_fit : (files : Files) → Conform files → AllFit (inner_statements files)
inner_all_fit [] fine = tt
inner_all_fit (t ∷ ts) fine =
    both_fit (statements_in t.children) (inner_statements ts)
    (block_fits (keyword_at t) t.children (children_fit word.Unknown t (fine 0 t refl).1 (module_word t (fine 0 t refl).0)))
    (inner_all_fit ts (λ n u at. fine (suc n) u at))

root_all_fit : (files : Files) → Conform files → AllFit files
root_all_fit [] fine = tt
root_all_fit (t ∷ ts) fine = ((word.Unknown, (fine 0 t refl).1), root_all_fit ts (λ n u at. fine (suc n) u at))

pub statement_fits : (files : Files) (k : ℕ) (t : Tree) → Conform files → slice_get (statements_of files) k ≡ Some t → (parent : Keyword) × FitsIn Skip parent t
statement_fits files k t fine at =
    fits_at (statements_of files) k t (both_fit files (inner_statements files) (root_all_fit files fine) (inner_all_fit files fine)) at
