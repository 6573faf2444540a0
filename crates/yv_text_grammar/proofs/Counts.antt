-- Which keywords stand among the first children.
use Rattle.std.proofs.Common.{◌≡◌, ℕ, ◌+◌, ◌<◌, Bool, true, false, ◌||◌, ◌&&◌, not, List, [], ◌∷◌, Some, length, take, get_or, sym, ◌∙◌, ap, refl, arith}
use Rattle.std.specs.List.{slice_get, list_any}
use Rattle.std.proofs.lemmas.List.Folds.{list_any_more}
use Rattle.std.proofs.lemmas.List.{take_all}
use Rattle.std.proofs.lemmas.Option.{slice_get_within, get_or_from_slice_get}
use Rattle.yv_text_statement.specs.Keywords.{same}
use Rattle.yv_text_grammar.specs.Table.{Rows, is_one}
use Rattle.yv_text_grammar.specs.Refusals.{has, keyword_at}
use Rattle.yv_text_statement.specs.Tree.{Tree}
use Rattle.yv_text_statement.specs.declared.keyword.Keyword.{Keyword}

or_comm : (a b : Bool) → (a || b) ≡ (b || a)
or_comm true true = refl
or_comm true false = refl
or_comm false true = refl
or_comm false false = refl

pub has_more : (cs : List Tree) (n : ℕ) (c : Tree) (kind : Keyword) → kind ≡ keyword_at c → slice_get cs n ≡ Some c → (old new : Keyword → Bool) → ((k : Keyword) → old k ≡ has k (take n cs)) → ((k : Keyword) → new k ≡ (same kind k || old k)) → (k : Keyword) → new k ≡ has k (take (n + 1) cs)
has_more cs n c kind is at_n old new so_far added k =
    let below : n < length cs = slice_get_within cs n c at_n in
    let item : get_or cs n c ≡ c = get_or_from_slice_get cs n c c at_n in
    let more : has k (take (n + 1) cs) ≡ (has k (take n cs) || same (keyword_at (get_or cs n c)) k) = list_any_more (λ x. same (keyword_at x) k) cs n c below in
    added k ∙ or_comm (same kind k) (old k) ∙ rw (so_far k, is) (sym (rw item at more))

-- what is missing by the marks is missing among the children
pub missing_is : (rows : Rows) (cs : List Tree) (seen : Keyword → Bool) → ((k : Keyword) → seen k ≡ has k cs) → list_any (λ r. is_one r.1 && not (seen r.0)) rows ≡ list_any (λ r. is_one r.1 && not (has r.0 cs)) rows
missing_is [] cs seen h = refl
missing_is (r ∷ rows) cs seen h = rw (h r.0, missing_is rows cs seen h)

pub all_seen : (cs : List Tree) (n : ℕ) → n ≡ length cs → (seen : Keyword → Bool) → ((k : Keyword) → seen k ≡ has k (take n cs)) → (k : Keyword) → seen k ≡ has k cs
all_seen cs n e seen h k = h k ∙ ap (has k) (take_all n cs (omega (arith, e)))
