-- What statements define, by their keywords.
use Rattle.std.proofs.Common.{◌≡◌, ℕ, Bool, true, false, Option, Some, None, List, refl, sym, ◌∙◌, ap, if◌then◌else◌}
use Rattle.yv_text_statement.specs.Keywords.{keyword_of, same, spelling}
use Rattle.yv_text_statement.specs.declared.keyword.Keyword.{Keyword}
use Rattle.yv_text_statement.specs.declared.keyword.Keyword.TheVariants as word
use Rattle.yv_text_statement.proofs.KeywordTexts.{is_by_text}
use Rattle.yv_link_scopes.specs.Files.{has_word}
use Rattle.yv_link_scopes.specs.Rows.{Row}
use Rattle.yv_link_scopes.specs.Tables.{word_of}
use Rattle.yv_link_scopes.specs.declared.kind.NameKind.{NameKind}
use Rattle.yv_link_scopes.specs.declared.kind.NameKind.TheVariants as kind
use Rattle.yv_link_scopes.proofs.Keywords.{differs}
use Rattle.yv_link_definitions.specs.Duplicates.{is_of, kind_defined}

abbrev choice : (feature identity extension typedef grouping : Bool) → Option NameKind
choice feature identity extension typedef grouping =
    if feature then Some kind.Feature
    else if identity then Some kind.Identity
    else if extension then Some kind.Extension
    else if typedef then Some kind.Typedef
    else if grouping then Some kind.Grouping
    else None

-- what a statement with the keyword defines
abbrev pub kind_of : Keyword → Option NameKind
kind_of k = choice (same k word.Feature) (same k word.Identity) (same k word.Extension) (same k word.Typedef) (same k word.Grouping)

pub kind_by_keyword : (r : Row) (k : Keyword) → k ≡ keyword_of r.head.keyword → kind_of k ≡ kind_defined r
kind_by_keyword r k e =
    ap kind_of e
    ∙ ap (λ b. choice b (says word.Identity) (says word.Extension) (says word.Typedef) (says word.Grouping)) (is_by_text text (word_of kind.Feature) word.Feature refl)
    ∙ ap (λ b. choice (is_of kind.Feature r) b (says word.Extension) (says word.Typedef) (says word.Grouping)) (is_by_text text (word_of kind.Identity) word.Identity refl)
    ∙ ap (λ b. choice (is_of kind.Feature r) (is_of kind.Identity r) b (says word.Typedef) (says word.Grouping)) (is_by_text text (word_of kind.Extension) word.Extension refl)
    ∙ ap (λ b. choice (is_of kind.Feature r) (is_of kind.Identity r) (is_of kind.Extension r) b (says word.Grouping)) (is_by_text text (word_of kind.Typedef) word.Typedef refl)
    ∙ ap (λ b. choice (is_of kind.Feature r) (is_of kind.Identity r) (is_of kind.Extension r) (is_of kind.Typedef r) b) (is_by_text text (word_of kind.Grouping) word.Grouping refl)
  where
    text : List ℕ
    text = r.head.keyword

    says : Keyword → Bool
    says k = same (keyword_of text) k

pub none_of : (k : Keyword) → same k word.Feature ≡ false → same k word.Identity ≡ false → same k word.Extension ≡ false → same k word.Typedef ≡ false → same k word.Grouping ≡ false → kind_of k ≡ None
none_of k f i e t g =
    ap (λ b. choice b (same k word.Identity) (same k word.Extension) (same k word.Typedef) (same k word.Grouping)) f
    ∙ ap (λ b. choice false b (same k word.Extension) (same k word.Typedef) (same k word.Grouping)) i
    ∙ ap (λ b. choice false false b (same k word.Typedef) (same k word.Grouping)) e
    ∙ ap (λ b. choice false false false b (same k word.Grouping)) t
    ∙ ap (λ b. choice false false false false b) g

-- a statement with another keyword hasn't the word
pub not_word : (r : Row) (found k : Keyword) (w : List ℕ) → found ≡ keyword_of r.head.keyword → spelling k ≡ Some w → (found ≡ k → ⊥) → has_word w r.head ≡ false
not_word r found k w e is unlike = sym (is_by_text r.head.keyword w k is) ∙ ap (λ x. same x k) (sym e) ∙ differs found k unlike

some_none : (k : NameKind) → Some k ≡ None → ⊥
some_none k e = cc

-- what defines nothing is no typedef and no grouping
no_two : (f i e t g : Bool) → choice f i e t g ≡ None → (t ≡ false) × (g ≡ false)
no_two true i e t g h = absurd (some_none kind.Feature h)
no_two false true e t g h = absurd (some_none kind.Identity h)
no_two false false true t g h = absurd (some_none kind.Extension h)
no_two false false false true g h = absurd (some_none kind.Typedef h)
no_two false false false false true h = absurd (some_none kind.Grouping h)
no_two false false false false false h = (refl, refl)

pub neither : (r : Row) → kind_defined r ≡ None → (is_of kind.Typedef r ≡ false) × (is_of kind.Grouping r ≡ false)
neither r h = no_two (is_of kind.Feature r) (is_of kind.Identity r) (is_of kind.Extension r) (is_of kind.Typedef r) (is_of kind.Grouping r) h
