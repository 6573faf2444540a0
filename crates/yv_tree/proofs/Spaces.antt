-- Sections, and the empty lines between them.
use Rattle.std.proofs.Common.{◌≡◌, ◌==◌, codes, append_assoc, if◌then◌else◌, Option, ℕ, suc, arith, ◌+◌, ◌<◌, ◌≤◌, Bool, true, false, List, [], ◌∷◌, ◌++◌, length, drop, get_or, refl, sym, ap, ◌∙◌, subst, append-nil, map}
use Rattle.std.specs.List.{flat_map}
use Rattle.std.proofs.lemmas.List.{drop_all}
use Rattle.std.proofs.Math.Seq.{drop-cons}
use Rattle.std.proofs.lemmas.Bool.{false≢true}
use Rattle.yv_nodes.specs.declared.node.NodeId.{NodeId}
use Rattle.yv_nodes.specs.Rows.{Rows, forest}
use Rattle.yv_tree.specs.Columns.{Sheet}
use Rattle.yv_tree.specs.Diagram.{text_of}
use Rattle.yv_tree.specs.DrawnDiagram.{drawn_section, spaced_sections}
use Rattle.yv_tree.specs.DrawnNodes.{drawn_nodes}
use Rattle.yv_tree.specs.InnerPart.{trimmed_trees}
use Rattle.yv_tree.proofs.Parts.{adds_both, text_append}
use Rattle.yv_tree_drawing.specs.Steps.{Step}
use Rattle.yv_tree.specs.InnerDraw.{Leaves}
use Rattle.yv_tree.specs.InnerSections.{apart, next_due, spaced_from}
use Rattle.yv_base_streams.specs.Pages.{Adds, IsPaged, Output}
use Rattle.yv_tree.proofs.TextRemainder.{left_less}

-- behind the first section in columns no empty line is due
close : (sections : List (List (List ℕ))) → spaced_from true false sections ≡ flat_map (λ (section : List (List ℕ)). section) sections
close [] = refl
close ([] ∷ sections) = close sections
close ((l ∷ ls) ∷ sections) = ap (λ (more : List (List ℕ)). l ∷ ls ++ more) (close sections)

-- sections as they are spaced
pub spaced_is : (columns : Bool) (sections : List (List (List ℕ))) → spaced_from columns true sections ≡ spaced_sections columns sections
spaced_is columns [] = refl
spaced_is columns ([] ∷ sections) = spaced_is columns sections
spaced_is true ((l ∷ ls) ∷ sections) = ap (λ (more : List (List ℕ)). [] ∷ l ∷ ls ++ more) (close sections)
spaced_is false ((l ∷ ls) ∷ sections) = ap (λ (more : List (List ℕ)). [] ∷ l ∷ ls ++ more) (spaced_is false sections)

drop_here : {X : Type 0} (xs : List X) (i : ℕ) (d : X) → i < length xs → drop i xs ≡ get_or xs i d ∷ drop (i + 1) xs
drop_here xs i d lt =
    let next : suc i ≡ i + 1 = omega arith in
    drop-cons xs i d lt ∙ ap (λ k. get_or xs i d ∷ drop k xs) next

-- a section more was put
pub section_step : {X : Type 0} (f : X → List (List ℕ)) (columns due next : Bool) (xs : List X) (i : ℕ) (d : X) (all : List ℕ) (old mid new : Output) → i < length xs
    → next ≡ next_due columns due (f (get_or xs i d))
    → Leaves all (text_of (spaced_from columns due (map f (drop i xs)))) old mid → Adds (text_of (apart due (f (get_or xs i d)))) mid new
    → Leaves all (text_of (spaced_from columns next (map f (drop (i + 1) xs)))) old new
section_step f columns due next xs i d all old mid new lt to before put =
    let x = get_or xs i d in
    let rest = map f (drop (i + 1) xs) in
    let front : drop i xs ≡ x ∷ drop (i + 1) xs = drop_here xs i d lt in
    let same : text_of (spaced_from columns due (map f (drop i xs))) ≡ text_of (apart due (f x)) ++ text_of (spaced_from columns next rest) =
    ap (λ ys. text_of (spaced_from columns due (map f ys))) front
    ∙ text_append (apart due (f x)) (spaced_from columns (next_due columns due (f x)) rest)
    ∙ ap (λ (b : Bool). text_of (apart due (f x)) ++ text_of (spaced_from columns b rest)) (sym to) in
    left_less all (text_of (apart due (f x))) (text_of (spaced_from columns next rest)) old mid new (subst (λ (l : List ℕ). Leaves all l old mid) same before) put

-- all sections were put
pub sections_end : {X : Type 0} (f : X → List (List ℕ)) (columns due : Bool) (xs : List X) (i : ℕ) (all : List ℕ) (old new : Output) → length xs ≤ i
    → Leaves all (text_of (spaced_from columns due (map f (drop i xs)))) old new → Adds all old new
sections_end f columns due xs i all old new ends before =
    let none : text_of (spaced_from columns due (map f (drop i xs))) ≡ [] = ap (λ ys. text_of (spaced_from columns due (map f ys))) (drop_all i xs ends) in
    before new (subst (λ (l : List ℕ). Adds l new new) (sym none) nothing)
  where
    nothing : Adds [] new new
    nothing = λ start text h. subst (λ (l : List ℕ). IsPaged start l new) (sym (append-nil text)) h

-- a section with nodes has its title and their lines
pub with_nodes : (sheet : Sheet) (in_choice : Bool) (depth : Option ℕ) (title : List ℕ) (s : Rows) (way : List Step) (cs : List NodeId) → (length cs == 0) ≡ false
    → drawn_section sheet in_choice depth title (trimmed_trees way (forest s cs))
    ≡ (codes "  " ++ title ++ codes ":") ∷ drawn_nodes sheet in_choice depth (codes "    ") (trimmed_trees way (forest s cs))
with_nodes sheet in_choice depth title s way [] some = absurd (false≢true (sym some))
with_nodes sheet in_choice depth title s way (c ∷ cs) some = refl

section_text : (due : Bool) (line : List ℕ) (lines : List (List ℕ)) → text_of (apart due (line ∷ lines)) ≡ (if due then codes "\n" else []) ++ ((line ++ 10 ∷ []) ++ text_of lines)
section_text true line lines = refl
section_text false line lines = refl

-- the parts of a section were put
pub section_put : (due : Bool) (word argument : List ℕ) (section lines : List (List ℕ)) (feed : List ℕ) (h0 h1 h2 h3 h4 h5 h6 : Output)
    → section ≡ (codes "  " ++ (word ++ argument) ++ codes ":") ∷ lines → feed ≡ (if due then codes "\n" else [])
    → Adds feed h0 h1 → Adds (codes "  ") h1 h2 → Adds word h2 h3 → Adds argument h3 h4 → Adds (codes ":\n") h4 h5 → Adds (text_of lines) h5 h6
    → Adds (text_of (apart due section)) h0 h6
section_put due word argument section lines feed h0 h1 h2 h3 h4 h5 h6 is feed_is fed blanks worded argued ended below =
    let title = codes "  " ++ (word ++ argument) in
    let titled : Adds (title ++ codes ":\n") h1 h5 =
    adds_both title (codes ":\n") h1 h4 h5 (adds_both (codes "  ") (word ++ argument) h1 h2 h4 blanks (adds_both word argument h2 h3 h4 worded argued)) ended in
    let line : Adds ((title ++ codes ":") ++ 10 ∷ []) h1 h5 = subst (λ (l : List ℕ). Adds l h1 h5) (sym (append_assoc title (codes ":") (10 ∷ []))) titled in
    let all : Adds (feed ++ (((title ++ codes ":") ++ 10 ∷ []) ++ text_of lines)) h0 h6 =
    adds_both feed (((title ++ codes ":") ++ 10 ∷ []) ++ text_of lines) h0 h1 h6 fed (adds_both ((title ++ codes ":") ++ 10 ∷ []) (text_of lines) h1 h5 h6 line below) in
    let same : text_of (apart due section) ≡ feed ++ (((title ++ codes ":") ++ 10 ∷ []) ++ text_of lines) =
    ap (λ (ls : List (List ℕ)). text_of (apart due ls)) is ∙ section_text due (title ++ codes ":") lines
    ∙ ap (λ (l : List ℕ). l ++ (((title ++ codes ":") ++ 10 ∷ []) ++ text_of lines)) (sym feed_is) in
    subst (λ (l : List ℕ). Adds l h0 h6) (sym same) all
