-- A text that is put part by part.
use Rattle.std.proofs.Common.{◌≡◌, ℕ, List, [], ◌∷◌, ◌++◌, false, codes, map, sym, ◌∙◌, append_assoc, subst}
use Rattle.std.proofs.lemmas.Grind.{flat_map-append}
use Rattle.yv_nodes.specs.declared.node.NodeId.{NodeId}
use Rattle.yv_nodes.specs.Rows.{Module, Rows}
use Rattle.yv_base_streams.specs.Pages.{Adds, Output, IsPaged}
use Rattle.yv_tree.specs.DrawnNodes.{drawn_nodes}
use Rattle.yv_tree.specs.Diagram.{text_of, tops}
use Rattle.yv_tree.specs.DrawnDiagram.{drawn_augment, drawn_lines, drawn_tops, sheet_of, spaced_sections, tops_section}
use Rattle.yv_tree.specs.InnerTops.{AreReady}
use Rattle.yv_tree.specs.declared.sections.Part.TheVariants.{Data, Rpcs, Notifications}
use Rattle.yv_tree_drawing.specs.Trees.{DrawingAsked}

-- one text was put and then another: both were put
pub adds_both : (first rest : List ℕ) (old mid new : Output) → Adds first old mid → Adds rest mid new → Adds (first ++ rest) old new
adds_both first rest old mid new put others = λ start text h.
    subst (λ (l : List ℕ). IsPaged start l new) (append_assoc text first rest) (others start (text ++ first) (put start text h))

pub text_append : (xs ys : List (List ℕ)) → text_of (xs ++ ys) ≡ text_of xs ++ text_of ys
text_append xs ys = flat_map-append (λ (line : List ℕ). line ++ 10 ∷ []) xs ys

-- some lines were put and then others: all of them were put
pub lines_both : (first rest : List (List ℕ)) (old mid new : Output) → Adds (text_of first) old mid → Adds (text_of rest) mid new → Adds (text_of (first ++ rest)) old new
lines_both first rest old mid new put others = subst (λ (l : List ℕ). Adds l old new) (sym (text_append first rest))
    (adds_both (text_of first) (text_of rest) old mid new put others)

-- the parts of a diagram
abbrev pub data_part : Rows → ℕ → DrawingAsked → List NodeId → List (List ℕ)
data_part s own d cs = drawn_nodes (sheet_of s own d) false d.depth (codes "  ") (drawn_tops s own d cs)

abbrev pub augments_part : Rows → ℕ → DrawingAsked → List (List ℕ)
augments_part s own d = spaced_sections d.columns (map (drawn_augment s own d) s.augments)

-- the header, the data nodes and the sections were put: the diagram was
pub all_put : (s : Rows) (name : List ℕ) (own : ℕ) (d : DrawingAsked) (h0 h1 h2 h3 h4 h5 : Output) → Adds (codes "module: " ++ name ++ codes "\n") h0 h1
    → Adds (text_of (data_part s own d (tops s own Data))) h1 h2 → Adds (text_of (augments_part s own d)) h2 h3
    → Adds (text_of (tops_section s own d (codes "rpcs") (tops s own Rpcs))) h3 h4 → Adds (text_of (tops_section s own d (codes "notifications") (tops s own Notifications))) h4 h5
    → Adds (text_of (drawn_lines s name own d)) h0 h5
all_put s name own d h0 h1 h2 h3 h4 h5 header nodes augments rpcs notifications =
    let top = (codes "module: " ++ name) ∷ data_part s own d (tops s own Data) in
    let added_group = augments_part s own d in
    let called = tops_section s own d (codes "rpcs") (tops s own Rpcs) in
    let told = tops_section s own d (codes "notifications") (tops s own Notifications) in
    let upper : Adds (text_of top) h0 h2 = adds_both (codes "module: " ++ name ++ codes "\n") (text_of (data_part s own d (tops s own Data))) h0 h1 h2 header nodes in
    lines_both (top ++ added_group ++ called) told h0 h4 h5
    (lines_both (top ++ added_group) called h0 h3 h4 (lines_both top added_group h0 h2 h3 upper augments) rpcs) notifications

-- the same of what is at hand before a diagram is drawn
pub ready_put : (s : Rows) (m : Module) (modules : List Module) (own : ℕ) (d : DrawingAsked) (name value : List ℕ) (data_nodes rpcs notifications ds rs ns : List NodeId) (h0 h1 h2 h3 h4 h5 : Output)
    → AreReady s m.module_file modules data_nodes rpcs notifications → text_of (drawn_lines s m.name m.module_file d) ≡ value → own ≡ m.module_file → name ≡ m.name
    → ds ≡ data_nodes → rs ≡ rpcs → ns ≡ notifications → Adds (codes "module: " ++ name ++ codes "\n") h0 h1
    → Adds (text_of (data_part s own d ds)) h1 h2 → Adds (text_of (augments_part s own d)) h2 h3
    → Adds (text_of (tops_section s own d (codes "rpcs") rs)) h3 h4 → Adds (text_of (tops_section s own d (codes "notifications") ns)) h4 h5 → Adds value h0 h5
ready_put s m modules own d name value data_nodes rpcs notifications ds rs ns h0 h1 h2 h3 h4 h5 ready value_is own_is name_is ds_are rs_are ns_are header nodes augments called told =
    subst (λ (l : List ℕ). Adds l h0 h5) value_is (all_put s m.name m.module_file d h0 h1 h2 h3 h4 h5
    (subst (λ (l : List ℕ). Adds (codes "module: " ++ l ++ codes "\n") h0 h1) name_is header)
    (subst (λ (l : List NodeId). Adds (text_of (data_part s m.module_file d l)) h1 h2) (ds_are ∙ ready.data_tops.all)
    (subst (λ (o : ℕ). Adds (text_of (data_part s o d ds)) h1 h2) own_is nodes))
    (subst (λ (o : ℕ). Adds (text_of (augments_part s o d)) h2 h3) own_is augments)
    (subst (λ (l : List NodeId). Adds (text_of (tops_section s m.module_file d (codes "rpcs") l)) h3 h4) (rs_are ∙ ready.rpc_tops.all)
    (subst (λ (o : ℕ). Adds (text_of (tops_section s o d (codes "rpcs") rs)) h3 h4) own_is called))
    (subst (λ (l : List NodeId). Adds (text_of (tops_section s m.module_file d (codes "notifications") l)) h4 h5) (ns_are ∙ ready.notification_tops.all)
    (subst (λ (o : ℕ). Adds (text_of (tops_section s o d (codes "notifications") ns)) h4 h5) own_is told)))
