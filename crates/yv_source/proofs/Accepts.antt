-- The machine takes what the grammar spells.
use Rattle.std.proofs.Common.{◌≡◌, ℕ, ◌+◌, ◌<◌, ◌≤◌, Bool, true, cond, List, [], ◌∷◌, ◌++◌, length, Option, Some, None, nat_lt, refl, sym, ◌∙◌, ap, inl, inr, arith, append_assoc}
use Rattle.yv_text_statement.specs.Tree.{Head, Forest, End, Then, Tree}
use Rattle.yv_source.specs.Pieces.{Piece, Blank, LineComment, BlockComment, Word, Single, Double, Semicolon, Open, Close, Plus, Token}
use Rattle.yv_source.specs.Grammar.{IsHead, Says, IsJoined, IsArgument, IsBody, Spells, SpellsOne, depth}
use Rattle.yv_source.specs.Inner.Machine.{is_keyword, Step, Next, Wrong, Deep, finish, between, after_argument, after_quoted, after_plus, after_keyword, step, run_tokens}
use Rattle.yv_text_statement.specs.Builder.{join_forests, push_child, with_argument, with_more, extend}
use Rattle.yv_source.specs.Place.{column_of}
use Rattle.yv_source.specs.declared.machine.Phase.{Phase}
use Rattle.yv_source.specs.declared.machine.Phase.TheVariants.{Between, Named, Argued, Said, Joined, Done}
use Rattle.yv_source.proofs.Keyword.{keyword_test}

-- a statement with more behind its children
abbrev pub with_children : Tree → Forest → Tree
with_children t f = record { head = t.head; children = join_forests t.children f }

pub join_forests-assoc : (f g h : Forest) → join_forests (join_forests f g) h ≡ join_forests f (join_forests g h)
join_forests-assoc End g h = refl
join_forests-assoc (Then x c o) g h = ap (Then x c) (join_forests-assoc o g h)

join_forests-end : (f : Forest) → join_forests f End ≡ f
join_forests-end End = refl
join_forests-end (Then x c o) = ap (Then x c) (join_forests-end o)

pub append_nil : {T : Type 0} (xs : List T) → xs ++ [] ≡ xs
append_nil [] = refl
append_nil (x ∷ xs) = ap (λ l. x ∷ l) (append_nil xs)

regroup : {T : Type 0} (k : T) (a b o more : List T) → (k ∷ (a ++ (b ++ o))) ++ more ≡ k ∷ (a ++ (b ++ (o ++ more)))
regroup k a b o more = ap (λ l. k ∷ l) (append_assoc a (b ++ o) more ∙ ap (λ l. a ++ l) (append_assoc b o more))

abbrev opened : Head → Tree
opened h = record { head = record { keyword = h.keyword; argument = None; line = h.line; offset = h.offset }; children = End }

abbrev tree : Head → Forest → Tree
tree h c = record { head = h; children = c }

cond_true : {T : Type 0} (b : Bool) (x y : T) → b ≡ true → cond b x y ≡ x
cond_true b x y e = ap (λ v. cond v x y) e

-- the keyword
takes_head : (limit : ℕ) (stack : List Tree) (k : Token) (h : Head) → IsHead k h → length stack < limit → step limit stack Between k ≡ Next (opened h ∷ stack) Named
takes_head limit stack k h (piece, key, line, offset) room =
    ap (between limit stack k.front) piece
    ∙ cond_true (is_keyword h.keyword) _ Wrong (keyword_test h.keyword key)
    ∙ cond_true (nat_lt (length stack) limit) _ Deep (grind arith)
    ∙ ap (λ (x : Tree). Next (x ∷ stack) Named) (λ i. record { head = record { keyword = h.keyword; argument = None; line = sym line i; offset = sym offset i }; children = End })

-- behind a keyword, with or without an argument
abbrev pub IsReady : Phase → Type 0
IsReady Between = ⊥
IsReady Named = Unit {0}
IsReady Argued = Unit {0}
IsReady Said = Unit {0}
IsReady Joined = ⊥
IsReady Done = ⊥

-- where a quoted text is taken
abbrev pub WantsText : Phase → Type 0
WantsText Between = ⊥
WantsText Named = Unit {0}
WantsText Argued = ⊥
WantsText Said = ⊥
WantsText Joined = Unit {0}
WantsText Done = ⊥

-- a quoted text
named_takes : (front : List ℕ) (p : Piece) (text : List ℕ) (t : Tree) (below : List Tree) → Says front p text → after_keyword (column_of front) (t ∷ below) p ≡ Next (with_more text t ∷ below) Said
named_takes front (Word w) text t below s = absurd s
named_takes front (Single w) text t below s = ap (λ x. Next (with_more x t ∷ below) Said) (sym s)
named_takes front (Double w) text t below s = ap (λ x. Next (with_more x t ∷ below) Said) (sym s)
named_takes front (Blank b) text t below s = absurd s
named_takes front (LineComment b) text t below s = absurd s
named_takes front (BlockComment b) text t below s = absurd s
named_takes front Semicolon text t below s = absurd s
named_takes front Open text t below s = absurd s
named_takes front Close text t below s = absurd s
named_takes front Plus text t below s = absurd s

joined_takes : (front : List ℕ) (p : Piece) (text : List ℕ) (t : Tree) (below : List Tree) → Says front p text → after_plus (column_of front) (t ∷ below) p ≡ Next (with_more text t ∷ below) Said
joined_takes front (Word w) text t below s = absurd s
joined_takes front (Single w) text t below s = ap (λ x. Next (with_more x t ∷ below) Said) (sym s)
joined_takes front (Double w) text t below s = ap (λ x. Next (with_more x t ∷ below) Said) (sym s)
joined_takes front (Blank b) text t below s = absurd s
joined_takes front (LineComment b) text t below s = absurd s
joined_takes front (BlockComment b) text t below s = absurd s
joined_takes front Semicolon text t below s = absurd s
joined_takes front Open text t below s = absurd s
joined_takes front Close text t below s = absurd s
joined_takes front Plus text t below s = absurd s

takes_text : (limit : ℕ) (phase : Phase) (k : Token) (text : List ℕ) (t : Tree) (below : List Tree) → WantsText phase → Says k.front k.piece text → step limit (t ∷ below) phase k ≡ Next (with_more text t ∷ below) Said
takes_text limit Between k text t below w s = absurd w
takes_text limit Named k text t below w s = named_takes k.front k.piece text t below s
takes_text limit Argued k text t below w s = absurd w
takes_text limit Said k text t below w s = absurd w
takes_text limit Joined k text t below w s = joined_takes k.front k.piece text t below s
takes_text limit Done k text t below w s = absurd w

extended-append : (o : Option (List ℕ)) (a b : List ℕ) → extend (Some (extend o a)) b ≡ extend o (a ++ b)
extended-append None a b = refl
extended-append (Some x) a b = append_assoc x a b

-- quoted texts that are joined
takes_joined : (limit : ℕ) (phase : Phase) (ts : List Token) (text : List ℕ) (t : Tree) (below : List Tree) (more : List Token) → WantsText phase → IsJoined ts text → run_tokens limit (Next (t ∷ below) phase) (ts ++ more) ≡ run_tokens limit (Next (with_more text t ∷ below) Said) more
takes_joined limit phase [] text t below more w s = absurd s
takes_joined limit phase (k ∷ []) text t below more w s =
    ap (λ (x : Step). run_tokens limit x more) (takes_text limit phase k text t below w s)
takes_joined limit phase (k ∷ p ∷ ts) text t below more w (first, others, is, says, plus, rest) =
    ap (λ (x : Step). run_tokens limit x (p ∷ (ts ++ more))) (takes_text limit phase k first t below w says)
    ∙ ap (λ (q : Piece). run_tokens limit (after_quoted (with_more first t ∷ below) q) (ts ++ more)) plus
    ∙ takes_joined limit Joined ts others (with_more first t) below more tt rest
    ∙ ap (λ (x : List ℕ). run_tokens limit (Next (with_argument x t ∷ below) Said) more) (extended-append t.head.argument first others ∙ ap (extend t.head.argument) (sym is))

-- an argument, or none
abbrev Taken : ℕ → Head → List Tree → List Token → List Token → Type 0
Taken limit h stack argument more =
    (phase : Phase) × IsReady phase × (run_tokens limit (Next (opened h ∷ stack) Named) (argument ++ more) ≡ run_tokens limit (Next (tree h End ∷ stack) phase) more)

takes_argument : (limit : ℕ) (h : Head) (stack : List Tree) (argument : List Token) (o : Option (List ℕ)) (more : List Token) → h.argument ≡ o → IsArgument argument o → Taken limit h stack argument more
takes_argument limit h stack [] None more e s =
    (Named, tt, ap (λ (x : Option (List ℕ)). run_tokens limit (Next (tree (record { keyword = h.keyword; argument = x; line = h.line; offset = h.offset }) End ∷ stack) Named) more) (sym e))
takes_argument limit h stack [] (Some text) more e s = absurd s
takes_argument limit h stack (t ∷ ts) None more e s = absurd s
takes_argument limit h stack (t ∷ ts) (Some text) more e (inl (is, none)) = (
  Argued,
  tt,
  ap (λ (l : List Token). run_tokens limit (after_keyword (column_of t.front) (opened h ∷ stack) t.piece) (l ++ more)) none
      ∙ ap (λ (p : Piece). run_tokens limit (after_keyword (column_of t.front) (opened h ∷ stack) p) more) is
      ∙ ap (λ (x : Option (List ℕ)). run_tokens limit (Next (tree (record { keyword = h.keyword; argument = x; line = h.line; offset = h.offset }) End ∷ stack) Argued) more) (sym e),
)
takes_argument limit h stack (t ∷ ts) (Some text) more e (inr s) = (
  Said,
  tt,
  takes_joined limit Named (t ∷ ts) text (opened h) stack more tt s
      ∙ ap (λ (x : Option (List ℕ)). run_tokens limit (Next (tree (record { keyword = h.keyword; argument = x; line = h.line; offset = h.offset }) End ∷ stack) Said) more) (sym e),
)

-- a semicolon or an opened block, with or without an argument
takes_mark : (limit : ℕ) (t : Tree) (stack : List Tree) (phase : Phase) (k : Token) (more : List Token) → IsReady phase → k.piece ≡ Semicolon → run_tokens limit (Next (t ∷ stack) phase) (k ∷ more) ≡ run_tokens limit (finish t stack) more
takes_mark limit t stack Between k more r e = absurd r
takes_mark limit t stack Named k more r e = ap (λ (p : Piece). run_tokens limit (after_keyword (column_of k.front) (t ∷ stack) p) more) e
takes_mark limit t stack Argued k more r e = ap (λ (p : Piece). run_tokens limit (after_argument (t ∷ stack) p) more) e
takes_mark limit t stack Said k more r e = ap (λ (p : Piece). run_tokens limit (after_quoted (t ∷ stack) p) more) e
takes_mark limit t stack Joined k more r e = absurd r
takes_mark limit t stack Done k more r e = absurd r

takes_open : (limit : ℕ) (t : Tree) (stack : List Tree) (phase : Phase) (k : Token) (more : List Token) → IsReady phase → k.piece ≡ Open → run_tokens limit (Next (t ∷ stack) phase) (k ∷ more) ≡ run_tokens limit (Next (t ∷ stack) Between) more
takes_open limit t stack Between k more r e = absurd r
takes_open limit t stack Named k more r e = ap (λ (p : Piece). run_tokens limit (after_keyword (column_of k.front) (t ∷ stack) p) more) e
takes_open limit t stack Argued k more r e = ap (λ (p : Piece). run_tokens limit (after_argument (t ∷ stack) p) more) e
takes_open limit t stack Said k more r e = ap (λ (p : Piece). run_tokens limit (after_quoted (t ∷ stack) p) more) e
takes_open limit t stack Joined k more r e = absurd r
takes_open limit t stack Done k more r e = absurd r

-- the machine goes over the tokens of statements inside an open one
abbrev GoesOver : Forest → Type 0
GoesOver f =
    (limit : ℕ) (p : Tree) (below : List Tree) (ts more : List Token) → Spells f ts → depth f + (1 + length below) ≤ limit →
    run_tokens limit (Next (p ∷ below) Between) (ts ++ more) ≡ run_tokens limit (Next (with_children p f ∷ below) Between) more

takes_body : (limit : ℕ) (h : Head) (c : Forest) (stack : List Tree) (phase : Phase) (body more : List Token) → IsReady phase → GoesOver c → IsBody (Spells c) c body → depth c + (1 + length stack) ≤ limit → run_tokens limit (Next (tree h End ∷ stack) phase) (body ++ more) ≡ run_tokens limit (finish (tree h c) stack) more
takes_body limit h c stack phase body more ready over (inl (t, is, mark, none)) d =
    ap (λ (l : List Token). run_tokens limit (Next (tree h End ∷ stack) phase) (l ++ more)) is
    ∙ takes_mark limit (tree h End) stack phase t more ready mark
    ∙ ap (λ (f : Forest). run_tokens limit (finish (tree h f) stack) more) (sym none)
takes_body limit h c stack phase body more ready over (inr (t, inner, u, is, opens, closes, spells)) d =
    ap (λ (l : List Token). run_tokens limit (Next (tree h End ∷ stack) phase) (l ++ more)) is
    ∙ takes_open limit (tree h End) stack phase t ((inner ++ u ∷ []) ++ more) ready opens
    ∙ ap (λ (l : List Token). run_tokens limit (Next (tree h End ∷ stack) Between) l) (append_assoc inner (u ∷ []) more)
    ∙ over limit (tree h End) stack inner (u ∷ more) spells d
    ∙ ap (λ (p : Piece). run_tokens limit (between limit (tree h c ∷ stack) u.front p) more) closes

takes_one : (limit : ℕ) (h : Head) (c : Forest) (stack : List Tree) (k : Token) (argument body more : List Token) → GoesOver c → IsHead k h → IsArgument argument h.argument → IsBody (Spells c) c body → depth c + (1 + length stack) ≤ limit → run_tokens limit (Next stack Between) (k ∷ (argument ++ (body ++ more))) ≡ run_tokens limit (finish (tree h c) stack) more
takes_one limit h c stack k argument body more over head says is_body d =
    let a = takes_argument limit h stack argument h.argument (body ++ more) refl says in
    ap (λ (s : Step). run_tokens limit s (argument ++ (body ++ more))) (takes_head limit stack k h head (omega (arith, d)))
    ∙ a.2
    ∙ takes_body limit h c stack a.0 body more a.1 over is_body d

pub goes_over : (f : Forest) → GoesOver f
goes_over End limit p below ts more s d =
    ap (λ (l : List Token). run_tokens limit (Next (p ∷ below) Between) (l ++ more)) s
    ∙ ap (λ (f : Forest). run_tokens limit (Next (record { head = p.head; children = f } ∷ below) Between) more) (sym (join_forests-end p.children))
goes_over (Then h c o) limit p below ts more (k, argument, body, others, is, head, says, is_body, rest) d =
    ap (λ (l : List Token). run_tokens limit (Next (p ∷ below) Between) (l ++ more)) is
    ∙ ap (λ (l : List Token). run_tokens limit (Next (p ∷ below) Between) l) (regroup k argument body others more)
    ∙ takes_one limit h c (p ∷ below) k argument body (others ++ more) (goes_over c) head says is_body (grind arith)
    ∙ goes_over o limit (push_child p (tree h c)) below others more rest (grind arith)
    ∙ ap (λ (f : Forest). run_tokens limit (Next (record { head = p.head; children = f } ∷ below) Between) more) (join_forests-assoc p.children (Then h c End) o)

-- The machine reads a statement from its tokens, where the limit allows its depth.
pub accepts : (limit : ℕ) (t : Tree) (ts : List Token) → SpellsOne t ts → depth t.children + 1 ≤ limit → run_tokens limit (Next [] Between) ts ≡ Next (t ∷ []) Done
accepts limit t ts (k, argument, body, others, is, head, says, is_body, rest) d =
    ap (run_tokens limit (Next [] Between)) (is ∙ ap (λ l. k ∷ (argument ++ (body ++ l))) rest)
    ∙ takes_one limit t.head t.children [] k argument body [] (goes_over t.children) head says is_body (omega (arith, d))
