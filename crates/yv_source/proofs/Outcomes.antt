-- What a text comes to, where the reader stops.
use Rattle.std.proofs.Common.{◌≡◌, ℕ, ◌+◌, ◌-◌, ◌≤◌, List, [], ◌∷◌, ◌++◌, length, Option, Some, None, sym, ◌∙◌, ap, subst, inl, inr, arith, length-append}
use Rattle.yv_text_statement.specs.Tree.{Tree}
use Rattle.yv_source.specs.Pieces.{slice, Before, Apart, MayStand, behind, IsUncut, Token, token, tokens}
use Rattle.yv_source.specs.Grammar.{depth, SpellsOne, Goes, GoesWithin}
use Rattle.yv_source.specs.Escapes.{IsNewer}
use Rattle.yv_source.specs.Outcome.{Outcome, Statement, BadToken, BadSyntax, TooDeep, BadEscape, ComesTo, Why, StandsAt}
use Rattle.yv_source.specs.Inner.Place.{Place}
use Rattle.yv_source.specs.Inner.Machine.{Step, Next, Wrong, Deep, step, run_tokens}
use Rattle.yv_source.specs.Inner.Scan.{before_of}
use Rattle.yv_source.specs.Inner.Turn.{past_found, turn}
use Rattle.yv_source.specs.Inner.Pairs.{bad_on}
use Rattle.yv_source.proofs.Pairs.{IsFirstBad}
use Rattle.yv_source.specs.Inner.End.{ended_in}
use Rattle.yv_source.specs.declared.machine.Phase.{Phase}
use Rattle.yv_source.specs.declared.machine.Phase.TheVariants.{Between, Named, Argued, Said, Joined, Done}
use Rattle.yv_source.specs.declared.scan.Before.{Before as Left}
use Rattle.yv_source.specs.declared.scan.FoundPiece.{FoundPiece}
use Rattle.yv_source.proofs.ReadProgress.{place_after, ReadsTo, spelling, spelled_by, tokens-append, tokens_one, advances}
use Rattle.yv_source.proofs.Turns.{Looks}
use Rattle.yv_source.proofs.Verdict.{Stands, goes_so_far, goes_no_further, goes_too_deep, deep_goes, spelled_end, done_end, behind_all}

none_some : (t : Tree) → None ≡ Some t → ⊥
none_some t e = cc

some_tree : Tree → Option Tree → Tree
some_tree d None = d
some_tree d (Some t) = t

some_same : (t u : Tree) → Some t ≡ Some u → t ≡ u
unfolding some_tree
some_same t u e = ap (some_tree t) e

wrong_next : (stack : List Tree) (phase : Phase) → Wrong ≡ Next stack phase → ⊥
wrong_next stack phase e = cc

deep_next : (stack : List Tree) (phase : Phase) → Deep ≡ Next stack phase → ⊥
deep_next stack phase e = cc

-- at the end of a statement there is that one alone
ended_stands : (ts : List Token) (stack : List Tree) (phase : Phase) (u : Tree) → Stands ts stack phase → ended_in phase stack ≡ Some u → Stands ts (u ∷ []) Done
ended_stands ts [] Done u s e = absurd (none_some u e)
ended_stands ts (t ∷ []) Done u s e = record { runs = s.runs ∙ ap (λ (x : Tree). Next (x ∷ []) Done) (some_same t u e) }
ended_stands ts (t ∷ v ∷ below) Done u s e = absurd (behind_all 64 ts (t ∷ v ∷ below) Done s.runs)
ended_stands ts stack Between u s e = absurd (none_some u e)
ended_stands ts stack Named u s e = absurd (none_some u e)
ended_stands ts stack Argued u s e = absurd (none_some u e)
ended_stands ts stack Said u s e = absurd (none_some u e)
ended_stands ts stack Joined u s e = absurd (none_some u e)

ended_at : Step → Option Tree
ended_at (Next stack phase) = ended_in phase stack
ended_at Wrong = None
ended_at Deep = None

ended_by : (stack : List Tree) (phase : Phase) (t : Tree) → Next stack phase ≡ Next (t ∷ []) Done → ended_in phase stack ≡ Some t
unfolding ended_at
ended_by stack phase t e = ap ended_at e

module _ (front body : List ℕ) (place : Place) (bad : Option ℕ) (left : Left) (stack : List Tree) (phase : Phase) (r : ReadsTo front body place bad left stack phase) where
  abbrev done : List ℕ
  done = front ++ spelling r.pieces

  stands_at : place.at ≡ length front + (length body - length r.rest)
  stands_at =
      let s = ap length (spelled_by Apart body r.pieces r.rest r.cut) in
      omega (arith, r.at_is, s, length-append front (spelling r.pieces), length-append (spelling r.pieces) r.rest)

  comes : (o : Outcome) → Why front r.pieces (behind Apart r.pieces) r.rest o → StandsAt (length front + (length body - length r.rest)) o → ComesTo front body o
  comes o why at_o =
      record { pieces = r.pieces; rest = r.rest; cut = r.cut; goes = goes_so_far (tokens front r.pieces) stack phase r.stands; why = why; place = at_o }

  pub uncut_here : IsUncut (before_of left) r.rest → ComesTo front body (BadToken place.at)
  uncut_here u =
      let P : Before → Type 0 = λ b. IsUncut b r.rest in
      comes (BadToken place.at) (subst P (sym r.before) u) stands_at

  whole_here : (u : Tree) → ended_in phase stack ≡ Some u → SpellsOne u (tokens front r.pieces) × (depth u.children + 1 ≤ 64)
  whole_here u is = done_end (tokens front r.pieces) u (ended_stands (tokens front r.pieces) stack phase u r.stands is)

  pub ends_here : (u : Tree) → r.rest ≡ [] → ended_in phase stack ≡ Some u → (IsNewer u.children → bad ≡ None) → ComesTo front body (Statement u)
  ends_here u e is none =
      let d = whole_here u is in
      let P : Option ℕ → Type 0 = λ b. IsFirstBad b (tokens front r.pieces) in
      comes (Statement u) (e, d.0, d.1, λ n. subst P (none n) r.bad_is) tt

  pub escapes_here : (u : Tree) (n : ℕ) → r.rest ≡ [] → ended_in phase stack ≡ Some u → IsNewer u.children → bad ≡ Some n → ComesTo front body (BadEscape n)
  escapes_here u n e is new some =
      let d = whole_here u is in
      let P : Option ℕ → Type 0 = λ b. IsFirstBad b (tokens front r.pieces) in
      comes (BadEscape n) (e, u, d.0, d.1, new, subst P some r.bad_is) tt

  pub stops_here : r.rest ≡ [] → ended_in phase stack ≡ None → ComesTo front body (BadSyntax place.at)
  stops_here e is =
      comes (BadSyntax place.at)
      (inl (e, λ t spells. none_some t (sym is ∙ ended_by stack phase t (spelled_end (tokens front r.pieces) stack phase t r.stands spells)))) stands_at

  -- the token that is refused
  next_token : (f : FoundPiece) (l : Looks (front ++ body) done r.rest place (before_of left) stack phase f) → (run_tokens 64 (Next stack phase) (token done l.piece) ≡ Next stack phase → ⊥) → tokens front (r.pieces ++ l.piece ∷ []) ≡ tokens front r.pieces ++ record { front = done; piece = l.piece } ∷ []
  next_token f l moves =
      tokens-append front r.pieces (l.piece ∷ []) ∙ ap (λ x. tokens front r.pieces ++ x) (tokens_one done l.piece)
      ∙ elim l.kind [
        | inl e ↦ absurd (moves (ap (run_tokens 64 (Next stack phase)) e))
        | inr e ↦ ap (λ x. tokens front r.pieces ++ x) e
      ]

  steps : (f : FoundPiece) (l : Looks (front ++ body) done r.rest place (before_of left) stack phase f) → (run_tokens 64 (Next stack phase) (token done l.piece) ≡ Next stack phase → ⊥) → step 64 stack phase (record { front = done; piece = l.piece }) ≡ turn (front ++ body) f stack phase place
  steps f l moves =
      elim l.kind [
        | inl e ↦ absurd (moves (ap (run_tokens 64 (Next stack phase)) e))
        | inr e ↦ sym (l.does ∙ ap (run_tokens 64 (Next stack phase)) e)
      ]

  pub wrong_here : (f : FoundPiece) (l : Looks (front ++ body) done r.rest place (before_of left) stack phase f) → turn (front ++ body) f stack phase place ≡ Wrong → ComesTo front body (BadSyntax place.at)
  wrong_here f l e =
      let moves : run_tokens 64 (Next stack phase) (token done l.piece) ≡ Next stack phase → ⊥ = λ x. wrong_next stack phase (sym e ∙ l.does ∙ x) in
      let M : Before → Type 0 = λ b. MayStand b l.piece l.begins.more in
      let G : List Token → Type 0 = λ ts. Goes ts in
      comes (BadSyntax place.at)
      (inr (
        l.piece,
        (l.begins.more, l.begins.is, subst M (sym r.before) l.begins.may),
        λ g. goes_no_further (tokens front r.pieces) stack phase (record { front = done; piece = l.piece }) r.stands (steps f l moves ∙ e) (subst G (next_token f l moves) g),
      ))
      stands_at

  pub deep_here : (f : FoundPiece) (l : Looks (front ++ body) done r.rest place (before_of left) stack phase f) → turn (front ++ body) f stack phase place ≡ Deep → ComesTo front body (TooDeep place.at)
  deep_here f l e =
      let moves : run_tokens 64 (Next stack phase) (token done l.piece) ≡ Next stack phase → ⊥ = λ x. deep_next stack phase (sym e ∙ l.does ∙ x) in
      let M : Before → Type 0 = λ b. MayStand b l.piece l.begins.more in
      let G : List Token → Type 0 = λ ts. Goes ts in
      let W : List Token → Type 0 = λ ts. GoesWithin 64 ts in
      let t : Token = record { front = done; piece = l.piece } in
      let is = next_token f l moves in
      comes (TooDeep place.at) (
        l.piece,
        (l.begins.more, l.begins.is, subst M (sym r.before) l.begins.may),
        subst G (sym is) (deep_goes (tokens front r.pieces) stack phase t r.stands (steps f l moves ∙ e)),
        λ g. goes_too_deep (tokens front r.pieces) stack phase t r.stands (steps f l moves ∙ e) (subst W is g),
      )
      stands_at

  -- one piece on
  pub on : (f : FoundPiece) (l : Looks (front ++ body) done r.rest place (before_of left) stack phase f) (left' : Left) (stack' : List Tree) (phase' : Phase) → before_of left' ≡ past_found (before_of left) f → turn (front ++ body) f stack phase place ≡ Next stack' phase' → ReadsTo front body (place_after place (slice l.piece)) (bad_on bad (length done) l.piece) left' stack' phase'
  on f l left' stack' phase' b e =
      advances front body place bad left stack phase r l.piece l.begins.more left' stack' phase' l.begins.is l.begins.may l.utf8 (sym (b ∙ l.next)) (sym l.does ∙ e)
