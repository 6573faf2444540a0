use Rattle.std.proofs.Common.{◌≡◌, ℕ, ◌+◌, ◌<◌, ◌++◌, ◌∷◌, [], List, length, get_or, Option, Some, None, refl, sym, ◌∙◌, ap, subst, arith, append_assoc}
use Rattle.std.proofs.lemmas.List.{append-nil, get_or_read}
use Rattle.yv_base_tables.specs.InnerChains.{Leads}
use Rattle.yv_base_tables.proofs.NumberChains.{left, leads_one, leads_here, leads_none, leads_fall}
use Rattle.yv_base_tables.proofs.chains.Chains.write.Goals as goal

pub loop-next-init : goal.loop-next-init
loop-next-init c =
    let next : List (Option ℕ) = c.args.self.now.next.items in
    let first : c.index-next.result.now ≡ get_or c.args.self.now.firsts.items c.args.place None = get_or_read _ _ _ c.requires.place c.index-next.ensures None in
    record {
      least = 0;
      rest = c.requires.chain.0;
      leads = subst (λ (o : Option ℕ). Leads next 0 o c.requires.chain.0) (sym first) c.requires.chain.1;
      whole = λ ks h. ap (λ l. c.args.numbers.now.items ++ l) (leads_one next 0 0 _ c.requires.chain.0 ks c.requires.chain.1 h);
    }

pub index-next-requires-in-Some : goal.index-next-requires-in-Some
index-next-requires-in-Some c =
    let here = leads_here c.args.self.now.next.items c.loop-next.invariant.least c.loop-next.next c.in-Some.number c.loop-next.invariant.rest c.in-Some.is c.loop-next.invariant.leads in
    omega (arith, here.0)

pub loop-next-smaller : goal.loop-next-smaller
loop-next-smaller c =
    let next : List (Option ℕ) = c.args.self.now.next.items in
    let k : ℕ = c.in-Some.number in
    let here = leads_here next c.loop-next.invariant.least c.loop-next.next k c.loop-next.invariant.rest c.in-Some.is c.loop-next.invariant.leads in
    let on : c.index-next-in-Some.result.now ≡ get_or next k None = get_or_read next k _ here.0 c.index-next-in-Some.ensures None in
    subst (λ (o : Option ℕ). left (length next) c.index-next-in-Some.result.now < left (length next) o) (sym c.in-Some.is)
    (subst (λ (o : Option ℕ). left (length next) o < left (length next) (Some k)) (sym on) (leads_fall next (k + 1) k (get_or next k None) here.1 here.0 refl here.3))

pub loop-next-preserved : goal.loop-next-preserved
loop-next-preserved c =
    let next : List (Option ℕ) = c.args.self.now.next.items in
    let k : ℕ = c.in-Some.number in
    let here = leads_here next c.loop-next.invariant.least c.loop-next.next k c.loop-next.invariant.rest c.in-Some.is c.loop-next.invariant.leads in
    let on : c.index-next-in-Some.result.now ≡ get_or next k None = get_or_read next k _ here.0 c.index-next-in-Some.ensures None in
    record {
      least = k + 1;
      rest = here.1;
      leads = subst (λ (o : Option ℕ). Leads next (k + 1) o here.1) (sym on) here.3;
      whole = λ ks h.
          ap (λ l. l ++ here.1) c.in_ok-push.ensures.items
          ∙ append_assoc c.loop-next.numbers.items (k ∷ []) here.1
          ∙ ap (λ l. c.loop-next.numbers.items ++ l) (sym here.2)
          ∙ c.loop-next.invariant.whole ks h;
    }

pub returns : goal.returns
returns c = λ ks h.
    sym (append-nil c.loop-next.numbers.items)
    ∙ ap (λ l. c.loop-next.numbers.items ++ l) (sym (leads_none c.args.self.now.next.items c.loop-next.invariant.least c.loop-next.next c.loop-next.invariant.rest c.in_default.is c.loop-next.invariant.leads))
    ∙ c.loop-next.invariant.whole ks h
