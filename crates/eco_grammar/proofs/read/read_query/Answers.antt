use Rattle.eco_grammar.proofs.Common.{refl, subst, inl, inr, Some, IsFault, IsSpelled, SpellsQuery, HoldsSlots}
use Rattle.eco_grammar.proofs.Queried.{held_answered, held_few, held_over, held_proper}
use Rattle.eco_grammar.proofs.read.read_query.Goals as goal

pub returns-in-Err : goal.returns-in-Err
returns-in-Err g c =
    let fault : IsFault (IsSpelled SpellsQuery) c.args.text.now c.in-Err.at = rw c.as_bytes.ensures.value at c.in-Err.ensures.fault in
    inl (inr (c.in-Err.at, fault, refl))

pub returns-in_default : goal.returns-in_default
returns-in_default g c =
    let (slots, spelled, holds) = rw c.as_bytes.ensures.value at c.in-Ok.ensures.found in
    held_over _ _ slots spelled (subst (λ o. HoldsSlots o slots) c.in_default.ensures holds)

pub query_from-requires-clause-whole : goal.query_from-requires-clause-whole
query_from-requires-clause-whole g c =
    let (slots, spelled, holds) = c.in-Ok.ensures.found in
    let held : HoldsSlots (Some c.in-Some.marks.now) slots = subst (λ o. HoldsSlots o slots) c.in-Some.ensures holds in
    held.1

pub query_from-requires-clause-proper : goal.query_from-requires-clause-proper
query_from-requires-clause-proper g c =
    let (slots, spelled, holds) = c.in-Ok.ensures.found in
    held_proper _ slots c.in-Some.marks.now spelled (subst (λ o. HoldsSlots o slots) c.in-Some.ensures holds)

pub query_from-requires-clause-few : goal.query_from-requires-clause-few
query_from-requires-clause-few g c =
    let (slots, spelled, holds) = c.in-Ok.ensures.found in
    held_few slots c.in-Some.marks.now (subst (λ o. HoldsSlots o slots) c.in-Some.ensures holds)

pub returns : goal.returns
returns g c =
    let (slots, spelled, holds) = rw c.as_bytes.ensures.value at c.in-Ok.ensures.found in
    held_answered _ _ slots c.in-Some.marks.now _ spelled (subst (λ o. HoldsSlots o slots) c.in-Some.ensures holds) c.query_from.ensures
