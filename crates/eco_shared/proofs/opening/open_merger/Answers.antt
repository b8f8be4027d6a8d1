use Rattle.eco_shared.proofs.Common.{[], ◌∷◌, ◌≡◌, ◌∙◌, Some, ap, arith, length, rules, sym, mark_of_book, Knows, Merge}
use Rattle.std.proofs.lemmas.List.{length-append}
use Rattle.eco_histories.specs.declared.front.Front.{Front}
use Rattle.eco_shared.proofs.Repeats.{none_keeps}
use Rattle.eco_shared.proofs.opening.open_merger.Goals as goal

pub invariant_of-result : goal.invariant_of-result
invariant_of-result g c =
    let knows = c.in_ok-writer.ensures.known in
    let begun = ap (λ (f : Front Merge). mark_of_book f.seen.book) c.in_ok-writer.ensures.front in
    record {
      known = (ap (λ (v : Knows). v.known) knows, ap (λ (v : Knows). v.mark) knows ∙ sym begun);
      head_is = search rules;
      titled = search rules;
      clear = λ runs. ap length c.in_ok-writer.ensures.pending;
      keeps_up = none_keeps _;
    }

pub returns-clause-world : goal.returns-clause-world
returns-clause-world g c = c.in_ok-writer.ensures.world

pub returns-clause-start : goal.returns-clause-start
returns-clause-start g c = ap (λ (v : Knows). v.start) c.in_ok-writer.ensures.known

pub returns-clause-history : goal.returns-clause-history
returns-clause-history g c = ap (λ (f : Front Merge). f.seen.log) c.in_ok-writer.ensures.front ∙ c.begin-head.ensures.empty

pub returns-clause-title : goal.returns-clause-title
returns-clause-title g c =
    let there : c.enrol.result ≡ Some c.in_ok-title.title = search rules in
    let some = rw there at c.enrol.ensures.some in
    let longer = ap length some.2 ∙ length-append c.args.registry.now.front.seen.log (mark_of_book c.begin-head.result.1.seen.book ∷ []) in
    (some.0, omega (arith, longer))

pub returns-clause-registry : goal.returns-clause-registry
returns-clause-registry g c = c.enrol.ensures.grown
