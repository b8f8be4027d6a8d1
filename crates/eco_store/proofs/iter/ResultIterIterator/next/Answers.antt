use Rattle.eco_store.proofs.AnswersCommon.{◌∷◌, [], map, sym, ap, ◌∙◌, shown}
use Rattle.std.proofs.lemmas.Option.{get_or_from_slice_get}
use Rattle.eco_store.proofs.Blocked.{rest_within}
use Rattle.eco_ids.specs.Answer as answers
use Rattle.eco_store.proofs.iter.ResultIterIterator.next.Goals as goal

pub invariant_of-self-2 : goal.invariant_of-self-2
invariant_of-self-2 c =
    rest_within c.self.inside.entries.now c.self.inside.rows c.in_ok-row.row c.next.new.self c.in_ok-row.ensures.steps
    c.self.invariant

pub returns-clause-steps : goal.returns-clause-steps
returns-clause-steps c =
    let all = c.self.inside.entries.now in
    let row = c.in_ok-row.row in
    sym c.self.view_is
    ∙ ap (map (shown all)) c.in_ok-row.ensures.steps
    ∙ ap (λ es. (let r : answers.Row = record { entity = row.entity; entries = es } in r) ∷ map (shown all) c.next.new.self)
    (get_or_from_slice_get all row.place c.get.result.now [] c.get.ensures)
