use Rattle.eco_traits.proofs.Common.{◌≡◌, ◌∙◌, refl, sym, option_to_list}
use Rattle.eco_traits.proofs.Noted.{notes_more, too_many}
use Rattle.eco_traits.proofs.few.note_targets.Goals.{in-Some+in_ok-note, in_default}
use Rattle.eco_traits.proofs.few.note_targets.Goals as goal
use Rattle.eco_traits.specs.Walk.{with_others}

pub loop-id-preserved : goal.loop-id-preserved
loop-id-preserved c =
    let at = c.loop-id in
    let put : c.match-target_by.few ≡ with_others at.few (option_to_list c.target_by.result) =
    elim c.match-target_by.branch [
      | in-Some+in_ok-note w ↦ rw (w.few-is, w.in-Some.is) w.in_ok-note.ensures.noted
      | in_default w ↦ rw (w.few-is, w.in_default.is) refl
    ] in
    notes_more c.args.few.now at.few c.match-target_by.few c.args.ids.now at.id-index _ c.target_by.result c.args.relationship c.loop-id-test.true
    c.target_by.ensures at.invariant put

pub returns-in_err-note-clause-full : goal.returns-in_err-note-clause-full
returns-in_err-note-clause-full c =
    rw c.from_residual.ensures
    (too_many c.args.few.now c.loop-id.few c.args.ids.now c.loop-id.id-index _ c.in-Some.target c.args.relationship c.loop-id-test.true
    (sym c.in-Some.is ∙ c.target_by.ensures) c.loop-id.invariant c.in_err-note.ensures.full)
