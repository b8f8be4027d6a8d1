use Rattle.eco_shared.proofs.Common.{◌≡◌, ◌∙◌, ap, fold, view, Shown, shown_state}
use Rattle.eco_shared.proofs.Keeps.{opens}
use Rattle.eco_shared.proofs.opening.publish_opening.Goals as goal

pub publish_as-requires : goal.publish_as-requires
publish_as-requires g c next is views h at =
    let writer = c.args.writer in
    let e : shown_state next ≡ shown_state c.args.again.value = is
    ∙ ap (fold (λ _ (o : Shown). shown_state o) (shown_state writer.desk.shown.value)) c.requires.pending in
    opens writer.desk.place.id (view writer.desk.place) writer.desk.shown.value next c.requires.none (e ∙ c.requires.same) views h at
