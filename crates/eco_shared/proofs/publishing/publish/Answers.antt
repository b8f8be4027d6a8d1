use Rattle.eco_shared.proofs.Common.{◌≡◌, ◌∙◌, ap, fold, view, Shown, shown_state}
use Rattle.eco_shared.proofs.Keeps.{goes_on}
use Rattle.eco_shared.proofs.publishing.publish.Goals as goal

pub publish_as-requires : goal.publish_as-requires
publish_as-requires g c next is views h at =
    let writer = c.args.writer in
    let e : shown_state next ≡ shown_state c.args.op.value = is
    ∙ ap (fold (λ _ (o : Shown). shown_state o) (shown_state writer.desk.shown.value)) c.requires.pending in
    goes_on writer.desk.place.id (view writer.desk.place) writer.desk.shown.value c.args.op.value next c.requires.goes e views h at
