use Rattle.eco_frame.proofs.Common.{Some, ap, sym, ◌∙◌}
use Rattle.eco_frame.proofs.Columns.{run_shows}
use Rattle.eco_frame.proofs.Shown.{found}
use Rattle.eco_frame.proofs.row_columns.RowColumns.show.Goals as goal

pub share_entries-requires-clause-one : goal.share_entries-requires-clause-one
share_entries-requires-clause-one c =
    let run = c.args.self.now in
    let at =
    sym (found run.entities.now c.args.row (Some c.in-Some.other) c.in-Some.ensures.lookup)
    ∙ ap (λ e. Some e) (c.is.ensures.exact.0 c.if-is.true) in
    (c.requires.run.shown c.args.row c.args.entity at).there

pub returns-then-is-clause-stands : goal.returns-then-is-clause-stands
returns-then-is-clause-stands c = λ shared.
    sym (found c.args.self.now.entities.now c.args.row (Some c.in-Some.other) c.in-Some.ensures.lookup)
    ∙ ap (λ e. Some e) (c.is.ensures.exact.0 c.if-is.true)

pub returns-then-is-clause-shows : goal.returns-then-is-clause-shows
returns-then-is-clause-shows c = λ shared.
    let run = c.args.self.now in
    let at =
    sym (found run.entities.now c.args.row (Some c.in-Some.other) c.in-Some.ensures.lookup)
    ∙ ap (λ e. Some e) (c.is.ensures.exact.0 c.if-is.true) in
    run_shows run c.requires.run c.args.row c.args.place c.args.entity at c.requires.own (c.share_entries.ensures shared)
