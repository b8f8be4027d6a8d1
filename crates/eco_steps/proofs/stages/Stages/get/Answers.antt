use Rattle.eco_steps.proofs.Common.{map, None, Some, option_map, ap, ◌∙◌, view, stage_in, commands_view}
use Rattle.eco_steps.proofs.Values.{kept_each, kept_get}
use Rattle.eco_steps.proofs.stages.Stages.get.Goals as goal

pub read_again-requires : goal.read_again-requires
read_again-requires c =
    let self = c.args.self.now in
    kept_each (stage_in self.edition) (map view self.values.now) c.args.place (view c.in_ok-value.value.now) self.are_stages c.in_ok-value.ensures

pub returns : goal.returns
returns c =
    let self = c.args.self.now in
    c.read_again.ensures ∙ kept_get (stage_in self.edition) (map view self.values.now) c.args.place (Some (view c.in_ok-value.value.now)) self.are_stages
    c.in_ok-value.ensures

pub returns-in_err-value : goal.returns-in_err-value
returns-in_err-value c =
    let self = c.args.self.now in
    ap (option_map commands_view) c.from_residual.ensures
    ∙ kept_get (stage_in self.edition) (map view self.values.now) c.args.place None self.are_stages c.in_err-value.ensures
