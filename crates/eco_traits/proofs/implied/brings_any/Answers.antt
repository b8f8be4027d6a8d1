use Rattle.eco_traits.proofs.Common.{ap, ◌∙◌, list_any, is_with}
use Rattle.eco_traits.proofs.Traits.{with_among}
use Rattle.eco_traits.proofs.implied.brings_any.Goals as goal

pub returns : goal.returns
returns c = with_among c.args.ids.now c.any_with.result (c.any_with.ensures ∙ ap (list_any is_with) c.as_slice.ensures.ids)
