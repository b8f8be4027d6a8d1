use Rattle.eco_traits.proofs.Common.{ap, ◌∙◌, list_any, is_trait}
use Rattle.eco_traits.proofs.Traits.{traits_among}
use Rattle.eco_traits.proofs.prospect.has_trait.Goals as goal

pub returns : goal.returns
returns c = traits_among c.args.edition c.args.ids.now c.any_trait.result (c.any_trait.ensures ∙ ap (list_any (is_trait c.args.edition)) c.as_slice.ensures.ids)
