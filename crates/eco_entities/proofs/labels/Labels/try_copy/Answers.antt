use Rattle.eco_entities.proofs.PageNames.{names_copied}
use Rattle.eco_entities.proofs.labels.Labels.try_copy.Goals as goal

pub returns : goal.returns
returns c = names_copied c.args.self.now.pages.items c.in_ok-pages.pages.items c.in_ok-pages.ensures.cases.0
