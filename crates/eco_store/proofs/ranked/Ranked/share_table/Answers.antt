use Rattle.eco_store.proofs.AnswersCommon.{ap, sym, ◌∙◌}
use Rattle.eco_store.specs.Ranked.{standing_ones}
use Rattle.eco_store.proofs.Ranking.{share_first}
use Rattle.eco_store.proofs.ranked.Ranked.share_table.Goals as goal

pub returns-in-Alone : goal.returns-in-Alone
returns-in-Alone c = λ yes.
    share_first c.args.self.now c.in-Alone.field-0.items c.args.one c.args.other (sym c.self.view_is ∙ ap standing_ones c.in-Alone.is)
    c.requires.one c.requires.other
