use Rattle.eco_store.proofs.AnswersCommon.{◌∙◌}
use Rattle.eco_store.proofs.Groups.{others_suffice}
use Rattle.eco_store.proofs.asking.AskingTypeTest.passes_found.Goals as goal

pub returns : goal.returns
returns c =
    c.others_hold.ensures
    ∙ others_suffice c.slots.result.now c.args.self.now.query.now c.slots.ensures c.args.group c.args.type_list.now c.requires.group
    c.requires.found
