use Rattle.eco_store.proofs.AnswersCommon.{◌∙◌, ap, length, ◌≡◌, groups_of}
use Rattle.eco_store.proofs.Groups.{groups_length, groups_needed, some_group}
use Rattle.eco_store.proofs.asking.AskingTypeTest.group_count.Goals as goal

pub returns-clause-count : goal.returns-clause-count
returns-clause-count c =
    c.positive_count.ensures ∙ groups_length c.slots.result.now ∙ ap (λ q. length (groups_of q)) c.slots.ensures

pub returns-clause-some : goal.returns-clause-some
returns-clause-some c =
    let is : c.positive_count.result ≡ length (groups_of c.args.self.now.query.now) = returns-clause-count c in
    rw is (some_group c.args.self.now.query.now c.is_positive.ensures)

pub returns-clause-needed : goal.returns-clause-needed
returns-clause-needed c = groups_needed c.args.self.now.query.now
