use Rattle.eco_index.proofs.EntriesCommon.{◌∙◌, IfOk-weaker, choices, asks}
use Rattle.eco_index.proofs.Only.{only_start}
use Rattle.eco_index.proofs.product.find_only.Goals as goal

pub returns-clause-only : goal.returns-clause-only
returns-clause-only c =
    IfOk-weaker c.add_only.result _ _
    (λ is one yes. only_start (choices c.args.ids.now (asks c.args.slots.now)) c.clear.new.self.items c.clear.ensures.items ∙ one yes) c.add_only.ensures.only
