use Rattle.eco_frame.proofs.Common.{◌∙◌, None, Some}
use Rattle.eco_ids.specs.Data.{value_of}
use Rattle.eco_frame.proofs.Shown.{none_is, value_is}
use Rattle.eco_frame.proofs.row.WorldRowBodyRow.value.Goals as goal

pub returns-in_default : goal.returns-in_default
returns-in_default c =
    let row = c.args.self.now in
    none_is (value_of row.entity.world row.entity.entity) c.slots.result.now row.query.now row.entries.now c.args.slot
    c.slots.ensures c.in_default.ensures.lookup

pub returns-in_default-get : goal.returns-in_default-get
returns-in_default-get c =
    let row = c.args.self.now in
    value_is (value_of row.entity.world row.entity.entity) c.slots.result.now row.query.now row.entries.now c.args.slot (Some c.in-Some.asked) None
    c.slots.ensures c.in-Some.ensures.lookup c.in_default-get.ensures.lookup

pub returns : goal.returns
returns c =
    let row = c.args.self.now in
    c.entry_value.ensures
    ∙ value_is (value_of row.entity.world row.entity.entity) c.slots.result.now row.query.now row.entries.now c.args.slot (Some c.in-Some.asked)
    (Some c.in-Some-get.entry) c.slots.ensures c.in-Some.ensures.lookup c.in-Some-get.ensures.lookup
