use Rattle.std.specs.Slots.{slots_items}
use Rattle.eco_tickets.proofs.Steps.{ends}
use Rattle.eco_tickets.proofs.closing.settle.Goals as goal

pub returns : goal.returns
returns c =
    let closed = c.close_with-closed.result in
    let e = ends c.args.word.shared.key c.args.hand.id c.args.hand.me.0 (slots_items closed.words)
    (slots_items closed.slots) c.word-last.result c.requires.all c.close_with-closed.ensures.values.2 c.word-last.ensures in
    record { numbers = e.numbers; base = e.base; refusals = e.refusals }
