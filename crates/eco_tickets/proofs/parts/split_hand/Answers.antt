use Rattle.eco_tickets.proofs.Common.{arith}
use Rattle.eco_tickets.proofs.Steps.{splits}
use Rattle.eco_tickets.proofs.parts.split_hand.Goals as goal

pub split_seat-requires : goal.split_seat-requires
split_seat-requires c =
    let hand = c.args.hand.now in
    (c.requires.own, omega (arith, c.requires.word), splits c.args.word.now.shared.key hand.id hand.me.0 c.requires.parts c.requires.refusals)
