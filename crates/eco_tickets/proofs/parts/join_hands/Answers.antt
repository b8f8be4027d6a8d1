use Rattle.eco_tickets.proofs.Common.{arith}
use Rattle.eco_tickets.proofs.Steps.{joins}
use Rattle.eco_tickets.proofs.parts.join_hands.Goals as goal

pub join_seat-requires : goal.join_seat-requires
join_seat-requires c = (
  c.requires.own.0,
  c.requires.own.1,
  c.requires.empty,
  omega (arith, c.requires.word),
  joins c.args.word.now.shared.key _ _ _ _ c.requires.some,
)
