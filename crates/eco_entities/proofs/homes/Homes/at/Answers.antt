use Rattle.eco_entities.proofs.Common.{Some, sym, ap, ◌∙◌, label_of}
use Rattle.eco_entities.proofs.HomeStates.{home_of, home_shown, nobody_home, place_there, slot_within}
use Rattle.eco_entities.proofs.homes.Homes.at.Goals as goal

pub bounds-self-inside-index : goal.bounds-self-inside-index
bounds-self-inside-index c =
    slot_within c.self.inside.limit (label_of c.self.inside.labels.now) c.self.inside.slots.now c.args.self.now c.self.view_is c.args.index c.requires.known

pub returns-then-not-is_living : goal.returns-then-not-is_living
returns-then-not-is_living c =
    nobody_home c.self.inside.limit (label_of c.self.inside.labels.now) c.self.inside.slots.now c.args.self.now c.self.view_is c.args.index c.requires.known _
    (sym c.if-not-is_living.ensures)

pub seat-requires : goal.seat-requires
seat-requires c =
    place_there c.self.inside.limit (label_of c.self.inside.labels.now) c.self.inside.slots.now c.args.self.now c.self.view_is c.args.index c.requires.known _
    (sym c.if-not-is_living.ensures) c.requires.placed

pub returns : goal.returns
returns c =
    ap (λ g. home_of c.args.index g (Some c.seat.result)) c.generation.ensures
    ∙ ap (home_of c.args.index _) (sym c.seat.ensures)
    ∙ home_shown c.self.inside.limit (label_of c.self.inside.labels.now) c.self.inside.slots.now c.args.self.now c.self.view_is c.args.index c.requires.known _
    (sym c.if-not-is_living.ensures)
