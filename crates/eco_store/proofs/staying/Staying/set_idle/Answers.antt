use Rattle.eco_store.proofs.Common.{◌<◌, ◌%◌, length, refl, rules, slice_get-get_or}
use Rattle.eco_store.proofs.staying.Staying.set_idle.Goals as goal

pub returns : goal.returns
returns c =
    let within : c.self.inside.turn % 8 < length c.self.inside.idle = search rules in
    rw (← c.self.view_is) (c.self.inside.turn % 8, slice_get-get_or c.self.inside.idle (c.self.inside.turn % 8) 0 within, refl)
