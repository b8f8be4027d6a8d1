use Rattle.eco_index.proofs.EntriesCommon.{◌≡◌, ◌∷◌, take, flat_map}
use Rattle.eco_index.proofs.choices.Choices.led_by.Given as goal

abbrev pub invariant-loop-entry : goal.invariant-loop-entry
invariant-loop-entry l = l.led.items ≡ flat_map (λ e. flat_map (λ x. e ∷ x) l.self.all) (take l.entry-index l.entries)
