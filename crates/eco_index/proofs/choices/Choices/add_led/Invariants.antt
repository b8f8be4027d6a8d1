use Rattle.eco_index.proofs.EntriesCommon.{◌≡◌, ◌++◌, ◌∷◌, take, flat_map}
use Rattle.eco_index.proofs.choices.Choices.add_led.Given as goal

abbrev pub invariant-loop-place : goal.invariant-loop-place
invariant-loop-place l = l.led.items ≡ l.fn.led.items ++ flat_map (λ x. l.entry ∷ x) (take l.place l.self.all)
