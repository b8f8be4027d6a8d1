use Rattle.eco_bodies.proofs.Common.{length, sym, ◌∙◌, eqb-true}
use Rattle.eco_bodies.specs.Settling.{same_count}
use Rattle.eco_bodies.proofs.Entries.{same_beginning}
use Rattle.eco_bodies.proofs.lawful.scripts_take_one_beginning.Goals as goal

pub returns : goal.returns
returns c = λ actions row mine others rest later h k whole.
    same_beginning mine others rest later (sym (eqb-true _ (length mine) h) ∙ same_count actions row mine others ∙ eqb-true _ (length others) k) whole
