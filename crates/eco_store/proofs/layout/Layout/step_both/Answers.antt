use Rattle.eco_store.proofs.Common.{subst, sym, IsTrue, Tries, entity_eq, not_both, entity_eq_itself, seen}
use Rattle.eco_store.proofs.Coupled.{steps_other_way}
use Rattle.eco_store.proofs.layout.Layout.step_both.Goals as goal

pub returns-else-is_dearer : goal.returns-else-is_dearer
returns-else-is_dearer c =
    let l = c.args.self.now in
    let a = c.args.first in
    let b = c.args.second in
    let called = c.step_in_turn-else-is_dearer in
    record {
      laid = called.ensures.laid;
      tries =
          subst (λ v. Tries (seen l) v called.result (seen called.new.self))
          (steps_other_way l.entities l.archetypes b a c.requires.second c.requires.first
          (λ same. not_both (subst (λ x. IsTrue (entity_eq x a.0)) (sym same) (entity_eq_itself a.0)) c.requires.apart)) called.ensures.tries;
    }
