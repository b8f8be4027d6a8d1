use Rattle.eco_stages.proofs.Common.{◌≡◌, ◌∷◌, [], ◌++◌, ap, drop, subst, sym, take, ◌∙◌}
use Rattle.eco_stages.proofs.InTurn.{turn_of}
use Rattle.eco_stages.proofs.Keeping.{turns_longer}
use Rattle.eco_ids.specs.Run.{Set}
use Rattle.eco_ids.specs.World.{padded}
use Rattle.eco_stages.specs.Recorded.{AreInTurn, EndsInSet, SpeaksOfKept, commands_at, id_in_turn}
use Rattle.eco_stages.specs.declared.recorded.Recorded.TheVariants.{Turns}
use Rattle.eco_stages.proofs.recorded.Recorded.go_on.Goals as goal

pub returns-else-not-push_in_run-clause-yes : goal.returns-else-not-push_in_run-clause-yes
returns-else-not-push_in_run-clause-yes c done =
    let t = c.in-Turns in
    let push = c.push_in_run-in-Turns in
    let old = c.args.kept.now in
    let was : AreInTurn old t.width t.count t.turns t.next t.ids t.first = subst (SpeaksOfKept old) t.is c.requires in
    let ends : EndsInSet t.width c.args.entity c.args.value old push.new.self = push.ensures.yes c.if-not-push_in_run.false in
    let turn = id_in_turn (take t.turns (drop t.ids old.ids.items)) t.count in
    let whose : turn ≡ c.args.id =
    turn_of old.ids.items t.ids t.turns t.next t.count was.ids was.some was.next c.index.result.now c.index.ensures
    ∙ c.is-in-Turns.ensures.exact.0 c.if-not-is.false in
    ap (λ n. commands_at push.new.self (Turns t.width n t.turns c.next_turn.result t.ids t.first)) (push.ensures.longer c.if-not-push_in_run.false)
    ∙ turns_longer old push.new.self push.ensures.kept t.width t.count t.first (c.args.entity, ends.0) (push.ensures.at c.if-not-push_in_run.false)
    ends.1 t.turns t.next c.next_turn.result t.ids was
    ∙ ap (λ r. commands_at old r ++ Set c.args.entity turn (padded ends.0) ∷ []) (sym t.is)
    ∙ ap (λ i. commands_at old c.args.self.now ++ Set c.args.entity i (padded ends.0) ∷ []) whose
    ∙ ap (λ v. commands_at old c.args.self.now ++ Set c.args.entity c.args.id v ∷ []) ends.2
