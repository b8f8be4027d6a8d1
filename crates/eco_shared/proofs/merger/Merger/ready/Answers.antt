use Rattle.eco_shared.proofs.Common.{◌≡◌, ◌∙◌, sym, ap, subst, Some, None, arc_value, Leads, shown_world}
use Rattle.eco_shared.proofs.Repeats.{comes_to, is_shown}
use Rattle.eco_shared.proofs.merger.Merger.ready.Goals as goal

pub returns-in_default-last-clause-ok : goal.returns-in_default-last-clause-ok
returns-in_default-last-clause-ok g c =
    let old = c.args.self.now in
    let s = c.in-Some.spare in
    let parts = c.into_parts-world.ensures in
    let is : old.spare ≡ Some s = cc (c.take.ensures.value, c.in-Some.is) in
    let none : s.last ≡ None = cc (parts.1, c.in_default-last.is) in
    (ap arc_value parts.0 ∙ is_shown old.spare s (shown_world old.writer.desk.shown.value) old.keeps_up is none, c.requires.running)

pub returns-in-Some-again-clause-ok : goal.returns-in-Some-again-clause-ok
returns-in-Some-again-clause-ok g c =
    let old = c.args.self.now in
    let s = c.in-Some.spare in
    let last = c.in-Some-last.last in
    let parts = c.into_parts-world.ensures in
    let made = c.in-Some-again.world in
    let is : old.spare ≡ Some s = cc (c.take.ensures.value, c.in-Some.is) in
    let some : s.last ≡ Some last = cc (parts.1, c.in-Some-last.is) in
    let leads : Leads (arc_value s.world) (Some last) (arc_value made) = subst
    (λ a. Leads (arc_value a) (Some last) (arc_value made)) parts.0 c.in-Some-again.ensures in
    let same : shown_world c.publish.new.self.writer.desk.shown.value ≡ shown_world old.writer.desk.shown.value =
    ap (λ p. p.0) c.in_ok-publish.ensures.ok.0 ∙ (c.in_ok-once_more.ensures.0 ∙ ap shown_world c.published.ensures) in
    (comes_to old.spare s last (shown_world old.writer.desk.shown.value) (arc_value made) old.keeps_up is some leads ∙ sym same, c.in_ok-publish.ensures.ok.1)
