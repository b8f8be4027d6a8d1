use Rattle.eco_shared.proofs.Common.{◌≡◌, ◌∙◌, Some, ap, refl, rules, subst, sym, arc_value, IsMerged, merge_of, Shown, GoesOn, shown_world}
use Rattle.eco_histories.specs.Rules.{book_head}
use Rattle.eco_shared.proofs.Repeats.{last_keeps}
use Rattle.eco_shared.proofs.merger.Merger.show.Goals as goal

pub behind-requires-clause-head : goal.behind-requires-clause-head
behind-requires-clause-head g c = c.args.self.now.head_is ∙ sym (ap (λ (s : Shown). book_head s.front.seen.book) c.published-shown.ensures)

pub behind-requires-clause-merged : goal.behind-requires-clause-merged
behind-requires-clause-merged g c =
    subst (λ s. IsMerged (shown_world s) (merge_of c.args.last) (arc_value c.args.world)) (sym c.published-shown.ensures) c.requires.merged

pub publish-requires-clause-goes : goal.publish-requires-clause-goes
publish-requires-clause-goes g c =
    let there : c.behind.result ≡ Some c.in_ok-op.op = search rules in
    subst (λ s. GoesOn s c.in_ok-op.op) c.published-shown.ensures (rw there at c.behind.ensures.goes)

pub publish-requires-clause-running : goal.publish-requires-clause-running
publish-requires-clause-running g c = c.requires.running

pub publish-requires-clause-none : goal.publish-requires-clause-none
publish-requires-clause-none g c = c.requires.none

pub invariant_of-self : goal.invariant_of-self
invariant_of-self g c =
    let s = c.args.self.now in
    record { known = s.known; head_is = s.head_is; titled = s.titled; clear = s.clear; keeps_up = s.keeps_up }

pub invariant_of-self-2 : goal.invariant_of-self-2
invariant_of-self-2 g c =
    let s = c.args.self.now in
    record { known = s.known; head_is = s.head_is; titled = s.titled; clear = s.clear; keeps_up = s.keeps_up }

pub invariant_of-self-3 : goal.invariant_of-self-3
invariant_of-self-3 g c =
    let s = c.publish.new.self in
    let last = c.args.last in
    let old = shown_world c.args.self.now.writer.desk.shown.value in
    let there : c.behind.result ≡ Some c.in_ok-op.op = search rules in
    let made : shown_world c.in_ok-op.op ≡ arc_value c.args.world = rw there at c.behind.ensures.world in
    let now : shown_world s.writer.desk.shown.value ≡ arc_value c.args.world = ap (λ p. p.0) c.in_ok-publish.ensures.ok.0 ∙ made in
    record {
      known = s.known;
      head_is = s.head_is;
      titled = s.titled;
      clear = s.clear;
      keeps_up = last_keeps (record { world = c.in_ok-before.before; last = Some last }) last old _ c.merges_have_one_end.ensures refl
          (c.in_ok-before.ensures ∙ ap shown_world c.published-shown.ensures) (subst (IsMerged old (merge_of last)) (sym now) c.requires.merged);
    }
