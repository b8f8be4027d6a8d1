use Rattle.eco_traits.proofs.Common.{Some, sym, ◌∙◌, ap, [], Two}
use Rattle.eco_traits.proofs.Noted.{past_last, walk_ends, walk_goes_on, walk_leads_far, walk_starts}
use Rattle.eco_traits.proofs.Walks.{has_listed, has_nothing}
use Rattle.eco_traits.proofs.few.few_reached.Goals.{in-Some-type_of+in_ok-note_targets, in_default-type_of}
use Rattle.eco_traits.proofs.few.few_reached.Goals as goal

pub loop-entity-init : goal.loop-entity-init
loop-entity-init g c =
    walk_starts (g.H.Holdings.world c.args.holdings.now) c.args.relationship c.args.from c.of-few.result c.of-few.ensures

pub loop-entity-preserved : goal.loop-entity-preserved
loop-entity-preserved g c =
    let w = g.H.Holdings.world c.args.holdings.now in
    let r = c.args.relationship in
    let e = c.in-Some.entity in
    let on = walk_goes_on w r c.args.from c.loop-entity.few c.match-type_of.few c.loop-entity.asked e in
    let at = sym c.get.ensures.there ∙ c.in-Some.is in
    elim c.match-type_of.branch [
      | in-Some-type_of+in_ok-note_targets v ↦
          on v.as_slice.result.now c.loop-entity.invariant at
          (λ b. has_listed w e (Two r b) v.as_slice.result.now (ap Some v.as_slice.ensures.ids ∙ v.in-Some-type_of.ensures))
          (v.few-is ∙ v.in_ok-note_targets.ensures.noted)
      | in_default-type_of v ↦ on [] c.loop-entity.invariant at (λ b. has_nothing w e (Two r b) v.in_default-type_of.ensures) v.few-is
    ]

pub returns-in_err-note_targets-clause-far : goal.returns-in_err-note_targets-clause-far
returns-in_err-note_targets-clause-far g c =
    let w = g.H.Holdings.world c.args.holdings.now in
    let r = c.args.relationship in
    let e = c.in-Some.entity in
    let ids = c.as_slice.result.now in
    rw c.from_residual.ensures
    (walk_leads_far w r c.args.from c.loop-entity.few c.loop-entity.asked e ids c.loop-entity.invariant (sym c.get.ensures.there ∙ c.in-Some.is)
    (λ b. has_listed w e (Two r b) ids (ap Some c.as_slice.ensures.ids ∙ c.in-Some-type_of.ensures)) c.in_err-note_targets.ensures.full)

pub returns-clause-all : goal.returns-clause-all
returns-clause-all g c =
    walk_ends (g.H.Holdings.world c.args.holdings.now) c.args.relationship c.args.from c.loop-entity.few c.loop-entity.asked c.loop-entity.invariant
    (past_last c.loop-entity.few c.loop-entity.asked (sym c.get.ensures.there ∙ c.in_default.is))
