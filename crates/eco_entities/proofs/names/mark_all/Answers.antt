use Rattle.eco_entities.proofs.Common.{◌≡◌, ◌∙◌, ◌∷◌, ap, is_some, inl, refl, subst, sym, tag_of, HasMarkAt}
use Rattle.eco_entities.proofs.Listings.{marked_next, IsLeftOrMarked}
use Rattle.eco_entities.proofs.names.mark_all.Goals as goal

pub loop-name-init : goal.loop-name-init
loop-name-init c =
    let begun : c.into_iter-name-iterator.result ≡ c.args.spilled.now.entries = c.into_iter-name-iterator.ensures.into_iter_gives.0 in (
      tt,
      tt,
      record { count = refl; cells = λ c at. at; marks = λ tag at. at },
      λ name e h. subst (λ es. IsLeftOrMarked es c.args.table.now name) (sym begun) (inl (ap is_some h)),
    )

pub loop-name-preserved : goal.loop-name-preserved
loop-name-preserved c =
    let (_, _, keeps, left) = c.loop-name.invariant in
    let more = c.mark.ensures.all in
    let steps : c.loop-name.name-iterator ≡ (c.in-Some.name.now, c.in-Some.field-0-1.now) ∷ c.next.new.self = c.in-Some.ensures.steps in
    let marked = subst (HasMarkAt c.mark.new.self) (c.tag_of.ensures ∙ ap tag_of c.as_str.ensures.value) c.mark.ensures.here in (
      tt,
      tt,
      record {
        count = more.count ∙ keeps.count;
        cells = λ d at. more.cells d (keeps.cells d at);
        marks = λ tag at. more.marks tag (keeps.marks tag at);
      },
      λ name e h. marked_next c.in-Some.name.now c.in-Some.field-0-1.now c.next.new.self c.loop-name.table c.mark.new.self name more marked
          (subst (λ es. IsLeftOrMarked es c.loop-name.table name) steps (left name e h)),
    )
