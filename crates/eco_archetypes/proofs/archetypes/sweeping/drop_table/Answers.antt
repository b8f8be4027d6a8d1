use Rattle.eco_archetypes.proofs.Common.{◌≡◌, false, true≢false, List, Option, Some, None, is_some, subst, sym, ap, ◌∙◌, IfNone, TableState}
use Rattle.eco_archetypes.proofs.Common.{slot_of, AreExact, type_at, SameSlots}
use Rattle.eco_archetypes.proofs.Sweeping.{dropped_type, drops_one}
use Rattle.eco_archetypes.proofs.archetypes.sweeping.drop_table.Goals as goal

of_none : {X A : Type 0} (o : Option X) → is_some o ≡ false → IfNone o A → A
of_none None none kept = kept
of_none (Some x) none kept = absurd (true≢false none)

then_none : {X A B : Type 0} (o : Option X) → (A → B) → IfNone o A → IfNone o B
then_none None f kept = f kept
then_none (Some x) f kept = kept

same_each : {s s' : List (Option TableState)} → s' ≡ s → SameSlots s s'
same_each same n = ap (λ x. slot_of x n) same

pub returns-else-is_some-clause-exact : goal.returns-else-is_some-clause-exact
returns-else-is_some-clause-exact c =
    let same = of_none c.drop_empty.result (sym c.is_some.ensures ∙ c.if-is_some.false) c.drop_empty.ensures.kept in
    λ was. subst (λ s. AreExact (type_at s) c.args.caches.now.list.items) (sym same) was

pub returns-then-is_some-clause-exact : goal.returns-then-is_some-clause-exact
returns-then-is_some-clause-exact c =
    c.forget.ensures.told (type_at c.args.tables.now) (type_at c.drop_empty.new.self)
    (dropped_type c.args.tables.now c.drop_empty.new.self c.args.slot c.drop_empty.result (sym c.is_some.ensures ∙ c.if-is_some.true)
    c.drop_empty.ensures.dropped)

pub returns-then-is_some-clause-dropped : goal.returns-then-is_some-clause-dropped
returns-then-is_some-clause-dropped c =
    drops_one c.args.tables.now c.drop_empty.new.self c.args.slot c.drop_empty.result c.drop_empty.ensures.answer c.drop_empty.ensures.dropped
    (then_none c.drop_empty.result same_each c.drop_empty.ensures.kept)

pub returns-else-is_some-clause-dropped : goal.returns-else-is_some-clause-dropped
returns-else-is_some-clause-dropped c =
    drops_one c.args.tables.now c.drop_empty.new.self c.args.slot c.drop_empty.result c.drop_empty.ensures.answer c.drop_empty.ensures.dropped
    (then_none c.drop_empty.result same_each c.drop_empty.ensures.kept)
