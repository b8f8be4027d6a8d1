use Rattle.eco_archetypes.proofs.Common.{◌≡◌, ℕ, ◌<◌, Bool, true, true≢false, List, [], ◌∷◌, length, map, list_any, ap, sym, ◌∙◌, arith, subst, option_map}
use Rattle.eco_archetypes.proofs.Common.{TableState, asks, choices_on, type_at}
use Rattle.eco_ids.specs.Answer.{choices}
use Rattle.eco_index.specs.Flat.{ChoicesState}
use Rattle.eco_index.proofs.Onlies.{all_kept, kept_alone, only_more}
use Rattle.eco_archetypes.proofs.archetypes.caching.only_on.Goals as goal

-- a query has a slot, where one of them is positive
some_slot : {X Y : Type 0} (f : X → Y) (p : Y → Bool) (xs : List X) (ys : List Y) (n : ℕ) → map f xs ≡ ys → list_any p ys ≡ true → n ≡ length xs → 0 < n
some_slot f p [] ys n are any wide = absurd (true≢false (sym any ∙ ap (list_any p) (sym are)))
some_slot f p (x ∷ xs) ys n are any wide = omega (arith, wide)

pub push_only-requires-clause-some : goal.push_only-requires-clause-some
push_only-requires-clause-some c =
    some_slot _ _ c.slots-terms.result.now c.args.query.now c.loop-slot.only.width c.slots-terms.ensures c.is_positive.ensures c.loop-slot.invariant.wide

pub push_only-requires-clause-even : goal.push_only-requires-clause-even
push_only-requires-clause-even c = sym c.loop-slot.invariant.wide

pub loop-slot-init : goal.loop-slot-init
loop-slot-init c = record {
  wide = ap (λ (s : ChoicesState). s.width) c.in_ok-only.ensures;
  made = ap (λ (s : ChoicesState). map (λ y. y ∷ []) s.all) (sym c.in_ok-only.ensures);
}

pub loop-slot-preserved : goal.loop-slot-preserved
loop-slot-preserved c =
    let terms = asks c.slots-terms.result.now in
    let pushed = c.in_ok-push_only.ensures.only c.if-not-branch.false in
    record {
      wide = ap (λ (s : ChoicesState). s.width) pushed ∙ c.loop-slot.invariant.wide;
      made =
          only_more (type_at c.args.tables.now) terms c.args.slots.now c.loop-slot.slot-index _ c.loop-slot.only.all (choices c.type_list.result.now terms)
          c.push_only.new.self.all c.loop-slot-test.true c.loop-slot.invariant.made
          (ap (λ o. choices_on terms (option_map (λ (t : TableState). t.ids) o)) (sym c.in-Some.ensures)
          ∙ ap (λ ids. choices ids terms) (sym c.type_list.ensures.ids))
          (c.in_ok-push_only.ensures.one c.if-not-branch.false) (ap (λ (s : ChoicesState). s.all) pushed);
    }

pub returns-clause-kept : goal.returns-clause-kept
returns-clause-kept c =
    all_kept (type_at c.args.tables.now) c.slots-terms.result.now c.args.query.now c.args.slots.now c.loop-slot.slot-index c.loop-slot.only
    c.slots-terms.ensures c.loop-slot-test.false c.loop-slot.invariant.wide c.loop-slot.invariant.made

pub returns-in_default-clause-none : goal.returns-in_default-clause-none
returns-in_default-clause-none c kept are =
    let one = kept_alone (type_at c.args.tables.now) c.slots-terms.result.now c.args.query.now c.args.slots.now c.loop-slot.slot-index 0 kept
    c.slots-terms.ensures c.loop-slot-test.true are in
    let none = ap (option_map (λ (t : TableState). t.ids)) (sym c.in_default.ensures) in
    absurd (omega (arith, subst (λ o. length (choices_on (asks c.slots-terms.result.now) o) ≡ 1) none one))

pub returns-then-not-branch-clause-none : goal.returns-then-not-branch-clause-none
returns-then-not-branch-clause-none c kept are =
    let terms = asks c.slots-terms.result.now in
    let one = kept_alone (type_at c.args.tables.now) c.slots-terms.result.now c.args.query.now c.args.slots.now c.loop-slot.slot-index 0 kept
    c.slots-terms.ensures c.loop-slot-test.true are in
    c.in_ok-push_only.ensures.several c.if-not-branch.true
    (ap (λ ids. length (choices ids terms)) c.type_list.ensures.ids
    ∙ ap (λ o. length (choices_on terms (option_map (λ (t : TableState). t.ids) o))) c.in-Some.ensures ∙ one)
