use Rattle.eco_store.proofs.Common.{◌≡◌, ◌++◌, ℕ, List, Bool, true, false, nat_eq, slice_set, refl, sym, ap, subst, ◌∙◌, list_any, RowlessIn}
use Rattle.eco_store.proofs.Common.{slot_of, rowless_type, StayingState, all_staying}
use Rattle.eco_store.proofs.Laid.{laid_alike}
use Rattle.eco_store.proofs.Targets.{same_targets}
use Rattle.eco_store.proofs.Rowless.{among_last, among_more, rowless_rested, rowless_twice}
use Rattle.eco_store.proofs.layout.Layout.rest.Goals as goal

-- the targets are the same
same_among : (n : ℕ) (p q : StayingState) (idle : List ℕ) (r b : Bool) → r ≡ list_any (nat_eq n) q.targets → q ≡ record p { idle = idle }
    → r ≡ b
    → list_any (nat_eq n) p.targets ≡ b
same_among n p q idle r b test same is = sym (test ∙ ap (λ (x : StayingState). list_any (nat_eq n) x.targets) same) ∙ is

other_idle : (p q : StayingState) (idle : List ℕ) → q ≡ record p { idle = idle } → q ≡ record p { idle = q.idle }
other_idle p q idle same = same ∙ ap (λ is. record p { idle = is }) (sym (ap (λ (x : StayingState). x.idle) same))

pub returns-then-not-is_target : goal.returns-then-not-is_target
returns-then-not-is_target c =
    let l = c.args.self.now in
    let s = l.archetypes in
    let p = l.staying in
    let q = c.set_idle-before.new.self in
    let n = c.set_idle-before.result in
    let s1 = c.drop_empty.new.self in
    let (k, at, same) = c.set_idle-before.ensures in
    let free = same_among n p _ _ _ false c.is_target.ensures same c.if-not-is_target.true in
    record {
      laid =
          laid_alike l s1 q _ _ c.requires c.drop_empty.ensures.rows (c.drop_empty.ensures.widths _)
          (subst (λ x. RowlessIn s1 (all_staying x)) (sym same)
          (c.drop_empty.ensures.rowless (p.gathered ++ p.targets ++ slice_set p.idle k c.args.slot)
          (rowless_rested s (p.gathered ++ p.targets) p.idle k c.args.slot n at c.requires.tidy)));
      entities = refl;
      rows = c.drop_empty.ensures.rows;
      staying = other_idle p q _ same;
      targets = same_targets s s1 p.targets n (rowless_type (slot_of s n)) free c.drop_empty.ensures.dropped c.drop_empty.ensures.kept;
    }

pub returns-else-not-is_target : goal.returns-else-not-is_target
returns-else-not-is_target c =
    let l = c.args.self.now in
    let s = l.archetypes in
    let p = l.staying in
    let q = c.set_idle-before.new.self in
    let n = c.set_idle-before.result in
    let (k, at, same) = c.set_idle-before.ensures in
    let rested = slice_set p.idle k c.args.slot in
    let among = same_among n p _ _ _ true c.is_target.ensures same c.if-not-is_target.false in
    record {
      laid =
          laid_alike l s q _ _ c.requires (λ m i. refl) (λ was. was)
          (subst (λ x. RowlessIn s (all_staying x)) (sym same)
          (rowless_twice s n (p.gathered ++ p.targets ++ rested) (among_more (p.gathered ++ p.targets) rested n (among_last p.gathered p.targets n among))
          (rowless_rested s (p.gathered ++ p.targets) p.idle k c.args.slot n at c.requires.tidy)));
      entities = refl;
      rows = λ m i. refl;
      staying = other_idle p q _ same;
      targets = λ m named. refl;
    }
