use Rattle.eco_index.proofs.Common.{◌≡◌, Bool, true, false, None, refl, sym, ap, ◌∙◌, ◌&&◌, cond, nat_eq, get, has_slot, slots_of, Decides-eqb}
use Rattle.eco_index.proofs.Keys.{only_one}
use Rattle.eco_index.proofs.type_map.TypeMap.take.Goals as goal

pub returns-then-is_only : goal.returns-then-is_only
returns-then-is_only c p n = ap (λ o. has_slot o n) (c.swap_remove.ensures.updates.0 p) ∙ by (nat_eq c.args.mark p) refl
  where
    by : (b : Bool) → nat_eq c.args.mark p ≡ b → has_slot (cond b None (get nat_eq c.args.self.now.slots p)) n
        ≡ cond (b && nat_eq c.args.slot n) false (has_slot (get nat_eq c.args.self.now.slots p) n)
    by true same =
        only_one (slots_of c.in-Some.own.now) c.args.slot (sym c.is_only.ensures ∙ c.if-is_only.true) n
        ∙ ap (λ o. cond (nat_eq c.args.slot n) false (has_slot o n))
        (c.in-Some.ensures.value ∙ ap (get nat_eq c.args.self.now.slots) ((Decides-eqb c.args.mark p).0 same))
    by false differ = refl
