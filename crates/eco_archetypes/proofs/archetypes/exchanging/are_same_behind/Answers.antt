use Rattle.eco_archetypes.proofs.Common.{◌≡◌, ◌+◌, ◌-◌, length, drop, take, length-drop, List, sym, ◌∙◌, arith, take_all, Id}
use Rattle.eco_ids.proofs.SameIds.{same_ids-Decides}
use Rattle.eco_archetypes.proofs.archetypes.exchanging.are_same_behind.Goals as goal

pub returns : goal.returns
returns c = λ yes.
    let behind : take (length c.args.own.now - (c.args.place + 1)) (drop (c.args.place + 1) c.args.own.now)
    ≡ take (length c.args.other.now - (c.args.place + 1)) (drop (c.args.place + 1) c.args.other.now) =
    (same_ids-Decides _ _).0 (sym c.are_same.ensures ∙ yes) in
    sym (whole c.args.own.now (c.args.place + 1)) ∙ behind ∙ whole c.args.other.now (c.args.place + 1)
  where
    whole : (ids : List Id) (n : _) → take (length ids - n) (drop n ids) ≡ drop n ids
    whole ids n = take_all (length ids - n) (drop n ids) (omega (arith, length-drop n ids))
