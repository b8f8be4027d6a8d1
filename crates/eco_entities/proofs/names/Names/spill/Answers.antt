use Rattle.eco_entities.proofs.Common.{subst, inr, Some, HasMarkAt, ChangesAt, btree_map_updates_text, get_by_text, string_bytes}
use Rattle.eco_entities.proofs.Listings.{listed_kept}
use Rattle.eco_entities.proofs.Texts.{changes_text}
use Rattle.eco_entities.proofs.names.Names.spill.Goals.{After-mark}
use Rattle.eco_entities.proofs.names.Names.spill.Goals as goal

-- the tree tells the entity under the name
told : (c : goal.After-mark) → ChangesAt (get_by_text c.args.self.now.spilled) (get_by_text c.insert.new.self) c.args.name.now (Some c.args.entity)
told c =
    let m = c.args.self.now.spilled in
    let n = c.insert.new.self in
    let bs = string_bytes c.in_ok-own.own in
    let e = Some c.args.entity in
    rw c.in_ok-own.ensures.ok at (changes_text bs m n e (btree_map_updates_text bs m n e c.in_ok-insert.ensures.updates))

pub returns-clause-here : goal.returns-clause-here
returns-clause-here c =
    inr (subst (HasMarkAt c.mark.new.self) c.requires.tag c.mark.ensures.here, (told (goal.at.returns-clause-here c).After-mark).here)

pub returns-clause-others : goal.returns-clause-others
returns-clause-others c = λ other e apart.
    listed_kept c.args.self.now.table c.mark.new.self (get_by_text c.args.self.now.spilled) (get_by_text c.insert.new.self) other e c.mark.ensures.all
    ((told (goal.at.returns-clause-others c).After-mark).others other apart)
