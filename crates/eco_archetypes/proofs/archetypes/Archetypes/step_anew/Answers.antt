use Rattle.eco_archetypes.proofs.Common.{◌≡◌, ◌≢◌, Some, ap, ◌∙◌, subst, table_in, toggled, type_at, FindsRoom}
use Rattle.eco_archetypes.proofs.ArchetypeLemmas.{type_there, typed_table}
use Rattle.eco_archetypes.proofs.Leads.{apart_by_type, of_slot}
use Rattle.eco_archetypes.proofs.Turnings.{if_ok}
use Rattle.eco_archetypes.proofs.archetypes.Archetypes.step_anew.Goals as goal

pub link-requires : goal.link-requires
link-requires c =
    let is = rw (c.type_in.ensures.ids, c.self.view_is) at c.in_ok-type_list.ensures.is in
    rw c.find.ensures.same record {
      from = c.requires;
      ascending = rw (c.type_in.ensures.ids, c.self.view_is) at c.toggled.ensures.ascending;
      to = c.in-Some.ensures.found ∙ ap Some is;
    }

pub returns-in_default : goal.returns-in_default
returns-in_default c =
    let s1 = c.make_with_room.new.self in
    let own = (table_in c.args.self.now c.args.slot).ids in
    let made = rw c.find.ensures.same at c.make_with_room.ensures in
    let is = rw (c.type_in.ensures.ids, c.self.view_is) at c.in_ok-type_list.ensures.is in
    let finds =
    subst (λ ids. FindsRoom c.args.entities.now c.args.self.now s1 ids c.args.more c.make_with_room.result) is made in
    let was = made.types c.args.slot own (type_there c.args.self.now c.args.slot c.requires) in
    record {
      finds = finds;
      apart =
          if_ok (λ n. type_at s1 n ≡ Some (toggled own c.args.id)) (λ n. c.args.slot ≢ n) c.make_with_room.result
          (λ n at. apart_by_type s1 c.args.slot n c.args.id own was at) finds.typed;
    }

pub returns : goal.returns
returns c =
    let s = c.args.self.now in
    let s1 = c.make_room.new.self in
    let to = c.in-Some.to in
    let own = (table_in s c.args.slot).ids in
    let roomy = rw (c.link.ensures, c.find.ensures.same) at c.make_room.ensures in
    let is = rw (c.type_in.ensures.ids, c.self.view_is) at c.in_ok-type_list.ensures.is in
    let found = c.in-Some.ensures.found ∙ ap Some is in
    record {
      finds = subst (λ ids. FindsRoom c.args.entities.now s s1 ids c.args.more c.make_room.result) (typed_table s to _ found) roomy.finds;
      apart =
          of_slot (λ n. c.args.slot ≢ n) to c.make_room.result roomy.same
          (apart_by_type s c.args.slot to c.args.id own (type_there s c.args.slot c.requires) found);
    }
