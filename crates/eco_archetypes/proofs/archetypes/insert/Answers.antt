use Rattle.eco_archetypes.proofs.Common.{◌≡◌, true, nat_eq, option_map, refl, subst, sym, ap, ◌∙◌, same_Some, fingerprint, TableState, Turns, type_at}
use Rattle.eco_archetypes.proofs.Common.{type_marked}
use Rattle.eco_index.specs.Contents.{slots_by_mark}
use Rattle.eco_archetypes.proofs.ArchetypeLemmas.{changes_type, index_made}
use Rattle.eco_archetypes.proofs.archetypes.insert.Goals as goal

pub returns-in-Ok-clause-types : goal.returns-in-Ok-clause-types
returns-in-Ok-clause-types c =
    let s = c.args.tables.now in
    let s1 = c.insert.new.self in
    let n = c.in_ok-slot.slot in
    let changes = changes_type s s1 n _ c.in_ok-slot.ensures.sets in
    let own : c.type_in.result.now ≡ c.args.type_list = same_Some _ _ (sym c.type_in.ensures.typed ∙ changes.there) in
    index_made type_marked (type_at s) (type_at s1) (slots_by_mark c.args.by_type.now) (slots_by_mark c.list.new.by_type) n c.requires.types
    changes.others c.args.type_list (λ f. refl) changes.there (ap (option_map (λ (t : TableState). t.ids)) c.in_ok-slot.ensures.vacant)
    (subst (λ ids. Turns true (nat_eq (fingerprint ids)) (slots_by_mark c.args.by_type.now) (slots_by_mark c.list.new.by_type) n) own c.in-Ok.ensures.types)
