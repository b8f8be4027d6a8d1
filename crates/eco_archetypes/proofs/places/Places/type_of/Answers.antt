use Rattle.eco_archetypes.proofs.PlacesCommon.{Some, ap, sym, subst, ◌∙◌, IsSome, record_of, read, slot_of, there_by_row}
use Rattle.eco_archetypes.proofs.Seated.{row_within}
use Rattle.eco_archetypes.proofs.Shows.{stands_there, stands_type}
use Rattle.eco_archetypes.proofs.places.Places.type_of.Goals as goal

pub table-requires : goal.table-requires
table-requires c =
    let s = c.self.inside.archetypes.now in
    let p = c.seat_of-place.result in
    subst (λ x. IsSome (slot_of x p.table)) (sym c.tables-tables.ensures.same)
    (there_by_row s p.table p.row (row_within c.self.inside.entities.now s c.args.entity p c.self.invariant c.seat_of-place.ensures))

pub returns : goal.returns
returns c =
    let w = c.self.inside.entities.now in
    let s = c.self.inside.archetypes.now in
    let p = c.seat_of-place.result in
    let t = c.table.result.now in
    let slot = sym (ap (λ x. slot_of x p.table) c.tables-tables.ensures.same) ∙ c.table.ensures in
    rw (← c.self.view_is)
    (ap Some c.type_list.ensures.ids
    ∙ stands_type (record_of (read w s) c.args.entity) t p.row
    (stands_there w s c.args.entity p t c.self.invariant c.seat_of-place.ensures slot) c.type_list.ensures.rows)
