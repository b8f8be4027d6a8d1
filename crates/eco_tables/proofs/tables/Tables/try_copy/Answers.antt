use Rattle.eco_tables.proofs.Common.{◌≡◌, ◌≤◌, arith, ap, ◌∙◌, length, map, vec_capacity, length-map, slot_of, without_room}
use Rattle.eco_tables.proofs.Copies.{slot_copied, slots_copied}
use Rattle.eco_tables.proofs.tables.Tables.try_copy.Goals as goal

pub invariant_of-result : goal.invariant_of-result
invariant_of-result c =
    let slots = c.self.inside.slots.items in
    let copies = c.in_ok-slots.slots in
    let are : copies.items ≡ map without_room slots = c.in_ok-slots.ensures ∙ ap (map without_room) c.as_slice.ensures.value in
    let long = ap length are ∙ length-map slots without_room in
    let room : length slots ≤ vec_capacity c.in_ok-vacant.vacant = omega (arith, c.in_ok-vacant.ensures.room, c.len.ensures, copies.ok.0, long) in
    rw (are, c.in_ok-vacant.ensures.same ∙ c.as_slice-2.ensures.value) (slots_copied slots _ _ _ c.self.invariant room)

pub returns : goal.returns
returns c =
    let slots = c.self.inside.slots.items in
    let are = c.in_ok-slots.ensures ∙ ap (map without_room) c.as_slice.ensures.value in
    rw (← c.self.view_is) (λ n. ap (λ xs. slot_of xs n) are ∙ slot_copied slots n)
