use Rattle.eco_store.proofs.Common.{◌≡◌, false, true≢false, List, Option, Some, option_map, sym, ap, ◌∙◌, unwrap_or, option_copied}
use Rattle.eco_store.proofs.Common.{err_from_is_err_and, Id, same_ids-Decides, TableState, slot_of, no_table, same_ids, type_at, seen}
use Rattle.eco_store.proofs.Laid.{sought_laid, sought_seen, sought_settled, still_settled, tried_none}
use Rattle.eco_store.proofs.Stepping.{own_again}
use Rattle.eco_archetypes.proofs.Seated.{one_some, some_from_copied}
use Rattle.eco_store.proofs.StoreChanges.{same_read}
use Rattle.eco_store.proofs.store.Store.retype.Goals as goal

two_types : (own ids : List Id) → same_ids own ids ≡ false → (o : Option (List Id)) → o ≡ Some own → o ≡ Some ids → ⊥
two_types own ids differ o had has = true≢false (sym ((same_ids-Decides own ids).1 (one_some o own ids had has)) ∙ differ)

pub unwrap-table-requires : goal.unwrap-table-requires
unwrap-table-requires c =
    let n = c.place_of-place.result.table in
    some_from_copied c.get.result (slot_of c.self.inside.layout.archetypes n) (c.get.ensures ∙ ap (λ s. slot_of s n) c.tables.ensures.same)
    c.place_of-place.ensures.there

-- the type is its own
pub returns-then-eq-clause-tries : goal.returns-then-eq-clause-tries
returns-then-eq-clause-tries c =
    let slot = sym (c.get.ensures ∙ ap (λ s. slot_of s c.place_of-place.result.table) c.tables.ensures.same) ∙ ap option_copied c.unwrap-table.ensures in
    let equal = sym (c.as_slice.ensures.ids ∙ c.type_list.ensures.ids) ∙ (same_ids-Decides _ _).0 (sym c.eq.ensures ∙ c.if-eq.true)
    ∙ c.as_slice-2.ensures.ids in
    let typed = c.place_of-place.ensures.typed ∙ ap (λ o. Some (unwrap_or o no_table).ids) slot ∙ ap Some equal in
    rw (← c.self.view_is)
    (record { ok = own_again (seen c.self.inside.layout) c.args.e c.args.type_list.now typed c.as_slice-2.ensures.ascending; err = tt })

-- or the row goes
pub carry-requires-clause-laid : goal.carry-requires-clause-laid
carry-requires-clause-laid c =
    sought_laid c.self.inside.layout _ c.room_for.ensures.rows c.self.invariant.laid c.room_for.ensures.widths c.in_ok-to.to c.in_ok-to.ensures.rowless

pub carry-requires-clause-apart : goal.carry-requires-clause-apart
carry-requires-clause-apart c =
    let n = c.place_of-place.result.table in
    let s1 = c.room_for.new.self in
    let own = c.unwrap-table.result.now.ids in
    let slot = sym (c.get.ensures ∙ ap (λ s. slot_of s n) c.tables.ensures.same) ∙ ap option_copied c.unwrap-table.ensures in
    let had = c.room_for.ensures.types n own (ap (option_map (λ (t : TableState). t.ids)) slot) in
    let differ = rw (c.as_slice.ensures.ids ∙ c.type_list.ensures.ids, c.as_slice-2.ensures.ids) at (sym c.eq.ensures ∙ c.if-eq.false) in
    λ same. two_types own _ differ (type_at s1 n) had (ap (type_at s1) same ∙ c.in_ok-to.ensures.typed)

pub invariant_of-self : goal.invariant_of-self
invariant_of-self c =
    sought_settled c.self.inside.layout _ c.room_for.ensures.rows c.self.invariant c.room_for.ensures.widths c.in_err-to.ensures.rowless

pub returns-in_err-to-clause-tries : goal.returns-in_err-to-clause-tries
returns-in_err-to-clause-tries c =
    let l = c.self.inside.layout in
    let p = err_from_is_err_and c.from_residual.result c.from_residual.ensures.1 in
    rw (← c.self.view_is)
    (tried_none _ _ c.from_residual.result _ _ p.1 (same_read l.entities l.archetypes _ c.room_for.ensures.rows))

pub returns-in_err-to-clause-own : goal.returns-in_err-to-clause-own
returns-in_err-to-clause-own c =
    let slot = sym (c.get.ensures ∙ ap (λ s. slot_of s c.place_of-place.result.table) c.tables.ensures.same) ∙ ap option_copied c.unwrap-table.ensures in
    let differ = rw (c.as_slice.ensures.ids ∙ c.type_list.ensures.ids, c.as_slice-2.ensures.ids) at (sym c.eq.ensures ∙ c.if-eq.false) in
    rw (← c.self.view_is)
    (λ typed. absurd (two_types _ _ differ _ (c.place_of-place.ensures.typed ∙ ap (λ o. Some (unwrap_or o no_table).ids) slot) typed))

pub invariant_of-self-2 : goal.invariant_of-self-2
invariant_of-self-2 c = still_settled c.self.inside.layout _ c.carry.ensures.carries.staying c.self.invariant c.carry.ensures.carries.laid

pub returns-clause-tries : goal.returns-clause-tries
returns-clause-tries c =
    rw (← c.self.view_is) (record {
      ok =
          sought_seen c.self.inside.layout _ c.room_for.ensures.rows _ c.in_ok-to.to c.args.e _ c.in_ok-to.ensures.typed c.carry.ensures.seen;
      err = tt;
    })
