use Rattle.eco_store.proofs.Common.{◌≡◌, unwrap_or, IsTrue, Some, refl, sym, ap, subst, ◌∙◌, option_copied, id_cmp, is_ascending, slot_of, table_in}
use Rattle.eco_store.proofs.Common.{no_table, AllHaveIds, seen, all_staying, read, with_type}
use Rattle.eco_store.proofs.Clearing.{unplaced_dead}
use Rattle.eco_store.proofs.Coming.{changed_dead}
use Rattle.eco_store.proofs.Laid.{carries_none, laid_alike}
use Rattle.eco_store.proofs.Rowless.{rowless_beside}
use Rattle.eco_store.proofs.Stepping.{own_again, standing_type}
use Rattle.eco_archetypes.proofs.Seated.{alive_same}
use Rattle.eco_store.proofs.layout.Layout.go_to.Goals as goal

-- who does not live stays so
pub returns-in_default-clause-seen : goal.returns-in_default-clause-seen
returns-in_default-clause-seen c =
    let w = c.args.self.now.entities in
    let s = c.args.self.now.archetypes in
    let e = c.args.e in
    sym (changed_dead (read w s) e (with_type (table_in s c.args.to).ids)
    (alive_same w s e ∙ unplaced_dead w s e c.requires.laid.store (sym c.place_of.ensures ∙ c.in_default.is)))

pub returns-in_default-clause-carries : goal.returns-in_default-clause-carries
returns-in_default-clause-carries c = carries_none c.args.self.now c.requires.laid c.args.to

-- who stands there holds what it held
pub returns-then-place-to-clause-seen : goal.returns-then-place-to-clause-seen
returns-then-place-to-clause-seen c =
    let l = c.args.self.now in
    let s = l.archetypes in
    let own = sym c.place_of.ensures ∙ c.in-Some.is in
    let had = subst AllHaveIds c.tables-tables.ensures.same c.rows_have_ids.ensures in
    let at = subst (λ x. slot_of x c.args.to ≡ Some c.unwrap.result.now) c.tables-tables.ensures.same
    (sym c.get.ensures ∙ ap option_copied c.unwrap.ensures) in
    let ids = c.type_list.ensures.ids ∙ sym (ap (λ o. (unwrap_or o no_table).ids) at) in
    own_again (seen l) c.args.e (table_in s c.args.to).ids
    (standing_type l.entities s c.args.e c.in-Some.place c.requires.laid.store own had ∙ ap (λ n. Some (table_in s n).ids) c.if-place-to.true)
    (subst (λ xs. IsTrue (is_ascending id_cmp xs)) ids c.as_slice-ids.ensures.ascending)

pub returns-then-place-to-clause-carries : goal.returns-then-place-to-clause-carries
returns-then-place-to-clause-carries c = carries_none c.args.self.now c.requires.laid c.args.to

-- the row goes
pub carry-requires-clause-laid : goal.carry-requires-clause-laid
carry-requires-clause-laid c =
    let l = c.args.self.now in
    laid_alike l l.archetypes l.staying _ _ c.requires.laid (λ n k. refl) (λ was. was)
    (rowless_beside l.archetypes c.args.to (all_staying l.staying) c.requires.laid.tidy)

pub carry-requires-clause-own : goal.carry-requires-clause-own
carry-requires-clause-own c = sym c.place_of.ensures ∙ c.in-Some.is
