use Rattle.eco_store.proofs.Common.{◌≡◌, length, take, get_or, is_some, IsSome, refl, sym, ap, subst, ◌∙◌, arith, entity_cmp, has_item, entities_of}
use Rattle.eco_store.proofs.Common.{slot_of, there_by_row, after_deaths, rows_in, read}
use Rattle.eco_store.proofs.Clearing.{begun_rows, no_entity, unplaced_dead}
use Rattle.eco_store.proofs.Dying.{first_dies, first_passes}
use Rattle.eco_archetypes.proofs.Seated.{placed_record, row_within, alive_same}
use Rattle.eco_store.proofs.Thinning.{thins_same}
use Rattle.eco_store.proofs.layout.Layout.kill_next.Goals as goal

pub returns-in_default-clause-seen : goal.returns-in_default-clause-seen
returns-in_default-clause-seen c =
    let w = c.args.self.now.entities in
    let s = c.args.self.now.archetypes in
    let e = get_or c.args.dead.now 0 no_entity in
    sym (first_passes (read w s) c.args.dead.now no_entity c.requires.some
    (alive_same w s e ∙ unplaced_dead w s e c.requires.laid.store (sym c.place_of.ensures ∙ c.in_default.is)))

pub is_begun_by-requires : goal.is_begun_by-requires
is_begun_by-requires c =
    let p = c.in-Some.place in
    let own = sym c.place_of.ensures ∙ c.in-Some.is in
    subst (λ s. IsSome (slot_of s p.table)) (sym c.tables.ensures.same)
    (there_by_row c.args.self.now.archetypes p.table p.row (row_within c.args.self.now.entities c.args.self.now.archetypes _ p c.requires.laid.store own))

pub kill_rows-requires-clause-there : goal.kill_rows-requires-clause-there
kill_rows-requires-clause-there c =
    let p = c.in-Some.place in
    let own = sym c.place_of.ensures ∙ c.in-Some.is in
    there_by_row c.args.self.now.archetypes p.table p.row (row_within c.args.self.now.entities c.args.self.now.archetypes _ p c.requires.laid.store own)

pub returns-then-is_begun_by-clause-some : goal.returns-then-is_begun_by-clause-some
returns-then-is_begun_by-clause-some c =
    let s = c.args.self.now.archetypes in
    let p = c.in-Some.place in
    let count : c.row_count-count.result ≡ length (rows_in s p.table) =
    c.row_count-count.ensures ∙ ap (λ z. length (rows_in z p.table)) c.tables-then-is_begun_by.ensures.same in
    omega (arith, count, row_within c.args.self.now.entities s _ p c.requires.laid.store (sym c.place_of.ensures ∙ c.in-Some.is))

pub returns-then-is_begun_by-clause-within : goal.returns-then-is_begun_by-clause-within
returns-then-is_begun_by-clause-within c =
    let n = c.in-Some.place.table in
    let count : c.row_count-count.result ≡ length (rows_in c.tables.result.now n) =
    c.row_count-count.ensures
    ∙ ap (λ z. length (rows_in z n)) (c.tables-then-is_begun_by.ensures.same ∙ sym c.tables.ensures.same) in
    let begun = begun_rows (rows_in c.tables.result.now n) c.args.dead.now (c.is_begun_by.ensures.0 c.if-is_begun_by.true) in
    omega (arith, count, begun.1)

pub returns-then-is_begun_by-clause-seen : goal.returns-then-is_begun_by-clause-seen
returns-then-is_begun_by-clause-seen c =
    let es = c.args.dead.now in
    let n = c.in-Some.place.table in
    let same = c.tables.ensures.same in
    let count = c.row_count-count.ensures ∙ ap (λ z. length (rows_in z n)) (c.tables-then-is_begun_by.ensures.same ∙ sym same) in
    let begun = begun_rows (rows_in c.tables.result.now n) es (c.is_begun_by.ensures.0 c.if-is_begun_by.true) in
    c.kill_rows.ensures.seen
    ∙ sym (ap (λ xs. after_deaths (read c.args.self.now.entities c.args.self.now.archetypes) (has_item entity_cmp xs))
    (ap (λ k. take k es) count ∙ begun.0 ∙ ap (λ z. entities_of (rows_in z n)) same))

pub returns-clause-seen : goal.returns-clause-seen
returns-clause-seen c =
    let w = c.args.self.now.entities in
    let s = c.args.self.now.archetypes in
    let e = get_or c.args.dead.now 0 no_entity in
    let r = placed_record w e c.in-Some.place (sym c.place_of.ensures ∙ c.in-Some.is) in
    c.kill.ensures.seen ∙ sym (first_dies (read w s) c.args.dead.now no_entity c.requires.some (alive_same w s e ∙ ap is_some r.1))

pub returns-in_default-clause-loses : goal.returns-in_default-clause-loses
returns-in_default-clause-loses c = record {
  laid = c.requires.laid;
  targets = refl;
  thins = thins_same c.args.self.now.archetypes c.args.self.now.staying.targets;
}
