use Rattle.eco_store.proofs.AnswersCommon.{◌≡◌, ◌<◌, List, map, ap, ◌∙◌, sym, subst, length, All, Standing, asks, standings_of, shown}
use Rattle.eco_store.proofs.Blocked.{all_shown, rows_within}
use Rattle.eco_store.proofs.results.expanded_in.Goals as goal

pub with_rows-requires : goal.with_rows-requires
with_rows-requires c =
    let found = c.args.found in
    let made = c.in_ok-made.made in
    let are = rw (c.tables.ensures.same, c.deref.ensures) at c.in_ok-made.ensures.blocks in
    let rows : c.among.result ≡ standings_of made.list.items found.list =
    c.among.ensures ∙ c.in_ok-rows.ensures ∙ ap (λ bs. standings_of bs found.list) c.deref-2.ensures.value in
    subst (λ (ss : List Standing). All (λ (s : Standing). s.place < length made.choices.all) ss) (sym rows)
    (rows_within found.tables.now found.slots.items (asks c.args.terms.now) made are found.list c.requires.places)

pub returns : goal.returns
returns c =
    let found = c.args.found in
    let made = c.in_ok-made.made in
    let are = rw (c.tables.ensures.same, c.deref.ensures) at c.in_ok-made.ensures.blocks in
    c.with_rows.ensures
    ∙ ap (map (shown made.choices.all)) (c.among.ensures ∙ c.in_ok-rows.ensures ∙ ap (λ bs. standings_of bs found.list) c.deref-2.ensures.value)
    ∙ all_shown found.tables.now found.slots.items (asks c.args.terms.now) made are found.list c.requires.places
