use Rattle.eco_tables.proofs.Common.{◌<◌, ◌∙◌, All, ColumnState, IsTrue, ap, held_in, id_cmp, is_ascending, length, map, pushed, subst, sym, value_in}
use Rattle.eco_tables.proofs.Common.{with_removed}
use Rattle.std.proofs.lemmas.List.Elements.{All-drop}
use Rattle.eco_tables.proofs.Moved.{all_mapped, ascending_behind, rest_left, value_behind}
use Rattle.eco_tables.proofs.columns.move_each.Goals as goal

pub move_rest-requires-clause-ascending : goal.move_rest-requires-clause-ascending
move_rest-requires-clause-ascending c =
    let n = c.move_alike-count.result in
    let moved = c.move_alike-count.ensures in
    let left = rest_left (λ (x : ColumnState). with_removed x c.args.row) c.args.source.now _ n moved.there moved.left in
    subst (λ xs. IsTrue (is_ascending id_cmp (map (λ (x : ColumnState). x.id) xs))) (sym left)
    (ascending_behind c.args.source.now n c.requires.ascending)

pub move_rest-requires-clause-row : goal.move_rest-requires-clause-row
move_rest-requires-clause-row c =
    let n = c.move_alike-count.result in
    let moved = c.move_alike-count.ensures in
    let left = rest_left (λ (x : ColumnState). with_removed x c.args.row) c.args.source.now _ n moved.there moved.left in
    subst (λ xs. All (λ (x : ColumnState). c.args.row < length x.values) xs) (sym left)
    (All-drop (λ (x : ColumnState). c.args.row < length x.values) n c.args.source.now c.requires.row)

pub returns-clause-taken : goal.returns-clause-taken
returns-clause-taken c =
    let n = c.move_alike-count.result in
    let row = c.args.row in
    let cs = c.args.columns.now in
    let ds = c.args.source.now in
    let f = λ (x : ColumnState). pushed x (value_in (held_in ds row) x.id) in
    let moved = c.move_alike-count.ensures in
    let left = rest_left (λ (x : ColumnState). with_removed x row) ds _ n moved.there moved.left in
    let own = rest_left f cs _ n moved.here moved.taken in
    all_mapped f cs _ n moved.here moved.taken _
    (c.move_rest.ensures.taken ∙ (λ t. map (λ x. pushed x (value_in (held_in (left t) row) x.id)) (own t))
    ∙ value_behind cs ds n row c.requires.sorted moved.alike)

pub returns-clause-left : goal.returns-clause-left
returns-clause-left c =
    let n = c.move_alike-count.result in
    let g = λ (x : ColumnState). with_removed x c.args.row in
    let moved = c.move_alike-count.ensures in
    all_mapped g c.args.source.now _ n moved.there moved.left _
    (c.move_rest.ensures.left ∙ ap (map g) (rest_left g c.args.source.now _ n moved.there moved.left))
