use Rattle.eco_tables.proofs.Common.{◌≡◌, length, not, unwrap_or, ap, ◌∙◌, arith, ◌≤◌, position_from, id_cmp}
use Rattle.std.proofs.Common.{is_lt}
use Rattle.eco_tables.proofs.Turning.{place_fits, put_in_place}
use Rattle.eco_tables.proofs.columns.insert_column.Goals as goal

pub insert-requires : goal.insert-requires
insert-requires c =
    let is : c.find_end.result ≡ position_from (λ d. not (is_lt (id_cmp d.id c.args.column.id))) 0 c.args.columns.now.items =
    c.find_end.ensures ∙ (λ t. position_from (λ d. not (is_lt (id_cmp d.id (c.id.ensures t)))) 0 (c.as_slice.ensures.value t)) in
    let at : c.unwrap_or-place.result ≡ unwrap_or c.find_end.result (length c.args.columns.now.items) =
    c.unwrap_or-place.ensures ∙ ap (unwrap_or c.find_end.result) (c.len.ensures ∙ c.args.columns.now.ok.0) in
    let fits : c.unwrap_or-place.result ≤ length c.args.columns.now.items =
    place_fits c.args.columns.now.items c.args.column c.find_end.result is c.unwrap_or-place.result at in
    omega (arith, fits, c.args.columns.now.ok.0)

pub returns : goal.returns
returns c =
    let is : c.find_end.result ≡ position_from (λ d. not (is_lt (id_cmp d.id c.args.column.id))) 0 c.args.columns.now.items =
    c.find_end.ensures ∙ (λ t. position_from (λ d. not (is_lt (id_cmp d.id (c.id.ensures t)))) 0 (c.as_slice.ensures.value t)) in
    let at : c.unwrap_or-place.result ≡ unwrap_or c.find_end.result (length c.args.columns.now.items) =
    c.unwrap_or-place.ensures ∙ ap (unwrap_or c.find_end.result) (c.len.ensures ∙ c.args.columns.now.ok.0) in
    let done = c.insert.ensures.succeeds c.requires in
    rw done at c.insert.ensures.items ∙ put_in_place c.args.columns.now.items c.args.column c.find_end.result is c.unwrap_or-place.result at
