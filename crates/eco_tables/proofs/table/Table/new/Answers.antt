use Rattle.eco_tables.proofs.Common.{ap, ◌∙◌, arith, map, refl, kinds_of, rows_of, width_among}
use Rattle.eco_tables.proofs.Widths.{are_kinds, widths_kept}
use Rattle.eco_tables.proofs.table.Table.new.Goals as goal

pub invariant_of-result : goal.invariant_of-result
invariant_of-result c =
    let kinds = c.in_ok-columns.ensures.kinds ∙ ap (λ is. kinds_of is c.args.widths.now) c.as_slice.ensures.ids in
    rw c.new.ensures.items record {
      kinds = rw kinds (are_kinds c.args.type_list c.args.widths.now c.as_slice.ensures.ascending);
      even = λ k d there. rw (c.in_ok-columns.ensures.empty k d there) refl;
      roomy = λ k d there. omega arith;
      rows_room = omega arith;
    }

pub returns-clause-is : goal.returns-clause-is
returns-clause-is c =
    let kinds = c.in_ok-columns.ensures.kinds ∙ ap (λ is. kinds_of is c.args.widths.now) c.as_slice.ensures.ids in
    let widths = ap (λ ks. map (width_among ks) c.args.type_list) kinds
    ∙ widths_kept c.args.type_list c.args.widths.now c.as_slice.ensures.ascending c.requires.lengths in
    λ t. record { ids = c.args.type_list; widths = widths t; rows = rows_of c.args.type_list c.in_ok-columns.columns.items (c.new.ensures.items t); room = 0 }
