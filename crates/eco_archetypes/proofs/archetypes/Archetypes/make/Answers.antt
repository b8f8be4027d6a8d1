use Rattle.eco_archetypes.proofs.Common.{on_ok, need}
use Rattle.eco_archetypes.proofs.archetypes.Archetypes.make.Goals as goal

pub make_as_wide-requires : goal.make_as_wide-requires
make_as_wide-requires c = record {
  absent = c.requires;
  widths = (need c.args.entities.now, rw c.as_slice-2.ensures (rw c.as_slice.ensures.ids at c.in_ok-widths.ensures));
}

pub returns-clause-widths : goal.returns-clause-widths
returns-clause-widths c =
    let wide = rw c.as_slice.ensures.ids at c.in_ok-widths.ensures in
    on_ok c.make_as_wide.result (λ all. all (need c.args.entities.now) (rw c.as_slice-2.ensures wide)) c.make_as_wide.ensures.widths
