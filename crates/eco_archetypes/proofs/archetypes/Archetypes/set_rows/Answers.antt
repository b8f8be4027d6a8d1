use Rattle.eco_archetypes.proofs.Common.{◌<◌, ◌≤◌, arith, inl, refl}
use Rattle.std.specs.Prelude.{◌*◌}
use Rattle.eco_archetypes.proofs.ArchetypeLemmas.{found_set, there_by_row}
use Rattle.eco_archetypes.proofs.Widths.{fits_each, kept_widths, sets_kept}
use Rattle.eco_archetypes.proofs.archetypes.Archetypes.set_rows.Goals as goal

pub set_rows-requires : goal.set_rows-requires
set_rows-requires g c =
    let few : g.row.N ≤ 8 = c.requires.few in
    let size : g.row.N * 8 < 9223372036854775808 = omega (arith, few) in (
      size,
      (
        c.requires.few,
        (
          rw (← c.self.view_is) at c.requires.row,
          λ v full zeros. fits_each c.self.inside.tables c.args.slot c.args.id v ((rw (← c.self.view_is) at c.requires.fits) v full zeros),
        ),
      ),
    )

pub invariant_of-self : goal.invariant_of-self
invariant_of-self g c =
    found_set c.self.invariant c.set_rows.ensures.written
    (there_by_row c.self.inside.tables c.args.slot c.args.row (rw (← c.self.view_is) at c.requires.row)) refl refl

pub returns-clause-long : goal.returns-clause-long
returns-clause-long g c = c.set_rows.ensures.long

pub returns-clause-widths : goal.returns-clause-widths
returns-clause-widths g c =
    rw (← c.self.view_is) (kept_widths _ _ (sets_kept c.self.inside.tables _ c.args.slot _ c.set_rows.ensures.written (inl refl)))
