use Rattle.eco_tables.proofs.Common.{◌∙◌, ◌++◌, ap, arith, drop, pos, replicate, padded}
use Rattle.eco_tables.proofs.Runs.{refit_narrow, refit_wide}
use Rattle.eco_tables.proofs.column.runs.refit.Goals.{then-this, else-this}
use Rattle.eco_tables.proofs.column.runs.refit.Goals as goal

pub returns : goal.returns
returns g c =
    let fields = c.args.fields.now in
    let long = c.told-fields in
    ap (λ xs. padded (xs ++ drop c.if-this.least (replicate g.row.M (pos 0)))) c.copy_from_slice.ensures.after
    ∙ elim c.if-this.branch [
      | then-this w ↦
          rw w.least-is (refit_wide g.row.M g.row.N fields long (let h = w.if-this.true in omega (arith, h)) c.requires.kept)
      | else-this w ↦
          rw w.least-is (refit_narrow g.row.M fields (let h = w.if-this.false in omega (arith, h, long)) c.requires.fits)
    ]
