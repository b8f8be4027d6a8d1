use Rattle.eco_tables.proofs.Common.{◌≡◌, ◌∷◌, [], ◌++◌, arith, ◌∙◌, suc, ◌+◌, ◌<◌, length, refl, map-append, All-push}
use Rattle.eco_tables.proofs.Common.{ColumnState, kind_of}
use Rattle.eco_tables.proofs.Widths.{kinds_pushed, kinds_skipped}
use Rattle.eco_tables.proofs.columns.columns_of.Goals.{then-widths-place-gt0+in_ok-push, else-widths-place-gt0}
use Rattle.eco_tables.proofs.columns.columns_of.Goals as goal

pub loop-place-preserved : goal.loop-place-preserved
loop-place-preserved c =
    let k = c.loop-place.place in
    let next : k + 1 ≡ suc k = omega arith in
    let in_widths : k < length c.args.widths.now = omega (arith, c.requires.lengths, c.loop-place-test.true) in
    elim c.if-widths-place-gt0.branch [
      | then-widths-place-gt0+in_ok-push w ↦
          rw (w.columns-is, w.in_ok-push.ensures.items) (
            map-append kind_of c.loop-place.columns.items (w.new.result ∷ [])
                ∙ (λ t. c.loop-place.invariant.0 t ++ (w.new.ensures.id t, w.new.ensures.width t) ∷ [])
                ∙ kinds_pushed k (k + 1) c.args.ids.now c.args.widths.now _ _ _ _ next c.loop-place-test.true in_widths refl refl w.if-widths-place-gt0.true,
            All-push (λ (x : ColumnState). x.values ≡ []) c.loop-place.columns.items w.new.result c.loop-place.invariant.1 w.new.ensures.empty,
          )
      | else-widths-place-gt0 w ↦
          rw w.columns-is (
            c.loop-place.invariant.0
                ∙ kinds_skipped k (k + 1) c.args.ids.now c.args.widths.now next c.loop-place-test.true in_widths
                (omega (arith, w.if-widths-place-gt0.false)),
            c.loop-place.invariant.1,
          )
    ]
