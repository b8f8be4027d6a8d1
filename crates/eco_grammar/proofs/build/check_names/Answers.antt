use Rattle.eco_grammar.proofs.Common.{◌≡◌, [], Err, sym, refl, ap, ◌∙◌, err_from_is_err_and, slots_of_written, slots_from, last_of, atom_view}
use Rattle.eco_scan.specs.declared.point.Mark.TheVariants.{Other, Slot}
use Rattle.eco_grammar.proofs.Built.{some_of-more, atom_proper, last_proper, standing_first, standing_at, other_known, other_unknown, last_known, last_unknown}
use Rattle.eco_grammar.proofs.Built.{not_same, not_begin}
use Rattle.eco_grammar.proofs.build.check_names.Goals.{in-Same, in-Begin, in-Other+in_ok-id_of_atom-in-Other, in-Slot+in_ok-last_term-in-Slot}
use Rattle.eco_grammar.proofs.build.check_names.Goals as goal

pub loop-mark-init : goal.loop-mark-init
loop-mark-init g c = ([], [], [], refl, standing_first _ c.args.marks.now c.requires.whole c.requires.proper)

pub returns-in_err-id_of_atom-in-Other-clause-unknown : goal.returns-in_err-id_of_atom-in-Other-clause-unknown
returns-in_err-id_of_atom-in-Other-clause-unknown g c =
    let (xs, ys, group, same, s) = c.loop-mark.invariant in
    let here = standing_at (g.N.Names.entity_named c.args.names.now) c.args.marks.now xs ys group c.loop-mark.mark-index
    (Other c.in-Other.field-0 c.in-Other.atom) s c.loop-mark-test.true c.in-Other.is in
    let unknown : slots_of_written (g.N.Names.entity_named c.args.names.now) (slots_from [] c.args.marks.now) ≡ Err c.in_err-id_of_atom-in-Other.field-0.0 =
    other_unknown _ c.args.marks.now xs ys group c.in-Other.field-0 c.in-Other.atom c.in_err-id_of_atom-in-Other.field-0.0 _ here
    (sym c.id_of_atom.ensures ∙ c.in_err-id_of_atom-in-Other.was) in
    let p = err_from_is_err_and c.from_residual.result c.from_residual.ensures.1 in
    rw (p.1, p.2) unknown

pub returns-in_err-last_term-in-Slot-clause-unknown : goal.returns-in_err-last_term-in-Slot-clause-unknown
returns-in_err-last_term-in-Slot-clause-unknown g c =
    let (xs, ys, group, same, s) = c.loop-mark.invariant in
    let here = standing_at (g.N.Names.entity_named c.args.names.now) c.args.marks.now xs ys group c.loop-mark.mark-index
    (Slot c.in-Slot.field-0 c.in-Slot.head c.in-Slot.atom) s c.loop-mark-test.true c.in-Slot.is in
    let unknown : slots_of_written (g.N.Names.entity_named c.args.names.now) (slots_from [] c.args.marks.now) ≡ Err c.in_err-last_term-in-Slot.field-0.0 =
    last_unknown _ c.args.marks.now xs ys group c.in-Slot.field-0 c.in-Slot.head c.in-Slot.atom c.in_err-last_term-in-Slot.field-0.0 _ here
    (ap (λ k. last_of (g.N.Names.entity_named c.args.names.now) c.in-Slot.head k (atom_view c.in-Slot.atom)) same ∙ sym c.last_term.ensures
    ∙ c.in_err-last_term-in-Slot.was) in
    let p = err_from_is_err_and c.from_residual-in_err-last_term-in-Slot.result c.from_residual-in_err-last_term-in-Slot.ensures.1 in
    rw (p.1, p.2) unknown

pub returns-in_err-id_of_atom-in-Other-clause-known : goal.returns-in_err-id_of_atom-in-Other-clause-known
returns-in_err-id_of_atom-in-Other-clause-known g c = let p = err_from_is_err_and c.from_residual.result c.from_residual.ensures.1 in rw p.1 tt

pub returns-in_err-last_term-in-Slot-clause-known : goal.returns-in_err-last_term-in-Slot-clause-known
returns-in_err-last_term-in-Slot-clause-known g c =
    let p = err_from_is_err_and c.from_residual-in_err-last_term-in-Slot.result c.from_residual-in_err-last_term-in-Slot.ensures.1 in
    rw p.1 tt

pub id_of_atom-requires : goal.id_of_atom-requires
id_of_atom-requires g c =
    let (xs, ys, group, same, s) = c.loop-mark.invariant in
    atom_proper (g.N.Names.entity_named c.args.names.now) c.args.marks.now xs ys group c.in-Other.field-0 c.in-Other.atom _
    (standing_at _ c.args.marks.now xs ys group c.loop-mark.mark-index (Other c.in-Other.field-0 c.in-Other.atom) s c.loop-mark-test.true c.in-Other.is)

pub last_term-requires : goal.last_term-requires
last_term-requires g c =
    let (xs, ys, group, same, s) = c.loop-mark.invariant in
    last_proper (g.N.Names.entity_named c.args.names.now) c.args.marks.now xs ys group c.in-Slot.field-0 c.in-Slot.head c.in-Slot.atom _
    (standing_at _ c.args.marks.now xs ys group c.loop-mark.mark-index (Slot c.in-Slot.field-0 c.in-Slot.head c.in-Slot.atom) s c.loop-mark-test.true
    c.in-Slot.is)

pub loop-mark-preserved : goal.loop-mark-preserved
loop-mark-preserved g c =
    let (xs, ys, group, same, s) = c.loop-mark.invariant in
    elim c.match-mark.branch [
      | in-Same w ↦ absurd (not_same _ c.args.marks.now xs ys group _
          (standing_at _ c.args.marks.now xs ys group c.loop-mark.mark-index _ s c.loop-mark-test.true w.in-Same.is))
      | in-Begin w ↦ absurd
          (not_begin _ c.args.marks.now xs ys group _
          (standing_at _ c.args.marks.now xs ys group c.loop-mark.mark-index _ s c.loop-mark-test.true w.in-Begin.is))
      | in-Other+in_ok-id_of_atom-in-Other w ↦
          let here = standing_at (g.N.Names.entity_named c.args.names.now) c.args.marks.now xs ys group c.loop-mark.mark-index
          (Other w.in-Other.field-0 w.in-Other.atom) s c.loop-mark-test.true w.in-Other.is in (
            _,
            ys,
            _,
            some_of-more xs (atom_view w.in-Other.atom) ∙ sym w.grouped-is,
            other_known _ c.args.marks.now xs ys group w.in-Other.field-0 w.in-Other.atom w.in_ok-id_of_atom-in-Other.field-0 _ here
                (sym w.id_of_atom.ensures ∙ w.in_ok-id_of_atom-in-Other.was),
          )
      | in-Slot+in_ok-last_term-in-Slot w ↦
          let here = standing_at (g.N.Names.entity_named c.args.names.now) c.args.marks.now xs ys group c.loop-mark.mark-index
          (Slot w.in-Slot.field-0 w.in-Slot.head w.in-Slot.atom) s c.loop-mark-test.true w.in-Slot.is in (
            [],
            _,
            [],
            sym w.grouped-is,
            last_known _ c.args.marks.now xs ys group w.in-Slot.field-0 w.in-Slot.head w.in-Slot.atom w.in_ok-last_term-in-Slot.field-0 _ here
                (ap (λ k. last_of (g.N.Names.entity_named c.args.names.now) w.in-Slot.head k (atom_view w.in-Slot.atom)) same ∙ sym w.last_term.ensures
                ∙ w.in_ok-last_term-in-Slot.was),
          )
    ]
