use Rattle.eco_grammar.proofs.Common.{◌≡◌, List, [], Ok, Err, sym, refl, ap, ◌∙◌, inl, inr, err_from_is_err_and, Refusal, QuerySlot}
use Rattle.eco_grammar.proofs.Common.{slots_of_written, slots_from, some_of, last_of, atom_view}
use Rattle.eco_scan.specs.declared.point.Mark.TheVariants.{Other, Slot}
use Rattle.eco_grammar.proofs.Built.{some_of-more, standing_first, standing_at, standing_end, atom_proper, last_proper, other_known, other_unknown, last_known}
use Rattle.eco_grammar.proofs.Built.{last_unknown, standing_left, not_same, not_begin}
use Rattle.eco_grammar.proofs.Kept.{first_kept, id_kept, slot_kept, query_kept}
use Rattle.eco_grammar.proofs.build.build_query.Goals.{in-Same, in-Begin, in-Other+in_ok-id-in-Other+in_ok-push-in-Other}
use Rattle.eco_grammar.proofs.build.build_query.Goals.{in-Slot+in_ok-last-in-Slot+in_ok-add_slot-in-Slot}
use Rattle.eco_grammar.proofs.build.build_query.Goals as goal

pub returns-in_err-id-in-Other : goal.returns-in_err-id-in-Other
returns-in_err-id-in-Other g c =
    let (xs, same, s, r) = c.loop-mark.invariant in
    let here = standing_at (g.N.Names.entity_named c.args.names.now) c.args.marks.now xs _ _ c.loop-mark.mark-index (Other c.in-Other.field-0 c.in-Other.atom)
    s c.loop-mark-test.true c.in-Other.is in
    let unknown : slots_of_written (g.N.Names.entity_named c.args.names.now) (slots_from [] c.args.marks.now) ≡ Err c.in_err-id-in-Other.field-0.0 =
    other_unknown _ c.args.marks.now xs _ _ c.in-Other.field-0 c.in-Other.atom c.in_err-id-in-Other.field-0.0 _ here
    (sym c.id_of_atom.ensures ∙ c.in_err-id-in-Other.was) in
    let p = err_from_is_err_and c.from_residual.result c.from_residual.ensures.1 in
    inr (p.1 ∙ ap (λ (e : Refusal). Err e) p.2 ∙ sym unknown)

pub returns-in_err-last-in-Slot : goal.returns-in_err-last-in-Slot
returns-in_err-last-in-Slot g c =
    let (xs, same, s, r) = c.loop-mark.invariant in
    let here = standing_at (g.N.Names.entity_named c.args.names.now) c.args.marks.now xs _ _ c.loop-mark.mark-index
    (Slot c.in-Slot.access c.in-Slot.head c.in-Slot.atom) s c.loop-mark-test.true c.in-Slot.is in
    let unknown : slots_of_written (g.N.Names.entity_named c.args.names.now) (slots_from [] c.args.marks.now) ≡ Err c.in_err-last-in-Slot.field-0.0 =
    last_unknown _ c.args.marks.now xs _ _ c.in-Slot.access c.in-Slot.head c.in-Slot.atom c.in_err-last-in-Slot.field-0.0 _ here
    (ap (λ k. last_of (g.N.Names.entity_named c.args.names.now) c.in-Slot.head k (atom_view c.in-Slot.atom)) same ∙ sym c.last_term.ensures
    ∙ c.in_err-last-in-Slot.was) in
    let p = err_from_is_err_and c.from_residual-in_err-last-in-Slot.result c.from_residual-in_err-last-in-Slot.ensures.1 in
    inr (p.1 ∙ ap (λ (e : Refusal). Err e) p.2 ∙ sym unknown)

pub returns-in_err-push-in-Other : goal.returns-in_err-push-in-Other
returns-in_err-push-in-Other g c =
    let p = err_from_is_err_and c.from_residual-in_err-push-in-Other.result c.from_residual-in_err-push-in-Other.ensures.1 in
    inl (p.1 ∙ ap (λ (e : Refusal). Err e) p.2)

pub returns-in_err-add_slot-in-Slot : goal.returns-in_err-add_slot-in-Slot
returns-in_err-add_slot-in-Slot g c =
    let p = err_from_is_err_and c.from_residual-in_err-add_slot-in-Slot.result c.from_residual-in_err-add_slot-in-Slot.ensures.1 in
    inl (p.1 ∙ ap (λ (e : Refusal). Err e) (p.2 ∙ c.in_err-add_slot-in-Slot.ensures.memory))

pub id_of_atom-requires : goal.id_of_atom-requires
id_of_atom-requires g c =
    let (xs, same, s, r) = c.loop-mark.invariant in
    atom_proper (g.N.Names.entity_named c.args.names.now) c.args.marks.now xs _ _ c.in-Other.field-0 c.in-Other.atom _
    (standing_at _ c.args.marks.now xs _ _ c.loop-mark.mark-index (Other c.in-Other.field-0 c.in-Other.atom) s c.loop-mark-test.true c.in-Other.is)

pub last_term-requires : goal.last_term-requires
last_term-requires g c =
    let (xs, same, s, r) = c.loop-mark.invariant in
    last_proper (g.N.Names.entity_named c.args.names.now) c.args.marks.now xs _ _ c.in-Slot.access c.in-Slot.head c.in-Slot.atom _
    (standing_at _ c.args.marks.now xs _ _ c.loop-mark.mark-index (Slot c.in-Slot.access c.in-Slot.head c.in-Slot.atom) s c.loop-mark-test.true
    c.in-Slot.is)

pub loop-mark-init : goal.loop-mark-init
loop-mark-init g c = (
  [],
  refl,
  rw (c.new-slots.ensures.items, c.new-group.ensures.items) (standing_first _ c.args.marks.now c.requires.whole c.requires.proper),
  rw (c.new-slots.ensures.items, c.new-group.ensures.items) first_kept,
)

pub returns : goal.returns
returns g c =
    let (xs, same, s, r) = c.loop-mark.invariant in
    inr (ap (λ (q : List QuerySlot). Ok q) c.of_slots.ensures
    ∙ sym (standing_end (g.N.Names.entity_named c.args.names.now) c.args.marks.now xs _ c.loop-mark.group.items c.loop-mark.mark-index s
    c.loop-mark-test.false))

pub of_slots-requires : goal.of_slots-requires
of_slots-requires g c =
    let (xs, same, s, r) = c.loop-mark.invariant in
    query_kept (g.N.Names.entity_named c.args.names.now) c.args.marks.now xs _ c.loop-mark.group.items c.loop-mark.mark-index s c.loop-mark-test.false r
    c.requires.few c.requires.positive

pub loop-mark-preserved : goal.loop-mark-preserved
loop-mark-preserved g c =
    let (xs, same, s, r) = c.loop-mark.invariant in
    elim c.match-mark.branch [
      | in-Same w ↦ absurd (not_same _ c.args.marks.now xs _ _ _
          (standing_at _ c.args.marks.now xs _ _ c.loop-mark.mark-index _ s c.loop-mark-test.true w.in-Same.is))
      | in-Begin w ↦ absurd
          (not_begin _ c.args.marks.now xs _ _ _ (standing_at _ c.args.marks.now xs _ _ c.loop-mark.mark-index _ s c.loop-mark-test.true w.in-Begin.is))
      | in-Other+in_ok-id-in-Other+in_ok-push-in-Other w ↦
          let here = standing_at (g.N.Names.entity_named c.args.names.now) c.args.marks.now xs _ _ c.loop-mark.mark-index
          (Other w.in-Other.field-0 w.in-Other.atom) s c.loop-mark-test.true w.in-Other.is in
          let known = other_known _ c.args.marks.now xs _ _ w.in-Other.field-0 w.in-Other.atom w.in_ok-id-in-Other.id _ here
          (sym w.id_of_atom.ensures ∙ w.in_ok-id-in-Other.was) in (
            _,
            some_of-more xs (atom_view w.in-Other.atom) ∙ sym w.grouped-is,
            rw (w.slots-is, w.group-is, w.in_ok-push-in-Other.ensures.items) known,
            rw (w.slots-is, w.group-is, w.in_ok-push-in-Other.ensures.items) (id_kept _ _ w.in_ok-id-in-Other.id r w.id_is_in_range.ensures),
          )
      | in-Slot+in_ok-last-in-Slot+in_ok-add_slot-in-Slot w ↦
          let here = standing_at (g.N.Names.entity_named c.args.names.now) c.args.marks.now xs _ _ c.loop-mark.mark-index
          (Slot w.in-Slot.access w.in-Slot.head w.in-Slot.atom) s c.loop-mark-test.true w.in-Slot.is in
          let last : last_of (g.N.Names.entity_named c.args.names.now) w.in-Slot.head (some_of xs) (atom_view w.in-Slot.atom) ≡ Ok w.in_ok-last-in-Slot.last =
          ap (λ k. last_of (g.N.Names.entity_named c.args.names.now) w.in-Slot.head k (atom_view w.in-Slot.atom)) same ∙ sym w.last_term.ensures
          ∙ w.in_ok-last-in-Slot.was in
          let known = last_known _ c.args.marks.now xs _ _ w.in-Slot.access w.in-Slot.head w.in-Slot.atom w.in_ok-last-in-Slot.last _ here last in
          let none = standing_left _ c.args.marks.now xs _ _ w.in-Slot.access w.in-Slot.head w.in-Slot.atom w.in_ok-last-in-Slot.last _ here last in
          let kept = slot_kept _ c.args.marks.now xs _ _ _ here _ w.in-Slot.head (atom_view w.in-Slot.atom) w.in_ok-last-in-Slot.last last r
          w.add_slot.ensures.range refl in
          let added = w.in_ok-add_slot-in-Slot.ensures in (
            [],
            sym w.grouped-is,
            rw (w.slots-is, w.group-is, added.added, added.left, none) known,
            rw (w.slots-is, w.group-is, added.added, added.left, none) kept,
          )
    ]
