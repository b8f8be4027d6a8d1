use Rattle.eco_store.proofs.Common.{◌≡◌, ◌≢◌, ℕ, ◌+◌, ◌<◌, List, ◌∷◌, [], map, take, drop, get_or, length, sym, ap, ◌∙◌}
use Rattle.eco_store.proofs.Common.{subst, add-one, drop-cons, take_more, map-append, All-drop, fold-append, Transfer, after_change, after_changes, read}
use Rattle.eco_store.proofs.Common.{StayingState, change_of, HasRoom, IsNamed}
use Rattle.eco_store.proofs.Pouring.{apart_slots, change_kept, still_there, room_first, room_rest}
use Rattle.eco_store.proofs.layout.Layout.move_all.Goals as goal

from_there : (ts : List Transfer) (i : ℕ) (d : Transfer) → i < length ts → drop i ts ≡ get_or ts i d ∷ drop (i + 1) ts
from_there ts i d within = rw add-one (drop-cons ts i d within)

pub move_rows-requires-clause-apart : goal.move_rows-requires-clause-apart
move_rows-requires-clause-apart c =
    let i = c.loop-transfer.transfer-index in
    let none : Transfer = record { from = 0; to = 0 } in
    λ same. apart_slots c.args.self.now.archetypes c.args.transfers.now c.requires.one_way i i none none c.loop-transfer-test.true c.loop-transfer-test.true
    (sym same)

pub move_rows-requires-clause-source : goal.move_rows-requires-clause-source
move_rows-requires-clause-source c =
    let i = c.loop-transfer.transfer-index in
    let none : Transfer = record { from = 0; to = 0 } in
    let t = get_or c.args.transfers.now i none in
    still_there c.args.self.now.archetypes c.loop-transfer.self.archetypes t.from (c.loop-transfer.invariant.types t.from)
    (c.requires.ready.plan.sources i none c.loop-transfer-test.true)

pub move_rows-requires-clause-target : goal.move_rows-requires-clause-target
move_rows-requires-clause-target c =
    let i = c.loop-transfer.transfer-index in
    let none : Transfer = record { from = 0; to = 0 } in
    let t = get_or c.args.transfers.now i none in
    still_there c.args.self.now.archetypes c.loop-transfer.self.archetypes t.to (c.loop-transfer.invariant.types t.to)
    (c.requires.ready.plan.targets i none c.loop-transfer-test.true)

pub move_rows-requires-clause-room : goal.move_rows-requires-clause-room
move_rows-requires-clause-room c =
    let i = c.loop-transfer.transfer-index in
    let none : Transfer = record { from = 0; to = 0 } in
    let ts = c.args.transfers.now in
    room_first c.loop-transfer.self.archetypes (get_or ts i none) (drop (i + 1) ts)
    (subst (HasRoom c.loop-transfer.self.archetypes) (from_there ts i none c.loop-transfer-test.true) c.loop-transfer.invariant.room)

pub loop-transfer-preserved : goal.loop-transfer-preserved
loop-transfer-preserved c =
    let i = c.loop-transfer.transfer-index in
    let none : Transfer = record { from = 0; to = 0 } in
    let ts = c.args.transfers.now in
    let t = get_or ts i none in
    let s0 = c.args.self.now.archetypes in
    let s = c.loop-transfer.self.archetypes in
    let w0 = read c.args.self.now.entities s0 in
    let there = c.loop-transfer-test.true in
    let was = c.loop-transfer.invariant in
    record {
      laid = c.move_rows.ensures.empties.laid;
      staying = c.move_rows.ensures.empties.staying ∙ was.staying;
      types = λ n. c.move_rows.ensures.empties.pours.types n ∙ was.types n;
      room =
          room_rest s c.move_rows.new.self.archetypes t (drop (i + 1) ts)
          (subst (HasRoom s) (from_there ts i none there) was.room) c.move_rows.ensures.empties.pours
          (All-drop (λ (u : Transfer). t.to ≢ u.from) (i + 1) ts (λ k d within. apart_slots s0 ts c.requires.one_way i k none d there within))
          (All-drop (λ (u : Transfer). u.to ≢ t.from) (i + 1) ts (λ k d within. apart_slots s0 ts c.requires.one_way k i d none within there));
      seen =
          c.move_rows.ensures.seen
          ∙ (λ j. after_change (was.seen j) (change_kept s0 s t (was.types t.from) (was.types t.to) j))
          ∙ sym (fold-append after_change w0 (map (change_of s0) (take i ts)) (change_of s0 t ∷ []))
          ∙ sym (ap (after_changes w0) (ap (map (change_of s0)) (take_more ts i none there) ∙ map-append (change_of s0) (take i ts) (t ∷ [])));
    }

pub move_rows-requires-clause-named : goal.move_rows-requires-clause-named
move_rows-requires-clause-named c =
    let none : Transfer = record { from = 0; to = 0 } in
    let t = get_or c.args.transfers.now c.loop-transfer.transfer-index none in
    subst (λ (q : StayingState). IsNamed q.targets t) (sym c.loop-transfer.invariant.staying)
    (c.requires.ready.named c.loop-transfer.transfer-index none c.loop-transfer-test.true)
