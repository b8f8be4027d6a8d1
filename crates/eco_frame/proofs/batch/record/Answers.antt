use Rattle.eco_frame.proofs.Common.{◌≡◌, ◌<◌, ◌≤◌, flat_map, length, map, subst, sym, ap, ◌∙◌, arith, length-map, IsBatch, IsOut}
use Rattle.eco_frame.proofs.Common.{by_index, IsRecorded, pieces_at, pieces_in, piece_commands, piece_taken, seen_part, seen_piece, model_at, model_of}
use Rattle.std.proofs.lemmas.List.Elements.{recursion_from_All}
use Rattle.eco_frame.proofs.Batched.{both_err, both_ok, out_seen, recorded}
use Rattle.eco_frame.proofs.batch.record.Goals as goal

pub returns-clause-ok : goal.returns-clause-ok
returns-clause-ok g c =
    let b = g.B.SystemBody in
    let w = c.args.world.now in
    let places = c.args.places.now in
    let f = by_index (λ p. piece_commands b.taken b.commands (seen_piece p)) in
    let t = by_index (λ p. piece_taken b.taken b.commands (seen_piece p)) in
    let pieces = c.in_ok-pieces.pieces.items in
    let seen : map seen_piece pieces ≡ pieces_at w c.args.systems.now places =
    c.in_ok-pieces.ensures ∙ ap (λ ps. flat_map pieces_in (map seen_part ps)) c.deref.ensures.value ∙ ap (flat_map pieces_in) c.in_ok-parts.ensures.ok in
    let used = c.workers_for-workers.result in
    let few : c.args.workers ≡ 1 → used ≡ 1 = λ one. (let some = c.workers_for-workers.ensures in omega (arith, some, one)) in
    let within = recursion_from_All (λ k. k < length c.args.systems.now) places c.requires.places in
    let batch = map (model_at (map (model_of b.reads_of b.writes_of b.kills_of b.taken b.commands) c.args.systems.now)) places in
    both_ok _ _ _
    (λ r h most. subst (λ given. IsRecorded c.args.workers w batch given r.1) (sym h.2)
    (recorded b.reads_of b.writes_of b.kills_of b.taken b.commands c.are_settled.ensures w seen_piece c.args.workers used few c.args.systems.now places
    pieces r.1 h.0 within seen (subst (λ ps. length ps ≤ 16777216) c.deref-3.ensures.value most)
    (subst (λ base. IsBatch f t used pieces base r.1 h.0) c.high.ensures
    (subst (λ ps. IsBatch f t used ps c.high.result r.1 h.0) c.deref-3.ensures.value h.1))))
    c.record_pieces.result c.record_pieces.ensures.batch c.record_pieces.ensures.few

pub returns-clause-out : goal.returns-clause-out
returns-clause-out g c =
    let b = g.B.SystemBody in
    let w = c.args.world.now in
    let places = c.args.places.now in
    let f = piece_commands b.taken b.commands in
    let t = piece_taken b.taken b.commands in
    let pieces = c.in_ok-pieces.pieces.items in
    let seen : map seen_piece pieces ≡ pieces_at w c.args.systems.now places =
    c.in_ok-pieces.ensures ∙ ap (λ ps. flat_map pieces_in (map seen_part ps)) c.deref.ensures.value ∙ ap (flat_map pieces_in) c.in_ok-parts.ensures.ok in
    both_err _ _ _
    (λ e h most no. (
      subst (λ ps. IsOut (by_index f) (by_index t) ps (length w.indices) w.limit) seen
          (subst (λ n. IsOut (by_index f) (by_index t) (map seen_piece pieces) (length w.indices) n) c.limit.ensures
          (subst (λ n. IsOut (by_index f) (by_index t) (map seen_piece pieces) n c.limit.result) c.high.ensures
          (out_seen seen_piece (by_index f) (by_index t) pieces c.high.result c.limit.result
          (subst (λ ps. IsOut (by_index (λ p. f (seen_piece p))) (by_index (λ p. t (seen_piece p))) ps c.high.result c.limit.result)
          c.deref-3.ensures.value (h no))))),
      subst (λ ps. length ps ≤ 16777216) seen (subst (λ n. n ≤ 16777216) (sym (length-map pieces seen_piece))
          (subst (λ ps. length ps ≤ 16777216) c.deref-3.ensures.value (most no))),
    ))
    c.record_pieces.result c.record_pieces.ensures.out c.record_pieces.ensures.gone
