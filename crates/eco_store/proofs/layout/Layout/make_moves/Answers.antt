use Rattle.eco_store.proofs.Common.{◌≡◌, ℕ, ◌+◌, ◌<◌, List, ◌∷◌, ◌++◌, [], Some, IsTrue, nat_eq, take, drop, get_or, length, refl}
use Rattle.eco_store.proofs.Common.{sym, ap, ◌∙◌, subst, arith, add-one, All, list_any, drop-cons, take_all, take_more, All-drop, fold-append, table_in}
use Rattle.eco_store.proofs.Common.{type_at, there_as_typed, typed_table, changed, Move, after_move, after_moves, HasRoomFor, StayingState, read, with_type}
use Rattle.eco_store.proofs.Coming.{as_many, first_place, rest_places, typed_alike, typed_at}
use Rattle.eco_store.proofs.layout.Layout.make_moves.Goals as goal

from_there : (ns : List ℕ) (i : ℕ) → i < length ns → drop i ns ≡ get_or ns i 0 ∷ drop (i + 1) ns
from_there ns i within = rw add-one (drop-cons ns i 0 within)

pub loop-place-init : goal.loop-place-init
loop-place-init c = record {
  laid = c.requires.laid;
  named = c.requires.ready.named;
  typed = c.requires.ready.typed;
  room = c.requires.ready.room;
  seen = refl;
}

pub go_to-requires-clause-there : goal.go_to-requires-clause-there
go_to-requires-clause-there c =
    let m = c.index-moves-place.result in
    there_as_typed c.loop-place.self.archetypes (get_or c.args.slots.now c.loop-place.place 0) m.type_list
    (subst (λ (x : Move). type_at c.loop-place.self.archetypes (get_or c.args.slots.now c.loop-place.place 0) ≡ Some x.type_list)
    (sym c.index-moves-place.is)
    (typed_at c.loop-place.self.archetypes c.args.moves.now c.args.slots.now c.loop-place.place 0 _ c.loop-place.invariant.typed c.loop-place-test.true))

pub go_to-requires-clause-room : goal.go_to-requires-clause-room
go_to-requires-clause-room c =
    let i = c.loop-place.place in
    let s = c.loop-place.self.archetypes in
    let ns = c.args.slots.now in
    let many = as_many s c.args.moves.now ns c.loop-place.invariant.typed in
    let below = c.loop-place-test.true in
    let within : i < length ns = omega (arith, many, below) in
    first_place s (get_or ns i 0) (drop (i + 1) ns) (subst (HasRoomFor s) (from_there ns i within) c.loop-place.invariant.room)

pub loop-place-preserved : goal.loop-place-preserved
loop-place-preserved c =
    let i = c.loop-place.place in
    let s = c.loop-place.self.archetypes in
    let s' = c.go_to.new.self.archetypes in
    let ms = c.args.moves.now in
    let ns = c.args.slots.now in
    let m = c.index-moves-place.result in
    let was = c.loop-place.invariant in
    let targets = c.loop-place.self.staying.targets in
    let w0 = read c.args.self.now.entities c.args.self.now.archetypes in
    let many = as_many s ms ns was.typed in
    let below = c.loop-place-test.true in
    let within : i < length ns = omega (arith, many, below) in
    let same : c.go_to.new.self.staying.targets ≡ targets = ap (λ (p : StayingState). p.targets) c.go_to.ensures.carries.staying in
    let typed = subst (λ (x : Move). type_at s (get_or ns i 0) ≡ Some x.type_list) (sym c.index-moves-place.is) (typed_at s ms ns i 0 _ was.typed below) in
    let more : take (i + 1) ms ≡ take i ms ++ m ∷ [] = take_more ms i m below ∙ ap (λ x. take i ms ++ x ∷ []) (sym c.index-moves-place.is) in
    record {
      laid = c.go_to.ensures.carries.laid;
      named = subst (λ slots. All (λ n. IsTrue (list_any (nat_eq n) slots)) ns) (sym same) was.named;
      typed = typed_alike s s' ms ns (λ k d inside. c.go_to.ensures.carries.admits.types _ (was.named k d inside)) was.typed;
      room =
          rest_places s s' targets (get_or ns i 0) (drop (i + 1) ns) (All-drop (λ n. IsTrue (list_any (nat_eq n) targets)) (i + 1) ns was.named)
          c.go_to.ensures.carries.admits (subst (HasRoomFor s) (from_there ns i within) was.room);
      seen =
          c.go_to.ensures.seen
          ∙ ap (λ (x : Move). changed (read c.loop-place.self.entities s) x.entity (with_type (table_in s (get_or ns i 0)).ids)) (sym c.index-moves-place.is)
          ∙ ap (λ ids. changed (read c.loop-place.self.entities s) m.entity (with_type ids)) (typed_table s (get_or ns i 0) m.type_list typed)
          ∙ ap (λ w. after_move w m) was.seen ∙ sym (fold-append after_move w0 (take i ms) (m ∷ []))
          ∙ sym (ap (after_moves w0) more);
    }

pub returns-clause-seen : goal.returns-clause-seen
returns-clause-seen c =
    c.loop-place.invariant.seen
    ∙ ap (after_moves (read c.args.self.now.entities c.args.self.now.archetypes)) (take_all c.loop-place.place c.args.moves.now c.loop-place-test.false)
