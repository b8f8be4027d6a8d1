use Rattle.std.proofs.Common.{Global, Vec, rules}
use Rattle.std.proofs.lemmas.List.Elements.{All-push, All-same}
use Rattle.eco_stages.proofs.Common.{◌≡◌, ◌≤◌, ◌-◌, ◌+◌, ◌∷◌, [], ◌++◌, List, ap, append_assoc, arith, drop, length, length-drop, length-take-le}
use Rattle.eco_stages.proofs.Common.{refl, sym, take, ◌∙◌}
use Rattle.eco_stages.proofs.Keeping.{counted, first_in_turn, ids_grow, one_more, same, stays_on, still, unchanged}
use Rattle.eco_ids.specs.Run.{Set}
use Rattle.eco_ids.specs.declared.id.Id.{Id}
use Rattle.eco_stages.specs.Recorded.{SpeaksOfKept, StaysKept, commands_at, commands_of, sets_of}
use Rattle.eco_stages.specs.declared.kept.Kept.{Kept}
use Rattle.eco_stages.specs.declared.recorded.Recorded.{Recorded}
use Rattle.eco_stages.specs.declared.recorded.Recorded.TheVariants as recorded
use Rattle.eco_stages.specs.declared.width.Width.{Width}
use Rattle.eco_stages.specs.declared.width.Width.TheVariants.{One, Three, Eight}
use Rattle.eco_stages.proofs.stage.Stage.record_turns.Goals as goal

-- other ids are no other sets
same_sets : (k : Kept) (ids : Vec Id Global) (w : Width)
    → sets_of w (record { ones = k.ones; threes = k.threes; eights = k.eights; ids = ids; names = k.names }) ≡ sets_of w k
same_sets k ids One = refl
same_sets k ids Three = refl
same_sets k ids Eight = refl

module _ (c : goal.Then-not-push_at) where
  abbrev roomy : Kept
  roomy = let k = c.self.inside.kept in record { ones = k.ones; threes = k.threes; eights = k.eights; ids = c.reserve.new.self; names = k.names }

  kept_all : StaysKept c.self.inside.kept c.push_at.new.self
  kept_all =
      let old = c.self.inside.kept in
      stays_on old roomy c.push_at.new.self (ids_grow old roomy (same_sets old c.reserve.new.self) refl (unchanged c.reserve.ensures.items))
      c.push_at.ensures.kept

pub invariant_of-self-then-not-push_at : goal.invariant_of-self-then-not-push_at
invariant_of-self-then-not-push_at c =
    let old = c.self.inside.kept in
    let new = c.push_at.new.self in
    let items = c.self.inside.commands.items in
    let was = c.has_room.ensures.same in
    record {
      kept = All-same (SpeaksOfKept new) c.has_room.new.list.items items was (still old new (kept_all c) items c.self.invariant.kept);
      count = c.self.invariant.count ∙ ap length (sym (ap (commands_of new) was ∙ same old new (kept_all c) items c.self.invariant.kept));
    }

pub returns-then-not-push_at-clause-no : goal.returns-then-not-push_at-clause-no
returns-then-not-push_at-clause-no c refused =
    ap (commands_of c.push_at.new.self) c.has_room.ensures.same
    ∙ same c.self.inside.kept c.push_at.new.self (kept_all c) c.self.inside.commands.items c.self.invariant.kept ∙ c.self.view_is

module _ (c : goal.After-self-1) where
  abbrev old : Kept
  old = c.self.inside.kept

  abbrev room : Kept
  room = let k = old in record { ones = k.ones; threes = k.threes; eights = k.eights; ids = c.reserve.new.self; names = k.names }

  abbrev after : Kept
  after = c.push_at.new.self

  abbrev new : Kept
  new = let k = after in record { ones = k.ones; threes = k.threes; eights = k.eights; ids = c.push_ids.new.ids; names = k.names }

  abbrev behind : List Recorded
  behind = let n = c.len.result - c.turns_before-turns.result + 1 in let rs = c.deref-2.result.now in take (length rs - n) (drop n rs)

  abbrev others : List Id
  others = c.push_ids.ensures.0

  pushed : new.ids.items ≡ after.ids.items ++ c.args.id ∷ others
  pushed = c.push_ids.ensures.1 ∙ ap (λ ids. ids ++ others) c.push_reserved.ensures.items ∙ append_assoc after.ids.items (c.args.id ∷ []) others

  keeps : StaysKept old new
  keeps =
      stays_on old after new
      (stays_on old room after (ids_grow old room (same_sets old c.reserve.new.self) refl (unchanged c.reserve.ensures.items)) c.push_at.ensures.kept)
      (ids_grow after new (same_sets after c.push_ids.new.ids) refl (c.args.id ∷ others, pushed))

  abbrev run : Recorded
  run = recorded.Turns c.widest-width.result 1 c.turns_before-turns.result 1 c.len-place.result c.count-first.result

  came : c.push_reserved-2.new.self.items ≡ c.self.inside.commands.items ++ run ∷ []
  came = c.push_reserved-2.ensures.items ∙ ap (λ rs. rs ++ run ∷ []) c.has_room.ensures.same

  many : c.turns_before-turns.result ≡ length (c.args.id ∷ others)
  many =
      let n = c.len.result - c.turns_before-turns.result + 1 in
      let rs = c.deref-2.result.now in
      let all : length rs ≡ c.len.result = search rules in
      let some = c.turns_before-turns.ensures.many c.if-turns-eq0.false in
      let counts : c.turns_before-turns.result ≤ c.len.result = search rules in
      omega (
        arith,
        all,
        some,
        counts,
        c.push_ids.ensures.2,
        length-take-le (length rs - n) (drop n rs) (omega (arith, length-drop n rs)),
        length-drop n rs,
      )

  first : (commands_at new run ≡ Set c.args.entity c.args.id c.args.value ∷ []) × SpeaksOfKept new run
  first =
      first_in_turn room after new c.widest-width.result c.args.entity c.args.id c.args.value c.count-first.result c.len-place.result
      c.turns_before-turns.result others c.count-first.ensures (c.push_at.ensures.yes c.if-not-push_at.false) (same_sets after c.push_ids.new.ids)
      (search rules) pushed many
      (c.turns_before-turns.ensures.many c.if-turns-eq0.false) c.turns_before-turns.ensures.few

  told : commands_of new c.push_reserved-2.new.self.items
      ≡ commands_of old c.self.inside.commands.items ++ Set c.args.entity c.args.id c.args.value ∷ []
  told =
      ap (commands_of new) came
      ∙ one_more old new keeps c.self.inside.commands.items run (Set c.args.entity c.args.id c.args.value ∷ []) c.self.invariant.kept first.0

pub invariant_of-self-2 : goal.invariant_of-self-2
invariant_of-self-2 c =
    let items = c.self.inside.commands.items in
    let now = c.push_reserved-2.new.self.items in
    let P = SpeaksOfKept (new c) in
    record {
      kept = All-same P now (items ++ run c ∷ []) (came c)
          (All-push P items (run c) (still (old c) (new c) (keeps c) items c.self.invariant.kept) (first c).1);
      count = counted c.self.inside.count (commands_of (old c) items) (commands_of (new c) now) (Set c.args.entity c.args.id c.args.value)
          c.self.invariant.count (told c);
    }

pub returns-clause-yes : goal.returns-clause-yes
returns-clause-yes c done = told c ∙ ap (λ cs. cs ++ Set c.args.entity c.args.id c.args.value ∷ []) c.self.view_is
