use Rattle.std.specs.Prelude.{List, Option, length, map, option_map, string_bytes}
use Rattle.std.proofs.Common.{rules}
use Rattle.std.proofs.lemmas.List.Elements.{All-push, All-same}
use Rattle.eco_stages.proofs.Common.{ℕ, ◌≡◌, ◌∷◌, [], ◌++◌, ap, map-append, ◌∙◌}
use Rattle.eco_stages.proofs.Keeping.{all_keep, as_it_was, counted, named, one_more, still}
use Rattle.eco_ids.specs.Run.{Rename}
use Rattle.eco_stages.specs.Recorded.{SpeaksOfKept, StaysKept, commands_at, commands_of, names_of}
use Rattle.eco_stages.specs.declared.kept.Kept.{Kept}
use Rattle.eco_stages.specs.declared.recorded.Recorded.{Recorded}
use Rattle.eco_stages.specs.declared.recorded.Recorded.TheVariants as recorded
use Rattle.eco_stages.proofs.stage.Stage.record_rename.Goals as goal

module _ (c : goal.After-self-1) where
  abbrev old : Kept
  old = c.self.inside.kept

  abbrev new : Kept
  new = let k = old in record { ones = k.ones; threes = k.threes; eights = k.eights; ids = k.ids; names = c.push_reserved.new.self }

  abbrev name : Option (List ℕ)
  name = option_map string_bytes c.args.name

  one : names_of new ≡ names_of old ++ name ∷ []
  one =
      ap (map (option_map string_bytes)) (c.push_reserved.ensures.items ∙ ap (λ xs. xs ++ c.args.name ∷ []) c.has_room-else-not-has_room.ensures.same)
      ∙ map-append (option_map string_bytes) c.self.inside.kept.names.items (c.args.name ∷ [])

  keeps : StaysKept old new
  keeps =
      all_keep old new (as_it_was c.self.inside.kept.ones.items) (as_it_was c.self.inside.kept.threes.items)
      (as_it_was c.self.inside.kept.eights.items) (as_it_was c.self.inside.kept.ids.items) (name ∷ [], one)

  abbrev rename : Recorded
  rename = recorded.Rename c.args.entity c.len-place.result

  pushed : c.push_reserved-2.new.self.items ≡ c.self.inside.commands.items ++ rename ∷ []
  pushed = c.push_reserved-2.ensures.items ∙ ap (λ rs. rs ++ rename ∷ []) c.has_room.ensures.same

  told_one : (commands_at new rename ≡ Rename c.args.entity name ∷ []) × SpeaksOfKept new rename
  told_one = named old new c.args.entity name c.len-place.result (c.len-place.ensures ∙ search rules ∙ ap length c.has_room-else-not-has_room.ensures.same) one

  told : commands_of new c.push_reserved-2.new.self.items ≡ commands_of old c.self.inside.commands.items ++ Rename c.args.entity name ∷ []
  told =
      ap (commands_of new) pushed
      ∙ one_more old new keeps c.self.inside.commands.items rename (Rename c.args.entity name ∷ []) c.self.invariant.kept told_one.0

pub invariant_of-self-2 : goal.invariant_of-self-2
invariant_of-self-2 c =
    let items = c.self.inside.commands.items in
    let now = c.push_reserved-2.new.self.items in
    let P = SpeaksOfKept (new c) in
    record {
      kept = All-same P now (items ++ rename c ∷ []) (pushed c)
          (All-push P items (rename c) (still (old c) (new c) (keeps c) items c.self.invariant.kept) (told_one c).1);
      count = counted c.self.inside.count (commands_of (old c) items) (commands_of (new c) now) (Rename c.args.entity (name c)) c.self.invariant.count (told c);
    }

pub returns-clause-ok : goal.returns-clause-ok
returns-clause-ok c = told c ∙ ap (λ cs. cs ++ Rename c.args.entity (name c) ∷ []) c.self.view_is
