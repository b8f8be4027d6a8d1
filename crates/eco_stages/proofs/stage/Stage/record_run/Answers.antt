use Rattle.std.proofs.lemmas.List.Elements.{All-push, All-same}
use Rattle.eco_stages.proofs.Common.{◌≡◌, ◌∷◌, [], ◌++◌, ap, length, sym, ◌∙◌}
use Rattle.eco_stages.proofs.Keeping.{counted, first_of, one_more, same, still}
use Rattle.eco_ids.specs.Run.{Set}
use Rattle.eco_stages.specs.Recorded.{SpeaksOfKept, commands_at, commands_of}
use Rattle.eco_stages.specs.declared.recorded.Recorded.{Recorded}
use Rattle.eco_stages.specs.declared.recorded.Recorded.TheVariants as recorded
use Rattle.eco_stages.proofs.stage.Stage.record_run.Goals as goal

pub invariant_of-self-then-not-push_at : goal.invariant_of-self-then-not-push_at
invariant_of-self-then-not-push_at c =
    let old = c.self.inside.kept in
    let new = c.push_at.new.self in
    let items = c.self.inside.commands.items in
    let keeps = c.push_at.ensures.kept in
    let was = c.has_room.ensures.same in
    record {
      kept = All-same (SpeaksOfKept new) c.has_room.new.list.items items was (still old new keeps items c.self.invariant.kept);
      count = c.self.invariant.count ∙ ap length (sym (ap (commands_of new) was ∙ same old new keeps items c.self.invariant.kept));
    }

pub returns-then-not-push_at-clause-no : goal.returns-then-not-push_at-clause-no
returns-then-not-push_at-clause-no c refused =
    let new = c.push_at.new.self in
    ap (commands_of new) c.has_room.ensures.same
    ∙ same c.self.inside.kept new c.push_at.ensures.kept c.self.inside.commands.items c.self.invariant.kept ∙ c.self.view_is

module _ (c : goal.After-self-1) where
  abbrev run : Recorded
  run = recorded.Set c.of-width.result 1 c.args.id c.count-first.result

  pushed : c.push_reserved.new.self.items ≡ c.self.inside.commands.items ++ run ∷ []
  pushed = c.push_reserved.ensures.items ∙ ap (λ rs. rs ++ run ∷ []) c.has_room.ensures.same

  first : (commands_at c.push_at.new.self run ≡ Set c.args.entity c.args.id c.args.value ∷ []) × SpeaksOfKept c.push_at.new.self run
  first = first_of c.self.inside.kept c.push_at.new.self c.of-width.result c.args.entity c.args.id c.args.value c.count-first.result c.count-first.ensures
      (c.push_at.ensures.yes c.if-not-push_at.false)

  told : commands_of c.push_at.new.self c.push_reserved.new.self.items
      ≡ commands_of c.self.inside.kept c.self.inside.commands.items ++ Set c.args.entity c.args.id c.args.value ∷ []
  told =
      ap (commands_of c.push_at.new.self) pushed
      ∙ one_more c.self.inside.kept c.push_at.new.self c.push_at.ensures.kept c.self.inside.commands.items run
      (Set c.args.entity c.args.id c.args.value ∷ []) c.self.invariant.kept first.0

pub invariant_of-self-2 : goal.invariant_of-self-2
invariant_of-self-2 c =
    let old = c.self.inside.kept in
    let new = c.push_at.new.self in
    let items = c.self.inside.commands.items in
    let now = c.push_reserved.new.self.items in
    let P = SpeaksOfKept new in
    record {
      kept = All-same P now (items ++ run c ∷ []) (pushed c)
          (All-push P items (run c) (still old new c.push_at.ensures.kept items c.self.invariant.kept) (first c).1);
      count = counted c.self.inside.count (commands_of old items) (commands_of new now) (Set c.args.entity c.args.id c.args.value)
          c.self.invariant.count (told c);
    }

pub returns-clause-yes : goal.returns-clause-yes
returns-clause-yes c done = told c ∙ ap (λ cs. cs ++ Set c.args.entity c.args.id c.args.value ∷ []) c.self.view_is
