use Rattle.std.proofs.lemmas.List.Elements.{All-push, All-same}
use Rattle.eco_stages.proofs.Common.{◌≡◌, ◌∷◌, [], ◌++◌, ap, ◌∙◌}
use Rattle.eco_stages.proofs.Keeping.{counted, last_of}
use Rattle.eco_stages.specs.Recorded.{SpeaksOfKept, commands_of}
use Rattle.eco_stages.proofs.stage.Stage.record_plain.Goals as goal

module _ (c : goal.After-self-1) where
  pushed : c.push_reserved.new.self.items ≡ c.self.inside.commands.items ++ c.args.recorded ∷ []
  pushed = c.push_reserved.ensures.items ∙ ap (λ rs. rs ++ c.args.recorded ∷ []) c.has_room.ensures.same

  told : commands_of c.self.inside.kept c.push_reserved.new.self.items
      ≡ commands_of c.self.inside.kept c.self.inside.commands.items ++ c.requires.plain.0 ∷ []
  told =
      let kept = c.self.inside.kept in
      let items = c.self.inside.commands.items in
      ap (commands_of kept) pushed ∙ last_of kept items c.args.recorded ∙ ap (λ cs. commands_of kept items ++ cs) (c.requires.plain.1 kept).0

pub invariant_of-self-2 : goal.invariant_of-self-2
invariant_of-self-2 c =
    let kept = c.self.inside.kept in
    let items = c.self.inside.commands.items in
    let now = c.push_reserved.new.self.items in
    let P = SpeaksOfKept kept in
    record {
      kept = All-same P now (items ++ c.args.recorded ∷ []) (pushed c) (All-push P items c.args.recorded c.self.invariant.kept (c.requires.plain.1 kept).1);
      count = counted c.self.inside.count (commands_of kept items) (commands_of kept now) c.requires.plain.0 c.self.invariant.count (told c);
    }
