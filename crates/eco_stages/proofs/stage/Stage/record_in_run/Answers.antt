use Rattle.std.proofs.Common.{rules}
use Rattle.std.proofs.Math.ListN.{set}
use Rattle.std.proofs.lemmas.List.{set-get_or}
use Rattle.std.proofs.lemmas.List.Elements.{All-same, All-set}
use Rattle.eco_stages.proofs.Common.{◌≡◌, ◌-◌, ◌∷◌, [], ◌++◌, List, ap, arith, length, refl, sym, vec_len, ◌∙◌}
use Rattle.eco_stages.proofs.Keeping.{counted, last_longer, same, still}
use Rattle.eco_ids.specs.Run.{Set}
use Rattle.eco_stages.specs.Recorded.{SpeaksOfKept, commands_of}
use Rattle.eco_stages.specs.declared.recorded.Recorded.{Recorded}
use Rattle.eco_stages.proofs.stage.Stage.record_in_run.Goals as goal

module _ (c : goal.Then-not-go_on) where
  written : set c.self.inside.commands.items (vec_len c.self.inside.commands - 1) c.go_on.new.self ≡ c.self.inside.commands.items
  written =
      let items = c.self.inside.commands.items in
      let k = vec_len c.self.inside.commands - 1 in
      ap (set items k) (c.go_on.ensures.no c.if-not-go_on.true ∙ c.in-Some.ensures.value) ∙ set-get_or items k c.in-Some.last.now

pub invariant_of-self-then-not-go_on : goal.invariant_of-self-then-not-go_on
invariant_of-self-then-not-go_on c =
    let new = c.go_on.new.kept in
    let items = c.self.inside.commands.items in
    let now = set items (vec_len c.self.inside.commands - 1) c.go_on.new.self in
    let keeps = c.go_on.ensures.kept in
    record {
      kept = All-same (SpeaksOfKept new) now items (written c) (still c.self.inside.kept new keeps items c.self.invariant.kept);
      count = c.self.invariant.count ∙ ap length (sym (ap (commands_of new) (written c) ∙ same c.self.inside.kept new keeps items c.self.invariant.kept));
    }

pub returns-then-not-go_on-clause-no : goal.returns-then-not-go_on-clause-no
returns-then-not-go_on-clause-no c refused =
    ap (commands_of c.go_on.new.kept) (written c)
    ∙ same c.self.inside.kept c.go_on.new.kept c.go_on.ensures.kept c.self.inside.commands.items c.self.invariant.kept ∙ c.self.view_is

module _ (c : goal.After-self-3-1) where
  abbrev now : List Recorded
  now = set c.self.inside.commands.items (vec_len c.self.inside.commands - 1) c.go_on.new.self

  told : commands_of c.go_on.new.kept now ≡ commands_of c.self.inside.kept c.self.inside.commands.items ++ Set c.args.entity c.args.id c.args.value ∷ []
  told =
      let items = c.self.inside.commands.items in
      let counts : vec_len c.self.inside.commands ≡ length items = search rules in
      last_longer c.self.inside.kept c.go_on.new.kept c.go_on.ensures.kept items (vec_len c.self.inside.commands - 1) c.in-Some.last.now c.go_on.new.self
      (Set c.args.entity c.args.id c.args.value) (omega (arith, c.in-Some.ensures.variant.0 refl, counts)) c.in-Some.ensures.value
      (c.go_on.ensures.yes c.if-not-go_on.false) c.self.invariant.kept

pub invariant_of-self-2 : goal.invariant_of-self-2
invariant_of-self-2 c =
    let old = c.self.inside.kept in
    let new = c.go_on.new.kept in
    let items = c.self.inside.commands.items in
    record {
      kept = All-set (SpeaksOfKept new) items (vec_len c.self.inside.commands - 1) c.go_on.new.self c.go_on.ensures.own
          (still old new c.go_on.ensures.kept items c.self.invariant.kept);
      count = counted c.self.inside.count (commands_of old items) (commands_of new (now c)) (Set c.args.entity c.args.id c.args.value)
          c.self.invariant.count (told c);
    }

pub returns-clause-yes : goal.returns-clause-yes
returns-clause-yes c done = told c ∙ ap (λ cs. cs ++ Set c.args.entity c.args.id c.args.value ∷ []) c.self.view_is
