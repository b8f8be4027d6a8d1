use Rattle.std.specs.Prelude.{None, option_map, string_bytes}
use Rattle.std.proofs.lemmas.List.{get_or-map}
use Rattle.eco_merges.proofs.Common.{◌≡◌, ◌<◌, ◌≤◌, ◌+◌, ◌-◌, ◌∷◌, [], ℕ, AreDone, ap, arith, drop, get_or, length, length-drop, length-map}
use Rattle.eco_merges.proofs.Common.{length-take-le, subst, sym, take, ◌∙◌}
use Rattle.eco_stages.proofs.InTurn.{in_turn_counted}
use Rattle.eco_merges.proofs.Merges.{one_done}
use Rattle.eco_ids.specs.Run.{Add, Remove, Rename}
use Rattle.eco_stages.specs.Recorded.{AreInTurn, SpeaksOfKept, commands_at, names_of, sets_of}
use Rattle.eco_stages.specs.declared.kept.Kept.{Kept}
use Rattle.eco_stages.specs.declared.recorded.Recorded.{Recorded}
use Rattle.eco_stages.specs.declared.recorded.Recorded.TheVariants.{Turns}
use Rattle.eco_stages.specs.declared.width.Width.{Width}
use Rattle.eco_merges.proofs.merging.apply_rest.Goals as goal

-- as many commands as sets, for which there is room
fits_in_turn : (k : Kept) (r : Recorded) (w : Width) (count turns next at first done room : ℕ) → SpeaksOfKept k r → done + length (commands_at k r) ≤ room
    → r ≡ Turns w count turns next at first → done + (first + count - first) ≤ room
fits_in_turn k r w count turns next at first done room kept fit is =
    let behind = drop first (sets_of w k) in
    let within : AreInTurn k w count turns next at first = subst (SpeaksOfKept k) is kept in
    omega (
      arith,
      fit,
      ap (λ x. length (commands_at k x)) is,
      in_turn_counted (take turns (drop at k.ids.items)) 0 (take count behind),
      length-take-le count behind (omega (arith, within.sets, length-drop first (sets_of w k))),
    )

pub apply_turns-requires-clause-room : goal.apply_turns-requires-clause-room
apply_turns-requires-clause-room g c =
    let t = c.in-Turns in
    fits_in_turn c.args.kept.now c.args.command.now t.width t.count t.turns t.next t.ids t.first
    (length c.args.outcomes.now.outcomes) c.args.outcomes.now.room c.requires.kept c.requires.room t.is

pub returns-in-Add : goal.returns-in-Add
returns-in-Add g c =
    rw c.in-Add.is
    (one_done (g.W.MergeTarget.world c.args.world.now) (g.W.MergeTarget.world c.apply_add.new.self) (Add c.in-Add.entity c.in-Add.id) c.apply_add.result
    c.args.outcomes.now c.push-in-Add.new.self c.push-in-Add.ensures.written c.push-in-Add.ensures.room c.apply_add.ensures)

pub returns-in-Remove : goal.returns-in-Remove
returns-in-Remove g c =
    rw c.in-Remove.is
    (one_done (g.W.MergeTarget.world c.args.world.now) (g.W.MergeTarget.world c.apply_remove.new.self) (Remove c.in-Remove.entity c.in-Remove.id)
    c.apply_remove.result c.args.outcomes.now c.push-in-Remove.new.self c.push-in-Remove.ensures.written c.push-in-Remove.ensures.room
    c.apply_remove.ensures)

pub returns-in-Rename : goal.returns-in-Rename
returns-in-Rename g c =
    let kept = c.args.kept.now in
    let names = kept.names.items in
    let place = c.in-Rename.place in
    let within : place < length (names_of kept) = subst (SpeaksOfKept kept) c.in-Rename.is c.requires.kept in
    let read : get_or (names_of kept) place None ≡ option_map string_bytes c.index.result.now =
    get_or-map (option_map string_bytes) names place c.index.result.now None (omega (arith, within, length-map names (option_map string_bytes)))
    ∙ ap (option_map string_bytes) (sym c.index.ensures) in
    rw c.in-Rename.is
    (subst (λ n. AreDone (g.W.MergeTarget.world c.args.world.now) (Rename c.in-Rename.entity n ∷ []) c.args.outcomes.now c.push-in-Rename.new.self
    (g.W.MergeTarget.world c.apply_rename.new.self))
    (c.as_deref-name.ensures.value ∙ sym read)
    (one_done (g.W.MergeTarget.world c.args.world.now) (g.W.MergeTarget.world c.apply_rename.new.self) (Rename c.in-Rename.entity _) c.apply_rename.result
    c.args.outcomes.now c.push-in-Rename.new.self c.push-in-Rename.ensures.written c.push-in-Rename.ensures.room c.apply_rename.ensures))
