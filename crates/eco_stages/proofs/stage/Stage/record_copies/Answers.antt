use Rattle.std.specs.Prelude.{map}
use Rattle.std.proofs.Common.{rules}
use Rattle.std.proofs.lemmas.List.{take-append-le}
use Rattle.std.proofs.lemmas.List.Concat.{flat_map-append}
use Rattle.std.proofs.lemmas.List.Elements.{All-append, All-same}
use Rattle.eco_stages.proofs.Common.{◌≡◌, ◌++◌, ap, arith, length, length-append, sym, take, take_all, vec_len, ◌∙◌}
use Rattle.eco_stages.proofs.Keeping.{all_moved, all_moved_kept, keeps_own, same, stays, still}
use Rattle.eco_stages.specs.Recorded.{SpeaksOfKept, commands_at, commands_of, moved_by}
use Rattle.eco_stages.proofs.stage.Stage.record_copies.Goals as goal

module _ (c : goal.After-truncate) where
  cut : c.truncate.new.self.items ≡ c.self.inside.commands.items
  cut =
      let items = c.self.inside.commands.items in
      let moved = map (moved_by c.self.inside.kept) c.as_slice.result.now in
      let count : vec_len c.self.inside.commands ≡ length items = search rules in
      let n = c.len-count.result in
      let all : n ≡ length items = c.len-count.ensures ∙ count in
      c.truncate.ensures.items ∙ ap (take n) (c.push_moved.ensures ∙ ap (λ rs. rs ++ moved) c.in_ok-reserve.ensures.items)
      ∙ take-append-le n items moved (omega (arith, all)) ∙ take_all n items (omega (arith, all))

pub invariant_of-self-in-Err : goal.invariant_of-self-in-Err
invariant_of-self-in-Err c =
    let old = c.self.inside.kept in
    let new = c.push_copies.new.self in
    let items = c.self.inside.commands.items in
    let keeps = stays old new c.in-Err.ensures.err in
    record {
      kept = All-same (SpeaksOfKept new) c.truncate.new.self.items items (cut c) (still old new keeps items c.self.invariant.kept);
      count = c.self.invariant.count ∙ ap length (sym (ap (commands_of new) (cut c) ∙ same old new keeps items c.self.invariant.kept));
    }

pub returns-in-Err-clause-err : goal.returns-in-Err-clause-err
returns-in-Err-clause-err c =
    let new = c.push_copies.new.self in
    ap (commands_of new) (cut c)
    ∙ same c.self.inside.kept new (stays c.self.inside.kept new c.in-Err.ensures.err) c.self.inside.commands.items c.self.invariant.kept
    ∙ c.self.view_is

module _ (c : goal.After-self-1) where
  all : c.push_moved.new.list.items ≡ c.self.inside.commands.items ++ map (moved_by c.self.inside.kept) c.other.inside.commands.items
  all =
      c.push_moved.ensures ∙ ap (λ rs. rs ++ map (moved_by c.self.inside.kept) c.as_slice.result.now) c.in_ok-reserve.ensures.items
      ∙ ap (λ rs. c.self.inside.commands.items ++ map (moved_by c.self.inside.kept) rs) c.as_slice.ensures.value

  told : commands_of c.push_copies.new.self c.push_moved.new.list.items
      ≡ commands_of c.self.inside.kept c.self.inside.commands.items ++ commands_of c.other.inside.kept c.other.inside.commands.items
  told =
      let own = c.self.inside in
      let other = c.other.inside in
      let new = c.push_copies.new.self in
      let moved = map (moved_by own.kept) other.commands.items in
      let both = c.in_default-push_copies.ensures.ok in
      ap (commands_of new) all ∙ flat_map-append (commands_at new) own.commands.items moved
      ∙ ap (λ cs. cs ++ commands_of new moved) (same own.kept new (keeps_own own.kept other.kept new both) own.commands.items c.self.invariant.kept)
      ∙ ap (λ cs. commands_of own.kept own.commands.items ++ cs) (all_moved own.kept other.kept new both other.commands.items)

pub invariant_of-self-2 : goal.invariant_of-self-2
invariant_of-self-2 c =
    let own = c.self.inside in
    let other = c.other.inside in
    let new = c.push_copies.new.self in
    let moved = map (moved_by own.kept) other.commands.items in
    let both = c.in_default-push_copies.ensures.ok in
    let P = SpeaksOfKept new in
    record {
      kept = All-same P c.push_moved.new.list.items (own.commands.items ++ moved) (all c)
          (All-append P own.commands.items moved
          (still own.kept new (keeps_own own.kept other.kept new both) own.commands.items c.self.invariant.kept)
          (all_moved_kept own.kept other.kept new both other.commands.items c.other.invariant.kept));
      count = omega (
        arith,
        c.in-Some.ensures,
        c.self.invariant.count,
        c.other.invariant.count,
        ap length (told c),
        length-append (commands_of own.kept own.commands.items) (commands_of other.kept other.commands.items),
      );
    }

pub returns-clause-ok : goal.returns-clause-ok
returns-clause-ok c =
    told c ∙ ap (λ cs. cs ++ commands_of c.other.inside.kept c.other.inside.commands.items) c.self.view_is
    ∙ ap (λ cs. c.args.self.now ++ cs) c.other.view_is
