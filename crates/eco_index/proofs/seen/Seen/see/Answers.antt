use Rattle.eco_index.proofs.EntriesCommon.{rules, not, ◌||◌, ap, sym, ◌∙◌, IsTrue, contains, has_item, id_cmp, is_above}
use Rattle.eco_index.proofs.SeenIds.{above_absent, above_front, ascends_more, seen_behind}
use Rattle.eco_index.proofs.seen.Seen.see.Goals as goal

pub returns-then-is_above-clause-is : goal.returns-then-is_above-clause-is
returns-then-is_above-clause-is c =
    let s = c.args.self.now in
    let above : IsTrue (is_above s.run.items c.args.id) = search rules in
    sym (ap (λ b. not (b || contains id_cmp s.rest c.args.id)) (above_absent s.run.items c.args.id above) ∙ ap not (c.requires.apart c.args.id above))

pub returns-then-is_above-clause-seen : goal.returns-then-is_above-clause-seen
returns-then-is_above-clause-seen c = λ y.
    let s = c.args.self.now in
    ap (λ xs. has_item id_cmp xs y || contains id_cmp s.rest y) c.in_ok-push.ensures.items ∙ seen_behind s.run.items s.rest c.args.id y

pub returns-then-is_above-clause-apart : goal.returns-then-is_above-clause-apart
returns-then-is_above-clause-apart c =
    let s = c.args.self.now in
    let above : IsTrue (is_above s.run.items c.args.id) = search rules in
    record {
      ascends = rw c.in_ok-push.ensures.items (ascends_more s.run.items c.args.id c.requires.ascends above);
      apart = λ i h. c.requires.apart i (above_front s.run.items c.args.id i (rw c.in_ok-push.ensures.items at h));
    }
