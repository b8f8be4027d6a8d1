use Rattle.eco_index.proofs.EntriesCommon.{◌*◌, [], ap, sym, ◌∙◌, swap_remove, chunks, ChoicesState}
use Rattle.eco_index.proofs.Chunked.{count_before}
use Rattle.eco_index.proofs.choices.Choices.swap_remove.Goals as goal

pub move_last-requires-clause-long : goal.move_last-requires-clause-long
move_last-requires-clause-long c =
    let s = c.self.inside in
    let n = count_before s.count s.width s.entries.items c.args.self.now c.count-last.result c.args.place c.self.view_is c.count-last.ensures c.requires in
    c.self.invariant ∙ ap (λ k. k * s.width) (sym n)

pub returns : goal.returns
returns c =
    let s = c.self.inside in
    let n = count_before s.count s.width s.entries.items c.args.self.now c.count-last.result c.args.place c.self.view_is c.count-last.ensures c.requires in
    ap (λ ds. record { width = s.width; all = ds })
    (c.move_last.ensures.moved ∙ ap (λ k. swap_remove (chunks k s.width s.entries.items) c.args.place []) n)
    ∙ ap (λ (v : ChoicesState). record { width = v.width; all = swap_remove v.all c.args.place [] }) c.self.view_is
