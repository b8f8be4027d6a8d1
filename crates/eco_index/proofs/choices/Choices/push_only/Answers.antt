use Rattle.eco_index.proofs.EntriesCommon.{◌≡◌, ◌∷◌, [], ◌+◌, ◌++◌, ap, sym, ◌∙◌, length, length-append, arith, asks, chunks, ChoicesState}
use Rattle.eco_index.proofs.Chunked.{chunk_alone, chunks_append}
use Rattle.eco_index.proofs.Only.{only_is}
use Rattle.eco_ids.specs.Answer as answers
use Rattle.eco_index.proofs.choices.Choices.push_only.Goals as goal

pub returns-in-Ok-true-clause-only : goal.returns-in-Ok-true-clause-only
returns-in-Ok-true-clause-only c = λ yes.
    let s = c.self.inside in
    let now = c.args.self.now in
    let new = c.add_only-added.new.entries.items in
    let own = only_is s.entries.items new (answers.choices c.args.ids.now (asks c.args.slots.now)) (c.in-Ok-true.ensures.only yes) in
    let long = c.in-Ok-true.ensures.long yes in
    let whole = ap length own.1.1 in
    let both = length-append s.entries.items own.0 in
    let wide : length c.args.slots.now ≡ s.width = c.requires.even ∙ sym (ap (λ (v : ChoicesState). v.width) c.self.view_is) in
    let even : length own.0 ≡ s.width = omega (arith, long, whole, both, wide) in
    ap (λ ys. record { width = s.width; all = chunks (s.count + 1) s.width ys }) own.1.1
    ∙ ap (λ ds. record { width = s.width; all = ds }) (chunks_append s.count 1 s.width s.entries.items own.0 c.self.invariant)
    ∙ ap (λ ds. record { width = s.width; all = chunks s.count s.width s.entries.items ++ ds }) (chunk_alone s.width own.0 even)
    ∙ ap (λ (v : ChoicesState). record { width = v.width; all = v.all ++ own.0 ∷ [] }) c.self.view_is
    ∙ ap (λ ds. record { width = now.width; all = now.all ++ ds }) (sym own.1.0)
