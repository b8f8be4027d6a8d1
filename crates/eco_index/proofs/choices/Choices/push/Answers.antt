use Rattle.eco_index.proofs.EntriesCommon.{◌∷◌, [], ◌+◌, ◌++◌, ap, sym, ◌∙◌, chunks, ChoicesState}
use Rattle.eco_index.proofs.Chunked.{chunk_alone, chunks_append}
use Rattle.eco_index.proofs.choices.Choices.push.Goals as goal

pub returns-clause-ok : goal.returns-clause-ok
returns-clause-ok c =
    let s = c.self.inside in
    let xs = c.args.choice.now in
    let even = c.requires.even ∙ sym (ap (λ (v : ChoicesState). v.width) c.self.view_is) in
    ap (λ ys. record { width = s.width; all = chunks (s.count + 1) s.width ys }) c.in_ok-extend_from_slice.ensures.items
    ∙ ap (λ ds. record { width = s.width; all = ds }) (chunks_append s.count 1 s.width s.entries.items xs c.self.invariant)
    ∙ ap (λ ds. record { width = s.width; all = chunks s.count s.width s.entries.items ++ ds }) (chunk_alone s.width xs even)
    ∙ ap (λ (v : ChoicesState). record { width = v.width; all = v.all ++ xs ∷ [] }) c.self.view_is
