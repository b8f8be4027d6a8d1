use Rattle.eco_index.proofs.EntriesCommon.{◌≡◌, ◌+◌, ◌++◌, ap, sym, ◌∙◌, chunks, ChoicesState}
use Rattle.eco_index.proofs.Chunked.{chunks_append}
use Rattle.eco_index.proofs.choices.Choices.append.Goals as goal

pub returns-clause-ok : goal.returns-clause-ok
returns-clause-ok c =
    let s = c.self.inside in
    let o = c.others.inside in
    let w : o.width ≡ s.width =
    ap (λ (v : ChoicesState). v.width) c.others.view_is ∙ c.requires.even ∙ sym (ap (λ (v : ChoicesState). v.width) c.self.view_is) in
    ap (λ xs. record { width = s.width; all = chunks (s.count + o.count) s.width xs })
    (c.in_ok-extend_from_slice.ensures.items ∙ ap (λ ys. s.entries.items ++ ys) c.deref.ensures.value)
    ∙ ap (λ ds. record { width = s.width; all = ds }) (chunks_append s.count o.count s.width s.entries.items o.entries.items c.self.invariant)
    ∙ ap (λ k. record { width = s.width; all = chunks s.count s.width s.entries.items ++ chunks o.count k o.entries.items }) (sym w)
    ∙ ap (λ (v : ChoicesState). record { width = v.width; all = v.all ++ chunks o.count o.width o.entries.items }) c.self.view_is
    ∙ ap (λ (v : ChoicesState). record { width = c.args.self.now.width; all = c.args.self.now.all ++ v.all }) c.others.view_is
