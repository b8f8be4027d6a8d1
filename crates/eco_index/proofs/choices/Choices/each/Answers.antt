use Rattle.eco_index.proofs.EntriesCommon.{◌≡◌, ap, ◌∙◌, length, rules, chunks}
use Rattle.eco_index.proofs.Chunked.{chunks_alone}
use Rattle.eco_index.proofs.choices.Choices.each.Goals as goal

pub returns : goal.returns
returns c =
    let es = c.args.entries.items in
    let many : c.len.result ≡ length es = search rules in
    ap (λ n. record { width = 1; all = chunks n 1 es }) many ∙ ap (λ ds. record { width = 1; all = ds }) (chunks_alone es)
