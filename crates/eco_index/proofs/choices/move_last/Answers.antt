use Rattle.eco_index.proofs.EntriesCommon.{◌≡◌, ◌*◌, ◌+◌, ◌-◌, ap, ◌∙◌, append_assoc, arith, suc, drop, take, suc-mul, paste, chunks}
use Rattle.eco_index.proofs.Chunked.{last_moved}
use Rattle.eco_index.proofs.choices.move_last.Goals as goal

pub returns-clause-moved : goal.returns-clause-moved
returns-clause-moved c =
    let a = c.args in
    let xs = a.entries.now.items in
    let s = suc-mul a.last a.width in
    let long = c.requires.long in
    let len = c.len.ensures in
    let k : a.last + 1 ≡ suc a.last = omega arith in
    let all : (a.last + 1) * a.width ≡ suc a.last * a.width = ap (λ j. j * a.width) k in
    let end : c.len.result - a.width ≡ a.last * a.width = omega (arith, s, long, len, all) in
    let wide : a.last * a.width + a.width - a.last * a.width ≡ a.width = omega arith in
    ap (chunks a.last a.width)
    (c.truncate.ensures.items ∙ ap (take (c.len.result - a.width)) c.copy_within.ensures.items
    ∙ ap (λ e. take e (paste xs (a.place * a.width) (drop e xs) (e + a.width - e))) end
    ∙ ap (λ w. take (a.last * a.width) (paste xs (a.place * a.width) (drop (a.last * a.width) xs) w)) wide
    ∙ ap (take (a.last * a.width))
    (append_assoc (take (a.place * a.width) xs) (take a.width (drop (a.last * a.width) xs)) (drop (a.place * a.width + a.width) xs)))
    ∙ last_moved a.last a.width a.place xs c.requires.there c.requires.long
