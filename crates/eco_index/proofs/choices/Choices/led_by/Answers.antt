use Rattle.eco_index.proofs.EntriesCommon.{◌≡◌, ◌∷◌, ◌/◌, ◌*◌, suc, length, ap, sym, ◌∙◌, arith, flat_map, take_all, chunks}
use Rattle.eco_index.proofs.Chunked.{led_length, led_chunks}
use Rattle.eco_index.proofs.choices.Choices.led_by.Goals as goal

pub invariant_of-result : goal.invariant_of-result
invariant_of-result c =
    let a = c.args in
    let xs = c.loop-entry.led.items in
    let all : xs ≡ flat_map (λ e. flat_map (λ x. e ∷ x) a.self.now.all) a.entries.now =
    c.loop-entry.invariant
    ∙ ap (flat_map (λ e. flat_map (λ x. e ∷ x) a.self.now.all)) (take_all c.loop-entry.entry-index a.entries.now (omega (arith, c.loop-entry-test.false))) in
    let h : length xs ≡ (length xs / suc a.self.now.width) * suc a.self.now.width =
    led_length a.self.now.width a.entries.now a.self.now.all xs c.is_even.ensures all in
    h ∙ ap (λ w. (length xs / w) * w) (sym c.requires) ∙ ap (λ n. (n / a.width) * a.width) (sym (ap length c.as_slice-whole.ensures.value))

pub returns : goal.returns
returns c =
    let a = c.args in
    let xs = c.loop-entry.led.items in
    let all : xs ≡ flat_map (λ e. flat_map (λ x. e ∷ x) a.self.now.all) a.entries.now =
    c.loop-entry.invariant
    ∙ ap (flat_map (λ e. flat_map (λ x. e ∷ x) a.self.now.all)) (take_all c.loop-entry.entry-index a.entries.now (omega (arith, c.loop-entry-test.false))) in
    ap (λ n. record { width = a.width; all = chunks (n / a.width) a.width xs }) (ap length c.as_slice-whole.ensures.value)
    ∙ ap (λ w. record { width = a.width; all = chunks (length xs / w) w xs }) c.requires
    ∙ ap (λ ds. record { width = a.width; all = ds }) (led_chunks a.self.now.width a.entries.now a.self.now.all xs c.is_even.ensures all)
