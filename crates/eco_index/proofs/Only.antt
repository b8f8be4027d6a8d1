-- Where each slot may have just one entry, these are the one choice.
use Rattle.eco_index.proofs.EntriesCommon.{◌≡◌, ◌≢◌, ℕ, suc, ◌+◌, ◌<◌, List, [], ◌∷◌, ◌++◌, length, drop, map, get_or, Option, refl}
use Rattle.eco_index.proofs.EntriesCommon.{sym, ap, ◌∙◌, arith, add-one, drop-cons, append_assoc, length-append, flat_map, length-drop, length-map, map-id}
use Rattle.eco_index.proofs.EntriesCommon.{nil_from_length, choices, entries_of, Id, asks}
use Rattle.eco_query.specs.Queries.{term_view}
use Rattle.eco_query.specs.declared.slot.Slot.{Slot}

one_item : {X : Type 0} (xs : List X) → length xs ≡ 1 → (x : X) × (xs ≡ x ∷ [])
one_item [] e = absurd (omega (arith, e))
one_item (x ∷ []) e = (x, refl)
one_item (x ∷ y ∷ xs) e = absurd (omega (arith, e))

-- an entry in front of each goes behind those that are in front
moved : {X : Type 0} (front : List X) (x : X) (lists : List (List X))
    → map (λ rest. front ++ rest) (map (λ rest. x ∷ rest) lists ++ []) ≡ map (λ rest. (front ++ x ∷ []) ++ rest) lists
moved front x [] = refl
moved front x (l ∷ lists) =
    ap (λ z. z ∷ map (λ rest. front ++ rest) (map (λ rest. x ∷ rest) lists ++ [])) (sym (append_assoc front (x ∷ []) l))
    ∙ ap (λ zs. ((front ++ x ∷ []) ++ l) ∷ zs) (moved front x lists)

-- no entry is in front yet
pub only_start : {X : Type 0} (lists : List (List X)) (front : List X) → front ≡ [] → lists ≡ map (λ rest. front ++ rest) lists
only_start lists front none = sym (map-id lists) ∙ ap (λ xs. map (λ rest. xs ++ rest) lists) (sym none)

-- one more slot has just one entry
pub only_step : (ids : List Id) (slots : List Slot) (place : ℕ) (s : Slot) (old new : List (Option Id)) (made : List (List (Option Id)))
    → place < length slots → length new ≡ length old + 1
    → get_or slots place s ≡ s → new ≡ old ++ entries_of ids (term_view s.term)
    → made ≡ map (λ rest. old ++ rest) (choices ids (asks (drop place slots)))
    → made ≡ map (λ rest. new ++ rest) (choices ids (asks (drop (place + 1) slots)))
only_step ids slots place s old new made within is at added so_far =
    let es : List (Option Id) = entries_of ids (term_view s.term) in
    let long = ap length added in
    let both = length-append old es in
    let one = one_item es (omega (arith, is, long, both)) in
    let rest : List (List (Option Id)) = choices ids (asks (drop (suc place) slots)) in
    so_far
    ∙ ap (λ zs. map (λ r. old ++ r) (choices ids (asks zs))) (drop-cons slots place s within)
    ∙ ap (λ z. map (λ r. old ++ r) (choices ids (asks (z ∷ drop (suc place) slots)))) at
    ∙ ap (λ (zs : List (Option Id)). map (λ r. old ++ r) (flat_map (λ e. map (λ r. e ∷ r) rest) zs)) one.1
    ∙ moved old one.0 rest
    ∙ ap (λ zs. map (λ r. zs ++ r) rest) (sym (added ∙ ap (λ zs. old ++ zs) one.1))
    ∙ ap (λ k. map (λ r. new ++ r) (choices ids (asks (drop k slots)))) (sym (add-one place))

no_rest : {X : Type 0} (es : List X) → flat_map (λ e. map (λ rest. e ∷ rest) []) es ≡ []
no_rest [] = refl
no_rest (e ∷ es) = no_rest es

-- where there is one list with one of some entries in front, there is one entry
one_entry : {X : Type 0} (es : List X) (lists : List (List X)) → length (flat_map (λ e. map (λ rest. e ∷ rest) lists) es) ≡ 1 → length es ≡ 1
one_entry es [] one = absurd (let none = ap length (no_rest es) in omega (arith, one, none))
one_entry [] (l ∷ lists) one = absurd (omega (arith, one))
one_entry (e ∷ []) (l ∷ lists) one = refl
one_entry (e ∷ f ∷ es) (l ∷ lists) one =
    absurd (let both = length-append (map (λ rest. e ∷ rest) lists) (flat_map (λ x. map (λ rest. x ∷ rest) (l ∷ lists)) (f ∷ es)) in omega (arith, one, both))

-- a slot has none or several entries: so there are none or several choices
pub several_step : (ids : List Id) (slots : List Slot) (place : ℕ) (s : Slot) (old new : List (Option Id)) → place < length slots → get_or slots place s ≡ s
    → length (entries_of ids (term_view s.term)) ≢ 1
    → map (λ c. old ++ c) (choices ids (asks slots)) ≡ map (λ rest. new ++ rest) (choices ids (asks (drop place slots)))
    → length (choices ids (asks slots)) ≢ 1
several_step ids slots place s old new within is several made = λ one.
    let rest : List (List (Option Id)) = choices ids (asks (drop (suc place) slots)) in
    let same : length (choices ids (asks slots)) ≡ length (choices ids (asks (drop place slots))) =
    sym (length-map (choices ids (asks slots)) (λ c. old ++ c)) ∙ ap length made
    ∙ length-map (choices ids (asks (drop place slots))) (λ r. new ++ r) in
    let own : length (choices ids (asks (drop place slots))) ≡ length (flat_map (λ e. map (λ r. e ∷ r) rest) (entries_of ids (term_view s.term))) =
    ap (λ zs. length (choices ids (asks zs))) (drop-cons slots place s within)
    ∙ ap (λ z. length (choices ids (asks (z ∷ drop (suc place) slots)))) is in
    several (one_entry (entries_of ids (term_view s.term)) rest (sym own ∙ sym same ∙ one))

-- what came behind the others is the one list
pub only_is : {X : Type 0} (old new : List X) (lists : List (List X)) → map (λ c. old ++ c) lists ≡ new ∷ []
    → (own : List X) × ((lists ≡ own ∷ []) × (new ≡ old ++ own))
only_is old new [] e = absurd (omega (arith, ap length e))
only_is old new (c ∷ []) e = (c, (refl, sym (ap (λ xs. get_or xs 0 new) e)))
only_is old new (c ∷ d ∷ lists) e = absurd (omega (arith, ap length e))

each_alone : {X : Type 0} (es : List X) → map (λ e. e ∷ []) es ≡ flat_map (λ e. map (λ rest. e ∷ rest) ([] ∷ [])) es
each_alone [] = refl
each_alone (e ∷ es) = ap (λ zs. (e ∷ []) ∷ zs) (each_alone es)

-- the entries of the last slot, each alone, are its choices
pub last_choices : (ids : List Id) (slots : List Slot) (k : ℕ) (s : Slot) (es : List (Option Id)) → k + 1 ≡ length slots → get_or slots k s ≡ s
    → es ≡ entries_of ids (term_view s.term) → map (λ e. e ∷ []) es ≡ choices ids (asks (drop k slots))
last_choices ids slots k s es last at are =
    ap (map (λ e. e ∷ [])) are
    ∙ each_alone (entries_of ids (term_view s.term))
    ∙ ap (λ rest. choices ids (asks (s ∷ rest))) (sym (nil_from_length (drop (suc k) slots) (let cut = length-drop (suc k) slots in omega (arith, cut, last))))
    ∙ ap (λ z. choices ids (asks (z ∷ drop (suc k) slots))) (sym at)
    ∙ ap (λ zs. choices ids (asks zs)) (sym (drop-cons slots k s (omega (arith, last))))
