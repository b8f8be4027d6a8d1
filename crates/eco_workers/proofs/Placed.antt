-- Entries, each put at the place of its number.
use Rattle.eco_workers.proofs.Common.{◌≡◌, ◌≢◌, ℕ, zero, suc, ◌+◌, ◌<◌, ◌≤◌, true, eqb, cond, List, [], ◌∷◌, ◌++◌, length}
use Rattle.eco_workers.proofs.Common.{map, set, replicate, get_or, Some, refl, sym, ap, ◌∙◌, subst, arith, inl, inr, nat_tests, same_Some}
use Rattle.eco_workers.proofs.Common.{slice_get_within, All, AllZip, Contains, slice_get, flat_map, concat, range_with_len, length-range_with_len}
use Rattle.eco_workers.proofs.Common.{get_or-range_with_len, length-set, get_or-set_same, get_or-set_other, get_or-replicate, length-replicate, length-map}
use Rattle.eco_workers.proofs.Common.{map-set, get_or-map, replicate_more, ext_get_or, get_or_default, get_or_past, All-head, All-tail, All-from_get_or}
use Rattle.eco_workers.proofs.Common.{All-map, total, times, once, ascends, Command, Collected, Entry, piece_of_entry, IsStage, IsGood, IsShare, IsShort}
use Rattle.eco_workers.proofs.Common.{IsShared, Seat, claimed, drawn, placed_stages, AreStages, IsBatch, IsOut}
use Rattle.std.proofs.lemmas.Bool.{cases_eq, cases_lt}
use Rattle.eco_workers.proofs.Turned.{in_turn}

pub placed_push : (ps : List Collected) (p : Collected) (stages : List (List Command))
    → placed_stages (ps ++ p ∷ []) stages ≡ set (placed_stages ps stages) p.number p.stage
placed_push [] p stages = refl
placed_push (q ∷ ps) p stages = placed_push ps p (set stages q.number q.stage)

pub length-placed : (ps : List Collected) (stages : List (List Command)) → length (placed_stages ps stages) ≡ length stages
length-placed [] stages = refl
length-placed (p ∷ ps) stages = length-placed ps (set stages p.number p.stage) ∙ length-set stages p.number p.stage

-- one more place is empty
pub empty_more : (n : ℕ) (stage : List Command) (stages stages' : List (List Command)) → stages ≡ replicate n [] → stage ≡ []
    → stages' ≡ stages ++ stage ∷ [] → stages' ≡ replicate (n + 1) []
empty_more n stage stages stages' empty none more = more ∙ (λ k. empty k ++ none k ∷ []) ∙ replicate_more n []

at_seam : {X : Type 0} (P : X → Type 0) (seen rest : List X) (x : X) → All P (seen ++ x ∷ rest) → P x
at_seam P [] rest x h = All-head P x rest h
at_seam P (y ∷ seen) rest x h = at_seam P seen rest x (All-tail P y (seen ++ x ∷ rest) h)

-- there is a place for the next piece
pub number_within : (count : ℕ) (all seen rest : List Collected) (p : Collected) (stages : List (List Command)) → seen ++ p ∷ rest ≡ all
    → All (λ (q : Collected). q.number < count) all → stages ≡ placed_stages seen (replicate count []) → p.number < length stages
number_within count all seen rest p stages is within placed_so =
    let P : Collected → Type 0 = λ q. q.number < count in
    let long = ap length placed_so ∙ length-placed seen (replicate count []) ∙ length-replicate count [] in
    let here = at_seam P seen rest p (subst (All P) (sym is) within) in
    omega (arith, long, here)

abbrev number_of : Entry → ℕ
number_of e = e.number

abbrev numbers : List Entry → List ℕ
numbers log = map (λ (e : Entry). e.number) log

-- each entry at the place of its number
abbrev sorted : List Entry → List Entry → List Entry
sorted [] places = places
sorted (e ∷ es) places = sorted es (set places e.number e)

length-sorted : (es places : List Entry) → length (sorted es places) ≡ length places
length-sorted [] places = refl
length-sorted (e ∷ es) places = length-sorted es (set places e.number e) ∙ length-set places e.number e

placed_sorted : (es places : List Entry) → placed_stages (map piece_of_entry es) (map (λ (e : Entry). e.stage) places) ≡ map (λ (e : Entry). e.stage)
    (sorted es places)
placed_sorted [] places = refl
placed_sorted (e ∷ es) places =
    let stage : Entry → List Command = λ e. e.stage in
    ap (placed_stages (map piece_of_entry es)) (sym (map-set stage places e.number e)) ∙ placed_sorted es (set places e.number e)

-- no number stands twice
abbrev AreApart : List Entry → Type 0
AreApart es = (x : ℕ) → times x (numbers es) ≤ 1

apart_tail : (e : Entry) (es : List Entry) → AreApart (e ∷ es) → AreApart es
apart_tail e es h x = let a = h x in omega arith

apart_head : (e : Entry) (es : List Entry) → AreApart (e ∷ es) → times e.number (numbers es) ≡ 0
apart_head e es h = let a = h e.number in grind (arith, nat_tests)

not_head : (a k n : ℕ) → cond (eqb a k) 1 0 + n ≡ 0 → k ≢ a
not_head a k n none same = grind (arith, nat_tests)

not_later : (a k n : ℕ) → cond (eqb a k) 1 0 + n ≡ 0 → n ≡ 0
not_later a k n none = omega arith

other_place : (es places : List Entry) (k : ℕ) (d : Entry) → times k (numbers es) ≡ 0 → get_or (sorted es places) k d ≡ get_or places k d
other_place [] places k d none = refl
other_place (e ∷ es) places k d none =
    let ne = not_head e.number k (times k (numbers es)) none in
    other_place es (set places e.number e) k d (not_later e.number k (times k (numbers es)) none) ∙ get_or-set_other places e.number k e d ne

other_counts : (a k n : ℕ) → (a ≡ k → ⊥) → 0 < cond (eqb a k) 1 0 + n → 0 < n
other_counts a k n ne some = grind (arith, nat_tests)

same_counts : (a k n : ℕ) → 0 < n → 0 < cond (eqb a k) 1 0 + n
same_counts a k n some = omega arith

-- where some entry has the number k, the entry at k has it, and P
own_place : (P : Entry → Type 0) (es places : List Entry) (k : ℕ) (d : Entry) → AreApart es → All P es → k < length places → 0 < times k (numbers es)
    → (number_of (get_or (sorted es places) k d) ≡ k) × P (get_or (sorted es places) k d)
own_place P [] places k d apart all lt some = absurd (omega arith)
own_place P (e ∷ es) places k d apart all lt some =
    elim (cases_eq e.number k) [
      | inl same ↦
          (let none : times k (numbers es) ≡ 0 = ap (λ n. times n (numbers es)) (sym same) ∙ apart_head e es apart in
          let at : e.number < length places = omega arith in
          let here : get_or (sorted es (set places e.number e)) k d ≡ e =
          other_place es (set places e.number e) k d none ∙ ap (λ n. get_or (set places e.number e) n d) (sym same)
          ∙ get_or-set_same places e.number e d at in
          (ap number_of here ∙ same, subst P (sym here) (All-head P e es all)))
      | inr ne ↦
          (let later : 0 < times k (numbers es) = other_counts e.number k (times k (numbers es)) ne some in
          let len = length-set places e.number e in
          own_place P es (set places e.number e) k d (apart_tail e es apart) (All-tail P e es all) (omega arith) later)
    ]

module _ {X : Type 0} (f : X → ℕ) where
  set_total : (xs : List X) (i : ℕ) (w d : X) → i < length xs → total f (set xs i w) + f (get_or xs i d) ≡ total f xs + f w
  set_total [] i w d lt = absurd (omega arith)
  set_total (x ∷ xs) zero w d lt = omega arith
  set_total (x ∷ xs) (suc i) w d lt = let h = set_total xs i w d (omega arith) in omega arith

  total_replicate : (n : ℕ) (x : X) → f x ≡ 0 → total f (replicate n x) ≡ 0
  total_replicate zero x none = refl
  total_replicate (suc n) x none = let h = total_replicate n x none in omega arith

times-append : (x : ℕ) (xs ys : List ℕ) → times x (xs ++ ys) ≡ times x xs + times x ys
times-append x [] ys = omega arith
times-append x (y ∷ xs) ys = let h = times-append x xs ys in omega arith

-- what all entries drew
abbrev all_draws : List Entry → List ℕ
all_draws log = flat_map (λ (e : Entry). e.draws) log

times_each : (x : ℕ) (log : List Entry) → times x (all_draws log) ≡ total (λ (e : Entry). times x e.draws) log
times_each x [] = refl
times_each x (e ∷ log) = let h = times_each x log in let a = times-append x e.draws (all_draws log) in omega arith

map_replicate : {X Y : Type 0} (g : X → Y) (n : ℕ) (x : X) → map g (replicate n x) ≡ replicate n (g x)
map_replicate g zero x = refl
map_replicate g (suc n) x = ap (λ l. g x ∷ l) (map_replicate g n x)

-- nothing is lost where each entry comes to a place that weighs nothing
sorted_total : (f : Entry → ℕ) (es places : List Entry) (d : Entry) → AreApart es → All (λ (e : Entry). e.number < length places) es
    → ((k : ℕ) → 0 < times k (numbers es) → f (get_or places k d) ≡ 0)
    → total f (sorted es places) ≡ total f places + total f es
sorted_total f [] places d apart within light = omega arith
sorted_total f (e ∷ es) places d apart within light =
    let W : Entry → Type 0 = λ (e : Entry). e.number < length places in
    let W' : Entry → Type 0 = λ (e : Entry). e.number < length (set places e.number e) in
    let lt : e.number < length places = All-head W e es within in
    let len = length-set places e.number e in
    let here = set_total f places e.number e d lt in
    let own : 0 < times e.number (numbers (e ∷ es)) = own_counts e.number (times e.number (numbers es)) in
    let none = light e.number own in
    let gone = apart_head e es apart in
    let rest = sorted_total f es (set places e.number e) d (apart_tail e es apart)
    (subst (λ (n : ℕ). All (λ (a : Entry). a.number < n) es) (sym len) (All-tail W e es within))
    (λ k some.
    let ne : k ≢ e.number = λ same. let z = ap (λ n. times n (numbers es)) same in absurd (omega arith) in
    ap f (get_or-set_other places e.number k e d ne) ∙ light k (same_counts e.number k (times k (numbers es)) some)) in
    omega arith
  where
    own_counts : (a n : ℕ) → 0 < cond (eqb a a) 1 0 + n
    own_counts a n = grind (arith, nat_tests)

once_at : (n k : ℕ) → k < n → once 0 n k ≡ 1
once_at n k lt = grind (arith, nat_tests)

once_most : (a b x : ℕ) → once a b x ≤ 1
once_most a b x = grind (arith, nat_tests)

abbrev blank : Entry
blank = record { number = 0; stage = []; draws = [] }

concat_map : (log : List Entry) → concat (map (λ (e : Entry). e.draws) log) ≡ all_draws log
concat_map [] = refl
concat_map (e ∷ log) = ap (λ l. e.draws ++ l) (concat_map log)

-- entries whose numbers are all in turn are at their places
sorted_same : (log places : List Entry) (count : ℕ) → length places ≡ count → ascends (numbers log) ≡ true
    → ((x : ℕ) → times x (numbers log) ≡ once 0 count x) → sorted log places ≡ log
sorted_same log places count len up claims =
    let turn : numbers log ≡ range_with_len 0 count = in_turn count 0 (numbers log) up (λ x. claims x ∙ ap (λ n. once 0 n x) (omega arith)) in
    let long : length log ≡ count = sym (length-map log number_of) ∙ ap length turn ∙ length-range_with_len 0 count in
    let size = length-sorted log places in
    let apart : AreApart log = λ x. let c = claims x in let m = once_most 0 count x in omega arith in
    let Q : Entry → Type 0 = λ e. e ≡ get_or log e.number blank in
    let at : (k : ℕ) → k < count → number_of (get_or log k blank) ≡ k = λ k lt.
    (let h = get_or-map number_of log k blank 0 (omega arith) in
    let r = get_or-range_with_len 0 count k 0 lt in
    let s = ap (λ (l : List ℕ). get_or l k 0) turn in
    omega arith) in
    let all : All Q log = All-from_get_or Q log blank (λ k lt. ap (λ n. get_or log n blank) (sym (at k (omega arith)))) in
    ext_get_or blank (sorted log places) log (omega arith)
    (λ k lt.
    let c = claims k in
    let o = once_at count k (omega arith) in
    let h = own_place Q log places k blank apart all (omega arith) (omega arith) in
    h.1 ∙ ap (λ n. get_or log n blank) h.0)

within_once : (count k : ℕ) → 0 < once 0 count k → k < count
within_once count k some = grind (arith, nat_tests)

-- an entry is at the place of its number
own_entry : (es places : List Entry) (k : ℕ) (d : Entry) → AreApart es → k < length es → number_of (get_or es k d) < length places
    → get_or (sorted es places) (number_of (get_or es k d)) d ≡ get_or es k d
own_entry [] places k d apart lt in' = absurd (omega arith)
own_entry (e ∷ es) places zero d apart lt in' = other_place es (set places e.number e) e.number d (apart_head e es apart)
    ∙ get_or-set_same places e.number e d in'
own_entry (e ∷ es) places (suc k) d apart lt in' =
    let len = length-set places e.number e in
    own_entry es (set places e.number e) k d (apart_tail e es apart) (omega arith) (omega arith)

module _ {S : Type 0} (commands : S → List ℕ → List Command) (taken : S → List ℕ → ℕ) where
  abbrev FitsAt : List S → ℕ → Entry → Type 0
  FitsAt pieces k e = (piece : S) × (slice_get pieces k ≡ Some piece) × IsStage commands taken piece e.draws e.stage

  are_stages : (pieces : List S) (es : List Entry) (d : Entry) → length es ≡ length pieces → ((k : ℕ) → k < length es → FitsAt pieces k (get_or es k d))
      → AreStages commands taken pieces (map (λ (e : Entry). e.draws) es) (map (λ (e : Entry). e.stage) es)
  are_stages [] [] d len h = tt
  are_stages [] (e ∷ es) d len h = absurd (omega arith)
  are_stages (p ∷ ps) [] d len h = absurd (omega arith)
  are_stages (p ∷ ps) (e ∷ es) d len h =
      let here = h 0 (omega arith) in
      let same : here.0 ≡ p = sym (same_Some p here.0 here.1) in (
        subst (λ (q : S). IsStage commands taken q e.draws e.stage) same here.2,
        are_stages ps es d (omega arith) (λ k lt. h (suc k) (omega arith)),
      )

  pub batch_made : (workers : ℕ) (pieces : List S) (log : List Entry) (base n count : ℕ) → length pieces ≡ count
      → All (λ (e : Entry). IsGood commands taken pieces e) log
      → ((x : ℕ) → times x (numbers log) ≡ once 0 count x)
      → ((x : ℕ) → times x (all_draws log) ≡ once base (base + n) x)
      → (workers ≡ 1 → (ascends (numbers log) ≡ true) × (ascends (all_draws log) ≡ true))
      → IsBatch commands taken workers pieces base n (placed_stages (map piece_of_entry log) (replicate count []))
  batch_made workers pieces log base n count len good claims drawn alone =
      let places = replicate count blank in
      let es = sorted log places in
      let stage : Entry → List Command = λ e. e.stage in
      let draws : Entry → List ℕ = λ e. e.draws in
      let G : Entry → Type 0 = λ (e : Entry). IsGood commands taken pieces e in
      let room : length places ≡ count = length-replicate count blank in
      let size = length-sorted log places in
      let apart : AreApart log = λ x. let c = claims x in let m = once_most 0 count x in omega arith in
      let within : All (λ (e : Entry). e.number < length places) log = λ k d lt.
      (let e = good k d lt in let i = slice_get_within pieces _ _ e.0.at in omega arith) in
      let own = λ (k : ℕ) (lt : k < count). (let c = claims k in let o = once_at count k lt in
      own_place G log places k blank apart good (omega arith) (omega arith)) in
      let stages : placed_stages (map piece_of_entry log) (replicate count []) ≡ map stage es =
      ap (placed_stages (map piece_of_entry log)) (sym (map_replicate stage count blank)) ∙ placed_sorted log places in
      record {
        draws = map draws es;
        recorded = subst (AreStages commands taken pieces (map draws es)) (sym stages) (are_stages pieces es blank (omega arith) (λ k lt.
            let o = own k (omega arith) in
            (o.1.0.piece, ap (slice_get pieces) (sym o.0) ∙ o.1.0.at, o.1.0.stage)));
        ascend = All-map (λ (l : List ℕ). ascends l ≡ true) draws es
            (All-from_get_or (λ (e : Entry). ascends e.draws ≡ true) es blank (λ k lt. (own k (omega arith)).1.1));
        each = λ x.
            let f : Entry → ℕ = λ e. times x e.draws in
            let light : (k : ℕ) → 0 < times k (numbers log) → f (get_or places k blank) ≡ 0 = λ k some.
            (let c = claims k in ap f (get_or-replicate count k blank blank (within_once count k (omega arith)))) in
            let t = sorted_total f log places blank apart within light in
            let z = total_replicate f count blank refl in
            let e = times_each x es in
            let l = times_each x log in
            let d = drawn x in
            let is : times x (all_draws es) ≡ once base (base + n) x = omega arith in
            ap (times x) (concat_map es) ∙ is;
        alone = λ one.
            (let up = alone one in
            let same : es ≡ log = sorted_same log places count (omega arith) up.0 claims in
            ap (λ (l : List Entry). ascends (concat (map draws l))) same ∙ ap ascends (concat_map log) ∙ up.1);
      }

  -- a batch of so many seats is one of the workers that have them, where one worker has one
  pub batch_by : {pieces : List S} {seats base base' n : ℕ} {stages : List (List Command)} (workers : ℕ) → (workers ≡ 1 → seats ≡ 1) → base ≡ base'
      → IsBatch commands taken seats pieces base n stages → IsBatch commands taken workers pieces base' n stages
  batch_by {pieces = pieces} {n = n} {stages = stages} workers few same made =
      subst (λ b. IsBatch commands taken workers pieces b n stages) same
      (record { draws = made.draws; recorded = made.recorded; ascend = made.ascend; each = made.each; alone = λ one. made.alone (few one) })

  pub within_pieces : (pieces : List S) (log : List Entry) (pushed : List Collected) (count : ℕ) → length pieces ≡ count
      → pushed ≡ map piece_of_entry log
      → All (λ (e : Entry). IsGood commands taken pieces e) log
      → All (λ (p : Collected). p.number < count) pushed
  within_pieces pieces log pushed count len same good =
      let P : Collected → Type 0 = λ p. p.number < count in
      subst (All P) (sym same) (All-map P piece_of_entry log (λ k d lt. let e = good k d lt in let i = slice_get_within pieces _ _ e.0.at in omega arith))

  abbrev Takes : S → List ℕ → Type 0
  Takes piece d = length d ≤ taken piece d

  all_shares : (pieces : List S) (es : List Entry) (d : Entry) → length es ≡ length pieces
      → ((k : ℕ) (piece : S) → slice_get pieces k ≡ Some piece → Takes piece (get_or es k d).draws)
      → AllZip Takes pieces (map (λ (e : Entry). e.draws) es)
  all_shares [] [] d len h = tt
  all_shares [] (e ∷ es) d len h = absurd (omega arith)
  all_shares (p ∷ ps) [] d len h = absurd (omega arith)
  all_shares (p ∷ ps) (e ∷ es) d len h = (h 0 p refl, all_shares ps es d (omega arith) (λ k piece at. h (suc k) piece at))

  pub out_made : (pieces : List S) (seats : List Seat) (shares : List Entry) (base limit claims : ℕ)
      → IsShared commands taken pieces seats shares
      → ((x : ℕ) → times x (flat_map claimed seats) ≡ once 0 claims x)
      → ((x : ℕ) → times x (flat_map drawn seats) ≡ once base limit x)
      → (e : Entry) → Contains shares e → IsShort commands taken pieces e
      → IsOut commands taken pieces base limit
  out_made pieces seats shares base limit claims shared each drawn e at short =
      let count = length pieces in
      let places = replicate count blank in
      let es = sorted shares places in
      let draws : Entry → List ℕ = λ e. e.draws in
      let H : Entry → Type 0 = λ (e : Entry). IsShare commands taken pieces e in
      let room : length places ≡ count = length-replicate count blank in
      let size = length-sorted shares places in
      let apart : AreApart shares = λ x. let c = ap (times x) shared.claims in let m = once_most 0 claims x in let t = each x in omega arith in
      let within : All (λ (e : Entry). e.number < length places) shares = λ k d lt.
      (let e = shared.fair k d lt in let i = slice_get_within pieces _ _ e.at in omega arith) in
      let fair : (k : ℕ) (piece : S) → slice_get pieces k ≡ Some piece → Takes piece (get_or es k blank).draws = λ k piece is.
      (let lt = slice_get_within pieces k piece is in
      elim (cases_lt 0 (times k (numbers shares))) [
        | inl some ↦
            (let own = own_place H shares places k blank apart shared.fair (omega arith) some in
            let same : own.1.piece ≡ piece = same_Some own.1.piece piece (sym own.1.at ∙ ap (slice_get pieces) own.0 ∙ is) in
            subst (λ (p : S). Takes p (get_or es k blank).draws) same own.1.most)
        | inr none ↦
            (let free : get_or es k blank ≡ blank = other_place shares places k blank (omega arith) ∙ get_or-replicate count k blank blank lt in
            subst (λ (e : Entry). Takes piece e.draws) (sym free) (omega arith))
      ]) in
      let there : get_or shares at.0 blank ≡ e = get_or_default shares at.0 blank e at.1 ∙ at.2 in
      let small : e.number < length places = (let i = slice_get_within pieces e.number short.piece short.at in omega arith) in
      let mine : get_or es e.number blank ≡ e =
      ap (λ (a : Entry). get_or es (number_of a) blank) (sym there)
      ∙ own_entry shares places at.0 blank apart at.1 (subst (λ (a : Entry). number_of a < length places) (sym there) small)
      ∙ there in
      let listed : get_or (map draws es) e.number [] ≡ e.draws = get_or-map draws es e.number blank [] (omega arith) ∙ ap draws mine in
      record {
        draws = map draws es;
        shares = all_shares pieces es blank (omega arith) fair;
        each = λ x.
            let f : Entry → ℕ = λ e. times x e.draws in
            let light : (k : ℕ) → 0 < times k (numbers shares) → f (get_or places k blank) ≡ 0 = λ k some.
            (elim (cases_lt k count) [
              | inl lt ↦ ap f (get_or-replicate count k blank blank lt)
              | inr le ↦ ap f
                  (get_or_past places k blank (omega arith))
            ]) in
            let t = sorted_total f shares places blank apart within light in
            let z = total_replicate f count blank refl in
            let e = times_each x es in
            let l = times_each x shares in
            let d = drawn x in
            let s = ap (times x) shared.draws in
            let is : times x (all_draws es) ≡ once base limit x = omega arith in
            ap (times x) (concat_map es) ∙ is;
        short = (e.number, short.piece, short.at, subst (λ (d : List ℕ). length d < taken short.piece d) (sym listed) short.more);
      }
