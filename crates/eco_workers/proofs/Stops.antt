-- What was found of the ends of workers.
use Rattle.eco_workers.proofs.Common.{◌≡◌, ℕ, ◌+◌, ◌<◌, ◌≤◌, Bool, true, false, List, [], ◌∷◌, ◌++◌, length, take, get_or}
use Rattle.eco_workers.proofs.Common.{Option, Some, None, refl, sym, ap, ◌∙◌, subst, inl, inr, arith, All, get_or-map, length-map, map_more, take_all}
use Rattle.eco_workers.proofs.Common.{All-push, All-weaker, Contains-push, Contains-append_left, Refusal, OutOfMemory, Worked, End, Done, NoMemory, Refused}
use Rattle.eco_workers.proofs.Common.{IsPast, IsUnrefused, IsFound, IsStop, ends_of}

abbrev Past : ℕ → End → Type 0
Past n d = IsPast n d

abbrev Plain : End → Type 0
Plain d = IsUnrefused d

abbrev Ended : End → Type 0
Ended d = d ≡ Done

past_weaker : (n m : ℕ) → n ≤ m → (d : End) → IsPast m d → IsPast n d
past_weaker n m le Done h = tt
past_weaker n m le NoMemory h = tt
past_weaker n m le (Refused k e) h = omega arith

past_plain : (n : ℕ) (d : End) → IsUnrefused d → IsPast n d
past_plain n Done h = tt
past_plain n NoMemory h = tt
past_plain n (Refused k e) h = absurd h

pub found_done : (least : Option (ℕ × Refusal)) (full : Bool) (ends : List End) → IsFound least full ends → IsFound least full (ends ++ Done ∷ [])
found_done (Some p) full ends h = (Contains-append_left ends (Done ∷ []) (Refused p.0 p.1) h.0, All-push (Past p.0) ends Done h.1 tt)
found_done None full ends h =
    (All-push Plain ends Done h.0 tt, λ is. Contains-append_left ends (Done ∷ []) NoMemory (h.1 is), λ is. All-push Ended ends Done (h.2 is) refl)

pub found_full : (least : Option (ℕ × Refusal)) (full : Bool) (ends : List End) → IsFound least full ends → IsFound least true (ends ++ NoMemory ∷ [])
found_full (Some p) full ends h = (Contains-append_left ends (NoMemory ∷ []) (Refused p.0 p.1) h.0, All-push (Past p.0) ends NoMemory h.1 tt)
found_full None full ends h = (All-push Plain ends NoMemory h.0 tt, λ is. Contains-push ends NoMemory, λ is. absurd (grind arith))

pub found_first : (full : Bool) (n : ℕ) (e : Refusal) (ends : List End) → IsFound None full ends → IsFound (Some (n, e)) full (ends ++ Refused n e ∷ [])
found_first full n e ends h = (
  Contains-push ends (Refused n e),
  All-push (Past n) ends (Refused n e) (All-weaker Plain (Past n) (past_plain n) ends h.0) (omega arith),
)

pub found_less : (p : ℕ × Refusal) (full : Bool) (n : ℕ) (e : Refusal) (ends : List End) → n < p.0 → IsFound (Some p) full ends
    → IsFound (Some (n, e)) full (ends ++ Refused n e ∷ [])
found_less p full n e ends lt h = (
  Contains-push ends (Refused n e),
  All-push (Past n) ends (Refused n e) (All-weaker (Past p.0) (Past n) (past_weaker n p.0 (omega arith)) ends h.1) (omega arith),
)

pub found_later : (p : ℕ × Refusal) (full : Bool) (n : ℕ) (e : Refusal) (ends : List End) → p.0 ≤ n → IsFound (Some p) full ends
    → IsFound (Some p) full (ends ++ Refused n e ∷ [])
found_later p full n e ends le h = (Contains-append_left ends (Refused n e ∷ []) (Refused p.0 p.1) h.0, All-push (Past p.0) ends (Refused n e) h.1 le)

all_ended : (worked : List Worked) → All (λ (d : End). d ≡ Done) (ends_of worked) → All (λ (w : Worked). w.end ≡ Done) worked
all_ended worked h k d lt =
    let end : Worked → End = λ w. w.end in
    let len = length-map worked end in
    let at : k < length (ends_of worked) = omega (arith, len) in
    sym (get_or-map end worked k d Done lt) ∙ h k Done at

pub found_none : IsFound None false []
found_none = (λ k d lt. absurd (omega arith), λ is. absurd cc, λ is k d lt. absurd (omega arith))

-- what was found of the ends of the first workers, and of one more, was found of the ends of so many
pub found_more : (worked : List Worked) (i : ℕ) (one : Worked) (least : Option (ℕ × Refusal)) (full : Bool) → i < length worked
    → one ≡ get_or worked i one
    → IsFound least full (ends_of (take i worked) ++ one.end ∷ []) → IsFound least full (ends_of (take (i + 1) worked))
found_more worked i one least full lt is h =
    let end : Worked → End = λ w. w.end in
    subst (IsFound least full) (ap (λ (w : Worked). ends_of (take i worked) ++ w.end ∷ []) is ∙ sym (map_more end worked i one lt)) h

found_all : (worked : List Worked) (n : ℕ) (least least' : Option (ℕ × Refusal)) (full full' : Bool) → length worked ≤ n → least ≡ least' → full ≡ full'
    → IsFound least full (ends_of (take n worked)) → IsFound least' full' (ends_of worked)
found_all worked n least least' full full' le is is_full h = rw (← is, ← is_full) (rw (take_all n worked le) at h)

pub stop_refused : (worked : List Worked) (n : ℕ) (least : Option (ℕ × Refusal)) (full : Bool) (p : ℕ × Refusal) → length worked ≤ n → least ≡ Some p
    → IsFound least full (ends_of (take n worked)) → IsStop worked p.1
stop_refused worked n least full p le is h =
    let all = found_all worked n least (Some p) full full le is refl h in
    inl (record { number = p.0; here = all.0; least = all.1 })

pub stop_full : (worked : List Worked) (n : ℕ) (least : Option (ℕ × Refusal)) (full : Bool) → length worked ≤ n → least ≡ None → full ≡ true
    → IsFound least full (ends_of (take n worked)) → IsStop worked OutOfMemory
stop_full worked n least full le is is_full h =
    let all = found_all worked n least None full true le is is_full h in
    inr (record { here = all.1 refl; unrefused = all.0; refusal_is = refl })

pub none_stopped : (worked : List Worked) (n : ℕ) (least : Option (ℕ × Refusal)) (full : Bool) → length worked ≤ n → least ≡ None → full ≡ false
    → IsFound least full (ends_of (take n worked)) → All (λ (w : Worked). w.end ≡ Done) worked
none_stopped worked n least full le is is_full h =
    let all = found_all worked n least None full false le is is_full h in
    all_ended worked (all.2 refl)
