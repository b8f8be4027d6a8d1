-- Where the machine stops, the longest beginning of a sentence ends.
use Rattle.eco_scan.proofs.Common.{◌≡◌, ℕ, ◌+◌, ◌<◌, List, [], ◌++◌, length, get_or, take, Some, None, Option, option_map, sym, ap}
use Rattle.eco_scan.proofs.Common.{◌∙◌, subst, inl, inr, append-nil, arith, length-append, rules, take-length, common_steps, length-take-le, get_or-take}
use Rattle.eco_scan.proofs.Common.{take-take, IsFault, WrittenSlot, Point, end, advance, runs, Stops}
use Rattle.eco_scan.proofs.Stuck.{stuck_at}
use Rattle.eco_scan.proofs.Rest.{Rest}
use Rattle.eco_scan.proofs.Runs.{run_in, run_out, end_in}
use Rattle.eco_scan.proofs.Live.{Fits, fits_run, live}

module _ (Is : List ℕ → Type 0) (first' : Point) (fits : Fits first')
    (is_in : (text : List ℕ) → Is text → (r : List WrittenSlot) × Rest (length text) r first' text)
    (is_out : (text : List ℕ) (r : List WrittenSlot) → Rest (length text) r first' text → Is text) where
  -- what a sentence begins with is read
  begins_read : (front more : List ℕ) → Is (front ++ more) → (r : List WrittenSlot) × (q : Point)
      × (runs advance (0, first') front ≡ Some (length front, q)) × Rest (length (front ++ more)) r q more
  begins_read front more s =
      let (r, h) = is_in (front ++ more) s in
      let whole' : 0 + length (front ++ more) ≡ length (front ++ more) = omega arith in
      let (q, e, last) = run_in (length (front ++ more)) r front more 0 first' whole' h in
      let counts : 0 + length front ≡ length front = omega arith in
      (r, q, e ∙ ap (λ k. Some (k, q)) counts, last)

  front_on : (front : List ℕ) (n : ℕ) (q : Point) → runs advance (0, first') front ≡ Some (n, q) → (more : List ℕ) × Is (front ++ more)
  front_on front n q e =
      let (f, count) = fits_run front 0 n first' q fits e in
      let (size, r, u, place, h) = live n q f in
      let longer : length (front ++ u) ≡ length front + length u = length-append front u in
      let size_is : size ≡ length (front ++ u) = omega arith in
      let whole' : 0 + length (front ++ u) ≡ size = omega arith in
      (u, is_out (front ++ u) r (subst (λ k. Rest k r first' (front ++ u)) size_is (run_out size r front u 0 n first' q whole' e h)))

  not_read : (front more : List ℕ) → runs advance (0, first') front ≡ None → Is (front ++ more) → ⊥
  not_read front more e s = grind (arith, common_steps, begins_read)

  -- the machine has no move at the byte
  fault_stuck : (text : List ℕ) (n m : ℕ) (q : Point) → n < length text → runs advance (0, first') (take n text) ≡ Some (m, q)
      → advance (m, q) (get_or text n 0) ≡ None → IsFault Is text n
  fault_stuck text n m q lt e stuck = record {
    nothing = λ s. not_read text []
        (subst (λ t. runs advance (0, first') t ≡ None) (append-nil text) (stuck_at advance (0, first') (m, q) text n lt e stuck []))
        (subst Is (sym (append-nil text)) s);
    within = omega arith;
    begins = front_on (take n text) m q e;
    longest = λ k le more s.
        let past : n < k → ⊥ = λ lt'.
        let count : length (take k text) ≡ k = length-take-le k text le in
        not_read (take k text) more
        (subst (λ t. runs advance (0, first') t ≡ None) (append-nil (take k text))
        (stuck_at advance (0, first') (m, q) (take k text) n (omega arith)
        (ap (λ xs. runs advance (0, first') xs) (take-take n k text (omega arith)) ∙ e)
        (ap (λ b. advance (m, q) b) (get_or-take k text n 0 lt') ∙ stuck) [])) s in
        omega (arith, past);
  }

  -- the text ends too early
  fault_end : (text : List ℕ) (n : ℕ) (q : Point) → runs advance (0, first') text ≡ Some (n, q) → end q ≡ None → IsFault Is text (length text)
  fault_end text n q e last = record {
    nothing = λ s.
        let (r, t, run, h) = begins_read text [] (subst Is (sym (append-nil text)) s) in
        let both' : ◌≡◌ {A = ℕ × Point} (n, q)
        (length text, t) = (let same : ◌≡◌ {A = Option (ℕ × Point)} (Some (n, q)) (Some (length text, t)) = sym e
        ∙ run in cc) in
        let same : q ≡ t = ap (λ (s : ℕ × Point). s.1) both' in
        let ends : end t ≡ Some r = end_in (length (text ++ [])) r t h in
        let bad : ◌≡◌ {A = Option (List WrittenSlot)} None (Some r) = sym last ∙ ap end same ∙ ends in cc;
    within = omega arith;
    begins = subst (λ t. (more : List ℕ) × Is (t ++ more)) (sym (take-length text)) (front_on text n q e);
    longest = λ k le more s. le;
  }

  -- likewise, by where the machine stops
  pub fault_at : (text : List ℕ) (n : ℕ) → Stops first' text n → IsFault Is text n
  fault_at text n (q, e, inl (lt, stuck)) = fault_stuck text n n q lt e (ap (λ o. option_map (λ q. (n + 1, q)) o) stuck)
  fault_at text n (q, e, inr (all, last)) = search (rules, take-length, fault_end)
