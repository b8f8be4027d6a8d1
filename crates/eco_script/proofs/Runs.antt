-- One step after another, and steps that nothing keeps from running.
use Rattle.eco_script.proofs.Common.{subst, ◌≤◌, ◌≡◌, ℕ, ◌+◌, ◌<◌, List, [], ◌∷◌, ◌++◌, length, map, take, drop, get_or, Option}
use Rattle.eco_script.proofs.Common.{Some, None, IsSomeAnd, refl, ap, ◌∙◌, sym, append_assoc, inr, Appends-trans, append-nil, take_all, take_more}
use Rattle.eco_script.proofs.Common.{map-append, take-append-drop, WorldState, ScriptState, WrittenStep, Does, Text}
use Rattle.std.specs.Io.KnownBytes.{Appends, Consumes, IsAtEnd}
use Rattle.eco_script.specs.Run.{RanTo, WasNotRead, WasStopped, beginning}
use Rattle.serde_json.specs.Data.{Data}
use Rattle.serde_json.specs.Read.{read}
use Rattle.eco_steps.specs.Script.{WrittenScript, IsScript, IsScriptData}
use Rattle.eco_steps.specs.Beginning.{IsBeginning}
use Rattle.eco_script.proofs.Ends.{TextsRead, some_step}

begins : (t q r u more : List ℕ) → u ≡ q ++ r → (t ++ u) ++ more ≡ (t ++ q) ++ (r ++ more)
begins t q r u more e = rw e (simp append_assoc)

-- bytes whose value is no script are none
pub no_script_bytes : (bytes : List ℕ) (d : Data) → read bytes ≡ Some d → ((s : WrittenScript) → ¬ IsScriptData d s) → (s : WrittenScript) → ¬ IsScript bytes s
no_script_bytes bytes d at none s (utf8, v, is, of) = let q : v ≡ d = cc in none s (rw q at of)

-- nothing is written of bytes that are no script; what is said of those that were read to the end is said of those that the reader had
pub not_read_to_end : (left after : Option (List ℕ)) (bytes : List ℕ) (a b : Option (List ℕ)) → Consumes left after bytes → IsAtEnd after
    → WasNotRead (Some bytes) a b → WasNotRead left a b
not_read_to_end None after bytes a b p q h = h.0
not_read_to_end (Some xs) None bytes a b p q h = absurd p
not_read_to_end (Some xs) (Some ys) bytes a b p q h =
    let whole : xs ≡ bytes = p ∙ ap (λ t. bytes ++ t) q ∙ append-nil bytes in
    rw whole h

-- of runs by so many workers
module _ (workers : ℕ) where
  pub Text-append : (xs ys : List WrittenStep) (w m e : ScriptState) (t u : List ℕ) → Text workers w xs t m → Text workers m ys u e
      → Text workers w (xs ++ ys) (t ++ u) e
  Text-append [] ys w m e t u (tn, mw) q = rw (tn, ← mw) q
  Text-append (x ∷ xs) ys w m e t u (first, rest, mid, does, more, te) q =
      (first, rest ++ u, mid, does, Text-append xs ys mid m e rest u more q, ap (λ s. s ++ u) te ∙ append_assoc first rest u)

  pub Text-one : (s : WrittenStep) (w m : ScriptState) (t : List ℕ) → Does workers w s t m → Text workers w (s ∷ []) t m
  Text-one s w m t d = (t, [], m, d, (refl, refl), sym (append-nil t))

  pub Text-more : (xs : List WrittenStep) (s : WrittenStep) (w m e : ScriptState) (t u : List ℕ) → Text workers w xs t m → Does workers m s u e
      → Text workers w (xs ++ s ∷ []) (t ++ u) e
  Text-more xs s w m e t u p d = Text-append xs (s ∷ []) w m e t u p (Text-one s m e u d)

  pub some_text : TextsRead → (ss : List WrittenStep) (w : ScriptState) → (t : List ℕ) × (e : ScriptState) × Text workers w ss t e
  some_text texts [] w = ([], w, (refl, refl))
  some_text texts (s ∷ ss) w =
      let one = some_step texts workers s w in
      let more = some_text texts ss one.1 in
      (one.0 ++ more.0, more.1, (one.0, more.0, one.1, one.2, more.2, refl))

  -- what is said of the front of a list, and of all of it
  module _ {X : Type 0} (f : X → WrittenStep) (xs : List X) where
    text_more : (i : ℕ) (x : X) (w m e : ScriptState) (t u : List ℕ) → i < length xs → x ≡ get_or xs i x → Text workers w (map f (take i xs)) t m
        → Does workers m (f x) u e → Text workers w (map f (take (i + 1) xs)) (t ++ u) e
    text_more i x w m e t u lt is p does =
        let front : map f (take (i + 1) xs) ≡ map f (take i xs) ++ f x ∷ [] =
        ap (λ ys. map f ys) (take_more xs i x lt) ∙ map-append f (take i xs) (get_or xs i x ∷ []) ∙ ap (λ y. map f (take i xs) ++ f y ∷ []) (sym is) in
        rw front (Text-more (map f (take i xs)) (f x) w m e t u p does)

    -- a run goes on to some end
    text_goes_on : TextsRead → (i : ℕ) (w m : ScriptState) (t : List ℕ) → Text workers w (map f (take i xs)) t m
        → (more : List ℕ) × (e : ScriptState) × Text workers w (map f xs) (t ++ more) e
    text_goes_on texts i w m t p =
        let rest = some_text texts (map f (drop i xs)) m in
        let whole : map f xs ≡ map f (take i xs) ++ map f (drop i xs) =
        ap (λ ys. map f ys) (sym (take-append-drop i xs)) ∙ map-append f (take i xs) (drop i xs) in
        (rest.0, rest.1, rw whole (Text-append (map f (take i xs)) (map f (drop i xs)) w m rest.1 t rest.0 p rest.2))

    -- the steps so far have a text, of which this much is not written yet
    abbrev pub Gathered : ℕ → ScriptState → ScriptState → Option (List ℕ) → Option (List ℕ) → List ℕ → Type 0
    Gathered i w m a b rest = (done : List ℕ) × Text workers w (map f (take i xs)) (done ++ rest) m × Appends a b done

    -- what is written where the run stops
    abbrev Stopped : ScriptState → Option (List ℕ) → Option (List ℕ) → Type 0
    Stopped w a b = (part : List ℕ) × (text : List ℕ) × (end : ScriptState) × Text workers w (map f xs) text end × IsBeginning part text × Appends a b part

    -- one more step was run
    pub gathered_more : (i : ℕ) (x : X) (w m e : ScriptState) (a b : Option (List ℕ)) (rest more u : List ℕ) → i < length xs → x ≡ get_or xs i x
        → Gathered i w m a b rest → Does workers m (f x) u e → more ≡ rest ++ u → Gathered (i + 1) w e a b more
    gathered_more i x w m e a b rest more u lt at (done, p, h) does is =
        let whole : (done ++ rest) ++ u ≡ done ++ more = append_assoc done rest u ∙ ap (λ t. done ++ t) (sym is) in
        (done, rw (← whole) (text_more i x w m e (done ++ rest) u lt at p does), h)

    -- some of it was written
    pub gathered_less : (i : ℕ) (w m : ScriptState) (a b c : Option (List ℕ)) (rest part left : List ℕ) → rest ≡ part ++ left
        → Gathered i w m a b rest → Appends b c part → Gathered i w m a c left
    gathered_less i w m a b c rest part left is (done, p, h) k =
        let whole : done ++ rest ≡ (done ++ part) ++ left = ap (λ t. done ++ t) is ∙ sym (append_assoc done part left) in
        (done ++ part, rw (← whole) p, Appends-trans a b c done part h k)

    -- all steps were run, and the rest was written
    pub gathered_all : (i : ℕ) (w e : ScriptState) (a b c : Option (List ℕ)) (rest : List ℕ) → length xs ≤ i → Gathered i w e a b rest → Appends b c rest
        → (text : List ℕ) × (last : ScriptState) × Text workers w (map f xs) text last × (last.world ≡ e.world) × Appends a c text
    gathered_all i w e a b c rest end (done, p, h) k =
        (done ++ rest, e, subst (λ ys. Text workers w (map f ys) (done ++ rest) e) (take_all i xs end) p, refl, Appends-trans a b c done rest h k)

    -- the run stops between two steps
    pub stopped_between : TextsRead → (i : ℕ) (w m : ScriptState) (a b : Option (List ℕ)) (rest : List ℕ) → Gathered i w m a b rest → Stopped w a b
    stopped_between texts i w m a b rest (done, p, h) =
        let on = text_goes_on texts i w m (done ++ rest) p in
        (done, (done ++ rest) ++ on.0, on.1, on.2, (rest ++ on.0, append_assoc done rest on.0), h)

    -- or while it writes
    pub stopped_within : TextsRead → (i : ℕ) (w m : ScriptState) (a b c : Option (List ℕ)) (rest : List ℕ) → Gathered i w m a b rest
        → ((q : List ℕ) × IsBeginning q rest × Appends b c q) → Stopped w a c
    stopped_within texts i w m a b c rest (done, p, h) (q, (r, er), hq) =
        let on = text_goes_on texts i w m (done ++ rest) p in
        (done ++ q, (done ++ rest) ++ on.0, on.1, on.2, (r ++ on.0, begins done q r rest on.0 er), Appends-trans a b c done q h hq)

  Text-at : (w v e : ScriptState) (ss rs : List WrittenStep) (t : List ℕ) → w ≡ v → ss ≡ rs → Text workers w ss t e → Text workers v rs t e
  Text-at w v e ss rs t p q h = rw (← p, ← q) h

  pub ran_bytes : (bytes : List ℕ) (script : WrittenScript) (w : ScriptState) (ss : List WrittenStep) (world : WorldState) (a b : Option (List ℕ))
      → IsScript bytes script → w ≡ beginning script → ss ≡ script.steps
      → ((t : List ℕ) × (e : ScriptState) × Text workers w ss t e × (e.world ≡ world) × Appends a b t)
      → RanTo workers (Some bytes) a b world
  ran_bytes bytes script w ss world a b is at_start are (t, e, h, ends, k) =
      (t, (script, e, is, Text-at w (beginning script) e ss script.steps t at_start are h, ends), k)

  -- a run to a world is a run
  pub ran_some : (left : Option (List ℕ)) (a b : Option (List ℕ)) (end : Option WorldState) → IsSomeAnd end (RanTo workers left a b)
      → (world : WorldState) × RanTo workers left a b world
  ran_some left a b None h = absurd h
  ran_some left a b (Some world) h = (world, h)

  pub stopped_bytes : (bytes : List ℕ) (script : WrittenScript) (w : ScriptState) (ss : List WrittenStep) (a b : Option (List ℕ))
      → IsScript bytes script → w ≡ beginning script → ss ≡ script.steps
      → ((part : List ℕ) × (text : List ℕ) × (end : ScriptState) × Text workers w ss text end × IsBeginning part text × Appends a b part)
      → WasStopped workers (Some bytes) a b
  stopped_bytes bytes script w ss a b is at_start are (part, text, e, h, begin, k) =
      inr (part, text, e.world, (script, e, is, Text-at w (beginning script) e ss script.steps text at_start are h, refl), begin, k)

  -- what is said of the bytes that were read to the end is said of those that the reader had
  pub ran_to_end : (left after : Option (List ℕ)) (bytes : List ℕ) (a b : Option (List ℕ)) (world : WorldState) → Consumes left after bytes
      → IsAtEnd after → RanTo workers (Some bytes) a b world → RanTo workers left a b world
  ran_to_end None after bytes a b world p q h = tt
  ran_to_end (Some xs) None bytes a b world p q h = absurd p
  ran_to_end (Some xs) (Some ys) bytes a b world p q h =
      let whole : xs ≡ bytes = p ∙ ap (λ t. bytes ++ t) q ∙ append-nil bytes in
      rw whole h
