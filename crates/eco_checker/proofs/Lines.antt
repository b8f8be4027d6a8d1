-- The lines that tell faults.
use Rattle.eco_checker.proofs.Common.{◌≡◌, ◌≢◌, ℕ, ◌+◌, ◌<◌, ◌≤◌, Bool, true, false, ltb, List, [], ◌∷◌, ◌++◌, All}
use Rattle.eco_checker.proofs.Common.{length, map, flat_map, take, get_or, Result, Ok, Err, IfOk, OnOk, refl, ap, sym, ◌∙◌, inl, inr, ltb-false, arith}
use Rattle.eco_checker.proofs.Common.{codes, decimal, append-nil, append_assoc, length-map, take_more, IsOfStep, AreOfStep, AreOfSteps, AreFaultLines}
use Rattle.eco_checker.proofs.Common.{AreFaults, last_line, plural_end, unread_text, AddsLines, AddsSome, place_step, place_text}
use Rattle.std.specs.List.{concat}
use Rattle.eco_checker.specs.declared.report.Place.{Place}
use Rattle.eco_checker.specs.declared.report.Place.TheVariants.{Step, Stage, Command, Action}

pub on_ok : {A E : Type 0} (r : Result A E) {P Q : Type 0} → (P → Q) → OnOk r P → OnOk r Q
on_ok (Ok x) f h = f h
on_ok (Err e) f h = h

stage_line : (a c s m t w e : List ℕ) → ((((a ++ (c ++ s)) ++ m) ++ t) ++ w) ++ e ≡ ((a ++ c) ++ (((s ++ m) ++ t) ++ w)) ++ e
stage_line a c s m t w e = simp append_assoc refl

command_line : (a c s m u k t w e : List ℕ)
    → ((((((a ++ (c ++ s)) ++ m) ++ u) ++ k) ++ t) ++ w) ++ e ≡ ((a ++ c) ++ (((((s ++ m) ++ u) ++ k) ++ t) ++ w)) ++ e
command_line a c s m u k t w e = simp append_assoc refl

pub ok_all : {A E : Type 0} (r : Result A E) {P Q : A → Type 0} → ((x : A) → P x → Q x) → IfOk r P → IfOk r Q
ok_all (Ok x) f h = f x h
ok_all (Err e) f h = h

pub line_text : (a b w e : List ℕ) → a ++ (b ++ (w ++ e)) ≡ ((a ++ b) ++ w) ++ e
line_text a b w e = simp append_assoc refl

-- lines of a step behind others of it are others of it
own-append : (n : ℕ) (xs ys : List (List ℕ)) → AreOfStep n xs → AreOfStep n ys → AreOfStep n (xs ++ ys)
own-append n [] ys p q = q
own-append n (x ∷ xs) ys (is, p) q = (is, own-append n xs ys p q)

pub adds_none : (n : ℕ) (old : List (List ℕ)) → AddsLines n old old
adds_none n old = ([], sym (append-nil old), tt)

pub adds_more : (n : ℕ) (a b c : List (List ℕ)) → AddsLines n a b → AddsLines n b c → AddsLines n a c
adds_more n a b c (xs, e, p) (ys, f, q) = (xs ++ ys, f ∙ ap (λ l. l ++ ys) e ∙ append_assoc a xs ys, own-append n xs ys p q)

pub some_adds : (n : ℕ) (a b : List (List ℕ)) → AddsSome n a b → AddsLines n a b
some_adds n a b (xs, e, ne, p) = (xs, e, p)

-- some lines of a step behind others of it
pub adds_some : (n : ℕ) (a b c : List (List ℕ)) → AddsLines n a b → AddsSome n b c → AddsSome n a c
adds_some n a b c ([], e, p) (ys, f, ne, q) = (ys, f ∙ ap (λ l. l ++ ys) (e ∙ append-nil a), ne, q)
adds_some n a b c (x ∷ xs, e, p) (ys, f, ne, q) =
    ((x ∷ xs) ++ ys, f ∙ ap (λ l. l ++ ys) e ∙ append_assoc a (x ∷ xs) ys, (λ q. cc), own-append n (x ∷ xs) ys p q)

-- where there are more lines, some were added
pub grown : (n : ℕ) (a b : List (List ℕ)) → AddsLines n a b → length b ≢ length a → AddsSome n a b
grown n a b ([], e, p) ne = absurd (ne (ap length (e ∙ append-nil a)))
grown n a b (x ∷ xs, e, p) ne = (x ∷ xs, e, (λ q. cc), p)

-- one more step and its lines
steps_more : (ns : List ℕ) (n : ℕ) (ls own : List (List ℕ)) → AreOfSteps ns ls → own ≢ [] → AreOfStep n own → AreOfSteps (ns ++ n ∷ []) (ls ++ own)
steps_more [] n ls own e ne p = (own, [], ap (λ l. l ++ own) e ∙ sym (append-nil own), ne, p, refl)
steps_more (m ∷ ns) n ls own (xs, ys, e, some, q, r) ne p =
    (xs, ys ++ own, ap (λ l. l ++ own) e ∙ append_assoc xs ys own, some, q, steps_more ns n ys own r ne p)

pub faults_more : (has_head : Bool) (ns : List ℕ) (n : ℕ) (old new : List (List ℕ)) → AreFaultLines has_head ns old → AddsSome n old new
    → AreFaultLines has_head (ns ++ n ∷ []) new
faults_more true ns n old new lines (own, e, ne, p) = rw e (steps_more ns n old own lines ne p)
faults_more false ns n old new (head, others, is, h, r) (own, e, ne, p) =
    (head, others ++ own, e ∙ ap (λ l. l ++ own) is, h, steps_more ns n others own r ne p)

pub one_more_step : (has_head : Bool) (steps items : List ℕ) (i d : ℕ) (old new : List (List ℕ)) → items ≡ steps → i < length items
    → AreFaultLines has_head (take i steps) old → AddsSome (get_or items i d) old new → AreFaultLines has_head (take (i + 1) steps) new
one_more_step has_head steps items i d old new same lt lines more =
    let low : i < length steps = rw (← same) lt in
    let added : AddsSome (get_or steps i d) old new = rw (← same) more in
    rw (take_more steps i d low) (faults_more has_head (take i steps) (get_or steps i d) old new lines added)

-- the number of a step that is looked up is below the length
pub looked_up : (steps items : List ℕ) (i d n : ℕ) → All (λ q. q < n) steps → items ≡ steps → i < length items → false ≡ ltb (get_or items i d) n → ⊥
looked_up steps items i d n all same lt e =
    let low : i < length steps = rw (← same) lt in
    let at : get_or items i d < n = rw same (all i d low) in
    let not : n ≤ get_or items i d = ltb-false (get_or items i d) n (sym e) in omega arith

pub same_faults : (a b : Bool) (ns ms told : List ℕ) → a ≡ b → ns ≡ ms → AreFaults a ns told → AreFaults b ms told
same_faults a b ns ms told e f h = rw (← e, ← f) h

pub same_count : {S : Type 0} (f : S → List ℕ) (xs ys : List S) → length (map f xs) ≡ length (map f ys) → length xs ≡ length ys
same_count f xs ys q = sym (length-map xs f) ∙ q ∙ length-map ys f

-- lists of bytes, joined
pub joined : {S : Type 0} (f : S → List ℕ) (xs : List S) → flat_map f xs ≡ concat (map f xs)
joined f [] = refl
joined f (x ∷ xs) = ap (λ l. f x ++ l) (joined f xs)

-- what was written in all
pub report_told : {S : Type 0} (f : S → List ℕ) (has_head : Bool) (steps : List ℕ) (lines : List S) (count : ℕ) (old mid new : List ℕ)
    → AreFaultLines has_head steps (map f lines) → count ≡ length lines → mid ≡ old ++ flat_map f lines → new ≡ mid ++ last_line count
    → (told : List ℕ) × AreFaults has_head steps told × (new ≡ old ++ told)
report_told f has_head steps lines count old mid new are counted first then =
    let same : count ≡ length (map f lines) = counted ∙ sym (length-map lines f) in (
      concat (map f lines) ++ last_line (length (map f lines)),
      (map f lines, are, refl),
      then ∙ ap (λ l. l ++ last_line count) (first ∙ ap (λ t. old ++ t) (joined f lines)) ∙ append_assoc old (concat (map f lines)) (last_line count)
          ∙ ap (λ n. old ++ (concat (map f lines) ++ last_line n)) same,
    )

-- a line begins with its place
pub place_line : (p : Place) (words : List ℕ) → IsOfStep (place_step p) (place_text p ++ codes ": " ++ words ++ codes "\n")
place_line (Step n) words = inl (words, refl)
place_line (Stage n m) words =
    inr (
      codes "stage " ++ decimal m ++ codes ": " ++ words,
      stage_line (codes "step " ++ decimal n) (codes ", ") (codes "stage ") (decimal m) (codes ": ") words (codes "\n"),
    )
place_line (Command n m k) words =
    inr (
      codes "stage " ++ decimal m ++ codes ", command " ++ decimal k ++ codes ": " ++ words,
      command_line (codes "step " ++ decimal n) (codes ", ") (codes "stage ") (decimal m) (codes ", command ") (decimal k) (codes ": ") words (codes "\n"),
    )
place_line (Action n m) words =
    inr (
      codes "action " ++ decimal m ++ codes ": " ++ words,
      stage_line (codes "step " ++ decimal n) (codes ", ") (codes "action ") (decimal m) (codes ": ") words (codes "\n"),
    )

-- a line was added
pub line_added : (p : Place) (words line : List ℕ) (old new : List (List ℕ)) → line ≡ place_text p ++ codes ": " ++ words ++ codes "\n"
    → new ≡ old ++ line ∷ [] → AddsSome (place_step p) old new
line_added p words line old new is e = (line ∷ [], e, (λ q. cc), (rw is (place_line p words), tt))

end_regroup : (a b c d e : List ℕ) → a ++ (b ++ (c ++ (d ++ e))) ≡ (((a ++ b) ++ c) ++ d) ++ e
end_regroup a b c d e = simp append_assoc refl

pub end_told : (old new plural : List ℕ) (count : ℕ) → plural ≡ plural_end count
    → new ≡ old ++ (codes "not a script: " ++ (decimal count ++ (codes " fault" ++ (plural ++ codes " (counts begin at 0)\n"))))
    → new ≡ old ++ last_line count
end_told old new plural count p e =
    e ∙ ap (λ t. old ++ t) (end_regroup (codes "not a script: ") (decimal count) (codes " fault") plural (codes " (counts begin at 0)\n"))
    ∙ ap (λ t. old ++ ((((codes "not a script: " ++ decimal count) ++ codes " fault") ++ t) ++ codes " (counts begin at 0)\n")) p

unread_regroup : (a b c d e f g : List ℕ) → a ++ (b ++ (c ++ (d ++ (e ++ (f ++ g))))) ≡ (((((a ++ b) ++ c) ++ d) ++ e) ++ f) ++ g
unread_regroup a b c d e f g = simp append_assoc refl

pub unread_told : (old new why : List ℕ) (line column : ℕ)
    → new ≡ old ++ (codes "line " ++ (decimal line ++ (codes ", column " ++ (decimal column ++ (codes ": " ++ (why ++ codes "\nnot a script: 1 fault\n"))))))
    → new ≡ old ++ unread_text line column why
unread_told old new why line column e =
    e ∙ ap (λ t. old ++ t)
    (unread_regroup (codes "line ") (decimal line) (codes ", column ") (decimal column) (codes ": ") why (codes "\nnot a script: 1 fault\n"))
