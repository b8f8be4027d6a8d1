-- The loop of the reader: what the machine has read so far.
use Rattle.eco_scan.proofs.Common.{◌≡◌, ℕ, ◌+◌, ◌<◌, List, length, get_or, take, Some, None, option_map, option_and_then, sym, refl, ap}
use Rattle.eco_scan.proofs.Common.{◌∙◌, inl, inr, take-length, take_more, WrittenAtom, Point, Before, move, end, advance, runs, slots_with, Reached}
use Rattle.eco_scan.proofs.Common.{Stops, EndsWith}
use Rattle.eco_scan.proofs.Stuck.{runs-more}

pub reached_more : (start : Point) (text : List ℕ) (n : ℕ) (q r : Point) → n < length text → Reached start text n q
    → Some r ≡ move n q (get_or text n 0)
    → Reached start text (n + 1) r
reached_more start text n q r lt e f =
    ap (λ xs. runs advance (0, start) xs) (take_more text n 0 lt) ∙ runs-more advance (0, start) (n, q) (take n text) (get_or text n 0) e
    ∙ ap (λ o. option_and_then (λ s. Some s) (option_map (λ q. (n + 1, q)) o)) (sym f)

pub reached_stuck : (start : Point) (text : List ℕ) (n : ℕ) (q : Point) → n < length text → Reached start text n q
    → None ≡ move n q (get_or text n 0)
    → Stops start text n
reached_stuck start text n q lt e f = (q, e, inl (lt, sym f))

-- v is the point, by how much was read
pub reached_end : (start : Point) (text : List ℕ) (n : ℕ) (v : ℕ → Point) → n ≡ length text → Reached start text n (v n)
    → end (v (length text)) ≡ None
    → Stops start text (length text)
reached_end start text n v e run last =
    (v (length text), ap (λ k. runs advance (0, start) (take k text)) (sym e) ∙ run ∙ ap (λ k. Some (k, v k)) e, inr (refl, last))

pub reached_all : (start : Point) (text : List ℕ) (n : ℕ) (v : ℕ → Point) → n ≡ length text → Reached start text n (v n)
    → runs advance (0, start) text ≡ Some (length text, v (length text))
reached_all start text n v e run = ap (λ xs. runs advance (0, start) xs) (sym (ap (λ k. take k text) e ∙ take-length text)) ∙ run
    ∙ ap (λ k. Some (k, v k)) e

pub reached_atom : (start : Point) (text : List ℕ) (n : ℕ) (v : ℕ → Point) (c : Before) (x : WrittenAtom) → n ≡ length text
    → Reached start text n (v n)
    → end (v (length text)) ≡ Some (slots_with c.head c x) → EndsWith start text x
reached_atom start text n v c x e run last = (v (length text), c, reached_all start text n v e run, last)
