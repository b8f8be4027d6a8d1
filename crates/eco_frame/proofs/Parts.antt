-- Closed writes of all systems in one list.
use Rattle.eco_frame.proofs.BatchesCommon.{◌≡◌, ℕ, ◌-◌, ◌≤◌, List, [], ◌∷◌, ◌++◌, map, length, take, drop, refl, ap, ◌∙◌, arith, length-append}
use Rattle.eco_frame.proofs.BatchesCommon.{length-drop, AllByRecursion, drop-append-le, map-append, take-append-le, take_all, Pattern, outline_of}
use Rattle.eco_frame.proofs.BatchesCommon.{IsWithin, Outline}
use Rattle.std.specs.Prelude.{slice_range}
use Rattle.std.proofs.Math.Seq.{drop-append_seam}

part_kept : (all more : List Pattern) (start end : ℕ) → start ≤ end → end ≤ length all
    → slice_range (all ++ more) start end ≡ slice_range all start end
part_kept all more start end below within =
    ap (take (end - start)) (drop-append-le start all more (omega arith))
    ∙ take-append-le (end - start) (drop start all) more (omega (arith, length-drop start all))

kept : (all more : List Pattern) (os : List Outline) → AllByRecursion (IsWithin (length all)) os
    → map (outline_of (all ++ more)) os ≡ map (outline_of all) os
kept all more [] h = refl
kept all more (o ∷ os) h = λ i.
    record { closed = part_kept all more o.start o.end h.0.start h.0.end i; writes_traits = o.writes_traits; kills = o.kills } ∷ kept all more os h.1 i

own_part : (all own : List Pattern) → slice_range (all ++ own) (length all) (length (all ++ own)) ≡ own
own_part all own =
    ap (take (length (all ++ own) - length all)) (drop-append_seam all own)
    ∙ take_all (length (all ++ own) - length all) own (omega (arith, length-append all own))

-- one system more
pub pushed : (all own all' : List Pattern) (os os' : List Outline) (o : Outline) → all' ≡ all ++ own → os' ≡ os ++ o ∷ []
    → AllByRecursion (IsWithin (length all)) os → o.start ≡ length all → o.end ≡ length all'
    → map (outline_of all') os' ≡ map (outline_of all) os ++ record { closed = own; writes_traits = o.writes_traits; kills = o.kills } ∷ []
pushed all own all' os os' o more last h start end =
    (λ i. map (outline_of (more i)) (last i)) ∙ map-append (outline_of (all ++ own)) os (o ∷ [])
    ∙ λ i. kept all own os h i ++ record {
      closed = ((λ j. slice_range (all ++ own) (start j) ((end ∙ ap length more) j)) ∙ own_part all own) i;
      writes_traits = o.writes_traits;
      kills = o.kills;
    } ∷ []
