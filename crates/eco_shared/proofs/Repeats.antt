-- The spare world comes to the one that is shown.
use Rattle.eco_shared.proofs.Common.{◌≡◌, Option, Some, None, refl, subst, sym, arc_value, WorldState, IsMerged, KeepsUp, Leads, MergesHaveOneEnd}
use Rattle.eco_shared.proofs.Common.{Repeats, merge_of}
use Rattle.eco_shared.specs.declared.spare.Last.{Last}
use Rattle.eco_shared.specs.declared.spare.Spare.{Spare}

-- where there is no spare world nothing is asked
pub none_keeps : (now : WorldState) → KeepsUp None now
none_keeps now s e = absurd (cc (e))

one_keeps : (s : Spare) (now : WorldState) → Repeats s now → KeepsUp (Some s) now
one_keeps s now repeats t e =
    let same : s ≡ t = cc (e) in
    subst (λ x. Repeats x now) same repeats

-- it is the world before the last merge
pub last_keeps : (s : Spare) (last : Last) (old now : WorldState) → MergesHaveOneEnd → s.last ≡ Some last → arc_value s.world ≡ old
    → IsMerged old (merge_of last) now → KeepsUp (Some s) now
last_keeps s last old now law is before merged =
    let made : IsMerged (arc_value s.world) (merge_of last) now = subst (λ w. IsMerged w (merge_of last) now) (sym before) merged in
    one_keeps s now (λ new leads.
    let l : Leads (arc_value s.world) (Some last) new = subst (λ x. Leads (arc_value s.world) x new) is leads in
    (law (arc_value s.world) last.admitted last.commands l.0 last.report new now l.1 l.2 made).1)

-- what comes of it by the last merge is the world that is shown
pub comes_to : (spare : Option Spare) (s : Spare) (last : Last) (now new : WorldState) → KeepsUp spare now → spare ≡ Some s → s.last ≡ Some last
    → Leads (arc_value s.world) (Some last) new → new ≡ now
comes_to spare s last now new keeps is some leads = keeps s is new (subst (λ l. Leads (arc_value s.world) l new) (sym some) leads)

-- without a merge it is that world
pub is_shown : (spare : Option Spare) (s : Spare) (now : WorldState) → KeepsUp spare now → spare ≡ Some s → s.last ≡ None → arc_value s.world ≡ now
is_shown spare s now keeps is none = keeps s is (arc_value s.world) (subst (λ l. Leads (arc_value s.world) l (arc_value s.world)) (sym none) refl)
