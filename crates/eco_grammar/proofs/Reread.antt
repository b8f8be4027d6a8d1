-- The canonical text of a query spells that query.
use Rattle.eco_grammar.proofs.Common.{◌≡◌, ℕ, suc, ◌-◌, ◌≤◌, true, false, List, [], ◌∷◌, ◌++◌, length, nat_lt, flat_map, codes, Ok}
use Rattle.eco_grammar.proofs.Common.{Option, sym, refl, ap, ◌∙◌, subst, inl, inr, append_assoc, arith, length-append, length-map, le-ltb, list_any}
use Rattle.eco_grammar.proofs.Common.{AllByRecursion, Entity, Id, One, Two, QueryTerm, WrittenPart, named, each, any, WrittenAtom, single, pair, WrittenBody}
use Rattle.eco_grammar.proofs.Common.{absent, optional, alternatives, WrittenSlot, IsPart, IsAtom, AreMore, IsBody, IsSlot, AreMoreSlots, SpellsQuery}
use Rattle.eco_grammar.proofs.Common.{has_wildcard, is_lone_wildcard, atoms_of, count_atoms, QuerySlot, exactly, patterns_of, reads, IsPatternPart, IsPattern}
use Rattle.eco_grammar.proofs.Common.{IsTerm, IsQuery, Reads, id_of, ids_of, part_of, pattern_of_atom, term_of_body, slots_of_written, query_of, ok_map}
use Rattle.eco_grammar.proofs.Common.{misplaces_wildcard, is_positive_body, Access, In, Out, InOut, InOutNone}
use Rattle.eco_ids.specs.declared.pattern.Part.{Part}
use Rattle.eco_ids.specs.declared.pattern.Part.TheVariants.{Is, Each, Any}
use Rattle.eco_ids.specs.declared.pattern.Pattern.{Pattern}
use Rattle.eco_ids.specs.Text.{entity_text, id_text, part_text, pattern_text}
use Rattle.eco_query.specs.Canonical.{access_text, term_text, slot_text, query_text}
use Rattle.eco_scan.specs.Tokens.{handle, IsWhite}
use Rattle.eco_grammar.proofs.Kept.{slots_positive}
use Rattle.eco_ids.specs.declared.pattern.Pattern.TheVariants as pattern
use Rattle.eco_ids.specs.Terms as terms

behind : (xs ys : List ℕ) (n : ℕ) → length (xs ++ ys) ≤ n → length ys ≤ n
behind xs ys n le = let long = length-append xs ys in omega arith

id_pattern : (i : Id) → id_text i ≡ pattern_text (exactly i)
id_pattern (One e) = refl
id_pattern (Two r t) = refl

pair_text : (p q v : List ℕ)
    → (codes "(" ++ p ++ codes ", " ++ q ++ codes ")") ++ v ≡ codes "(" ++ (p ++ (codes ", " ++ (q ++ (codes ")" ++ v))))
pair_text p q v =
    let begun = codes "(" ++ p ++ codes ", " in
    append_assoc (begun ++ q) (codes ")") v ∙ append_assoc begun q (codes ")" ++ v) ∙ append_assoc (codes "(" ++ p) (codes ", ") (q ++ (codes ")" ++ v))

-- the alternatives behind the first, and the slots behind the first
abbrev others_text : List Id → List ℕ
others_text is = flat_map (λ y. codes " || " ++ id_text y) is

abbrev more_text : List QuerySlot → List ℕ
more_text ss = flat_map (λ y. codes ", " ++ slot_text y) ss

alternatives_pattern : (i : Id) (is : List Id) (v : List ℕ) → (id_text i ++ others_text is) ++ v ≡ pattern_text (exactly i) ++ (others_text is ++ v)
alternatives_pattern i is v = append_assoc (id_text i) (others_text is) v ∙ ap (λ t. t ++ (others_text is ++ v)) (id_pattern i)

-- ---- what is written, before a rest, in a text of this length

module _ (size : ℕ) where
  -- u is what is left of the text where the part begins
  abbrev part_in : List ℕ → Part → WrittenPart
  part_in u (Is e) = named (size - length u) (handle e.index e.generation)
  part_in u Each = each
  part_in u Any = any

  abbrev atom_before : List ℕ → Pattern → WrittenAtom
  atom_before v (pattern.One e) = single (part_in (entity_text e ++ v) (Is e))
  atom_before v (pattern.Two p q) =
      pair (part_in (part_text p ++ (codes ", " ++ (part_text q ++ (codes ")" ++ v)))) p) (part_in (part_text q ++ (codes ")" ++ v)) q)

  abbrev atoms_before : List ℕ → List Id → List WrittenAtom
  atoms_before v [] = []
  atoms_before v (i ∷ is) = atom_before (others_text is ++ v) (exactly i) ∷ atoms_before v is

  abbrev body_before : List ℕ → QueryTerm → WrittenBody
  body_before v (terms.And p) = alternatives (atom_before v p ∷ [])
  body_before v (terms.Not p) = absent (atom_before v p)
  body_before v (terms.Optional i) = optional (atom_before v (exactly i))
  body_before v (terms.Or is) = alternatives (atoms_before v is)

  abbrev slot_before : List ℕ → QuerySlot → WrittenSlot
  slot_before v s = record { access = s.access; body = body_before v s.term }

  abbrev slots_written : List QuerySlot → List WrittenSlot
  slots_written [] = []
  slots_written (s ∷ ss) = slot_before (more_text ss) s ∷ slots_written ss

  -- ---- it is spelled

  part_spelled : (p : Part) (white v : List ℕ) → IsWhite white → IsPatternPart p → length (part_text p ++ (white ++ v)) ≤ size
      → IsPart size (part_text p ++ (white ++ v)) v (part_in (part_text p ++ (white ++ v)) p)
  part_spelled (Is e) white v w (index, generation) le = (entity_text e, (refl, index, generation), (white, w, refl), omega arith)
  part_spelled Each white v w h le = (white, w, refl)
  part_spelled Any white v w h le = (white, w, refl)

  atom_spelled : (p : Pattern) (white v : List ℕ) → IsWhite white → IsPattern p → length (pattern_text p ++ (white ++ v)) ≤ size
      → IsAtom size (pattern_text p ++ (white ++ v)) v (atom_before (white ++ v) p)
  atom_spelled (pattern.One e) white v w h le = part_spelled (Is e) white v w h le
  atom_spelled (pattern.Two p q) white v w (hp, hq) le =
      let same = pair_text (part_text p) (part_text q) (white ++ v) in
      let d = codes ")" ++ (white ++ v) in
      let b = codes ", " ++ (part_text q ++ d) in
      let a = part_text p ++ b in
      let inside : length a ≤ size = behind (codes "(") a size (subst (λ u. length u ≤ size) same le) in
      let last : length (part_text q ++ d) ≤ size = behind (codes ", ") (part_text q ++ d) size (behind (part_text p) b size inside) in (
        a,
        b,
        part_text q ++ d,
        d,
        ([], refl, same),
        part_spelled p [] b refl hp inside,
        (codes " ", refl, refl),
        part_spelled q [] d refl hq last,
        (white, w, refl),
      )

  more_spelled : (i : Id) (is : List Id) (v : List ℕ) → AllByRecursion (λ j. IsPattern (exactly j)) (i ∷ is)
      → length ((id_text i ++ others_text is) ++ v) ≤ size
      → (a : List ℕ) × IsAtom size ((id_text i ++ others_text is) ++ v) a (atom_before (others_text is ++ v) (exactly i))
      × AreMore size a v (atoms_before v is)
  more_spelled i [] v (h, hs) le =
      let same = alternatives_pattern i [] v in (
        v,
        subst (λ u. IsAtom size u v (atom_before v (exactly i))) (sym same)
            (atom_spelled (exactly i) [] v refl h (subst (λ u. length u ≤ size) same le)),
        refl,
      )
  more_spelled i (j ∷ js) v (h, hs) le =
      let same = alternatives_pattern i (j ∷ js) v in
      let b = (id_text j ++ others_text js) ++ v in
      let a = codes "|| " ++ b in
      let le : length (pattern_text (exactly i) ++ (codes " " ++ a)) ≤ size = subst (λ u. length u ≤ size) same le in
      let next : length b ≤ size = behind (codes " || ") b size (behind (pattern_text (exactly i)) (codes " " ++ a) size le) in
      let (c, is_atom, more) = more_spelled j js v hs next in (
        a,
        subst (λ u. IsAtom size u a (atom_before (others_text (j ∷ js) ++ v) (exactly i))) (sym same) (atom_spelled (exactly i) (codes " ") a refl h le),
        (b, c, (codes " ", refl, refl), is_atom, more),
      )

  body_spelled : (t : QueryTerm) (v : List ℕ) → IsTerm t → length (term_text t ++ v) ≤ size → IsBody size (term_text t ++ v) v (body_before v t)
  body_spelled (terms.And p) v h le = (v, atom_spelled p [] v refl h le, refl)
  body_spelled (terms.Not p) v h le =
      (pattern_text p ++ v, ([], refl, refl), atom_spelled p [] v refl h (behind (codes "!") (pattern_text p ++ v) size le))
  body_spelled (terms.Optional i) v h le =
      let le : length (id_text i ++ v) ≤ size = behind (codes "?") (id_text i ++ v) size le in
      let same : id_text i ++ v ≡ pattern_text (exactly i) ++ v = ap (λ t. t ++ v) (id_pattern i) in (
        id_text i ++ v,
        ([], refl, refl),
        subst (λ u. IsAtom size u v (atom_before v (exactly i))) (sym same)
            (atom_spelled (exactly i) [] v refl h (subst (λ u. length u ≤ size) same le)),
      )
  body_spelled (terms.Or []) v (two, h) le = absurd (omega arith)
  body_spelled (terms.Or (i ∷ is)) v (two, h) le = more_spelled i is v h le

  slot_spelled : (a : Access) (t : QueryTerm) (v : List ℕ) → IsTerm t → length ((access_text a ++ term_text t) ++ v) ≤ size
      → IsSlot size ((access_text a ++ term_text t) ++ v) v (slot_before v (record { access = a; term = t }))
  slot_spelled In t v h le =
      let u = term_text t ++ v in (
        u,
        inr (codes "in] " ++ u, codes "] " ++ u, ([], refl, refl), ([], refl, refl), (codes " ", refl, refl)),
        body_spelled t v h (behind (codes "[in] ") u size le),
      )
  slot_spelled Out t v h le =
      let u = term_text t ++ v in (
        u,
        inr (codes "out] " ++ u, codes "] " ++ u, ([], refl, refl), ([], refl, refl), (codes " ", refl, refl)),
        body_spelled t v h (behind (codes "[out] ") u size le),
      )
  slot_spelled InOut t v h le = (term_text t ++ v, inl (refl, refl), body_spelled t v h le)
  slot_spelled InOutNone t v h le =
      let u = term_text t ++ v in (
        u,
        inr (codes "none] " ++ u, codes "] " ++ u, ([], refl, refl), ([], refl, refl), (codes " ", refl, refl)),
        body_spelled t v h (behind (codes "[none] ") u size le),
      )

  slots_spelled : (ss : List QuerySlot) → AllByRecursion (λ s. IsTerm s.term) ss → length (more_text ss) ≤ size
      → AreMoreSlots size (more_text ss) (slots_written ss)
  slots_spelled [] h le = refl
  slots_spelled (s ∷ ss) (h, hs) le =
      let here : length (slot_text s ++ more_text ss) ≤ size = behind (codes ", ") (slot_text s ++ more_text ss) size le in (
        slot_text s ++ more_text ss,
        more_text ss,
        (codes " ", refl, refl),
        slot_spelled s.access s.term (more_text ss) h here,
        slots_spelled ss hs (behind (slot_text s) (more_text ss) size here),
      )

  -- ---- it has no more atoms, and no wildcard stands wrong in it

  count_ids : (v : List ℕ) (is : List Id) → length (atoms_before v is) ≡ length is
  count_ids v [] = refl
  count_ids v (i ∷ is) = ap (λ n. suc n) (count_ids v is)

  count_body : (v : List ℕ) (t : QueryTerm) → length (atoms_of (body_before v t)) ≡ length (patterns_of t)
  count_body v (terms.And p) = refl
  count_body v (terms.Not p) = refl
  count_body v (terms.Optional i) = refl
  count_body v (terms.Or is) = count_ids v is ∙ sym (length-map is exactly)

  count_slots : (ss : List QuerySlot) → count_atoms (slots_written ss) ≡ length (reads ss)
  count_slots [] = refl
  count_slots (s ∷ ss) = rw (length-append (patterns_of s.term) (reads ss), count_body (more_text ss) s.term, count_slots ss) refl

  no_wildcard : (v : List ℕ) (i : Id) → has_wildcard (atom_before v (exactly i)) ≡ false
  no_wildcard v (One e) = refl
  no_wildcard v (Two r t) = refl

  no_wildcards : (v : List ℕ) (is : List Id) → list_any has_wildcard (atoms_before v is) ≡ false
  no_wildcards v [] = refl
  no_wildcards v (i ∷ is) = rw (no_wildcard (others_text is ++ v) i, no_wildcards v is) refl

  no_lone : (v : List ℕ) (p : Pattern) → is_lone_wildcard (atom_before v p) ≡ false
  no_lone v (pattern.One e) = refl
  no_lone v (pattern.Two p q) = refl

  slot_placed : (a : Access) (v : List ℕ) (t : QueryTerm) → IsTerm t → misplaces_wildcard (slot_before v (record { access = a; term = t })) ≡ false
  slot_placed a v (terms.And p) h = no_lone v p
  slot_placed a v (terms.Not p) h = no_lone v p
  slot_placed a v (terms.Optional i) h = no_wildcard v i
  slot_placed a v (terms.Or []) (two, h) = refl
  slot_placed a v (terms.Or (i ∷ [])) (two, h) = absurd (omega arith)
  slot_placed a v (terms.Or (i ∷ j ∷ is)) h = no_wildcards v (i ∷ j ∷ is)

  slots_placed : (ss : List QuerySlot) → AllByRecursion (λ s. IsTerm s.term) ss → list_any misplaces_wildcard (slots_written ss) ≡ false
  slots_placed [] h = refl
  slots_placed (s ∷ ss) (h, hs) = rw (slot_placed s.access (more_text ss) s.term h, slots_placed ss hs) refl

  -- ---- under any names it means the query

  module _ (entity_named : List ℕ → Option Entity) where
    part_means : (u : List ℕ) (p : Part) → part_of entity_named (part_in u p) ≡ Ok p
    part_means u (Is e) = refl
    part_means u Each = refl
    part_means u Any = refl

    atom_means : (v : List ℕ) (p : Pattern) → pattern_of_atom entity_named (atom_before v p) ≡ Ok p
    atom_means v (pattern.One e) = refl
    atom_means v (pattern.Two p q) =
        rw (part_means (part_text p ++ (codes ", " ++ (part_text q ++ (codes ")" ++ v)))) p, part_means (part_text q ++ (codes ")" ++ v)) q) refl

    id_means : (v : List ℕ) (i : Id) → id_of entity_named (atom_before v (exactly i)) ≡ Ok i
    id_means v (One e) = refl
    id_means v (Two r t) = refl

    ids_mean : (v : List ℕ) (is : List Id) → ids_of entity_named (atoms_before v is) ≡ Ok is
    ids_mean v [] = refl
    ids_mean v (i ∷ is) = rw (id_means (others_text is ++ v) i, ids_mean v is) refl

    body_means : (v : List ℕ) (t : QueryTerm) → IsTerm t → term_of_body entity_named (body_before v t) ≡ Ok t
    body_means v (terms.And p) h = ap (ok_map (λ p. terms.And p)) (atom_means v p)
    body_means v (terms.Not p) h = ap (ok_map (λ p. terms.Not p)) (atom_means v p)
    body_means v (terms.Optional i) h = ap (ok_map (λ i. terms.Optional i)) (id_means v i)
    body_means v (terms.Or []) (two, h) = refl
    body_means v (terms.Or (i ∷ [])) (two, h) = absurd (omega arith)
    body_means v (terms.Or (i ∷ j ∷ is)) h = ap (ok_map (λ is. terms.Or is)) (ids_mean v (i ∷ j ∷ is))

    slots_mean : (ss : List QuerySlot) → AllByRecursion (λ s. IsTerm s.term) ss → slots_of_written entity_named (slots_written ss) ≡ Ok ss
    slots_mean [] h = refl
    slots_mean (s ∷ ss) (h, hs) = rw (body_means (more_text ss) s.term h, slots_mean ss hs) refl

-- no refusal comes before the names
query_known : (entity_named : List ℕ → Option Entity) (ws : List WrittenSlot) (ss : List QuerySlot) → nat_lt 32 (count_atoms ws) ≡ false
    → list_any misplaces_wildcard ws ≡ false → list_any (λ s. is_positive_body s.body) ws ≡ true → slots_of_written entity_named ws ≡ Ok ss
    → query_of entity_named ws ≡ Ok ss
query_known entity_named ws ss count placed positive means = rw (count, placed, positive) means

pub spelled_again : (ss : List QuerySlot) → IsQuery ss → SpellsQuery (query_text ss) (slots_written (length (query_text ss)) ss)
spelled_again [] q = let p = q.positive in cc
spelled_again (s ∷ ss) q =
    let text = slot_text s ++ more_text ss in (
      text,
      more_text ss,
      ([], refl, refl),
      slot_spelled (length text) s.access s.term (more_text ss) q.terms.0 (omega arith),
      slots_spelled (length text) ss q.terms.1 (behind (slot_text s) (more_text ss) (length text) (omega arith)),
    )

-- the canonical text of a query is read as that query
pub query_reread : (ss : List QuerySlot) → IsQuery ss → (entity_named : List ℕ → Option Entity)
    → Reads SpellsQuery (query_of entity_named) (query_text ss) (Ok ss)
query_reread ss q entity_named =
    let size = length (query_text ss) in
    let ws = slots_written size ss in
    let means = slots_mean size entity_named ss q.terms in
    let few : count_atoms ws ≤ 32 = subst (λ n. n ≤ 32) (sym (count_slots size ss)) q.few in
    let known = query_known entity_named ws ss (le-ltb 32 (count_atoms ws) few) (slots_placed size ss q.terms)
    (slots_positive entity_named ws ss means ∙ q.positive) means in
    inl (ws, spelled_again ss q, sym known)
