-- What a row taken out and a row put in leave of the seats.
use Rattle.eco_store.proofs.Common.{◌≡◌, ◌≢◌, ℕ, Option, Some, None, option_map, refl, sym, ap, subst, ◌∙◌, inl, inr, cases_eq, Entity}
use Rattle.eco_store.proofs.Common.{TableRow, Seat, IsSeated, seated_entity, seat_of, held_of}
use Rattle.eco_archetypes.specs.Seats.{held_in_seat}
use Rattle.eco_archetypes.proofs.Seated.{no_some, one_some}

-- the row of the table f went; the last one, m, took its place
pub record Removed (E E' : ℕ → ℕ → Option TableRow) (f row last : ℕ) : Type 0 where
  pub at_row : last ≢ row → E' f row ≡ E f last
  pub at_last : E' f last ≡ None
  pub others_here : (k : ℕ) → k ≢ row → k ≢ last → E' f k ≡ E f k
  pub others : (n k : ℕ) → n ≢ f → E' n k ≡ E n k

-- a row was put at the end of the table t
pub record Pushed (E E' : ℕ → ℕ → Option TableRow) (t end : ℕ) (r : TableRow) : Type 0 where
  pub free : E t end ≡ None
  pub at_end : E' t end ≡ Some r
  pub others_here : (k : ℕ) → k ≢ end → E' t k ≡ E t k
  pub others : (n k : ℕ) → n ≢ t → E' n k ≡ E n k

-- whose row it is
abbrev pub who : Option TableRow → Option Entity
who = option_map (λ (r : TableRow). r.entity)

whose : (o : Option TableRow) (e : Entity) → who o ≡ Some e → (r : TableRow) × (o ≡ Some r) × (r.entity ≡ e)
whose None e h = absurd (cc)
whose (Some r) e h = (r, refl, cc)

-- rows hold something else, each of the same entity
pub rewritten_seated : (P : ℕ → Option Seat) (E E' : ℕ → ℕ → Option TableRow) → ((n k : ℕ) → who (E' n k) ≡ who (E n k))
    → IsSeated P E → IsSeated P E'
rewritten_seated P E E' same seated = record {
  there = λ j p h.
      let old = seated.there j p h in
      let now = whose (E' p.slot p.row) old.0.entity (same p.slot p.row ∙ ap who old.1) in
      (now.0, now.1, now.2 ∙ old.2);
  back = λ n k x h.
      let old = whose (E n k) x.entity (sym (same n k) ∙ ap who h) in
      subst (λ (e : Entity). P e.index ≡ Some (seat_of e n k)) old.2 (seated.back n k old.0 old.1);
}

module _ (P P' : ℕ → Option Seat) (E E' : ℕ → ℕ → Option TableRow) (i g t end : ℕ) (r : TableRow)
    (seated : IsSeated P E) (pushed : Pushed E E' t end r) (was : P i ≡ None)
    (is : r.entity ≡ seated_entity i (record { generation = g; slot = t; row = end }))
    (now : P' i ≡ Some (record { generation = g; slot = t; row = end })) (kept : (j : ℕ) → j ≢ i → P' j ≡ P j) where
  -- a row elsewhere stays
  push_keeps : (n k : ℕ) (x : TableRow) → E n k ≡ Some x → E' n k ≡ Some x
  push_keeps n k x e =
      elim (cases_eq n t) [
        | inr other ↦ pushed.others n k other ∙ e
        | inl same ↦
            let here : E t k ≡ Some x = ap (λ m. E m k) (sym same) ∙ e in
            let apart : k ≢ end = λ q. no_some (E t end) x pushed.free (ap (λ m. E t m) (sym q) ∙ here) in
            ap (λ m. E' m k) same ∙ pushed.others_here k apart ∙ here
      ]

  push_was : (n k : ℕ) (x : TableRow) → ((n ≡ t) → k ≢ end) → E' n k ≡ Some x → E n k ≡ Some x
  push_was n k x apart e =
      elim (cases_eq n t) [
        | inr other ↦ sym (pushed.others n k other) ∙ e
        | inl same ↦
            ap (λ m. E m k) same ∙ sym (pushed.others_here k (apart same)) ∙ ap (λ m. E' m k) (sym same) ∙ e
      ]

  seated_pushed : IsSeated P' E'
  seated_pushed = record {
    there = λ j p e.
        elim (cases_eq j i) [
          | inl same ↦
              let p_is : p ≡ record { generation = g; slot = t; row = end } = one_some (P' i) p _ (ap P' (sym same) ∙ e) now in
              (r, (λ s. E' (p_is s).slot (p_is s).row) ∙ pushed.at_end, is ∙ sym (λ s. seated_entity (same s) (p_is s)))
          | inr other ↦
              let old = seated.there j p (sym (kept j other) ∙ e) in
              (old.0, push_keeps p.slot p.row old.0 old.1, old.2)
        ];
    back = λ n k x e.
        elim (cases_eq n t) [
          | inr other ↦
              let q = seated.back n k x (sym (pushed.others n k other) ∙ e) in
              kept x.entity.index (λ w. no_some (P i) _ was (ap P (sym w) ∙ q)) ∙ q
          | inl same ↦ elim (cases_eq k end) [
            | inl at ↦
                let x_is : x ≡ r = one_some (E' t end) x r (sym (λ s. E' (same s) (at s)) ∙ e) pushed.at_end in
                (λ s. P' ((ap (λ (y : TableRow). y.entity) x_is ∙ is) s).index) ∙ now
                ∙ sym (λ s. Some (seat_of ((ap (λ (y : TableRow). y.entity) x_is ∙ is) s) (same s) (at s)))
            | inr not_end ↦
                let old = push_was n k x (λ _. not_end) e in
                let q = seated.back n k x old in
                kept x.entity.index (λ w. no_some (P i) _ was (ap P (sym w) ∙ q)) ∙ q
          ]
        ];
  }

  -- what is seen of another entity stays
  pushed_seen : (j : ℕ) → j ≢ i → option_map (held_in_seat E') (P' j) ≡ option_map (held_in_seat E) (P j)
  pushed_seen j other = ap (option_map (held_in_seat E')) (kept j other) ∙ by (P j) refl
    where
      by : (o : Option Seat) → P j ≡ o → option_map (held_in_seat E') o ≡ option_map (held_in_seat E) o
      by None e = refl
      by (Some p) e =
          let old = seated.there j p e in
          let new = push_keeps p.slot p.row old.0 old.1 in
          ap (λ o. Some (held_of o)) (new ∙ sym old.1)

  pub pushed_change : IsSeated P' E' × ((j : ℕ) → j ≢ i → option_map (held_in_seat E') (P' j) ≡ option_map (held_in_seat E) (P j))
  pushed_change = (seated_pushed, pushed_seen)

module _ (P P' : ℕ → Option Seat) (E E' : ℕ → ℕ → Option TableRow) (i g f row last : ℕ) (m : TableRow)
    (seated : IsSeated P E) (removed : Removed E E' f row last)
    (at : P i ≡ Some (record { generation = g; slot = f; row = row }))
    (moved : E f last ≡ Some m)
    (gone : P' i ≡ None) (fixed : last ≢ row → P' m.entity.index ≡ Some (seat_of m.entity f row))
    (kept : (j : ℕ) → j ≢ i → j ≢ m.entity.index → P' j ≡ P j) where
  m_at : P m.entity.index ≡ Some (seat_of m.entity f last)
  m_at = seated.back f last m moved

  m_same : last ≡ row → m.entity.index ≡ i
  m_same q =
      let old = seated.there i _ at in
      let both = one_some (E f row) m old.0 (ap (λ k. E f k) (sym q) ∙ moved) old.1 in
      ap (λ (x : TableRow). x.entity.index) both ∙ ap (λ (e : Entity). e.index) old.2

  -- where the row of another entity than i stands: not in the row
  not_here : (j : ℕ) (p : Seat) → j ≢ i → P j ≡ Some p → p.slot ≡ f → p.row ≢ row
  not_here j p other e s q =
      let mine = seated.there j p e in
      let his = seated.there i _ at in
      let both = one_some (E f row) mine.0 his.0 (sym (λ t. E (s t) (q t)) ∙ mine.1) his.1 in
      other (sym (ap (λ (x : Entity). x.index) mine.2) ∙ ap (λ (x : TableRow). x.entity.index) both ∙ ap (λ (x : Entity). x.index) his.2)

  not_last : (j : ℕ) (p : Seat) → j ≢ m.entity.index → P j ≡ Some p → p.slot ≡ f → p.row ≢ last
  not_last j p other e s q =
      let mine = seated.there j p e in
      let both = one_some (E f last) mine.0 m (sym (λ t. E (s t) (q t)) ∙ mine.1) moved in
      other (sym (ap (λ (x : Entity). x.index) mine.2) ∙ ap (λ (x : TableRow). x.entity.index) both)

  -- the row of an entity that is neither i nor m stays
  stays : (j : ℕ) (p : Seat) → j ≢ i → j ≢ m.entity.index → P j ≡ Some p → E' p.slot p.row ≡ E p.slot p.row
  stays j p not_i not_m e =
      elim (cases_eq p.slot f) [
        | inr other ↦ removed.others p.slot p.row other
        | inl same ↦
            ap (λ n. E' n p.row) same ∙ removed.others_here p.row (not_here j p not_i e same) (not_last j p not_m e same) ∙ ap (λ n. E n p.row) (sym same)
      ]

  seated_removed : IsSeated P' E'
  seated_removed = record {
    there = λ j p e.
        elim (cases_eq j i) [
          | inl same ↦ absurd (no_some (P' i) p gone (ap P' (sym same) ∙ e))
          | inr not_i ↦ elim (cases_eq j m.entity.index) [
            | inl is_m ↦
                let apart : last ≢ row = λ q. not_i (is_m ∙ m_same q) in
                let p_is : p ≡ seat_of m.entity f row = one_some (P' m.entity.index) p _ (ap P' (sym is_m) ∙ e) (fixed apart) in
                (m, (λ s. E' (p_is s).slot (p_is s).row) ∙ removed.at_row apart ∙ moved, sym (λ s. seated_entity (is_m s) (p_is s)))
            | inr not_m ↦
                let was : P j ≡ Some p = sym (kept j not_i not_m) ∙ e in
                let old = seated.there j p was in
                (old.0, stays j p not_i not_m was ∙ old.1, old.2)
          ]
        ];
    back = λ n k x e.
        let keeps : E n k ≡ Some x → (n ≡ f → k ≢ row) → (n ≡ f → k ≢ last) → P' x.entity.index ≡ Some (seat_of x.entity n k) =
        λ old a b.
        let q = seated.back n k x old in
        let not_i : x.entity.index ≢ i = λ w. let both = one_some (P i) _ _ (ap P (sym w) ∙ q) at in
        a (ap (λ (p : Seat). p.slot) both) (ap (λ (p : Seat). p.row) both) in
        let not_m : x.entity.index ≢ m.entity.index = λ w. let both = one_some (P m.entity.index) _ _ (ap P (sym w) ∙ q) m_at in
        b (ap (λ (p : Seat). p.slot) both) (ap (λ (p : Seat). p.row) both) in
        kept x.entity.index not_i not_m ∙ q in
        elim (cases_eq n f) [
          | inr other ↦ keeps (sym (removed.others n k other) ∙ e) (λ w. absurd (other w)) (λ w. absurd (other w))
          | inl same ↦ elim (cases_eq k last) [
            | inl at_last ↦ absurd (no_some (E' f last) x removed.at_last (sym (λ s. E' (same s) (at_last s)) ∙ e))
            | inr not_last ↦ elim (cases_eq k row) [
              | inl at_row ↦
                  let apart : last ≢ row = λ q. not_last (at_row ∙ sym q) in
                  let x_is : x ≡ m = one_some (E f last) x m (sym (removed.at_row apart) ∙ sym (λ s. E' (same s) (at_row s)) ∙ e) moved in
                  (λ s. P' (x_is s).entity.index) ∙ fixed apart ∙ sym (λ s. Some (seat_of (x_is s).entity (same s) (at_row s)))
              | inr not_row ↦
                  keeps (ap (λ z. E z k) same ∙ sym (removed.others_here k not_row not_last) ∙ ap (λ z. E' z k) (sym same) ∙ e) (λ _. not_row)
                  (λ _. not_last)
            ]
          ]
        ];
  }

  -- what is seen of another entity stays
  removed_seen : (j : ℕ) → j ≢ i → option_map (held_in_seat E') (P' j) ≡ option_map (held_in_seat E) (P j)
  removed_seen j not_i =
      elim (cases_eq j m.entity.index) [
        | inl is_m ↦
            let apart : last ≢ row = λ q. not_i (is_m ∙ m_same q) in
            ap (λ k. option_map (held_in_seat E') (P' k)) is_m
            ∙ ap (option_map (held_in_seat E')) (fixed apart)
            ∙ ap (λ o. Some (held_of o)) (removed.at_row apart)
            ∙ sym (ap (λ k. option_map (held_in_seat E) (P k)) is_m ∙ ap (option_map (held_in_seat E)) m_at)
        | inr not_m ↦ ap (option_map (held_in_seat E')) (kept j not_i not_m) ∙ by (P j) refl not_m
      ]
    where
      by : (o : Option Seat) → P j ≡ o → j ≢ m.entity.index → option_map (held_in_seat E') o ≡ option_map (held_in_seat E) o
      by None e not_m = refl
      by (Some p) e not_m = ap (λ o. Some (held_of o)) (stays j p not_i not_m e)

  pub removed_change : IsSeated P' E' × ((j : ℕ) → j ≢ i → option_map (held_in_seat E') (P' j) ≡ option_map (held_in_seat E) (P j))
  removed_change = (seated_removed, removed_seen)
