-- The names by index after each change of one page.
use Rattle.eco_entities.proofs.Common.{◌≡◌, ◌≢◌, ℕ, ◌/◌, ◌≤◌, true, false, cond, not, List, length, set, slice_get, refl, sym, ap}
use Rattle.eco_entities.proofs.Common.{◌∙◌, Some, None, option_map, AllZip, nat_cmp, eq_by_cmp, is_eq, Equal, find, find-put, find-where_key, put}
use Rattle.eco_entities.proofs.Common.{where_key, by_ranked, nat_cmp_total, ranked, Label, ChangesAt, KeepsAnswers, label_text, name_at, text_at, SameTexts}
use Rattle.eco_entities.proofs.PageLists.{absent, page_changed, value_read, values_copied}
use Rattle.eco_entities.proofs.Seats.{equal_is, other}

-- the test of two indices
same_index : (k : ℕ) → eq_by_cmp nat_cmp k k ≡ true
same_index k = ap is_eq (equal_is k k refl)

other_index : (j k : ℕ) → j ≢ k → eq_by_cmp nat_cmp j k ≡ false
other_index j k apart =
    by_ranked _ _ _ (nat_cmp j k) (ranked j k _ refl) (λ is _. ap is_eq is) (λ _ same. absurd (apart same)) (λ is _. ap is_eq is)

-- a name put into a page
text_put : (es : List (ℕ × Label)) (k : ℕ) (l : Label) → ChangesAt (text_at es) (text_at (put nat_cmp k l es)) k (Some (label_text l))
text_put es k l = record {
  here = ap (option_map label_text)
      (find-put nat_cmp nat_cmp_total k k l es ∙ ap (λ b. cond b (Some l) (find nat_cmp k es)) (same_index k));
  others = λ j apart. ap (option_map label_text)
      (find-put nat_cmp nat_cmp_total j k l es ∙ ap (λ b. cond b (Some l) (find nat_cmp j es)) (other_index j k apart));
}

-- a name taken out of a page
find_left : (es : List (ℕ × Label)) (k j : ℕ) → find nat_cmp j (where_key nat_cmp (other k) es) ≡ cond (other k j) (find nat_cmp j es) None
find_left es k j = find-where_key nat_cmp (other k) j (λ x tie. ap (other k) (sym (ranked j x Equal (sym tie)))) es

text_taken : (es : List (ℕ × Label)) (k : ℕ) → ChangesAt (text_at es) (text_at (where_key nat_cmp (other k) es)) k None
text_taken es k = record {
  here = ap (option_map label_text) (find_left es k k ∙ ap (λ b. cond (not b) (find nat_cmp k es) None) (same_index k));
  others = λ j apart. ap (option_map label_text)
      (find_left es k j ∙ ap (λ b. cond (not b) (find nat_cmp j es) None) (other_index k j (λ same. apart (sym same))));
}

module _ (pages : List (List (ℕ × Label))) where
  pub name_read : (k p : ℕ) (es : List (ℕ × Label)) → p ≡ k / 64 → slice_get pages p ≡ Some es → name_at pages k ≡ text_at es k
  name_read = value_read (λ k. k / 64) text_at pages

  pub name_put : (k p : ℕ) (old new : List (ℕ × Label)) (l : Label) → p ≡ k / 64 → slice_get pages p ≡ Some old → new ≡ put nat_cmp k l old
      → ChangesAt (name_at pages) (name_at (set pages p new)) k (Some (label_text l))
  name_put k p old new l at there is =
      page_changed (λ j. j / 64) text_at pages k p old new (Some (label_text l)) at there (rw is (text_put old k l))

  pub name_taken : (k p : ℕ) (old new : List (ℕ × Label)) → p ≡ k / 64 → slice_get pages p ≡ Some old → new ≡ where_key nat_cmp (other k) old
      → ChangesAt (name_at pages) (name_at (set pages p new)) k None
  name_taken k p old new at there is = page_changed (λ j. j / 64) text_at pages k p old new None at there (rw is (text_taken old k))

  pub nameless : (k p : ℕ) → p ≡ k / 64 → length pages ≤ p → name_at pages k ≡ None
  nameless = absent (λ k. k / 64) text_at pages

pub names_copied : (pages pages' : List (List (ℕ × Label))) → AllZip SameTexts pages pages' → KeepsAnswers (name_at pages) (name_at pages')
names_copied = values_copied (λ k. k / 64) text_at SameTexts (λ es fs same. record { all = same.same })
