-- Which bytes are a script, by the value that they are.
use Rattle.eco_checker.proofs.Common.{◌≡◌, ℕ, Bool, true, false, List, ◌++◌, Option, Some, None, IsUtf8, inl, inr, refl, ap}
use Rattle.eco_checker.proofs.Common.{◌∙◌, append-nil, Data, WrittenScript, IsScript, IsScriptData}
use Rattle.std.specs.Io.KnownBytes.{Appends, Consumes, IsAtEnd}
use Rattle.serde_json.specs.Read.{read}
use Rattle.eco_steps.specs.Beginning.{IsBeginning}
use Rattle.eco_checker.specs.Told.{AreNoScript, AreScript, IsReport, IsReportOf, IsTextOf, WasCutShort, script_line}

pub script_bytes : (bytes : List ℕ) (d : Data) → IsUtf8 bytes → read bytes ≡ Some d → ((s : WrittenScript) × IsScriptData d s) → (s : WrittenScript)
    × IsScript bytes s
script_bytes bytes d utf8 at (s, is) = (s, (utf8, d, at, is))

pub no_script_bytes : (bytes : List ℕ) (d : Data) → read bytes ≡ Some d → ((s : WrittenScript) → ¬ IsScriptData d s) → (s : WrittenScript) → ¬ IsScript bytes s
no_script_bytes bytes d at none s (utf8, v, is, of) = let q : v ≡ d = cc in none s (rw q at of)

-- what is no JSON text is none
pub no_text_bytes : (bytes : List ℕ) → (IsUtf8 bytes → read bytes ≡ None) → (s : WrittenScript) → ¬ IsScript bytes s
no_text_bytes bytes none s (utf8, v, is, of) = let missing = none utf8 in cc

-- what is said of the bytes that were read to the end is said of those that the reader had
read_whole : (xs ys bytes : List ℕ) → Consumes (Some xs) (Some ys) bytes → IsAtEnd (Some ys) → xs ≡ bytes
read_whole xs ys bytes p q = p ∙ ap (λ t. bytes ++ t) q ∙ append-nil bytes

pub none_to_end : (left after : Option (List ℕ)) (bytes : List ℕ) → Consumes left after bytes → IsAtEnd after
    → ((s : WrittenScript) → ¬ IsScript bytes s) → AreNoScript left
none_to_end None after bytes p q h = tt
none_to_end (Some xs) None bytes p q h = absurd p
none_to_end (Some xs) (Some ys) bytes p q h = rw (read_whole xs ys bytes p q) h

pub told_to_end : (left after : Option (List ℕ)) (bytes told : List ℕ) → Consumes left after bytes → IsAtEnd after → IsReport bytes told → IsReportOf left told
told_to_end None after bytes told p q h = tt
told_to_end (Some xs) None bytes told p q h = absurd p
told_to_end (Some xs) (Some ys) bytes told p q h = rw (read_whole xs ys bytes p q) h

pub script_to_end : (left after : Option (List ℕ)) (bytes : List ℕ) → Consumes left after bytes → IsAtEnd after → ((s : WrittenScript) × IsScript bytes s)
    → AreScript left
script_to_end None after bytes p q h = tt
script_to_end (Some xs) None bytes p q h = absurd p
script_to_end (Some xs) (Some ys) bytes p q h = rw (read_whole xs ys bytes p q) h

-- a beginning was written of the text that tells whether the bytes are a script
module _ (left after : Option (List ℕ)) (bytes : List ℕ) (p : Consumes left after bytes) (q : IsAtEnd after) (text : List ℕ) where
  text_to_end : (is : Bool) → (is ≡ true → (s : WrittenScript) × IsScript bytes s) → (is ≡ false → (s : WrittenScript) → ¬ IsScript bytes s)
      → (is ≡ true → text ≡ script_line) → (is ≡ false → (told : List ℕ) × IsReport bytes told × (text ≡ told)) → IsTextOf left text
  text_to_end true some none line faults = inl (script_to_end left after bytes p q (some refl), line refl)
  text_to_end false some none line faults =
      let (told, are, same) = faults refl in
      inr (none_to_end left after bytes p q (none refl), rw same (told_to_end left after bytes told p q are))

  pub stopped_to_end : (is : Bool) → (is ≡ true → (s : WrittenScript) × IsScript bytes s) → (is ≡ false → (s : WrittenScript) → ¬ IsScript bytes s)
      → (is ≡ true → text ≡ script_line) → (is ≡ false → (told : List ℕ) × IsReport bytes told × (text ≡ told))
      → (a b : Option (List ℕ)) → ((part : List ℕ) × IsBeginning part text × Appends a b part) → WasCutShort left a b
  stopped_to_end is some none line faults a b (part, begins, wrote) = inr (part, text, text_to_end is some none line faults, begins, wrote)
