-- What is written of bytes that are no script, line by line. A line is bytes, and a newline at their end: that no other
-- newline is among them is not said.
use Rattle.std.specs.Prelude.{◌≡◌, ◌≢◌, ◌⊎◌, ℕ, Bool, true, false, List, [], ◌∷◌, ◌++◌, length, codes, decimal, nat_eq}
use Rattle.std.specs.Prelude.{⊤, if◌then◌else◌}
use Rattle.std.specs.List.{concat}

-- a line that begins with these bytes
abbrev pub IsLine : List ℕ → List ℕ → Type 0
IsLine start line = (words : List ℕ) × (line ≡ start ++ words ++ codes "\n")

-- a line of the step of this number: it begins `step 3: `, or `step 3, ` where it tells of a part of the step
abbrev pub IsOfStep : ℕ → List ℕ → Type 0
IsOfStep n line = IsLine (codes "step " ++ decimal n ++ codes ": ") line
    ⊎ IsLine (codes "step " ++ decimal n ++ codes ", ") line

-- each of some lines is one of the step
abbrev pub AreOfStep : ℕ → List (List ℕ) → Type 0
AreOfStep n [] = ⊤
AreOfStep n (line ∷ lines) = IsOfStep n line × AreOfStep n lines

-- for each of some steps, in their order, the lines of it: one at least
abbrev pub AreOfSteps : List ℕ → List (List ℕ) → Type 0
AreOfSteps [] lines = lines ≡ []
AreOfSteps (n ∷ ns) lines = (own others : List (List ℕ)) × (lines ≡ own ++ others) × (own ≢ [])
    × AreOfStep n own × AreOfSteps ns others

-- the line of what has not the three parts of a script
abbrev pub IsHeadLine : List ℕ → Type 0
IsHeadLine line = IsLine (codes "head: ") line

-- the lines of the steps that are none, behind that of the head unless it is one
abbrev pub AreFaultLines : Bool → List ℕ → List (List ℕ) → Type 0
AreFaultLines true steps lines = AreOfSteps steps lines
AreFaultLines false steps lines = (head : List ℕ) × (others : List (List ℕ)) × (lines ≡ head ∷ others)
    × IsHeadLine head × AreOfSteps steps others

-- what stands behind a word where there are so many of what it names
abbrev pub plural_end : ℕ → List ℕ
plural_end count = if nat_eq count 1 then [] else codes "s"

-- the last line, behind so many others
abbrev pub last_line : ℕ → List ℕ
last_line count = codes "not a script: " ++ decimal count ++ codes " fault" ++ plural_end count
    ++ codes " (counts begin at 0)\n"

-- the lines of faults, and the last line with their number
abbrev pub AreFaults : Bool → List ℕ → List ℕ → Type 0
AreFaults has_head steps told = (lines : List (List ℕ)) × AreFaultLines has_head steps lines
    × (told ≡ concat lines ++ last_line (length lines))

-- what is written of no JSON text: the line that says where its reader stopped and why, and a last line
abbrev pub unread_text : ℕ → ℕ → List ℕ → List ℕ
unread_text line column why = codes "line " ++ decimal line ++ codes ", column " ++ decimal column
    ++ codes ": " ++ why ++ codes "\nnot a script: 1 fault\n"

-- this is written, of some place and for some reason
abbrev pub IsUnread : List ℕ → Type 0
IsUnread told = (line column : ℕ) × (why : List ℕ) × (told ≡ unread_text line column why)
