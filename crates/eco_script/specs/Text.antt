-- The text that a run of steps writes.
use Rattle.std.specs.Prelude.{◌≡◌, ℕ, ◌+◌, Bool, true, false, ◌||◌, List, [], ◌∷◌, ◌++◌, length, map, flat_map, codes, decimal}
use Rattle.std.specs.Prelude.{IsFalse, if◌then◌else◌, Result, Ok, Err}
use Rattle.std.specs.Option.{option_map_or}
use Rattle.std.specs.List.{list_any}
use Rattle.eco_ids.specs.declared.entity.Entity.{Entity}
use Rattle.eco_ids.specs.declared.refusal.Refusal.{Refusal}
use Rattle.eco_ids.specs.Outcome.{is_out_of_memory}
use Rattle.eco_ids.specs.Refusals.{refusal_text}
use Rattle.eco_ids.specs.Text.{entity_text}
use Rattle.eco_ids.specs.World.{WorldState}
use Rattle.eco_frame.specs.Reports.{FrameDone}
use Rattle.eco_frame.specs.declared.stop.FrameStop.{FrameStop}
use Rattle.eco_script.specs.Lines.{line_of, row_line, shown_text}
use Rattle.eco_script.specs.Replies.{Reply, done, made, truth, got, shown, listed, found, kept, merged, framed, stopped, StepReplies}
use Rattle.eco_script.specs.States.{ScriptState}
use Rattle.eco_steps.specs.Steps.{WrittenStep}
use Rattle.eco_stages.specs.Outcomes.{Outcomes}

-- the line of a refusal
abbrev pub refused_line : Refusal → List ℕ
refused_line why = codes "refused " ++ refusal_text why ++ codes "\n"

-- the line of a command of a merge
abbrev pub outcome_line : Result (Unit {0}) Refusal → List ℕ
outcome_line (Ok _) = codes "ok\n"
outcome_line (Err why) = refused_line why

-- the line of a command of a frame, by its number among all commands of the frame, for a refused one alone
abbrev pub command_line : ℕ → Result (Unit {0}) Refusal → List ℕ
command_line k (Ok _) = []
command_line k (Err why) = codes "cmd " ++ decimal k ++ codes " " ++ refused_line why

-- the lines of commands, the first of which has this number
abbrev pub command_lines : ℕ → Outcomes → List ℕ
command_lines k [] = []
command_lines k (o ∷ os) = command_line k o ++ command_lines (k + 1) os

-- the lines of a frame: how many batches and how many commands it had, and those of its commands
abbrev pub framed_lines : FrameDone → List ℕ
framed_lines r = codes "ok " ++ decimal r.batches ++ codes " " ++ decimal (length r.outcomes) ++ codes "\n" ++ command_lines 0 r.outcomes

-- the line of a frame that stopped: how many batches were merged, and why it stopped
abbrev pub stopped_line : FrameStop → List ℕ
stopped_line stop = codes "stopped " ++ decimal stop.batches ++ codes " " ++ refused_line stop.refusal

-- the lines of a reply, on the world that the step leaves
abbrev pub reply_lines : WorldState → Reply → List ℕ
reply_lines w done = codes "ok\n"
reply_lines w (made e) = codes "ok " ++ entity_text e ++ codes "\n"
reply_lines w (truth b) = codes "ok " ++ (if b then codes "true" else codes "false") ++ codes "\n"
reply_lines w (got value) = codes "ok " ++ option_map_or shown_text value (codes "none") ++ codes "\n"
reply_lines w (shown e) = codes "ok " ++ line_of w e
reply_lines w (listed es) = codes "ok " ++ decimal (length es) ++ codes "\n" ++ flat_map (line_of w) es
reply_lines w (found rows) = codes "ok " ++ decimal (length rows) ++ codes "\n" ++ flat_map (λ r. row_line r.entity r.entries) rows
reply_lines w (kept n) = codes "ok " ++ decimal n ++ codes "\n"
reply_lines w (merged outcomes) = codes "ok " ++ decimal (length outcomes) ++ codes "\n" ++ flat_map outcome_line outcomes
reply_lines w (framed r) = framed_lines r
reply_lines w (stopped stop) = stopped_line stop

-- the lines of a step's answer
abbrev pub step_lines : WorldState → Result Reply Refusal → List ℕ
step_lines w (Ok reply) = reply_lines w reply
step_lines w (Err why) = refused_line why

-- the outcomes of the commands of a merge or of a frame, and why a frame stopped
abbrev pub reply_outcomes : Result Reply Refusal → Outcomes
reply_outcomes (Ok (merged outcomes)) = outcomes
reply_outcomes (Ok (framed r)) = r.outcomes
reply_outcomes (Ok (stopped stop)) = Err stop.refusal ∷ []
reply_outcomes _ = []

-- it is that of a frame that stopped
abbrev pub has_stopped : Result Reply Refusal → Bool
has_stopped (Ok (stopped stop)) = true
has_stopped _ = false

-- memory was wanting for the step, or for a command of its merge or frame
abbrev pub has_wanted : Result Reply Refusal → Bool
has_wanted r = is_out_of_memory r || list_any is_out_of_memory (reply_outcomes r)

-- the step, whose frames so many workers record, may take the old state to the new one, and these are its lines
abbrev pub Does : ℕ → ScriptState → WrittenStep → List ℕ → ScriptState → Type 0
Does workers old s lines new = (r : Result Reply Refusal) × StepReplies workers old s r new × (lines ≡ step_lines new.world r)

-- likewise, with an answer of which this is not said
abbrev pub DoesBut : (Result Reply Refusal → Bool) → ℕ → ScriptState → WrittenStep → List ℕ → ScriptState → Type 0
DoesBut is_so workers old s lines new =
    (r : Result Reply Refusal) × StepReplies workers old s r new × IsFalse (is_so r) × (lines ≡ step_lines new.world r)

-- steps, one after another, each of which takes a state to the next so, with their lines
abbrev pub TextBy : (ScriptState → WrittenStep → List ℕ → ScriptState → Type 0) → ScriptState → List WrittenStep → List ℕ → ScriptState → Type 0
TextBy One old [] text new = (text ≡ []) × (new ≡ old)
TextBy One old (s ∷ ss) text new =
    (first : List ℕ) × (rest : List ℕ) × (mid : ScriptState) × One old s first mid × TextBy One mid ss rest new × (text ≡ first ++ rest)

-- the steps, one after another, whose frames so many workers record, may take the old state to the new one, and this is their text
abbrev pub Text : ℕ → ScriptState → List WrittenStep → List ℕ → ScriptState → Type 0
Text workers = TextBy (Does workers)

-- likewise, and memory was never wanting
abbrev pub TextInMemory : ℕ → ScriptState → List WrittenStep → List ℕ → ScriptState → Type 0
TextInMemory workers = TextBy (DoesBut has_wanted workers)

-- likewise, and no frame stopped
abbrev pub TextToEnd : ℕ → ScriptState → List WrittenStep → List ℕ → ScriptState → Type 0
TextToEnd workers = TextBy (DoesBut (λ r. has_wanted r || has_stopped r) workers)
