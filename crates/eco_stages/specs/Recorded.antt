-- What a stage keeps of commands means.
use Rattle.std.specs.Prelude.{◌≡◌, ◌+◌, ◌<◌, ◌≤◌, ◌%◌, ◌++◌, ◌∷◌, [], ℕ, ℤ, Bool, List, None, Option, drop, flat_map, get_or, length, map, option_map}
use Rattle.std.specs.Prelude.{slice_get, string_bytes, take, true, false, Some}
use Rattle.eco_ids.specs.Run as run
use Rattle.eco_ids.specs.World.{padded}
use Rattle.eco_ids.specs.declared.entity.Entity.{Entity}
use Rattle.eco_ids.specs.declared.id.Id.{Id}
use Rattle.eco_ids.specs.declared.id.Id.TheVariants.{One as Single}
use Rattle.eco_ids.specs.declared.entity.TheConstants.{CHILD_OF}
use Rattle.eco_ids.specs.declared.value.Value.{Value}
use Rattle.eco_stages.specs.declared.kept.Kept.{Kept}
use Rattle.eco_stages.specs.declared.recorded.Recorded.{Recorded}
use Rattle.eco_stages.specs.declared.recorded.TheConstants.{MOST_IN_TURN}
use Rattle.eco_stages.specs.declared.recorded.Recorded.TheVariants.{Create, Add, Remove, Set, Turns, Clear, Rename, Delete, DeleteWith, RemoveAll}
use Rattle.eco_stages.specs.declared.width.Width.{Width}
use Rattle.eco_stages.specs.declared.width.Width.TheVariants.{One, Three, Eight}

-- so many fields of a value
abbrev pub fields_in : Width → ℕ
fields_in One = 1
fields_in Three = 3
fields_in Eight = 8

-- a set as it is kept: whose value is set, and the first fields of that
abbrev pub RunSet : Type 0
RunSet = Entity × List ℤ

-- the sets of a width, in order
abbrev pub sets_of : Width → Kept → List RunSet
sets_of One k = k.ones.items
sets_of Three k = k.threes.items
sets_of Eight k = k.eights.items

-- the names, each as its bytes
abbrev pub names_of : Kept → List (Option (List ℕ))
names_of k = map (option_map string_bytes) k.names.items

-- the command of a set of a run, whose id this is: zeros stand behind few fields
abbrev pub set_of_run : Id → RunSet → run.Command
set_of_run i s = run.Set s.0 i (padded s.1)

-- of which id the set at a place is, where sets are of these ids in turn
abbrev pub id_in_turn : List Id → ℕ → Id
id_in_turn ids n = get_or ids (n % length ids) (Single CHILD_OF)

-- the commands of sets of these ids in turn, of which the first stands at this place
abbrev pub in_turn : List Id → ℕ → List RunSet → List run.Command
in_turn ids n [] = []
in_turn ids n (s ∷ ss) = set_of_run (id_in_turn ids n) s ∷ in_turn ids (n + 1) ss

-- of ids in turn there are as many commands as sets
abbrev pub InTurnAreCounted : Type 0
InTurnAreCounted = (ids : List Id) (n : ℕ) (sets : List RunSet) → length (in_turn ids n sets) ≡ length sets

-- some sets of ids in turn, and others behind them
abbrev pub InTurnGoOn : Type 0
InTurnGoOn =
    (ids : List Id) (n : ℕ) (some others : List RunSet)
    → in_turn ids n (some ++ others) ≡ in_turn ids n some ++ in_turn ids (n + length some) others

-- so many sets of ids in turn, and one more, of the id whose turn it is
abbrev pub InTurnOneMore : Type 0
InTurnOneMore =
    (ids : List Id) (n k turn : ℕ) (sets : List RunSet) (s : RunSet) (i : Id)
    → slice_get sets k ≡ Some s → turn ≡ (n + k) % length ids → slice_get ids turn ≡ Some i
    → in_turn ids n (take (k + 1) sets) ≡ in_turn ids n (take k sets) ++ set_of_run i s ∷ []

-- the commands that one stands for, which is one but for runs of sets
abbrev pub commands_at : Kept → Recorded → List run.Command
commands_at k (Create e) = run.Create e ∷ []
commands_at k (Add e i) = run.Add e i ∷ []
commands_at k (Remove e i) = run.Remove e i ∷ []
commands_at k (Set w count i first) = map (set_of_run i) (take count (drop first (sets_of w k)))
commands_at k (Turns w count turns turn at first) =
    in_turn (take turns (drop at k.ids.items)) 0 (take count (drop first (sets_of w k)))
commands_at k (Clear e) = run.Clear e ∷ []
commands_at k (Rename e place) = run.Rename e (get_or (names_of k) place None) ∷ []
commands_at k (Delete e) = run.Delete e ∷ []
commands_at k (DeleteWith i) = run.DeleteWith i ∷ []
commands_at k (RemoveAll i) = run.RemoveAll i ∷ []

-- the commands that are recorded
abbrev pub commands_of : Kept → List Recorded → List run.Command
commands_of k recorded = flat_map (commands_at k) recorded

-- so many sets are kept from a place on, and so many ids that are theirs in turn, of which it is the turn of one
pub record AreInTurn (k : Kept) (w : Width) (count turns turn at first : ℕ) : Type 0 where
  pub sets : first + count ≤ length (sets_of w k)
  pub ids : at + turns ≤ length k.ids.items
  pub some : 0 < turns
  pub few : turns ≤ MOST_IN_TURN
  pub next : turn ≡ count % turns

-- what one speaks of is kept
abbrev pub SpeaksOfKept : Kept → Recorded → Type 0
SpeaksOfKept k (Create e) = Unit
SpeaksOfKept k (Add e i) = Unit
SpeaksOfKept k (Remove e i) = Unit
SpeaksOfKept k (Set w count i first) = first + count ≤ length (sets_of w k)
SpeaksOfKept k (Turns w count turns turn at first) = AreInTurn k w count turns turn at first
SpeaksOfKept k (Clear e) = Unit
SpeaksOfKept k (Rename e place) = place < length (names_of k)
SpeaksOfKept k (Delete e) = Unit
SpeaksOfKept k (DeleteWith i) = Unit
SpeaksOfKept k (RemoveAll i) = Unit

-- it has a value or a name
abbrev pub speaks_of_kept : run.Command → Bool
speaks_of_kept (run.Set e i v) = true
speaks_of_kept (run.Rename e name) = true
speaks_of_kept _ = false

-- it is this command, whatever is kept
abbrev pub StandsAlone : run.Command → Recorded → Type 0
StandsAlone c r = (k : Kept) → (commands_at k r ≡ c ∷ []) × SpeaksOfKept k r

-- the same, where what it speaks of is kept behind this
abbrev pub moved_by : Kept → Recorded → Recorded
moved_by k (Set w count i first) = Set w count i (length (sets_of w k) + first)
moved_by k (Turns w count turns turn at first) =
    Turns w count turns turn (length k.ids.items + at) (length (sets_of w k) + first)
moved_by k (Rename e place) = Rename e (length (names_of k) + place)
moved_by k r = r

-- what is kept stays at its place, and more may come behind it
pub record StaysKept (old new : Kept) : Type 0 where
  pub sets : (w : Width) → (more : List RunSet) × (sets_of w new ≡ sets_of w old ++ more)
  pub ids : (more : List Id) × (new.ids.items ≡ old.ids.items ++ more)
  pub names : (more : List (Option (List ℕ))) × (names_of new ≡ names_of old ++ more)

-- the same sets, ids and names
pub record KeepsSame (old new : Kept) : Type 0 where
  pub sets : (w : Width) → sets_of w new ≡ sets_of w old
  pub ids : new.ids.items ≡ old.ids.items
  pub names : names_of new ≡ names_of old

-- no set, no id and no name
pub record KeepsNothing (k : Kept) : Type 0 where
  pub sets : (w : Width) → sets_of w k ≡ []
  pub ids : k.ids.items ≡ []
  pub names : names_of k ≡ []

-- all that one keeps, and behind it all that another does
pub record KeepsBoth (own more all : Kept) : Type 0 where
  pub sets : (w : Width) → sets_of w all ≡ sets_of w own ++ sets_of w more
  pub ids : all.ids.items ≡ own.ids.items ++ more.ids.items
  pub names : names_of all ≡ names_of own ++ names_of more

-- one set more of this width, of the entity to the value
abbrev pub EndsInSet : Width → Entity → Value → Kept → Kept → Type 0
EndsInSet w e v old new = (fields : List ℤ) × (sets_of w new ≡ sets_of w old ++ (e, fields) ∷ []) × (padded fields ≡ v)
