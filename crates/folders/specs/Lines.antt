-- What a folder in memory holds, by what happened in it.
use Rattle.std.specs.Prelude.{ℕ, List, [], ◌∷◌, ◌++◌, Bool, true, false, ◌&&◌, not, nat_eq, is_some, Option, Some, None, option_map, if◌then◌else◌}
use Rattle.std.specs.Cmp.Lexicographic.{pointwise}
use Rattle.folders.specs.History.{File, Content, Event, Found, Took, Returned, Ended, Synced}
use Rattle.folders.specs.declared.lines.Placed.{Placed}
use Rattle.folders.specs.declared.lines.Change.{Change}
use Rattle.folders.specs.declared.lines.Side.{Side}
use Rattle.folders.specs.declared.lines.Side.TheVariants.{Open, Taken}
use Rattle.folders.specs.declared.lines.Line.{Line}
use Rattle.folders.specs.declared.lines.Line.TheVariants.{Changed, Looked, Synced as MadeStable, Took as Moved, Returned as PutBack, Ended as TookAway}

abbrev pub placed_file : Placed → File
placed_file p = record { identity = p.identity; is_plain = p.is_plain; is_readable = p.is_readable; bytes = p.bytes }

-- the name of which the line says what stands in that folder
abbrev pub about : Side → Line → Option (List ℕ)
about Open (Changed change) = Some change.name
about Open Looked = None
about Open MadeStable = None
about Open (Moved name placed) = Some name
about Open (PutBack change) = Some change.name
about Open (TookAway name) = None
about Taken (Changed change) = None
about Taken Looked = None
about Taken MadeStable = None
about Taken (Moved name placed) = Some name
about Taken (PutBack change) = Some change.name
about Taken (TookAway name) = Some name

-- and that is this
abbrev pub put_by : Side → Line → Option File
put_by Open (Changed change) = option_map placed_file change.placed
put_by Open Looked = None
put_by Open MadeStable = None
put_by Open (Moved name placed) = None
put_by Open (PutBack change) = option_map placed_file change.placed
put_by Open (TookAway name) = None
put_by Taken (Changed change) = None
put_by Taken Looked = None
put_by Taken MadeStable = None
put_by Taken (Moved name placed) = Some (placed_file placed)
put_by Taken (PutBack change) = None
put_by Taken (TookAway name) = None

abbrev pub names_it : Option (List ℕ) → List ℕ → Bool
names_it None name = false
names_it (Some own) name = pointwise nat_eq own name

-- what stands under a name after these lines, the newest of which is the first
abbrev pub stands_in : Side → List Line → Content
stands_in side [] name = None
stands_in side (line ∷ lines) name = if names_it (about side line) name then put_by side line else stands_in side lines name

abbrev pub mentions : Side → List Line → List ℕ → Bool
mentions side [] name = false
mentions side (line ∷ lines) name = if names_it (about side line) name then true else mentions side lines name

-- a name under which something is put and of which nothing newer is said
abbrev pub new_of : Option (List ℕ) → Option File → (List ℕ → Bool) → Option (List ℕ)
new_of None put seen = None
new_of (Some name) put seen = if is_some put && not (seen name) then Some name else None

abbrev pub new_name_of : Side → List Line → Line → Option (List ℕ)
new_name_of side newer line = new_of (about side line) (put_by side line) (mentions side newer)

-- the history that they tell, from its beginning
abbrev pub history_of : List Line → List Event
history_of [] = []
history_of (Changed change ∷ lines) = history_of lines
history_of (Looked ∷ lines) = history_of lines ++ Found (stands_in Open lines) ∷ []
history_of (MadeStable ∷ lines) = history_of lines ++ Synced ∷ []
history_of (Moved name placed ∷ lines) = history_of lines ++ Took name (placed_file placed) ∷ []
history_of (PutBack change ∷ lines) = history_of lines ++ Returned change.name ∷ []
history_of (TookAway name ∷ lines) = history_of lines ++ Ended name ∷ []

-- what others do, one change after another: the lines with these changes
abbrev pub with_changes : List Change → List Line → List Line
with_changes [] lines = lines
with_changes (change ∷ changes) lines = with_changes changes (Changed change ∷ lines)
