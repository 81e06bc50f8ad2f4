-- Courses of lines, one line after another, and what is printed of them.
use Rattle.std.proofs.Common.{◌≡◌, ◌∙◌, ℕ, ◌+◌, ◌<◌, List, [], ◌∷◌, ◌++◌, true, false, true≢false, length, inl, inr, Ok, Err, refl, sym, ap, subst}
use Rattle.std.proofs.Common.{append_assoc, arith}
use Rattle.std.specs.Prelude.{Option}
use Rattle.std.specs.Io.KnownBytes.{Appends}
use Rattle.std.proofs.KnownBytes.{Appends-nil, Appends-trans}
use Rattle.nuc_base.specs.declared.status.Status.{Status}
use Rattle.nuc_base.specs.declared.status.Status.TheVariants as statuses
use Rattle.nuc_base.specs.Faults.{Rose}
use Rattle.fleet_core.specs.declared.happening.Happening.{Happening}
use Rattle.fleet_core.specs.declared.happening.Reply.{Reply}
use Rattle.fleet_core.specs.declared.happening.StepFault.{StepFault}
use Rattle.fleet_core.specs.declared.happening.StepFault.TheVariants.{NoDevice, NoPacket, NoReport, Document, NoRevision, Full, NoMemory}
use Rattle.fleet_core.specs.Events.{Event}
use Rattle.fleet_core.specs.Fleets.{FleetState, StandsFor, device_count}
use Rattle.fleet_core.specs.Replies.{IsRefused, IsReply}
use Rattle.fleet.specs.Commands.{IsBeginning, IsWritten, Line, lines_of, IsUnended}
use Rattle.fleet.specs.Course.{Course, IsTaken, StopAt, full_line, refused_line, shown}
use Rattle.fleet.specs.Runs.{EndOrMemory, EndsAtFault, EndOfLines, LineOutcome, PrintedEnd, StartsOff, Stream, WritesInPart}

-- ---- printing

-- nothing is printed, and the status is this
pub silent : (a : Option (List ℕ)) (f : ℕ) (s : Status) → PrintedEnd (record { before = a; after = a; faults_before = f; faults_after = f }) [] s s
silent a f s = inl (refl, Appends-nil a, refl)

-- a prefix of what is printed later
pub prefix_on : (a b c : Option (List ℕ)) (out printed : List ℕ) → Appends a b out → WritesInPart b c printed → WritesInPart a c (out ++ printed)
prefix_on a b c out printed sent h = (out ++ h.0, h.1, ap (λ (l : List ℕ). out ++ l) h.2 ∙ sym (append_assoc out h.0 h.1), Appends-trans a b c out h.0 sent h.3)

-- more is printed
pub prints_on : (a b c : Option (List ℕ)) (f g h : ℕ) (out printed : List ℕ) (s result : Status) → Appends a b out → g ≡ f
    → PrintedEnd (record { before = b; after = c; faults_before = g; faults_after = h }) printed s result
    → PrintedEnd (record { before = a; after = c; faults_before = f; faults_after = h }) (out ++ printed) s result
prints_on a b c f g h out printed s result sent quiet (inl p) = inl (p.0, Appends-trans a b c out printed sent p.1, p.2 ∙ quiet)
prints_on a b c f g h out printed s result sent quiet (inr p) = inr (p.0, subst (λ (n : ℕ). Rose n h) quiet p.1, prefix_on a b c out printed sent p.2)

-- ---- one line

-- Every list of lines has some course.
pub some_course : (devices number : ℕ) (past : List Event) (lines : List Line) → (printed : List ℕ) × (s : Status) × Course devices number past lines printed s
some_course devices number past [] = ([], statuses.Done, (refl, refl))
some_course devices number past (line ∷ lines) = ([], statuses.Memory, inr (inr (inr (refl, refl))))

-- a call ends with a course that these lines have
abbrev pub HasEnd : ℕ → ℕ → List Event → List Line → Stream → Status → Type 0
HasEnd devices number past lines sink result = (printed : List ℕ) × (s : Status) × Course devices number past lines printed s × PrintedEnd sink printed s result

pub stops : (devices number : ℕ) (past : List Event) (line : Line) (sink : Stream) (printed : List ℕ) (s result : Status)
    → StopAt devices number past line printed s → PrintedEnd sink printed s result → (lines : List Line) → HasEnd devices number past (line ∷ lines) sink result
stops devices number past line sink printed s result here prints lines = (printed, s, inr here, prints)

pub stops_or_not : (devices number : ℕ) (past : List Event) (line : Line) (sink : Stream) (printed : List ℕ) (s result : Status)
    → StopAt devices number past line printed s → EndOrMemory sink printed s result → (lines : List Line)
    → HasEnd devices number past (line ∷ lines) sink result
stops_or_not devices number past line sink printed s result here (inl prints) = stops devices number past line sink printed s result here prints
stops_or_not devices number past line sink printed s result here (inr prints) = stops devices number past line sink [] statuses.Memory result
    (inr (inr (refl, refl))) prints

-- memory is refused at a line, before anything is printed of it
pub stops_silent : (devices number : ℕ) (past : List Event) (line : Line) (a : Option (List ℕ)) (f : ℕ) (lines : List Line)
    → HasEnd devices number past (line ∷ lines) (record { before = a; after = a; faults_before = f; faults_after = f }) statuses.Memory
stops_silent devices number past line a f lines = stops devices number past line _ [] statuses.Memory statuses.Memory (inr (inr (refl, refl)))
    (silent a f statuses.Memory) lines

-- a line that reads as a command, and is refused
pub refused : (devices number : ℕ) (past : List Event) (text : List ℕ) (happening : Happening) (sink : Stream) (result : Status) (f : StepFault)
    → IsWritten text happening → IsRefused devices past happening f → EndsAtFault number sink result f → (lines : List Line)
    → HasEnd devices number past (record { text = text; is_ended = true } ∷ lines) sink result
refused devices number past text happening sink result Full is why ends lines =
    stops devices number past _ sink full_line statuses.Limit result (inr (inl ((happening, (refl, is), why), refl, refl))) ends lines
refused devices number past text happening sink result NoMemory is why ends lines = stops devices number past _ sink [] statuses.Memory result
    (inr (inr (refl, refl))) ends lines
refused devices number past text happening sink result NoDevice is why ends lines =
    stops_or_not devices number past _ sink (refused_line number) statuses.BadInput result
    (inl (inr (happening, NoDevice, (refl, is), why, (λ e. cc e), (λ e. cc e)), refl, refl)) ends lines
refused devices number past text happening sink result NoPacket is why ends lines =
    stops_or_not devices number past _ sink (refused_line number) statuses.BadInput result
    (inl (inr (happening, NoPacket, (refl, is), why, (λ e. cc e), (λ e. cc e)), refl, refl)) ends lines
refused devices number past text happening sink result NoReport is why ends lines =
    stops_or_not devices number past _ sink (refused_line number) statuses.BadInput result
    (inl (inr (happening, NoReport, (refl, is), why, (λ e. cc e), (λ e. cc e)), refl, refl)) ends lines
refused devices number past text happening sink result NoRevision is why ends lines =
    stops_or_not devices number past _ sink (refused_line number) statuses.BadInput result
    (inl (inr (happening, NoRevision, (refl, is), why, (λ e. cc e), (λ e. cc e)), refl, refl)) ends lines
refused devices number past text happening sink result (Document f) is why ends lines =
    stops_or_not devices number past _ sink (refused_line number) statuses.BadInput result
    (inl (inr (happening, Document f, (refl, is), why, (λ e. cc e), (λ e. cc e)), refl, refl)) ends lines

-- what a fault that is neither Full nor NoMemory ends with
pub other_fault : (number : ℕ) (sink : Stream) (result : Status) (f : StepFault) → (f ≡ Full → ⊥) → (f ≡ NoMemory → ⊥) →
    EndOrMemory sink (refused_line number) statuses.BadInput result
    → EndsAtFault number sink result f
other_fault number sink result Full no_full no_memory ends = absurd (no_full refl)
other_fault number sink result NoMemory no_full no_memory ends = absurd (no_memory refl)
other_fault number sink result NoDevice no_full no_memory ends = ends
other_fault number sink result NoPacket no_full no_memory ends = ends
other_fault number sink result NoReport no_full no_memory ends = ends
other_fault number sink result NoRevision no_full no_memory ends = ends
other_fault number sink result (Document f) no_full no_memory ends = ends

-- the sink fails within a reply
pub cut_off : (devices number : ℕ) (past : List Event) (line : Line) (event : Event) (reply : Reply) (sink : Stream) → IsTaken devices past line event →
    IsReply past event reply
    → Rose sink.faults_before sink.faults_after → WritesInPart sink.before sink.after (shown reply) → (lines : List Line) →
    HasEnd devices number past (line ∷ lines) sink statuses.Edge
cut_off devices number past line event reply sink taken is rose prefix lines =
    let rest = some_course devices (number + 1) (past ++ event ∷ []) lines in (
      shown reply ++ rest.0,
      rest.1,
      inl (event, reply, rest.0, taken, is, refl, rest.2),
      inr (refl, rose, (prefix.0, prefix.1 ++ rest.0, ap (λ (l : List ℕ). l ++ rest.0) prefix.2 ∙ append_assoc prefix.0 prefix.1 rest.0, prefix.3)),
    )

-- ---- line after line

-- The lines so far were taken: the fleet stands for their events, their replies are printed, and a course of the rest gives one of the whole.
pub record IsSoFar (devices : ℕ) (lines : List Line) (number : ℕ) (rest : List Line) (fleet : FleetState) (sink : Stream) : Type 0 where
  pub past : List Event
  pub out : List ℕ
  pub stands : StandsFor fleet past
  pub count : device_count fleet ≡ devices
  pub sent : Appends sink.before sink.after out
  pub quiet : sink.faults_after ≡ sink.faults_before
  pub onward : (printed : List ℕ) (s : Status) → Course devices number past rest printed s → Course devices 2 [] lines (out ++ printed) s

pub none_so_far : (lines : List Line) (fleet : FleetState) (a : Option (List ℕ)) (f : ℕ) → StandsFor fleet []
    → IsSoFar (device_count fleet) lines 2 lines fleet (record { before = a; after = a; faults_before = f; faults_after = f })
none_so_far lines fleet a f stands =
    record { past = []; out = []; stands = stands; count = refl; sent = Appends-nil a; quiet = refl; onward = λ printed s course. course }

module _ (devices : ℕ) (lines : List Line) (number : ℕ) (rest : List Line) (fleet : FleetState) (a b c : Option (List ℕ)) (f g h : ℕ) where
  pub one_more : (line : Line) (new : FleetState) (so : IsSoFar devices lines number (line ∷ rest) fleet
      (record { before = a; after = b; faults_before = f; faults_after = g }))
      (event : Event) (reply : Reply) → IsTaken devices so.past line event → IsReply so.past event reply → StandsFor new (so.past ++ event ∷ []) →
      Appends b c (shown reply) → h ≡ g
      → device_count new ≡ device_count fleet → IsSoFar devices lines (number + 1) rest new
      (record { before = a; after = c; faults_before = f; faults_after = h })
  one_more line new so event reply taken is stands sent quiet count = record {
    past = so.past ++ event ∷ [];
    out = so.out ++ shown reply;
    stands = stands;
    count = count ∙ so.count;
    sent = Appends-trans a b c so.out (shown reply) so.sent sent;
    quiet = quiet ∙ so.quiet;
    onward = λ printed s course.
        subst (λ (l : List ℕ). Course devices 2 [] lines l s) (sym (append_assoc so.out (shown reply) printed))
        (so.onward (shown reply ++ printed) s (inl (event, reply, printed, taken, is, refl, course)));
  }

  pub at_end : (so : IsSoFar devices lines number rest fleet (record { before = a; after = b; faults_before = f; faults_after = g })) (result : Status)
      → HasEnd devices number so.past rest (record { before = b; after = c; faults_before = g; faults_after = h }) result
      → EndOfLines devices lines (record { before = a; after = c; faults_before = f; faults_after = h }) result
  at_end so result e = (so.out ++ e.0, e.1, so.onward e.0 e.1 e.2, prints_on a b c f g h so.out e.0 e.1 result so.sent so.quiet e.3)

-- a line is taken, and the fleet goes on
pub goes_on : (devices : ℕ) (lines : List Line) (number : ℕ) (text : List ℕ) (rest : List Line) (fleet new : FleetState) (a b c : Option (List ℕ)) (f g h : ℕ)
    → (so : IsSoFar devices lines number (record { text = text; is_ended = true } ∷ rest) fleet
    (record { before = a; after = b; faults_before = f; faults_after = g }))
    → LineOutcome (device_count fleet) number so.past text new (record { before = b; after = c; faults_before = g; faults_after = h }) (Ok tt) →
    device_count new ≡ device_count fleet
    → IsSoFar devices lines (number + 1) rest new (record { before = a; after = c; faults_before = f; faults_after = h })
goes_on devices lines number text rest fleet new a b c f g h so goes count =
    let line : Line = record { text = text; is_ended = true } in
    one_more devices lines number rest fleet a b c f g h line new so goes.0 goes.1 (subst (λ (n : ℕ). IsTaken n so.past line goes.0) so.count goes.2) goes.3
    goes.4 goes.5 goes.6 count

-- a line ends the call
pub goes_out : (devices : ℕ) (lines : List Line) (number : ℕ) (text : List ℕ) (rest : List Line) (fleet new : FleetState) (a b c : Option (List ℕ))
    (f g h : ℕ) (result : Status)
    → (so : IsSoFar devices lines number (record { text = text; is_ended = true } ∷ rest) fleet
    (record { before = a; after = b; faults_before = f; faults_after = g }))
    → LineOutcome (device_count fleet) number so.past text new (record { before = b; after = c; faults_before = g; faults_after = h }) (Err result)
    → EndOfLines devices lines (record { before = a; after = c; faults_before = f; faults_after = h }) result
goes_out devices lines number text rest fleet new a b c f g h result so goes =
    let line : Line = record { text = text; is_ended = true } in
    let sink : Stream = record { before = b; after = c; faults_before = g; faults_after = h } in
    at_end devices lines number (line ∷ rest) fleet a b c f g h so result (subst (λ (n : ℕ). HasEnd n number so.past (line ∷ rest) sink result) so.count
    (goes rest))

-- the line that a rest without a line feed is
unended_line : (bytes : List ℕ) → 0 < length bytes → IsUnended bytes (lines_of bytes) → lines_of bytes ≡ record { text = bytes; is_ended = false } ∷ []
unended_line [] some is = absurd (omega arith)
unended_line (byte ∷ bytes) some is = is

-- The rest is refused, since no line feed ends it.
pub unended_end : (devices number : ℕ) (past : List Event) (bytes : List ℕ) (sink : Stream) (result : Status) → 0 < length bytes →
    IsUnended bytes (lines_of bytes)
    → EndOrMemory sink (refused_line number) statuses.BadInput result → HasEnd devices number past (lines_of bytes) sink result
unended_end devices number past bytes sink result some is ends =
    let line : Line = record { text = bytes; is_ended = false } in
    subst (λ (ls : List Line). HasEnd devices number past ls sink result) (sym (unended_line bytes some is))
    (stops_or_not devices number past line sink (refused_line number) statuses.BadInput result
    (inl (inl (λ happening command. true≢false (sym command.0)), refl, refl)) ends [])

-- There is no rest.
pub no_more : (devices number : ℕ) (past : List Event) (a : Option (List ℕ)) (f : ℕ) →
    HasEnd devices number past [] (record { before = a; after = a; faults_before = f; faults_after = f }) statuses.Done
no_more devices number past a f = ([], statuses.Done, (refl, refl), silent a f statuses.Done)

-- ---- the first line

pub refused_start : (line : Line) (lines : List Line) (sink : Stream) (result : Status) → ((devices : ℕ) → IsBeginning line devices → ⊥) →
    EndOrMemory sink (refused_line 1) statuses.BadInput result
    → StartsOff (line ∷ lines) sink result
refused_start line lines sink result none (inl prints) = (refused_line 1, statuses.BadInput, inr (inl (none, refl, refl)), prints)
refused_start line lines sink result none (inr prints) = ([], statuses.Memory, inr (inr (refl, refl)), prints)

pub unended_start : (bytes : List ℕ) (sink : Stream) (result : Status) → IsUnended bytes (lines_of bytes)
    → EndOrMemory sink (refused_line 1) statuses.BadInput result
    → StartsOff (lines_of bytes) sink result
unended_start [] sink result is (inl prints) = (refused_line 1, statuses.BadInput, inl (refl, refl), prints)
unended_start [] sink result is (inr prints) = ([], statuses.Memory, inr (refl, refl), prints)
unended_start (byte ∷ bytes) sink result is ends =
    let line : Line = record { text = byte ∷ bytes; is_ended = false } in
    subst (λ (ls : List Line). StartsOff ls sink result) (sym is) (refused_start line [] sink result (λ devices begins. true≢false (sym begins.ended)) ends)

pub started : (devices : ℕ) (line : Line) (lines : List Line) (sink : Stream) (result : Status) → IsBeginning line devices →
    EndOfLines devices lines sink result → StartsOff (line ∷ lines) sink result
started devices line lines sink result begins follows = (follows.0, follows.1, inl (devices, begins, follows.2), follows.3)

pub no_fleet : (line : Line) (lines : List Line) (a : Option (List ℕ)) (f : ℕ) →
    StartsOff (line ∷ lines) (record { before = a; after = a; faults_before = f; faults_after = f }) statuses.Memory
no_fleet line lines a f = ([], statuses.Memory, inr (inr (refl, refl)), silent a f statuses.Memory)
