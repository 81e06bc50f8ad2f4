-- How the rounds of a call that serves give its status, and that what it printed of an acceptance lasts.
use Rattle.std.proofs.Common.{◌≡◌, ◌∙◌, ◌⊎◌, ⊎_elim, inl, inr, ℕ, Bool, true, false, List, [], ◌∷◌, ◌++◌, refl, sym, ap, subst, arith, append_assoc}
use Rattle.std.specs.Prelude.{◌+◌, ◌-◌, ◌^◌, ◌≤◌, min, length, Result, Ok, Err, if◌then◌else◌}
use Rattle.std.proofs.lemmas.Bool.{false≢true}
use Rattle.nuc_base.specs.Faults.{Rose}
use Rattle.nuc_base.specs.declared.kinds.Outcome.TheVariants as outcome
use Rattle.nuc_base.specs.declared.status.Status.{Status}
use Rattle.nuc_base.specs.declared.status.Status.TheVariants as statuses
use Rattle.disk_model.specs.Disk.{Image}
use Rattle.disk_model.specs.declared.disk.Disk as a_disk
use Rattle.checkpoint_log.specs.Slots.{slots_entries}
use Rattle.records.specs.Stored.{Record}
use Rattle.records.specs.declared.record.Plan as code
use Rattle.device.specs.Devices.{Device}
use Rattle.device.specs.Lawful.{Run}
use Rattle.admission.specs.Takes.{HasLibraryFailed}
use Rattle.admission.specs.declared.fault.Declined.{Declined}
use Rattle.histories.proofs.Joined.{records-append}
use Rattle.histories.specs.Courses.{gives_up, is_restart}
use Rattle.histories.specs.States.{SessionState, state_after}
use Rattle.histories.specs.TraceEvents.{TraceEvent, records_of}
use Rattle.session_boots.proofs.Prefixes.{run_on}
use Rattle.session_boots.specs.Traces.{StandsForMost}
use Rattle.session.proofs.Statuses.{declined_library}
use Rattle.session.specs.Documents.{TakenEnding}
use Rattle.session.specs.Endings.{Ending, BySinkFault, ByClose, ByDecline, ByDiskFault, WantAfter, Full, Idle, ByReboot, ByRestart, WantBefore}
use Rattle.session.specs.Endings.{status_of_ending}
use Rattle.session.specs.Parts.{EndsCall}
use Rattle.session_serving.specs.Documents.{IsOwnOrEdge, IsDeployedThere}
use Rattle.session_serving.specs.Libraries.{LibraryState}
use Rattle.session_serving.specs.Parts.{Outside}
use Rattle.session_serving.specs.Rounds.{AreHandled, InboxFailed, Handled, LastRound, Round, Shut, Spent, SweepFailed, WantOfMemory, StoppedBy, Took, Waited}
use Rattle.session_serving.specs.Rounds.{records_of_last, records_of_rounds, round_of_last, unprinted_of_last}
use Rattle.session_serving.specs.Served.{EndsAs, IsHalted, IsSetServed}
use Rattle.session_serving.proofs.Swept.{disk_gives}
use Rattle.nucleus_top.proofs.Printed.{told_prefix}
use Rattle.nucleus_top.specs.Lasting.{AreLasting}
use Rattle.nucleus_top.specs.Opening.{IsImageOf}
use Rattle.nucleus_top.specs.Serving.{EndsInOrder, IsInOrder, IsHaltedOrServed, RoseBy, is_library, library_refusals, slots_ghosts, unprinted_of}

-- ---- how often the library failed

-- an ending with the status of the library is that of a document that is refused since that failed
ending_library : (e : Ending) → status_of_ending e ≡ statuses.Library → (d : Declined) × (e ≡ ByDecline d) × HasLibraryFailed (Err d)
ending_library (ByClose outcome.Successful) is = absurd cc
ending_library (ByClose outcome.RollbackComplete) is = absurd cc
ending_library (ByClose outcome.RollbackNotRequested) is = absurd cc
ending_library (ByClose outcome.UnableToRollback) is = absurd cc
ending_library (ByRestart id) is = absurd cc
ending_library (ByReboot id) is = absurd cc
ending_library ByDiskFault is = absurd cc
ending_library BySinkFault is = absurd cc
ending_library WantAfter is = absurd cc
ending_library WantBefore is = absurd cc
ending_library (ByDecline d) is = (d, refl, declined_library d is)
ending_library (Full at) is = absurd cc
ending_library Idle is = absurd cc

taken_failed : (start : ℕ → ℕ) (taken : Result code.Plan Declined) (d : Declined) (records : List Record) → TakenEnding start taken (ByDecline d) records →
    HasLibraryFailed (Err d) → HasLibraryFailed taken
taken_failed start (Err x) d records follows failed = ⊎_elim
    (λ is. let same : d ≡ x = cc in subst (λ (y : Declined). HasLibraryFailed (Err y)) same failed)
    (λ is. absurd cc) follows.0
taken_failed start (Ok plan) d records follows failed = absurd (⊎_elim (λ off. off.0) (λ on. on.0) follows)

document_library : (x : Handled) → IsDeployedThere x → x.status ≡ statuses.Library → Rose x.before.faults x.after.faults
document_library x c is =
    let e = ending_library c.ending (sym c.status ∙ is) in
    c.library_cause (taken_failed x.start c.taken e.0 x.records (subst (λ (y : Ending). TakenEnding x.start c.taken y x.records) e.1 c.follows) e.2)

status_library : (s : Status) → is_library s ≡ true → s ≡ statuses.Library
status_library statuses.Library is = refl
status_library s is = absurd (false≢true is)

stays_by : (n m : ℕ) → n ≤ m → RoseBy 0 n m
stays_by n m later = omega (arith, later)

same_by : (n m : ℕ) → m ≡ n → RoseBy 0 n m
same_by n m is = omega (arith, is)

same_library : (old new : LibraryState) → new ≡ old → RoseBy 0 old.faults new.faults
same_library old new is = same_by old.faults new.faults (ap (λ (l : LibraryState). l.faults) is)

-- one document
of_document : (x : Handled) → IsDeployedThere x → RoseBy (if is_library x.status then 1 else 0) x.before.faults x.after.faults
of_document x c = by (is_library x.status) (λ is. document_library x c (status_library x.status is))
  where
    by : (b : Bool) → (b ≡ true → Rose x.before.faults x.after.faults) → RoseBy (if b then 1 else 0) x.before.faults x.after.faults
    by true rose = rose refl
    by false rose = stays_by x.before.faults x.after.faults c.library_later

least_on : (top a b x y z : ℕ) → min (x + a) top ≤ y → min (y + b) top ≤ z → min (x + (a + b)) top ≤ z
least_on top a b x y z first second = omega (arith, first, second)

rose_on : (a b x y z : ℕ) → RoseBy a x y → RoseBy b y z → RoseBy (a + b) x z
rose_on a b x y z first second = least_on (2 ^ 64 - 1) a b x y z first second

-- those of the rounds
of_rounds : (rounds : List Round) (d : Device) (n : LibraryState) (f : ℕ) (e : Device) (m : LibraryState) (g : ℕ)
    → AreHandled IsDeployedThere d n f rounds e m g → RoseBy (library_refusals rounds) n.faults m.faults
of_rounds [] d n f e m g h = same_library n m h.1
of_rounds (Waited ∷ rounds) d n f e m g h = of_rounds rounds d n f e m g h
of_rounds (Took x ∷ rounds) d n f e m g h = rose_on (if is_library x.status then 1 else 0) (library_refusals rounds) n.faults x.after.faults m.faults
    (subst (λ (k : LibraryState). RoseBy (if is_library x.status then 1 else 0) k.faults x.after.faults) h.1 (of_document x h.4))
    (of_rounds rounds x.behind x.after x.disk_after e m g h.6)

refusals_append : (a b : List Round) → library_refusals (a ++ b) ≡ library_refusals a + library_refusals b
refusals_append [] b = omega arith
refusals_append (Waited ∷ a) b = refusals_append a b
refusals_append (Took x ∷ a) b =
    let n : ℕ = if is_library x.status then 1 else 0 in omega (arith, refusals_append a b)

-- ---- the last round

-- a status with which a document ends the call gives up, or restarts
no_end : (own s : Status) → IsOwnOrEdge own s → gives_up s ≡ false → is_restart s ≡ false → ⊥
no_end own s (inl is) up restart = ⊎_elim (λ own_up. false≢true (sym up ∙ (ap gives_up is.0 ∙ own_up)))
    (λ own_restart. false≢true (sym restart ∙ (ap is_restart is.0 ∙ own_restart))) is.1
no_end own s (inr edge) up restart = false≢true (sym up ∙ ap gives_up edge)

ends_call : (own s : Status) → IsOwnOrEdge own s → EndsCall s
ends_call own s (inl is) = ⊎_elim (λ up. inl (ap gives_up is.0 ∙ up)) (λ restart. inr (ap is_restart is.0 ∙ restart)) is.1
ends_call own s (inr edge) = inl (ap gives_up edge)

module _ {D : Type 0} (most : ℕ) (rounds : List Round) (s : Status) (old new : Outside D) (d : Device) where
  of_last : (l : LastRound) → EndsAs IsDeployedThere most rounds l s old new d →
      RoseBy (library_refusals (round_of_last l)) old.library.faults new.library.faults
  of_last Spent why = same_library old.library new.library why.2.library
  of_last Shut why = same_library old.library new.library why.1.library
  of_last (StoppedBy x) why = rose_on (if is_library x.status then 1 else 0) 0 old.library.faults new.library.faults new.library.faults
      (subst (λ (k : LibraryState). RoseBy (if is_library x.status then 1 else 0) k.faults new.library.faults) why.before
      (subst (λ (k : LibraryState). RoseBy (if is_library x.status then 1 else 0) x.before.faults k.faults) why.after (of_document x why.clause)))
      (same_library new.library new.library refl)
  of_last SweepFailed why = same_library old.library new.library why.1.library
  of_last InboxFailed why = same_library old.library new.library why.1.library
  of_last WantOfMemory why = same_library old.library new.library why.1.library

  -- with neither it is over: the inbox is closed, or was asked as often as it is to be
  goes_through : (l : LastRound) → EndsAs IsDeployedThere most rounds l s old new d → gives_up s ≡ false → is_restart s ≡ false →
      (l ≡ Shut) ⊎ (l ≡ Spent)
  goes_through Spent why up restart = inr refl
  goes_through Shut why up restart = inl refl
  goes_through (StoppedBy x) why up restart = absurd (no_end x.status s why.with_status up restart)
  goes_through SweepFailed why up restart = absurd (false≢true (sym up ∙ disk_gives s why.0))
  goes_through InboxFailed why up restart = absurd (false≢true (sym up ∙ ap gives_up why.0))
  goes_through WantOfMemory why up restart = absurd (false≢true (sym up ∙ ap gives_up why.0))

  shut_done : (l : LastRound) → EndsAs IsDeployedThere most rounds l s old new d → l ≡ Shut → s ≡ statuses.Done
  shut_done Spent why is = absurd cc
  shut_done Shut why is = why.0
  shut_done (StoppedBy x) why is = absurd cc
  shut_done SweepFailed why is = absurd cc
  shut_done InboxFailed why is = absurd cc
  shut_done WantOfMemory why is = absurd cc

  spent_all : (l : LastRound) → EndsAs IsDeployedThere most rounds l s old new d → l ≡ Spent →
      (length rounds ≡ most) × ((s ≡ statuses.TurnsOver) ⊎ (s ≡ statuses.Edge))
  spent_all Spent why is = (why.0, why.1)
  spent_all Shut why is = absurd cc
  spent_all (StoppedBy x) why is = absurd cc
  spent_all SweepFailed why is = absurd cc
  spent_all InboxFailed why is = absurd cc
  spent_all WantOfMemory why is = absurd cc

  done_shuts : (l : LastRound) → EndsAs IsDeployedThere most rounds l s old new d → s ≡ statuses.Done → l ≡ Shut
  done_shuts l why is = ⊎_elim (λ shut. shut) (λ spent. absurd (neither (spent_all l why spent).1 is)) (goes_through l why (ap gives_up is) (ap is_restart is))
    where
      neither : (s ≡ statuses.TurnsOver) ⊎ (s ≡ statuses.Edge) → s ≡ statuses.Done → ⊥
      neither (inl over) done = cc
      neither (inr edge) done = cc

  over_spends : (l : LastRound) → EndsAs IsDeployedThere most rounds l s old new d → s ≡ statuses.TurnsOver → l ≡ Spent
  over_spends l why is = ⊎_elim (λ shut. absurd (apart (shut_done l why shut) is)) (λ spent. spent) (goes_through l why (ap gives_up is) (ap is_restart is))
    where
      apart : s ≡ statuses.Done → s ≡ statuses.TurnsOver → ⊥
      apart done over = cc

module _ {D : Type 0} (disk : a_disk.Ghosts D) (most : ℕ) (old new : Outside D) (status : Status) where
  served_in_order : (p : SessionState) (h : List TraceEvent)
      → (s : IsSetServed disk slots_ghosts IsDeployedThere most old new p h status) → IsInOrder most s.rounds s.last status old.library.faults
      new.library.faults
  served_in_order p h s = record {
    closed = done_shuts most s.rounds status s.to new s.behind s.last s.ends;
    closes = shut_done most s.rounds status s.to new s.behind s.last s.ends;
    over = over_spends most s.rounds status s.to new s.behind s.last s.ends;
    spent = spent_all most s.rounds status s.to new s.behind s.last s.ends;
    others = goes_through most s.rounds status s.to new s.behind s.last s.ends;
    library = subst (λ (n : ℕ). RoseBy n old.library.faults new.library.faults) (sym (refusals_append s.rounds (round_of_last s.last)))
        (rose_on (library_refusals s.rounds) (library_refusals (round_of_last s.last)) old.library.faults s.to.library.faults new.library.faults
        (of_rounds s.rounds p.device old.library old.faults s.behind s.to.library s.to.faults s.handled)
        (of_last most s.rounds status s.to new s.behind s.last s.ends));
  }

-- the records of the last round are those whose line is written, and one more at most
last_split : {D : Type 0} (most : ℕ) (rounds : List Round) (s : Status) (old new : Outside D) (d : Device) (l : LastRound) →
    EndsAs IsDeployedThere most rounds l s old new d →
    (printed : List Record) × (records_of_last l ≡ printed ++ unprinted_of_last l) × (length (unprinted_of_last l) ≤ 1)
last_split most rounds s old new d Spent why = ([], refl, omega arith)
last_split most rounds s old new d Shut why = ([], refl, omega arith)
last_split most rounds s old new d (StoppedBy x) why = (x.printed_records, why.clause.split, why.clause.few)
last_split most rounds s old new d SweepFailed why = ([], refl, omega arith)
last_split most rounds s old new d InboxFailed why = ([], refl, omega arith)
last_split most rounds s old new d WantOfMemory why = ([], refl, omega arith)

-- The records whose line is written, with what each of these images stands for.
record Written {D : Type 0} (disk : a_disk.Ghosts D) (new : D) (d : Device) (records unprinted_records : List Record) : Type 0 where
  pub printed_records : List Record
  pub split : records ≡ printed_records ++ unprinted_records
  pub few : length unprinted_records ≤ 1
  pub whole : unprinted_records ≡ [] → (c : Image) → disk.may_leave new c → (e : Device) × Run d records e × IsImageOf c e

written_lasts : {D : Type 0} (disk : a_disk.Ghosts D) (new : D) (d : Device) (records unprinted_records : List Record) →
    ((c : Image) → disk.may_leave new c → StandsForMost slots_entries d records c) → (w : Written disk new d records unprinted_records) →
    AreLasting (disk.may_leave new) w.printed_records
written_lasts disk new d records unprinted_records most w before after plan is c left =
    told_prefix d c records w.printed_records unprinted_records before after plan w.split w.few is (λ none. w.whole none c left) (most c left)

module _ {D : Type 0} (disk : a_disk.Ghosts D) (most : ℕ) (old new : Outside D) (p : SessionState) (h : List TraceEvent)
    (status : Status) where
  halted_written : (x : IsHalted disk slots_ghosts old new p h status) → Written disk new.disk p.device (records_of h) x.first.rest
  halted_written x = record {
    printed_records = x.first.printed_records;
    split = x.first.split;
    few = x.first.few;
    whole = λ none c left. ((state_after p h).device, x.goes.run, x.stable none c left);
  }

  served_written : (before g : List TraceEvent) (to : Outside D) → h ≡ g ++ before → Run p.device (records_of before) (state_after p before).device →
      (s : IsSetServed disk slots_ghosts IsDeployedThere most to new (state_after p before) g status) →
      Written disk new.disk p.device (records_of h) (unprinted_of_last s.last)
  served_written before g to same first s =
      let last = last_split most s.rounds status s.to new s.behind s.last s.ends in
      let rounds = records_of_rounds s.rounds in
      let all : records_of h ≡ records_of before ++ records_of g = ap records_of same ∙ records-append g before in
      record {
        printed_records = records_of before ++ (rounds ++ last.0);
        split = all ∙ ap (λ (l : List Record). records_of before ++ l)
            (s.records ∙ (ap (λ (l : List Record). rounds ++ l) last.1 ∙ sym (append_assoc rounds last.0 (unprinted_of_last s.last))))
            ∙ sym (append_assoc (records_of before) (rounds ++ last.0) (unprinted_of_last s.last));
        few = last.2;
        whole = λ none c left. (
          (state_after (state_after p before) g).device,
          subst (λ (l : List Record). Run p.device l (state_after (state_after p before) g).device) (sym all)
              (run_on p.device (records_of before) (state_after p before).device (records_of g) (state_after (state_after p before) g).device first s.goes.run),
          s.stable none c left,
        );
      }

  parts_written : (parts : IsHaltedOrServed disk most old new p status h) →
      Written disk new.disk p.device (records_of h) (unprinted_of disk most old new p status h parts)
  parts_written (inl halted) = halted_written halted.0
  parts_written (inr s) = served_written s.0 s.1 s.2 s.3 s.7.goes.run s.8

  pub ends_in_order : (parts : IsHaltedOrServed disk most old new p status h) → EndsInOrder disk most old new p status h parts
  ends_in_order (inl halted) = ends_call (status_of_ending halted.0.ending) status halted.0.with_status
  ends_in_order (inr s) = subst (λ (l : LibraryState). IsInOrder most s.8.rounds s.8.last status l.faults new.library.faults) s.6
      (served_in_order disk most s.2 new status (state_after p s.0) s.1 s.8)

  pub told_in_order : (parts : IsHaltedOrServed disk most old new p status h) →
      ((c : Image) → disk.may_leave new.disk c → StandsForMost slots_entries p.device (records_of h) c) →
      (printed : List Record) × (records_of h ≡ printed ++ unprinted_of disk most old new p status h parts) ×
      AreLasting (disk.may_leave new.disk) printed
  told_in_order parts most_stand =
      let w = parts_written parts in
      (w.printed_records, w.split, written_lasts disk new.disk p.device (records_of h) (unprinted_of disk most old new p status h parts) most_stand w)
