-- What devices keep and what the controller knows never falls, and neither passes what it comes from.
use Rattle.std.proofs.Common.{◌≡◌, ℕ, ◌≤◌, Bool, true, false, List, [], ◌∷◌, ◌++◌, sym, ap, subst, ◌∙◌, arith}
use Rattle.std.specs.Prelude.{slice_get, max, if◌then◌else◌, ◌==◌}
use Rattle.std.specs.Option.{option_to_list}
use Rattle.std.specs.List.{AllByRecursion}
use Rattle.fleet_core.specs.declared.packet.Packet.{Packet}
use Rattle.fleet_core.specs.Events.{Event, each}
use Rattle.fleet_core.specs.Events.Event.{Sending, Delivery, Loss, Restarting, Reporting, Hearing}
use Rattle.fleet_core.specs.Meaning.{packets, sent_by, is_lost, arrived_by, arrivals, highest, told, kept, newest, known, Report, reports, reported_by}
use Rattle.fleet_core.specs.Meaning.{hearings, heard_by}
use Rattle.fleet_core.specs.Laws.{KnownIsKept, KeptIsSent, KeptStays, KnownStays}
use Rattle.fleet_core.proofs.Along.{along-append, along-step, by_steps, all-weaken, all-append, all-option}
use Rattle.fleet_core.proofs.Highest.{highest-append, told-append, highest-option}

pub kept_stays : KeptStays
kept_stays past more d g =
    let split = highest-append d g (arrivals past) (each arrived_by past more) in
    subst (λ (l : List Packet). highest d g (arrivals past) ≤ highest d g l) (sym (along-append arrived_by past more)) (omega (arith, split))

pub known_stays : KnownStays
known_stays past more d g =
    let split = told-append d g (hearings past) (each heard_by past more) in
    subst (λ (l : List Report). told d g (hearings past) ≤ told d g l) (sym (along-append heard_by past more)) (omega (arith, split))

pub newest_stays : (past more : List Event) (d : ℕ) (g : List ℕ) → newest past d g ≤ newest (past ++ more) d g
newest_stays past more d g =
    let split = highest-append d g (packets past) (each sent_by past more) in
    subst (λ (l : List Packet). highest d g (packets past) ≤ highest d g l) (sym (along-append sent_by past more)) (omega (arith, split))

-- ---- what is kept was sent

arrived_was_sent : (past : List Event) (e : Event) (d : ℕ) (g : List ℕ) → highest d g (arrived_by past e) ≤ newest past d g
arrived_was_sent past (Sending p) d g = omega arith
arrived_was_sent past (Delivery n) d g = by (is_lost past n)
  where
    by : (b : Bool) → highest d g (if b then [] else option_to_list (slice_get (packets past) n)) ≤ newest past d g
    by true = omega arith
    by false = highest-option d g (packets past) n
arrived_was_sent past (Loss n) d g = omega arith
arrived_was_sent past (Restarting n) d g = omega arith
arrived_was_sent past (Reporting n) d g = omega arith
arrived_was_sent past (Hearing n) d g = omega arith

-- what is kept behind one more event
pub kept-step : (past : List Event) (e : Event) (d : ℕ) (g : List ℕ) → kept (past ++ e ∷ []) d g ≡ max (kept past d g) (highest d g (arrived_by past e))
kept-step past e d g = ap (highest d g) (along-step arrived_by past e) ∙ highest-append d g (arrivals past) (arrived_by past e)

-- what is known behind one more event
pub known-step : (past : List Event) (e : Event) (d : ℕ) (g : List ℕ) → known (past ++ e ∷ []) d g ≡ max (known past d g) (told d g (heard_by past e))
known-step past e d g = ap (told d g) (along-step heard_by past e) ∙ told-append d g (hearings past) (heard_by past e)

IsSent : List Event → Type 0
IsSent past = (d : ℕ) (g : List ℕ) → kept past d g ≤ newest past d g

is_sent_step : (past : List Event) (e : Event) → IsSent past → IsSent (past ++ e ∷ [])
unfolding IsSent
is_sent_step past e before d g =
    let here = kept-step past e d g in
    let now = arrived_was_sent past e d g in
    let later = newest_stays past (e ∷ []) d g in
    omega (arith, here, now, later, before d g)

is_sent_always : (past : List Event) → IsSent past
unfolding IsSent
is_sent_always = by_steps IsSent (λ d g. omega arith) is_sent_step

pub kept_is_sent : KeptIsSent
unfolding IsSent
kept_is_sent past = is_sent_always past

-- ---- what is known is kept

-- a report tells nothing newer than what its device keeps now
IsOld : List Event → Report → Type 0
IsOld past r = (d : ℕ) (g : List ℕ) → kept r.past d g ≤ kept past d g

record AreOld (past : List Event) : Type 0 where
  reports : AllByRecursion (IsOld past) (reports past)
  hearings : AllByRecursion (IsOld past) (hearings past)

older : (past : List Event) (e : Event) (r : Report) → IsOld past r → IsOld (past ++ e ∷ []) r
unfolding IsOld
older past e r old d g = let stays = kept_stays past (e ∷ []) d g in omega (arith, stays, old d g)

reported_is_old : (past : List Event) (e : Event) → AllByRecursion (IsOld (past ++ e ∷ [])) (reported_by past e)
unfolding IsOld
reported_is_old past (Sending p) = tt
reported_is_old past (Delivery n) = tt
reported_is_old past (Loss n) = tt
reported_is_old past (Restarting n) = tt
reported_is_old past (Reporting n) = ((λ d g. kept_stays past (Reporting n ∷ []) d g), tt)
reported_is_old past (Hearing n) = tt

heard_is_old : (past : List Event) (e : Event) → AllByRecursion (IsOld past) (reports past) → AllByRecursion (IsOld past) (heard_by past e)
heard_is_old past (Sending p) old = tt
heard_is_old past (Delivery n) old = tt
heard_is_old past (Loss n) old = tt
heard_is_old past (Restarting n) old = tt
heard_is_old past (Reporting n) old = tt
heard_is_old past (Hearing n) old = all-option (IsOld past) (reports past) n old

are_old_step : (past : List Event) (e : Event) → AreOld past → AreOld (past ++ e ∷ [])
are_old_step past e old =
    let now = past ++ e ∷ [] in
    let weak = all-weaken (IsOld past) (IsOld now) (older past e) in
    record {
      reports = subst (AllByRecursion (IsOld now)) (sym (along-step reported_by past e))
          (all-append (IsOld now) (reports past) (reported_by past e) (weak (reports past) old.reports) (reported_is_old past e));
      hearings = subst (AllByRecursion (IsOld now)) (sym (along-step heard_by past e))
          (all-append (IsOld now) (hearings past) (heard_by past e) (weak (hearings past) old.hearings)
          (weak (heard_by past e) (heard_is_old past e old.reports)));
    }

are_old : (past : List Event) → AreOld past
are_old = by_steps AreOld (record { reports = tt; hearings = tt }) are_old_step

told_is_kept : (past : List Event) (d : ℕ) (g : List ℕ) (rs : List Report) → AllByRecursion (IsOld past) rs → told d g rs ≤ kept past d g
unfolding IsOld
told_is_kept past d g [] old = omega arith
told_is_kept past d g (r ∷ rs) old = by (r.device == d) (old.0 d g) (told_is_kept past d g rs old.1)
  where
    by : (b : Bool) → kept r.past d g ≤ kept past d g → told d g rs ≤ kept past d g → (if b then max (kept r.past d g) (told d g rs) else told d g rs)
        ≤ kept past d g
    by true first rest = omega arith
    by false first rest = rest

pub known_is_kept : KnownIsKept
known_is_kept past d g = told_is_kept past d g (hearings past) (are_old past).hearings
