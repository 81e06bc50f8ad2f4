-- What was handed out, and the state to which the moves before it lead.
use Rattle.std.specs.Prelude.{ℕ, true, false, List, Option, Some, None}
use Rattle.std.proofs.Common.{◌≡◌, sym, subst}
use Rattle.nuc_base.specs.declared.kinds.Exit.{Exit}
use Rattle.nuc_base.specs.declared.kinds.Step.{Step}
use Rattle.step_runner.specs.Entries.{Told}
use Rattle.step_runner.specs.declared.entries.RunnerEntry.{RunnerEntry}
use Rattle.components.specs.Components.{Components}
use Rattle.components.specs.Turns.{IsQuiet}
use Rattle.components.specs.Acts.{HandsOut, NextAct, MovesInOrder}
use Rattle.components.specs.declared.kinds.Act.{Act}
use Rattle.components.specs.declared.kinds.Act.TheVariants.{Start, Failed, Broke}
use Rattle.histories.specs.TraceEvents.{TraceEvent}
use Rattle.histories.specs.States.{SessionState, state_after}
use Rattle.session_acts.specs.Laws.{Laws}
use Rattle.session_acts.specs.Runs.{HasFailed, IsStarting, IsWithin, IsInTurn}
use Rattle.session_acts.specs.Traces.{ActsInTurn}
use Rattle.session_acts.proofs.Entering.{moves_on}

-- the moves before an act, and the act from the state that they lead to
pub record Handed (p : SessionState) (w : Components) (told : Told) (living : List ℕ) (list : Option (List RunnerEntry)) (a : Option Act) : Type 0 where
  pub h : List TraceEvent
  pub acts : ActsInTurn p h list list
  pub within : IsWithin (state_after p h) told living
  pub probed : (state_after p h).probed ≡ false
  pub hands : HandsOut (state_after p h).world a w

pub handed : Laws → (p : SessionState) (v w : Components) (told : Told) (living : List ℕ) (list : Option (List RunnerEntry)) (a : Option Act) →
    IsInTurn p v told living → NextAct v a w → Handed p w told living list a
handed laws p v w told living list a r n =
    let m = moves_on laws p told living list n.seen n.made (subst (λ (x : Components). MovesInOrder x n.made n.seen) r.world_is n.quietly) r.within
    r.probed in
    record {
      h = m.h;
      acts = m.acts;
      within = m.within;
      probed = m.probed;
      hands = subst (λ (x : Components). HandsOut x a w) (sym m.world_is) n.hands;
    }

pub quiet_at : (q : SessionState) (w : Components) (told : Told) (living : List ℕ) → IsWithin q told living → q.probed ≡ false →
    HandsOut q.world None w → IsInTurn q w told living × IsQuiet q.world
quiet_at q w told living within probed h = (record { within = within; probed = probed; world_is = h.1 }, h.0)

pub starting_at : (q : SessionState) (w : Components) (told : Told) (living : List ℕ) (k : ℕ) (t : Step) → IsWithin q told living → q.probed ≡ false →
    HandsOut q.world (Some (Start k t)) w → IsStarting q k t w told living
starting_at q w told living k t within probed h = record { within = within; probed = probed; world_is = h.2; next = h.0; start = h.1 }

pub failed_at : (q : SessionState) (w : Components) (told : Told) (living : List ℕ) (k : ℕ) (t : Step) (e : Exit) → IsWithin q told living →
    HandsOut q.world (Some (Failed k t e)) w → HasFailed q k t e w told living
failed_at q w told living k t e within h = record { within = within; breaks = false; owes = h.0; world_is = h.1 }

pub broke_at : (q : SessionState) (w : Components) (told : Told) (living : List ℕ) (k : ℕ) (t : Step) (e : Exit) → IsWithin q told living →
    HandsOut q.world (Some (Broke k t e)) w → HasFailed q k t e w told living
broke_at q w told living k t e within h = record { within = within; breaks = true; owes = h.0; world_is = h.1 }
