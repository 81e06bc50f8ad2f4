-- When and how long a session waits.
use Rattle.std.specs.Prelude.{◌≡◌, ℕ, ◌==◌, min, Bool, true, false, not, ◌&&◌, ◌||◌, List, Option, Some, None, is_some, if◌then◌else◌}
use Rattle.std.specs.List.{list_any}
use Rattle.components.specs.Components.{Child, is_settled, is_stopped}
use Rattle.components.specs.Turns.{IsQuiet}
use Rattle.components.specs.Deadlines.{has_passed, earlier, least_deadline, until}
use Rattle.histories.specs.Phases.{Phase, Duty, idle, booting, activating, backing, rolling, is_idle, Generation, draining, current, shutting_down}
use Rattle.histories.specs.Phases.{is_shutting_down}
use Rattle.histories.specs.TraceEvents.{is_document, is_nothing, is_closed}
use Rattle.histories.specs.States.{SessionState}

-- a component failed three times
abbrev pub has_three : List ℕ → Bool
has_three counts = list_any (λ n. n == 3) counts

-- ---- tables by phase and generation; what is not named is not allowed

-- components may begin, start, be tried again and be stopped
abbrev pub may_drive : Phase → Generation → Bool → Bool
may_drive idle current serves = serves
may_drive idle shutting_down serves = true
may_drive booting draining serves = true
may_drive activating current serves = true
may_drive backing draining serves = true
may_drive rolling draining serves = true
may_drive rolling current serves = true
may_drive f c serves = false

-- coming up, and neither done nor broken off
abbrev pub comes_up : List ℕ → SessionState → Bool
comes_up counts p = not (is_settled p.world) && not (has_three counts)

-- the bootstrap lives, or components are still to be stopped before it
abbrev pub boots_on : SessionState → Bool
boots_on p = is_some p.boot || not (is_stopped p.world)

-- in a turn of `serve` the inbox had nothing, and the set was brought up
abbrev pub has_turn : SessionState → Bool
has_turn p = (p.serves && p.opened) && elim p.answer [ None ↦ false | Some a ↦ is_nothing a ]

-- the inbox is closed, or was asked as often as it is to be and has nothing that is still to be waited for
abbrev pub has_ended : SessionState → Bool
has_ended p = elim p.answer [ None ↦ p.turns == 0 | Some a ↦ is_closed a || (p.turns == 0 && is_document a) ]

-- there is something to wait for
abbrev pub has_work : Phase → Generation → List ℕ → SessionState → Bool
has_work idle current counts p = has_turn p
has_work idle shutting_down counts p = not (is_stopped p.world)
has_work booting draining counts p = boots_on p
has_work activating current counts p = comes_up counts p
has_work backing draining counts p = boots_on p
has_work rolling draining counts p = not (is_stopped p.world)
has_work rolling current counts p = comes_up counts p
has_work f c counts p = false

abbrev pub boot_deadline : Option Child → Option ℕ
boot_deadline None = None
boot_deadline (Some c) = c.deadline

abbrev pub time_left : SessionState → ℕ
time_left p = until (earlier (boot_deadline p.boot) (least_deadline p.world)) p.world.moment

-- a turn of `serve` waits for 1,000 ms at most
abbrev pub wait_limit : Phase → SessionState → ℕ
wait_limit f p = if is_idle f && not (is_shutting_down p.generation) then min 1000 (time_left p) else time_left p

-- Every act was taken, no end of a bootstrap is unrecorded, no deadline has passed, and there is something to wait for.
pub record MayWait (d : Duty) (p : SessionState) (limit : ℕ) : Type 0 where
  pub quiet : IsQuiet p.world
  pub no_end : p.boot_end ≡ None
  pub in_time : has_passed p.world.moment (boot_deadline p.boot) ≡ false
  pub work : has_work d.phase p.generation d.counts p ≡ true
  pub limit_is : limit ≡ wait_limit d.phase p
