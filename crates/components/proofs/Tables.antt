-- What the rows of the table say of a run child, and of what is still to be done.
use Rattle.std.proofs.Common.{◌≡◌, ◌<◌, Bool, true, false, Some, None, arith}
use Rattle.std.specs.Prelude.{IfSome, IsSomeAnd}
use Rattle.nuc_base.specs.declared.kinds.Step.TheVariants as step
use Rattle.nuc_base.specs.declared.kinds.Exit.{Exit}
use Rattle.lifecycle.specs.Life.{Life, may_run}
use Rattle.lifecycle.specs.Table.{table}
use Rattle.lifecycle.specs.Awaits.{is_awaited}
use Rattle.lifecycle.specs.Laws.{is_kill}
use Rattle.lifecycle.specs.declared.kinds.After.{After}
use Rattle.lifecycle.specs.declared.kinds.LifeEvent.{LifeEvent}
use Rattle.lifecycle.specs.declared.kinds.LifeEvent.TheVariants as event
use Rattle.lifecycle.specs.declared.kinds.LifeAct.{LifeAct}
use Rattle.lifecycle.specs.declared.kinds.LifeAct.TheVariants as act
use Rattle.components.specs.Components.{is_up}
use Rattle.components.specs.Whole.{life_work}

abbrev pub is_launch : LifeEvent → Bool
is_launch event.Launched = true
is_launch e = false

-- the life after an event
abbrev pub after : LifeEvent → Life → Life
after e c = elim (table c e) [ None ↦ c | Some r ↦ r.1 ]

abbrev pub is_failure : LifeAct → Bool
is_failure (act.Failed s e) = true
is_failure (act.Broke s e) = true
is_failure a = false

pub may_row : (c : Life) (e : LifeEvent) → may_run c.state c.runs ≡ true → IfSome (table c e) (λ r. may_run r.1.state r.1.runs ≡ true)
may_row c e h = grind (arith, h)

-- only a launch makes a run child, and nothing befalls who is gone
pub runs_row : (c : Life) (e : LifeEvent) → is_launch e ≡ false → IfSome (table c e) (λ r. (r.1.runs ≡ true → c.runs ≡ true) × (c.gone ≡ false))
runs_row c e h = grind (arith, h)

pub run_ends_row : (c : Life) (x : Exit) → IfSome (table c (event.Ended step.Run x)) (λ r. r.1.runs ≡ false)
run_ends_row c x = grind arith

pub run_ends_none : (c : Life) (x : Exit) → may_run c.state c.runs ≡ true → table c (event.Ended step.Run x) ≡ None → c.runs ≡ true → c.gone ≡ true
run_ends_none c x h t r = grind (arith, h, t, r)

pub kills_row : (c : Life) (e : LifeEvent) → IfSome (table c e) (λ r. is_kill r.0 ≡ true → r.1.runs ≡ false)
kills_row c e = grind arith

-- ---- moves that leave nothing outside

pub begin_row : (c : Life) → is_awaited event.MayBegin c ≡ true →
    IsSomeAnd (table c event.MayBegin) (λ r. (is_failure r.0 ≡ false) × (life_work r.1 < life_work c) × (is_up c.state ≡ false))
begin_row c h = grind (arith, h)

pub retry_row : (c : Life) → is_awaited event.Retry c ≡ true →
    IsSomeAnd (table c event.Retry) (λ r. (is_failure r.0 ≡ false) × (life_work r.1 < life_work c) × (is_up c.state ≡ false))
retry_row c h = grind (arith, h)

pub stop_row : (c : Life) (a : After) → is_awaited (event.Stop a) c ≡ true →
    IsSomeAnd (table c (event.Stop a)) (λ r. (is_failure r.0 ≡ false) × (life_work r.1 < 4))
stop_row c a h = grind (arith, h)
