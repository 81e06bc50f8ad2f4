-- What is kept of one component, as it is read, and where nothing of it is changed but whether its start was handed out.
use Rattle.std.proofs.Common.{◌≡◌, Option, Some, None, is_some, Bool, true, false, refl, arith, ℕ, inl, inr, subst, slice_get}
use Rattle.std.specs.Prelude.{not}
use Rattle.std.specs.List.{list_any}
use Rattle.std.proofs.lemmas.Bool.{and_parts}
use Rattle.nuc_base.specs.declared.kinds.Step.{Step}
use Rattle.lifecycle.specs.Awaits.{is_awaited, is_busy_with, is_same_step}
use Rattle.lifecycle.specs.Life.{Life, IsSound}
use Rattle.lifecycle.specs.Table.{table}
use Rattle.lifecycle.specs.declared.kinds.LifeEvent.{LifeEvent}
use Rattle.components.specs.Changes.{leaving}
use Rattle.components.specs.Components.{ComponentState, is_gone, under_way, Child, Components, is_orphan}
use Rattle.components.specs.Events.{is_orphan_at}
use Rattle.components.specs.Turns.{is_begun}
use Rattle.law_supervisor.proofs.Alone.{bare_of}
use Rattle.law_supervisor.proofs.Changed.{ask_gone, ask_none, left_as}
use Rattle.law_supervisor.proofs.Lists.{clash, either, not_so}
use Rattle.law_termination.specs.Kept.{IsKeptPart}
use Rattle.law_termination.specs.Rank.{start_weight}
use Rattle.law_termination.proofs.Answered.{unhanded}

pub table_row : (c : Life) (e : LifeEvent) → IsSound c → is_some (table c e) ≡ is_awaited e c
table_row c e k = grind (arith, k)

pub begun_busy : (p : ComponentState) (t : Step) → is_begun t p ≡ true → (p.life.busy ≡ Some t) × (start_weight p.life.busy p.children ≡ 4)
begun_busy p t e =
    let y = and_parts (is_busy_with t p.life.busy) (not (list_any (λ (c : Child). is_same_step t c.of) p.children)) e in
    let b = busy_is t p.life.busy y.0 in
    (b, rw b (rw (not_so (list_any (λ (c : Child). is_same_step t c.of) p.children) y.1) refl))
  where
    busy_is : (s : Step) (o : Option Step) → is_busy_with s o ≡ true → o ≡ Some s
    busy_is s o h = grind (arith, h)

pub stands_busy : (p : ComponentState) → IsKeptPart p → (s : Step) → p.life.busy ≡ Some s → p.life.gone ≡ false
stands_busy p k s b = elim (either p.life.gone) [
  | inr g ↦ g
  | inl g ↦ (let x = bare_of p k.gone g in let y : is_some p.life.busy ≡ false = rw x.2 refl in
      let z : is_some p.life.busy ≡ true = rw b refl in clash (is_some p.life.busy) z y)
]

pub orphan_of_gone : (p : ComponentState) → IsKeptPart p → (s : Step) → is_orphan p.life s ≡ false → p.life.gone ≡ false
orphan_of_gone p k s o = elim (either p.life.gone) [
  | inr g ↦ g
  | inl g ↦ (let x = bare_of p k.gone g in
      let y : is_orphan p.life s ≡ true = rw x.2 (rw x.3 (grind arith)) in clash (is_orphan p.life s) y o)
]

pub orphan_at : (k : ℕ) (s : Step) (w : Components) (p : ComponentState) → slice_get w.parts k ≡ Some p → (b : Bool) → is_orphan_at k s w ≡ b →
    is_orphan p.life s ≡ b
orphan_at k s w p q b y = subst (λ (o : Option ComponentState). (elim o [ None ↦ false | Some z ↦ is_orphan z.life s ]) ≡ b) q y

handed_as : (b : Bool) (p : ComponentState) → IsKeptPart p → IsKeptPart (record p { handed = b })
handed_as b p k = record {
  sound = k.sound;
  steps = k.steps;
  runnable = k.runnable;
  coming = k.coming;
  timed = k.timed;
  run = k.run;
  gone = k.gone;
  own = k.own;
  asks = k.asks;
  waits = k.waits;
}

pub unhanded_kept : (p : ComponentState) → IsKeptPart p → IsKeptPart (unhanded p)
unhanded_kept = handed_as false

pub handed_kept : (p : ComponentState) → IsKeptPart p → IsKeptPart (record p { handed = true })
handed_kept = handed_as true

-- ---- the stop of all

pub left_keeps : (p : ComponentState) → IsKeptPart p → IsKeptPart (leaving p)
left_keeps p k = go p.life.gone refl (is_gone (under_way p.life)) refl
  where
    go : (g : Bool) → p.life.gone ≡ g → (u : Bool) → is_gone (under_way p.life) ≡ u →
        IsKeptPart (left_as g u p)
    go true e u f = k
    go false e true f = record {
      sound = k.sound;
      steps = k.steps;
      runnable = k.runnable;
      coming = tt;
      timed = k.timed;
      run = k.run;
      gone = rw e refl;
      own = k.own;
      asks = ask_none (under_way p.life);
      waits = refl;
    }
    go false e false f = record {
      sound = k.sound;
      steps = k.steps;
      runnable = k.runnable;
      coming = tt;
      timed = k.timed;
      run = k.run;
      gone = rw e refl;
      own = k.own;
      asks = ask_gone (under_way p.life) f;
      waits = refl;
    }
