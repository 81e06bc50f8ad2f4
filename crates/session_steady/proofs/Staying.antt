-- What a call that tells a supervisor what befell keeps, and what it makes of the number of a turn.
use Rattle.std.proofs.Common.{◌≡◌, ◌<◌, ◌+◌, ◌^◌, ℕ, List, [], ◌∷◌, Option, Some, None, true, inl, inr, refl, sym, ap, ◌∙◌, arith, subst}
use Rattle.std.specs.Prelude.{IsSome}
use Rattle.nuc_base.specs.declared.kinds.Exit.{Exit}
use Rattle.nuc_base.specs.declared.kinds.Step.{Step}
use Rattle.components.specs.Acts.{HandsOut, Move, NextAct, MovesInOrder}
use Rattle.components.specs.Answers.{HasHanded}
use Rattle.components.specs.Components.{At, Components, owner}
use Rattle.components.specs.Events.{ended, later, refused, skipped, started}
use Rattle.components.specs.Lives.{lived_at}
use Rattle.components.specs.Turns.{is_begun}
use Rattle.components.specs.declared.kinds.Act.{Act}
use Rattle.components.specs.declared.kinds.Act.TheVariants as acts
use Rattle.components.specs.declared.kinds.Event.TheVariants.{Started, Refused, Skipped, Ended}
use Rattle.components.proofs.Platforms.{run_next, run_noticed}
use Rattle.law_supervisor.proofs.Begun.{started_steady}
use Rattle.law_supervisor.proofs.Gone.{ended_steady, killed_steady}
use Rattle.law_termination.specs.Drives.{AreDriven}
use Rattle.law_termination.specs.Kept.{is_done}
use Rattle.law_termination.proofs.Events.{end_on, later_on, next_on, refuse_on, skip_on, start_on}
use Rattle.law_termination.proofs.Sums.{at_map}
use Rattle.law_termination.proofs.TurnRanks.{act_calms, refused_turn, skipped_turn, started_turn}
use Rattle.session_acts.proofs.Entering.{later_same}
use Rattle.session_acts.specs.Taken.{IsActTaken, IsAnswered, IsCarriedOut}
use Rattle.session_acts.specs.Waits.{IsWaited}
use Rattle.session_acts.specs.declared.acts.Did.{Did}
use Rattle.session_acts.specs.declared.acts.Did.TheVariants as did
use Rattle.session_steady.specs.Stays.{IsCalmer, IsNoWilder, IsKeptSteady}

-- ---- events leave the mode

mode_moved : (w v : Components) (ms : List Move) → MovesInOrder w ms v → v.steady ≡ w.steady
mode_moved w v [] q = ap (λ (x : Components). x.steady) q
mode_moved w v (m ∷ ms) q = mode_moved (lived_at m.who m.what w) v ms q.2

mode_handed : (w : Components) (act : Option Act) (v : Components) → HandsOut w act v → v.steady ≡ w.steady
mode_handed w None v h = ap (λ (x : Components). x.steady) h.1
mode_handed w (Some (acts.Start k t)) v h = ap (λ (x : Components). x.steady) h.2
mode_handed w (Some (acts.Kill n)) v h = ap (λ (x : Components). x.steady) h.4 ∙ killed_steady n w
mode_handed w (Some (acts.Failed k t e)) v h = ap (λ (x : Components). x.steady) h.1
mode_handed w (Some (acts.Broke k t e)) v h = ap (λ (x : Components). x.steady) h.1

-- ---- the next act

pub next_stays : (w v : Components) (act : Option Act) → AreDriven w → NextAct w act v → IsKeptSteady w v
next_stays w v act d n = record {
  drives = (next_on w v act n d).drives;
  mode = mode_handed n.seen act v n.hands ∙ mode_moved w n.seen n.made n.quietly;
  recipes = λ platform a. run_next platform w act v n a;
}

pub next_no_wilder : (w v : Components) (act : Option Act) → AreDriven w → w.steady ≡ true → NextAct w act v → IsNoWilder w v
next_no_wilder w v act d s n = record { stays = next_stays w v act d n; least = (act_calms w v act d.alone s n).least }

pub next_calms : (w v : Components) (act : Option Act) → AreDriven w → w.steady ≡ true → NextAct w act v → is_done act ≡ true → IsCalmer w v
next_calms w v act d s n e = record { stays = next_stays w v act d n; less = (act_calms w v act d.alone s n).less e }

-- ---- what is told, with the moment

pub pass_stays : (w v : Components) (now : ℕ) → AreDriven w → v ≡ later now w → IsKeptSteady w v
pass_stays w v now d e = subst (IsKeptSteady w) (sym e) (record { drives = (later_on w d now).drives; mode = refl; recipes = λ platform a. a })

begun : (w : Components) (k : ℕ) (s : Step) → HasHanded k s w → At k (λ p. is_begun s p ≡ true) w.parts
begun w k s h = at_map k w.parts (λ p. (p.handed ≡ true) × (is_begun s p ≡ true)) (λ p. is_begun s p ≡ true) (λ p x. x.1) h

module _ (w : Components) (now : ℕ) (moment : w.moment ≡ now) (d : AreDriven w) where
  same : later now w ≡ w
  same = later_same now w (sym moment)

  owned : (o : Option (ℕ × Step)) → IsSome o → (x : ℕ × Step) × (o ≡ Some x)
  owned None h = absurd (cc)
  owned (Some x) h = (x, refl)

  pub end_stays : (v : Components) (n : ℕ) (x : Exit) → IsSome (owner n w.parts) → v ≡ ended n x (later now w) → IsKeptSteady w v
  end_stays v n x h e =
      let o = owned (owner n w.parts) h in
      subst (IsKeptSteady w) (sym (e ∙ ap (λ (y : Components). ended n x y) same)) (record {
        drives = (end_on w d n x o.0.0 o.0.1 o.1).drives;
        mode = ended_steady n x w;
        recipes = λ platform a. run_noticed platform (Ended n x) w a;
      })

  module _ (steady : w.steady ≡ true) where
    pub start_calms : now + 1 < 2 ^ 62 → (v : Components) (k n : ℕ) (s : Step) → HasHanded k s w → v ≡ started k s n (later now w) → IsCalmer w v
    start_calms early v k n s h e =
        let b = begun w k s h in
        subst (IsCalmer w) (sym (e ∙ ap (λ (y : Components). started k s n y) same)) (record {
          stays = record {
            drives = (start_on w d k n s b).drives;
            mode = started_steady k s n w;
            recipes = λ platform a. run_noticed platform (Started k s n) w a;
          };
          less = started_turn w d.alone steady (omega (arith, early, moment)) k n s b;
        })

    pub refuse_calms : (v : Components) (k : ℕ) (s : Step) → HasHanded k s w → v ≡ refused k s (later now w) → IsCalmer w v
    refuse_calms v k s h e =
        let b = begun w k s h in
        subst (IsCalmer w) (sym (e ∙ ap (λ (y : Components). refused k s y) same)) (record {
          stays = record {
            drives = (refuse_on w d k s b).drives;
            mode = refl;
            recipes = λ platform a. run_noticed platform (Refused k s) w a;
          };
          less = refused_turn w d.alone steady k s b;
        })

    pub skip_calms : (v : Components) (k : ℕ) (s : Step) → HasHanded k s w → v ≡ skipped k (later now w) → IsCalmer w v
    skip_calms v k s h e =
        let b = begun w k s h in
        subst (IsCalmer w) (sym (e ∙ ap (λ (y : Components). skipped k y) same)) (record {
          stays = record {
            drives = (skip_on w d k s b).drives;
            mode = refl;
            recipes = λ platform a. run_noticed platform (Skipped k s) w a;
          };
          less = skipped_turn w d.alone steady k s b;
        })

-- ---- one after another

pub stays_on : (u v w : Components) → IsKeptSteady u v → IsKeptSteady v w → IsKeptSteady u w
stays_on u v w a b = record { drives = b.drives; mode = b.mode ∙ a.mode; recipes = λ platform x. b.recipes platform (a.recipes platform x) }

pub no_wilder_on : (u v w : Components) → IsNoWilder u v → IsNoWilder v w → IsNoWilder u w
no_wilder_on u v w a b = let x = a.least in let y = b.least in record { stays = stays_on u v w a.stays b.stays; least = omega (arith, x, y) }

pub calms_after : (u v w : Components) → IsNoWilder u v → IsCalmer v w → IsCalmer u w
calms_after u v w a b = let x = a.least in let y = b.less in record { stays = stays_on u v w a.stays b.stays; less = omega (arith, x, y) }

pub calms_no_wilder : (w v : Components) → IsCalmer w v → IsNoWilder w v
calms_no_wilder w v f = let x = f.less in record { stays = f.stays; least = omega (arith, x) }

pub self_stays : (w : Components) → AreDriven w → IsKeptSteady w w
self_stays w d = record { drives = d; mode = refl; recipes = λ platform a. a }

pub self_no_wilder : (w : Components) → AreDriven w → IsNoWilder w w
self_no_wilder w d = record { stays = self_stays w d; least = omega arith }

pub steady_on : (u v : Components) → u.steady ≡ true → IsKeptSteady u v → v.steady ≡ true
steady_on u v s a = a.mode ∙ s

-- ---- an act

moment_moved : (w v : Components) (ms : List Move) → MovesInOrder w ms v → v.moment ≡ w.moment
moment_moved w v [] q = ap (λ (x : Components). x.moment) q
moment_moved w v (m ∷ ms) q = moment_moved (lived_at m.who m.what w) v ms q.2

-- a start that is handed out leaves the moment
moment_next : (k : ℕ) (s : Step) (w v : Components) → NextAct w (Some (acts.Start k s)) v → v.moment ≡ w.moment
moment_next k s w v n = ap (λ (x : Components). x.moment) n.hands.2 ∙ moment_moved w n.seen n.made n.quietly

answer_calms : (now k : ℕ) (s : Step) (w v : Components) → w.moment ≡ now → AreDriven w → w.steady ≡ true → now + 1 < 2 ^ 62 → IsAnswered now k s w v →
    IsCalmer w v
answer_calms now k s w v moment d steady early (h, inl e) = skip_calms w now moment d steady v k s h e
answer_calms now k s w v moment d steady early (h, inr (inl e)) = refuse_calms w now moment d steady v k s h e
answer_calms now k s w v moment d steady early (h, inr (inr (n, e))) = start_calms w now moment d steady early v k n s h e

module _ (now : ℕ) (w v : Components) (moment : w.moment ≡ now) (d : AreDriven w) (steady : w.steady ≡ true) (early : now + 1 < 2 ^ 62) where
  done_calms : (a : Act) (u : Components) → NextAct w (Some a) u → IsCarriedOut now (Some a) u v → IsCalmer w v
  done_calms (acts.Start k s) u n c =
      let b = next_no_wilder w u (Some (acts.Start k s)) d steady n in
      calms_after w u v b (answer_calms now k s u v (moment_next k s w u n ∙ moment) b.stays.drives (steady_on w u steady b.stays) early c)
  done_calms (acts.Kill x) u n c = subst (IsCalmer w) (sym c) (next_calms w u (Some (acts.Kill x)) d steady n refl)
  done_calms (acts.Failed k s e) u n c = subst (IsCalmer w) (sym c) (next_calms w u (Some (acts.Failed k s e)) d steady n refl)
  done_calms (acts.Broke k s e) u n c = subst (IsCalmer w) (sym c) (next_calms w u (Some (acts.Broke k s e)) d steady n refl)

  pub taken_calms : (x : Did) → IsActTaken now x w v → ¬ (x ≡ did.Nothing) → IsCalmer w v
  taken_calms x t some = by t.act t.handed t.next t.carried t.none
    where
      by : (a : Option Act) (u : Components) → NextAct w a u → IsCarriedOut now a u v → (a ≡ None → x ≡ did.Nothing) → IsCalmer w v
      by None u n c none = absurd (some (none refl))
      by (Some a) u n c none = done_calms a u n c

  pub taken_no_wilder : (x : Did) → IsActTaken now x w v → IsNoWilder w v
  taken_no_wilder x t = by t.act t.handed t.next t.carried
    where
      by : (a : Option Act) (u : Components) → NextAct w a u → IsCarriedOut now a u v → IsNoWilder w v
      by None u n c = subst (IsNoWilder w) (sym c) (next_no_wilder w u None d steady n)
      by (Some a) u n c = calms_no_wilder w v (done_calms a u n c)

-- ---- a wait

pub waited_stays : (now limit before after : ℕ) (w v : Components) → w.moment ≡ now → AreDriven w → IsWaited now limit before after w v → IsKeptSteady w v
waited_stays now limit before after w v moment d (inl (n, x, own, e)) = end_stays w now moment d v n x own e
waited_stays now limit before after w v moment d (inr (e, time)) = subst (IsKeptSteady w) (sym e) (self_stays w d)
