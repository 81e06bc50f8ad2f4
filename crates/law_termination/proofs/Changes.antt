-- What is kept of each component alone is kept by a change to other items.
use Rattle.std.proofs.Common.{◌≡◌, ◌<◌, ℕ, suc, zero, List, [], ◌∷◌, Some, Bool, true, false, refl, sym, ◌∙◌, arith}
use Rattle.std.proofs.Common.{subst}
use Rattle.std.specs.Prelude.{get_or, if◌then◌else◌, IfSome}
use Rattle.std.specs.List.{AllByRecursion, list_all}
use Rattle.lifecycle.specs.Awaits.{is_stopping}
use Rattle.lifecycle.specs.Life.{may_stop}
use Rattle.lifecycle.specs.declared.kinds.After.TheVariants as after
use Rattle.lifecycle.specs.declared.kinds.State.{State}
use Rattle.components.specs.Changes.{Coming, fresh_part, is_replaced, with_texts, staying}
use Rattle.components.specs.Changes.{changed_to, meeting, replacing}
use Rattle.components.specs.Components.{Components, ComponentState, Child, component_name, under_way, stops_for_good}
use Rattle.components.specs.Fitted.{Fitted, name_of, steps_of, is_same_item}
use Rattle.law_supervisor.proofs.Changed.{ask_again, changed_all_by, few_new, met_as, replaced_as, stopping_good, texts_named, texts_same}
use Rattle.law_termination.specs.Kept.{AreKept, IsKeptPart, IsRunnable, IsComing, is_timed}
use Rattle.law_termination.proofs.Keeps.{mark_keeps}
use Rattle.law_termination.proofs.Lists.{Has, each_has}
use Rattle.law_termination.proofs.Near.{has_at}
use Rattle.law_termination.proofs.Parts.{left_keeps}

-- one item has one set of steps
abbrev pub HasSameSteps : ComponentState → Fitted → Type 0
HasSameSteps p f = is_same_item f.item p.fitted.item ≡ true → steps_of f ≡ steps_of p.fitted

-- an item that may come, and one that counts as the item of this component has its steps
abbrev Fits : ComponentState → Coming → Type 0
Fits p n = IsRunnable n.0 × (n.1 < 3) × (is_same_item n.0.item p.fitted.item ≡ true → steps_of n.0 ≡ steps_of p.fitted)

again_kept : (n : Coming) (cs : List Child) → IsRunnable n.0 → n.1 < 3 → list_all is_timed cs ≡ true → IsKeptPart (record (fresh_part n) { children = cs })
again_kept n cs r l t = record {
  sound = record { main = r.main; failures = l; busy = refl; runs = refl; stop = refl };
  steps = refl;
  runnable = r;
  coming = tt;
  timed = t;
  run = refl;
  gone = refl;
  own = refl;
  asks = refl;
  waits = refl;
}

texts_kept : (n : Coming) (p : ComponentState) → IsKeptPart p → Fits p n → name_of n.0 ≡ component_name p → IsKeptPart (with_texts n.0 p)
texts_kept n p k f e = go (is_same_item n.0.item p.fitted.item) refl
  where
    go : (y : Bool) → is_same_item n.0.item p.fitted.item ≡ y → IsKeptPart (if y then record p { fitted = n.0 } else p)
    go false q = k
    go true q = record {
      sound = k.sound;
      steps = k.steps ∙ sym (f.2 q);
      runnable = f.0;
      coming = subst (λ (own : List ℕ). IfSome p.next (IsComing own)) (sym e) k.coming;
      timed = k.timed;
      run = k.run;
      gone = k.gone;
      own = k.own;
      asks = k.asks;
      waits = k.waits;
    }

again_stops : (s : State) → is_stopping s ≡ true → may_stop s (Some after.Restart) ≡ true
again_stops s e = grind (arith, e)

replacing_kept : (n : Coming) (p : ComponentState) → IsKeptPart p → p.life.gone ≡ false → IsRunnable n.0 → n.1 < 3 → name_of n.0 ≡ component_name p →
    IsKeptPart (replacing n p)
replacing_kept n p k g r l e = go (stops_for_good p.life) refl
  where
    go : (y : Bool) → stops_for_good p.life ≡ y → IsKeptPart (replaced_as y n p)
    go true f = let s = stopping_good p.life f in record {
      sound = record { main = k.sound.main; failures = k.sound.failures; busy = k.sound.busy; runs = k.sound.runs; stop = again_stops p.life.state s };
      steps = k.steps;
      runnable = k.runnable;
      coming = record { name = e; runnable = r; failures = l };
      timed = k.timed;
      run = k.run;
      gone = rw g refl;
      own = k.own;
      asks = rw s refl;
      waits = refl;
    }
    go false f = record {
      sound = k.sound;
      steps = k.steps;
      runnable = k.runnable;
      coming = record { name = e; runnable = r; failures = l };
      timed = k.timed;
      run = k.run;
      gone = rw g refl;
      own = k.own;
      asks = ask_again (under_way p.life) f;
      waits = refl;
    }

staying_kept : (n : Coming) (p : ComponentState) → IsKeptPart p → n.1 < 3 → IsKeptPart (staying n p)
staying_kept n p k l = record {
  sound = record { main = k.sound.main; failures = few_new p.life.state n.1 l; busy = k.sound.busy; runs = k.sound.runs; stop = k.sound.stop };
  steps = k.steps;
  runnable = k.runnable;
  coming = k.coming;
  timed = k.timed;
  run = k.run;
  gone = k.gone;
  own = k.own;
  asks = k.asks;
  waits = k.waits;
}

meeting_kept : (n : Coming) (p : ComponentState) → IsKeptPart p → Fits p n → name_of n.0 ≡ component_name p → IsKeptPart (meeting n p)
meeting_kept n p k f e = go p.life.gone refl (is_replaced n.0 p)
  where
    go : (g : Bool) → p.life.gone ≡ g → (y : Bool) → IsKeptPart (met_as g y n p)
    go true q y = again_kept n p.children f.0 f.1 k.timed
    go false q true = replacing_kept n (with_texts n.0 p) (texts_kept n p k f e) (texts_same (λ r. r.life.gone) (λ g r. refl) n.0 p ∙ q) f.0 f.1 (e
        ∙ sym (texts_named n.0 p e))
    go false q false = staying_kept n (with_texts n.0 p) (texts_kept n p k f e) f.1

-- ---- all of them

pub few_at : (counts : List ℕ) → AllByRecursion (λ (n : ℕ). n < 3) counts → (k : ℕ) → get_or counts k 0 < 3
few_at [] a k = omega arith
few_at (c ∷ counts) a zero = a.0
few_at (c ∷ counts) a (suc k) = few_at counts a.1 k

module _ (items : List Fitted) where
  -- an item that comes, with its count
  abbrev Comes : Coming → Type 0
  Comes n = IsRunnable n.0 × (n.1 < 3) × Has n.0 items

  abbrev Before : ComponentState → Type 0
  Before p = IsKeptPart p × AllByRecursion (HasSameSteps p) items

  before_of : (ps : List ComponentState) → AllByRecursion IsKeptPart ps → AllByRecursion (λ p. AllByRecursion (HasSameSteps p) items) ps →
      AllByRecursion Before ps
  before_of [] a b = tt
  before_of (p ∷ ps) a b = ((a.0, b.0), before_of ps a.1 b.1)

  pub changed_alone : (counts : List ℕ) (steady : Bool) (w : Components) → AreKept w → AllByRecursion IsRunnable items →
      AllByRecursion (λ (n : ℕ). n < 3) counts
      → AllByRecursion (λ p. AllByRecursion (HasSameSteps p) items) w.parts → AreKept (changed_to items counts steady w)
  changed_alone counts steady w k r f h = changed_all_by Comes Before IsKeptPart mark_keeps (λ n c. again_kept n [] c.0 c.1 refl) (λ p b. left_keeps p b.0)
      (λ n p b c e. meeting_kept n p b.0 (c.0, c.1, each_has (HasSameSteps p) n.0 items c.2 b.1) e) items counts steady w
      (λ j g i. let here = has_at g items j i in (each_has IsRunnable g items here r, few_at counts f j, here)) (before_of w.parts k h)
