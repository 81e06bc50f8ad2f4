-- Failures that were not handed out are heard of where the call gives up: nothing is recorded.
use Rattle.std.specs.Prelude.{ℕ, Bool, true, false, ◌||◌, List, [], ◌∷◌, ◌++◌, length, Option, Some, None, slice_get}
use Rattle.std.specs.List.{list_any}
use Rattle.std.specs.Option.{IsSomeAnd}
use Rattle.std.proofs.Common.{◌≡◌, ◌∙◌, refl, sym, ap, subst, append_assoc}
use Rattle.std.proofs.lemmas.Bool.{false≢true}
use Rattle.std.proofs.lemmas.List.{append-nil}
use Rattle.step_runner.specs.declared.entries.RunnerEntry.{RunnerEntry}
use Rattle.components.specs.Components.{At, ComponentState, Components, changed_at, owner}
use Rattle.components.specs.Events.{heard_at}
use Rattle.components.specs.Turns.{owes}
use Rattle.histories.specs.Phases.{duty_of, is_idle}
use Rattle.histories.specs.States.{SessionState, leaves, state_after}
use Rattle.histories.specs.TraceEvents.{TraceEvent, Heard}
use Rattle.histories.proofs.Joined.{left-append}
use Rattle.law_supervisor.specs.Sound.{IsOrderly}
use Rattle.session_boots.specs.Traces.{ActTrace}
use Rattle.session_boots.proofs.Acting.{acts_none, acts_on, grows_none}

-- the failure was handed out
abbrev hearing : ComponentState → ComponentState
hearing p = record p { owed = None }

there : (prefix ps : List ComponentState) (x : ComponentState) → slice_get (prefix ++ x ∷ ps) (length prefix) ≡ Some x
there [] ps x = refl
there (y ∷ prefix) ps x = there prefix ps x

changed_there : (prefix ps : List ComponentState) (x : ComponentState) → changed_at (length prefix) hearing (prefix ++ x ∷ ps) ≡ prefix ++ hearing x ∷ ps
changed_there [] ps x = refl
changed_there (y ∷ prefix) ps x = ap (λ (l : List ComponentState). y ∷ l) (changed_there prefix ps x)

or_false : (a b : Bool) → a ≡ false → b ≡ false → (a || b) ≡ false
or_false a b e f = rw e f

none_more : (prefix : List ComponentState) (x : ComponentState) → list_any owes prefix ≡ false → owes x ≡ false → list_any owes (prefix ++ x ∷ []) ≡ false
none_more [] x none not = or_false (owes x) false not refl
none_more (y ∷ prefix) x none not = by (owes y) (list_any owes prefix) (list_any owes (prefix ++ x ∷ [])) none (λ rest. none_more prefix x rest not)
  where
    by : (a b c : Bool) → (a || b) ≡ false → (b ≡ false → c ≡ false) → (a || c) ≡ false
    by true b c none more = absurd (false≢true (sym none))
    by false b c none more = more none

more : (prefix ps : List ComponentState) (x : ComponentState) → prefix ++ x ∷ ps ≡ (prefix ++ x ∷ []) ++ ps
more prefix ps x = sym (append_assoc prefix (x ∷ []) ps)

-- what is as it was
record Same (p q : SessionState) : Type 0 where
  device : q.device ≡ p.device
  moment : q.world.moment ≡ p.world.moment
  fresh : q.fresh ≡ p.fresh
  boot : q.boot ≡ p.boot
  boot_end : q.boot_end ≡ p.boot_end
  over : q.over ≡ p.over
  cut : q.cut ≡ p.cut
  owners : (n : ℕ) → owner n q.world.parts ≡ owner n p.world.parts

same_self : (p : SessionState) → Same p p
same_self p = record { device = refl; moment = refl; fresh = refl; boot = refl; boot_end = refl; over = refl; cut = refl; owners = λ n. refl }

same_on : (p q r : SessionState) → Same p q → Same q r → Same p r
same_on p q r one two = record {
  device = two.device ∙ one.device;
  moment = two.moment ∙ one.moment;
  fresh = two.fresh ∙ one.fresh;
  boot = two.boot ∙ one.boot;
  boot_end = two.boot_end ∙ one.boot_end;
  over = two.over ∙ one.over;
  cut = two.cut ∙ one.cut;
  owners = λ n. two.owners n ∙ one.owners n;
}

pub record Hears (p : SessionState) (list : Option (List RunnerEntry)) : Type 0 where
  pub h : List TraceEvent
  pub acts : ActTrace p h list list
  pub owes_none : list_any owes (state_after p h).world.parts ≡ false
  pub orderly : IsOrderly (state_after p h).world
  pub moment : (state_after p h).world.moment ≡ p.world.moment
  pub fresh : (state_after p h).fresh ≡ p.fresh
  pub boot : (state_after p h).boot ≡ p.boot
  pub boot_end : (state_after p h).boot_end ≡ p.boot_end
  pub over : (state_after p h).over ≡ p.over
  pub cut : (state_after p h).cut ≡ p.cut
  pub owners : (n : ℕ) → owner n (state_after p h).world.parts ≡ owner n p.world.parts

module _ (keeps : (k : ℕ) (w : Components) → IsOrderly w → IsOrderly (heard_at k w)) (owner_heard : (n k : ℕ) (w : Components) →
    owner n (heard_at k w).parts ≡ owner n w.parts) (list : Option (List RunnerEntry)) where
  record Heard_all (p : SessionState) : Type 0 where
    h : List TraceEvent
    acts : ActTrace p h list list
    owes_none : list_any owes (state_after p h).world.parts ≡ false
    orderly : IsOrderly (state_after p h).world
    same : Same p (state_after p h)

  -- one is heard of
  one : (p : SessionState) (prefix ps : List ComponentState) (x : ComponentState) → p.world.parts ≡ prefix ++ x ∷ ps → owes x ≡ true →
      is_idle (duty_of p.device).phase ≡ true → p.over ≡ false → p.cut ≡ false → ActTrace p (Heard (length prefix) ∷ []) list list
  one p prefix ps x is owing idle over cut = record {
    proper = (
      (
        (
          idle,
          subst (λ (l : List ComponentState). At (length prefix) (λ q. owes q ≡ true) l) (sym is)
              (subst (λ (o : Option ComponentState). IsSomeAnd o (λ q. owes q ≡ true)) (sym (there prefix ps x)) owing),
        ),
        (λ on. absurd (false≢true (sym cut ∙ on))),
        over,
      ),
      tt,
    );
    none = refl;
    list = grows_none list list refl;
    device = refl;
  }

  same_heard : (p : SessionState) (k : ℕ) → Same p (leaves p (Heard k))
  same_heard p k = record {
    device = refl;
    moment = refl;
    fresh = refl;
    boot = refl;
    boot_end = refl;
    over = refl;
    cut = refl;
    owners = λ n. owner_heard n k p.world;
  }

  from : (ps prefix : List ComponentState) (p : SessionState) → p.world.parts ≡ prefix ++ ps → list_any owes prefix ≡ false → IsOrderly p.world →
      is_idle (duty_of p.device).phase ≡ true → p.over ≡ false → p.cut ≡ false → Heard_all p
  from [] prefix p is none orderly idle over cut = record {
    h = [];
    acts = acts_none p list list refl;
    owes_none = ap (λ (l : List ComponentState). list_any owes l) (is ∙ append-nil prefix) ∙ none;
    orderly = orderly;
    same = same_self p;
  }
  from (x ∷ ps) prefix p is none orderly idle over cut =
      let parts : (leaves p (Heard (length prefix))).world.parts ≡ prefix ++ hearing x ∷ ps =
      ap (λ (l : List ComponentState). changed_at (length prefix) hearing l) is ∙ changed_there prefix ps x in
      by (owes x) refl (λ not. from ps (prefix ++ x ∷ []) p (is ∙ more prefix ps x) (none_more prefix x none not) orderly idle over cut)
      (from ps (prefix ++ hearing x ∷ []) (leaves p (Heard (length prefix))) (parts ∙ more prefix ps (hearing x)) (none_more prefix (hearing x) none refl)
      (keeps (length prefix) p.world orderly) idle over cut)
    where
      by : (b : Bool) → owes x ≡ b → (owes x ≡ false → Heard_all p) → Heard_all (leaves p (Heard (length prefix))) → Heard_all p
      by false not still rest = still not
      by true owing still rest =
          let e = Heard (length prefix) in
          let q = leaves p e in
          let left = left-append p rest.h (e ∷ []) in
          record {
            h = rest.h ++ e ∷ [];
            acts = acts_on p (e ∷ []) rest.h list list list (one p prefix ps x is owing idle over cut) rest.acts;
            owes_none = subst (λ (s : SessionState). list_any owes s.world.parts ≡ false) (sym left) rest.owes_none;
            orderly = subst (λ (s : SessionState). IsOrderly s.world) (sym left) rest.orderly;
            same = subst (λ (s : SessionState). Same p s) (sym left) (same_on p q (state_after q rest.h) (same_heard p (length prefix)) rest.same);
          }

  -- all are
  pub hear_all : (p : SessionState) → IsOrderly p.world → is_idle (duty_of p.device).phase ≡ true → p.over ≡ false → p.cut ≡ false → Hears p list
  hear_all p orderly idle over cut =
      let a = from p.world.parts [] p refl refl orderly idle over cut in
      let s = a.same in
      record {
        h = a.h;
        acts = a.acts;
        owes_none = a.owes_none;
        orderly = a.orderly;
        moment = s.moment;
        fresh = s.fresh;
        boot = s.boot;
        boot_end = s.boot_end;
        over = s.over;
        cut = s.cut;
        owners = s.owners;
      }
