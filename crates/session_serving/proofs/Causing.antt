-- How the causes of the parts of a call join.
use Rattle.std.specs.Prelude.{◌⊎◌, ℕ, Bool, true, false, List}
use Rattle.std.proofs.Common.{◌≡◌, ◌≢◌, ◌≤◌, ◌∙◌, inl, inr, refl, sym, ap, subst, arith}
use Rattle.std.proofs.lemmas.Bool.{false≢true}
use Rattle.nuc_base.specs.Faults.{Rose}
use Rattle.nuc_base.specs.declared.status.Status.{Status}
use Rattle.nuc_base.specs.declared.status.Status.TheVariants as statuses
use Rattle.edges.specs.declared.inbox.InboxFault.{InboxFault}
use Rattle.edges.specs.declared.inbox.InboxFault.TheVariants as faults
use Rattle.deploy_state.specs.declared.state.Idle.{Idle}
use Rattle.histories.specs.Courses.{is_restart}
use Rattle.session.specs.Calls.{IsOrEdge, HasNotFallen}
use Rattle.session.specs.Parts.{IsBack, status_of_ran}
use Rattle.session.specs.declared.ran.Ran.{Ran}
use Rattle.session.specs.declared.ran.Ran.TheVariants as ran
use Rattle.session_serving.specs.Causes.{IsCaused, Observation}
use Rattle.session_serving.specs.Turns.{GivesUpBy, StaysRan, status_of_turned}
use Rattle.session_serving.specs.declared.turned.Turned.{Turned}
use Rattle.session_serving.specs.declared.turned.Turned.TheVariants as turned

-- no fault of the disk or of the edge
abbrev pub IsQuietStatus : Status → Type 0
IsQuietStatus status = (status ≢ statuses.Disk) × (status ≢ statuses.Edge)

pub done_quiet : IsQuietStatus statuses.Done
done_quiet = ((λ is. cc), (λ is. cc))

pub memory_quiet : IsQuietStatus statuses.Memory
memory_quiet = ((λ is. cc), (λ is. cc))

pub over_other : (status : Status) → IsOrEdge status statuses.TurnsOver → status ≢ statuses.Disk
over_other status (inl is) disk = never (sym is ∙ disk)
  where
    never : statuses.TurnsOver ≡ statuses.Disk → ⊥
    never same = cc
over_other status (inr is) disk = never (sym is ∙ disk)
  where
    never : statuses.Edge ≡ statuses.Disk → ⊥
    never same = cc

-- the set is brought up again, or there is no memory for that
pub exact_quiet : {J : Type 0} (r : Turned J) (s : Idle J) → (r ≡ turned.On s) ⊎ (r ≡ turned.Over statuses.Memory) → IsQuietStatus (status_of_turned r)
exact_quiet r s (inl on) = subst (λ (x : Turned _). IsQuietStatus (status_of_turned x)) (sym on) done_quiet
exact_quiet r s (inr over) = subst (λ (x : Turned _). IsQuietStatus (status_of_turned x)) (sym over) memory_quiet

pub back_stays : {J : Type 0} (r : Ran J) → IsBack r → StaysRan r → status_of_ran r ≢ statuses.Edge
back_stays (ran.Back s status standing) back stays = stays.0
back_stays (ran.Over status) back stays = absurd back

pub restart_quiet : (status : Status) → is_restart status ≡ true → IsQuietStatus status
restart_quiet status restarts =
    ((λ is. false≢true (sym (ap is_restart is) ∙ restarts)), (λ is. false≢true (sym (ap is_restart is) ∙ restarts)))

-- what rose after it did not fall rose
pub rose_since : (a b c : ℕ) → HasNotFallen a b → Rose b c → Rose a c
rose_since a b c later rose = omega (arith, later, rose)

stays_both : (a b c : ℕ) → HasNotFallen a b → HasNotFallen b c → HasNotFallen a c
stays_both a b c one two = omega (arith, one, two)

pub stays_same : (a : ℕ) → HasNotFallen a a
stays_same a = omega arith

stays_after : (a b : ℕ) → a ≤ b → HasNotFallen a b
stays_after a b later = omega (arith, later)

stays_rose : (a b : ℕ) → Rose a b → HasNotFallen a b
stays_rose a b rose = omega (arith, rose)

stays_is : (a b : ℕ) → b ≡ a → HasNotFallen a b
stays_is a b is = omega (arith, is)

module _ (is_modelled : Bool) (files : List ℕ → Type 0) (status : Status) where
  -- nothing failed, and no file but those changed
  pub caused_none : (w : Observation) → IsQuietStatus status → IsCaused is_modelled files status w w
  caused_none w quiet = record {
    disk = λ is. absurd (quiet.0 is);
    edge = λ is. absurd (quiet.1 is);
    quiet_edges = λ edge. (refl, refl);
    later = (stays_same w.disk, stays_same w.sink, stays_same w.inbox);
    library_later = omega arith;
    others = λ told name own below. refl;
  }

  -- behind a part in which nothing failed
  pub caused_on : (old mid new : Observation) → IsCaused is_modelled files statuses.Done old mid → IsCaused is_modelled files status mid new →
      IsCaused is_modelled files status old new
  caused_on old mid new one two =
      let edges : (mid.sink ≡ old.sink) × (mid.inbox ≡ old.inbox) = one.quiet_edges done_quiet.1 in
      let first = one.library_later in
      let second = two.library_later in
      record {
        disk = λ is. let rose = two.disk is in rose_since old.disk mid.disk new.disk one.later.0 rose;
        edge = λ is. elim (two.edge is) [
          | inl rose ↦ inl (subst (λ (n : ℕ). Rose n new.sink) edges.0 rose)
          | inr rose ↦ inr (subst (λ (n : ℕ). Rose n new.inbox) edges.1 rose)
        ];
        quiet_edges = λ no_edge. let q = two.quiet_edges no_edge in (q.0 ∙ edges.0, q.1 ∙ edges.1);
        later = (
          stays_both old.disk mid.disk new.disk one.later.0 two.later.0,
          subst (λ (n : ℕ). HasNotFallen n new.sink) edges.0 two.later.1,
          subst (λ (n : ℕ). HasNotFallen n new.inbox) edges.1 two.later.2,
        );
        library_later = omega (arith, first, second);
        others = λ told name own below. two.others told name own below ∙ one.others told name own below;
      }

  -- behind it the inbox answered, or was told that a document is done
  pub caused_then : (old mid : Observation) (inbox : ℕ) → IsQuietStatus status → IsCaused is_modelled files statuses.Done old mid → inbox ≡ mid.inbox →
      IsCaused is_modelled files status old (record mid { inbox = inbox })
  caused_then old mid inbox quiet one same = caused_on old mid (record mid { inbox = inbox }) one (record {
    disk = λ is. absurd (quiet.0 is);
    edge = λ is. absurd (quiet.1 is);
    quiet_edges = λ edge. (refl, same);
    later = (stays_same mid.disk, stays_same mid.sink, stays_is mid.inbox inbox same);
    library_later = omega arith;
    others = λ told name own below. refl;
  })

  -- it ends so
  pub caused_as : (own : Status) (old new : Observation) → status ≡ own → IsCaused is_modelled files own old new → IsCaused is_modelled files status old new
  caused_as own old new is one = subst (λ (s : Status). IsCaused is_modelled files s old new) (sym is) one

module _ (is_modelled : Bool) (files : List ℕ → Type 0) where
  -- as one in which nothing failed
  pub caused_quiet : (status : Status) (old new : Observation) → status ≢ statuses.Edge → IsCaused is_modelled files status old new →
      IsCaused is_modelled files statuses.Done old new
  caused_quiet status old new quiet one = record {
    disk = λ is. absurd (done_quiet.0 is);
    edge = λ is. absurd (done_quiet.1 is);
    quiet_edges = λ edge. one.quiet_edges quiet;
    later = one.later;
    library_later = one.library_later;
    others = one.others;
  }

  -- the inbox failed, and then a line may fail too
  pub caused_inbox : (status : Status) (w : Observation) (sink inbox : ℕ) → status ≡ statuses.Edge → Rose w.inbox inbox → w.sink ≤ sink →
      IsCaused is_modelled files status w (record w { sink = sink; inbox = inbox })
  caused_inbox status w sink inbox is rose later = record {
    disk = λ disk. absurd (never disk);
    edge = λ edge. inr rose;
    quiet_edges = λ edge. absurd (edge is);
    later = (stays_same w.disk, stays_after w.sink sink later, stays_rose w.inbox inbox rose);
    library_later = omega arith;
    others = λ told name own below. refl;
  }
    where
      never : status ≡ statuses.Disk → ⊥
      never disk = other (sym is ∙ disk)
        where
          other : statuses.Edge ≡ statuses.Disk → ⊥
          other same = cc

  -- it gave no answer
  pub caused_asking : (fault : InboxFault) (status : Status) (w : Observation) (sink inbox : ℕ) → GivesUpBy fault status →
      (fault ≡ faults.Failed → Rose w.inbox inbox) → (¬ (fault ≡ faults.Failed) → inbox ≡ w.inbox) → w.sink ≤ sink → (status ≢ statuses.Edge → sink ≡ w.sink) →
      IsCaused is_modelled files status w (record w { sink = sink; inbox = inbox })
  caused_asking faults.Failed status w sink inbox is rose quiet later same = caused_inbox status w sink inbox is (rose refl) later
  caused_asking faults.NoMemory status w sink inbox is rose quiet later same =
      let still : inbox ≡ w.inbox = quiet (λ failed. cc) in
      let other : IsQuietStatus status = subst IsQuietStatus (sym is) memory_quiet in
      record {
        disk = λ disk. absurd (other.0 disk);
        edge = λ edge. absurd (other.1 edge);
        quiet_edges = λ edge. (same edge, still);
        later = (stays_same w.disk, stays_after w.sink sink later, stays_is w.inbox inbox still);
        library_later = omega arith;
        others = λ told name own below. refl;
      }

  -- the last line
  pub caused_line : (status : Status) (w : Observation) (sink : ℕ) → status ≢ statuses.Disk → (status ≡ statuses.Edge → Rose w.sink sink) →
      (status ≢ statuses.Edge → sink ≡ w.sink) → w.sink ≤ sink → IsCaused is_modelled files status w (record w { sink = sink })
  caused_line status w sink other rose quiet later = record {
    disk = λ disk. absurd (other disk);
    edge = λ edge. inl (rose edge);
    quiet_edges = λ edge. (quiet edge, refl);
    later = (stays_same w.disk, stays_after w.sink sink later, stays_same w.inbox);
    library_later = omega arith;
    others = λ told name own below. refl;
  }
