-- Parts of a session that keep no record join.
use Rattle.std.specs.Prelude.{List, [], ◌++◌, Option}
use Rattle.std.proofs.Common.{◌≡◌, ◌∙◌, refl, sym, ap, subst, append_assoc}
use Rattle.std.proofs.lemmas.List.{append-nil}
use Rattle.records.specs.Stored.{Record}
use Rattle.step_runner.specs.Entries.{HasGrownBy}
use Rattle.step_runner.specs.declared.entries.RunnerEntry.{RunnerEntry}
use Rattle.histories.specs.TraceEvents.{TraceEvent, records_of, entries_of}
use Rattle.histories.specs.States.{SessionState, state_after}
use Rattle.histories.proofs.Joined.{left-append, proper-append, records-append, entries-append}
use Rattle.session_boots.specs.Traces.{ActTrace}

pub grows_on : {A : Type 0} (old mid new : Option (List A)) (a b : List A) → HasGrownBy old mid a → HasGrownBy mid new b → HasGrownBy old new (a ++ b)
grows_on old mid new a b one two now is =
    let second = two now is in
    let first = one second.0 second.1 in
    (first.0, first.1, second.2 ∙ ap (λ l. l ++ b) first.2 ∙ append_assoc first.0 a b)

pub grows_none : {A : Type 0} (old new : Option (List A)) → new ≡ old → HasGrownBy old new []
grows_none old new same now is = (now, sym same ∙ is, sym (append-nil now))

pub acts_none : (p : SessionState) (old new : Option (List RunnerEntry)) → new ≡ old → ActTrace p [] old new
acts_none p old new same = record { proper = tt; none = refl; list = grows_none old new same; device = refl }

pub acts_on : (p : SessionState) (h g : List TraceEvent) (a b c : Option (List RunnerEntry)) → ActTrace p h a b → ActTrace (state_after p h) g b c →
    ActTrace p (g ++ h) a c
acts_on p h g a b c one two = record {
  proper = proper-append p g h two.proper one.proper;
  none = records-append g h ∙ ap (λ (l : List Record). l ++ records_of g) one.none ∙ two.none;
  list = subst (λ (l : List RunnerEntry). HasGrownBy a c l) (sym (entries-append g h)) (grows_on a b c (entries_of h) (entries_of g) one.list two.list);
  device = ap (λ (q : SessionState). q.device) (left-append p g h) ∙ two.device ∙ one.device;
}
