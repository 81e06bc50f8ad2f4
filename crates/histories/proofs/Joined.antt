-- Histories join: the newest event is the first.
use Rattle.std.proofs.Common.{◌≡◌, ◌++◌, ◌∷◌, [], List, refl, ap, ◌∙◌, sym, append_assoc}
use Rattle.std.proofs.lemmas.List.{append-nil}
use Rattle.histories.specs.TraceEvents.{TraceEvent, Ran, Booted, WaitElapsed, KilledOnAbort, Recorded, Moved, ReadClock, Heard, InboxAsked, Changed, StopsAll}
use Rattle.histories.specs.TraceEvents.{records_of, entries_of}
use Rattle.histories.specs.States.{SessionState, leaves, state_after}
use Rattle.histories.specs.Follows.{IsProper}

pub left-append : (p : SessionState) (h g : List TraceEvent) → state_after p (h ++ g) ≡ state_after (state_after p g) h
left-append p [] g = refl
left-append p (e ∷ h) g = ap (λ (q : SessionState). leaves q e) (left-append p h g)

pub proper-append : (p : SessionState) (h g : List TraceEvent) → IsProper (state_after p g) h → IsProper p g → IsProper p (h ++ g)
proper-append p [] g a b = b
proper-append p (e ∷ h) g a b = (rw (left-append p h g) a.0, proper-append p h g a.1 b)

more : {A : Type 0} (a b : List A) (x : A) (c : List A) → c ≡ a ++ b → c ++ x ∷ [] ≡ a ++ (b ++ x ∷ [])
more a b x c is = ap (λ l. l ++ x ∷ []) is ∙ append_assoc a b (x ∷ [])

pub records-append : (h g : List TraceEvent) → records_of (h ++ g) ≡ records_of g ++ records_of h
records-append [] g = sym (append-nil (records_of g))
records-append (Ran e k s ∷ h) g = records-append h g
records-append (Booted e m ∷ h) g = records-append h g
records-append (WaitElapsed e ∷ h) g = records-append h g
records-append (KilledOnAbort e ∷ h) g = records-append h g
records-append (Recorded r ∷ h) g = more (records_of g) (records_of h) r (records_of (h ++ g)) (records-append h g)
records-append (Moved k e ∷ h) g = records-append h g
records-append (ReadClock m ∷ h) g = records-append h g
records-append (Heard k ∷ h) g = records-append h g
records-append (InboxAsked x ∷ h) g = records-append h g
records-append (Changed f c b ∷ h) g = records-append h g
records-append (StopsAll ∷ h) g = records-append h g

pub entries-append : (h g : List TraceEvent) → entries_of (h ++ g) ≡ entries_of g ++ entries_of h
entries-append [] g = sym (append-nil (entries_of g))
entries-append (Ran e k s ∷ h) g = more (entries_of g) (entries_of h) e (entries_of (h ++ g)) (entries-append h g)
entries-append (Booted e m ∷ h) g = more (entries_of g) (entries_of h) e (entries_of (h ++ g)) (entries-append h g)
entries-append (WaitElapsed e ∷ h) g = more (entries_of g) (entries_of h) e (entries_of (h ++ g)) (entries-append h g)
entries-append (KilledOnAbort e ∷ h) g = more (entries_of g) (entries_of h) e (entries_of (h ++ g)) (entries-append h g)
entries-append (Recorded r ∷ h) g = entries-append h g
entries-append (Moved k e ∷ h) g = entries-append h g
entries-append (ReadClock m ∷ h) g = entries-append h g
entries-append (Heard k ∷ h) g = entries-append h g
entries-append (InboxAsked x ∷ h) g = entries-append h g
entries-append (Changed f c b ∷ h) g = entries-append h g
entries-append (StopsAll ∷ h) g = entries-append h g
